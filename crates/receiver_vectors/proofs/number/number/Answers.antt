use Rattle.receiver_vectors.proofs.Numerals.{numbers_are_utf8, says_err}
use Rattle.receiver_vectors.proofs.number.number.Goals as goal

pub returns-in_err-word : goal.returns-in_err-word
returns-in_err-word c =
    rw c.from_residual.ensures (λ n. (says_err c.from_utf8.result _ _ c.in_err-word.ensures.value c.from_utf8.ensures.cases).1.0 (numbers_are_utf8 _ n))
