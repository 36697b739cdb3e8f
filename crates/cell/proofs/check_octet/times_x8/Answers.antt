use Rattle.std.proofs.Common.{ℕ, ◌*◌, ◌^◌, ap, ◌∙◌, rules}
use Rattle.cell.specs.Polynomial.{remainder}
use Rattle.cell.proofs.Division.{folded_is}
use Rattle.cell.proofs.check_octet.times_x8.Goals as goal

pub returns : goal.returns
returns c =
    folded_is c.from-low.result (search rules)
    ∙ ap (λ (x : ℕ). remainder 8 (x * 2 ^ 8)) c.from-low.ensures
