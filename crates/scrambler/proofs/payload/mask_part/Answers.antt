use Rattle.std.proofs.Common.{rules, ℕ, List, [], ◌∷◌, get_or, ap, ◌∙◌}
use lib.Bits.{bit_xor}
use Rattle.scrambler.proofs.Payloads.{part_masked}
use Rattle.scrambler.proofs.payload.mask_part.Goals as goal

pub returns : goal.returns
returns c k p small is =
    let xs = c.args.part in
    ap (λ (bytes : List ℕ). bit_xor (get_or xs 0 0) (get_or bytes 1 0) ∷ bit_xor (get_or xs 1 0) (get_or bytes 2 0) ∷ bit_xor (get_or xs 2 0) (get_or bytes 3 0) ∷ [])
    c.to_be_bytes.ensures
    ∙ part_masked xs c.args.word k p (search rules) small is
