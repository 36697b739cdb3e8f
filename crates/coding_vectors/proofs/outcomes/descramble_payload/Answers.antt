use Rattle.std.proofs.Common.{ap, ◌∙◌}
use Rattle.std.proofs.lemmas.List.{take_rest}
use Rattle.scrambler.specs.Coding.{masked}
use Rattle.coding_vectors.proofs.outcomes.descramble_payload.Goals as goal

pub returns : goal.returns
returns c =
    let rest = rw c.told-line at (take_rest c.args.line.now 5) in
    c.mask_payload.ensures ∙ ap (masked 8 c.args.phase) (c.copy_from_slice.ensures.after ∙ rest)
