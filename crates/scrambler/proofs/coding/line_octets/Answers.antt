use Rattle.std.proofs.Common.{ℕ, List, ◌∷◌, ◌++◌, ap, ◌∙◌}
use Rattle.scrambler.specs.Coding.{header_octets}
use Rattle.scrambler.proofs.Codes.{assembled}
use Rattle.scrambler.proofs.coding.line_octets.Goals as goal

pub returns : goal.returns
returns c =
    let line = c.args.header in
    assembled c.copy_from_slice.new.self c.copy_from_slice-2.new.self line.header.0 line.hec (c.copy_from_slice.ensures.after ∙ c.into-front.ensures)
    ∙ ap (λ (xs : List ℕ). header_octets line.header.0 ++ line.hec ∷ xs) c.copy_from_slice-2.ensures.after
