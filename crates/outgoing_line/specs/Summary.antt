-- What is printed of a line at its end, as octets of text.
--
--   summary_text s  the counts, and the phase of the cell that would be next
use Rattle.std.specs.Prelude.{ℕ, List, ◌++◌, codes}
use Rattle.scrambler.specs.Generator.{phase_text}
use Rattle.outgoing_line.specs.Tally.{tally_text}
use Rattle.outgoing_line.specs.declared.summary.Summary.{Summary}

abbrev pub summary_text : Summary → List ℕ
summary_text s = tally_text s.tally ++ (codes "; phase at the end 0x" ++ phase_text s.phase)
