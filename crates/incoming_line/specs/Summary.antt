-- What is printed of a line at its end, as octets of text.
--
--   line_text s     how much came in
--   cells_text s    what became of the user cells
--   summary_text s  both, and what else can be read of the receiving end
use Rattle.std.specs.Prelude.{ℕ, List, ◌++◌, codes, decimal}
use Rattle.receiver_words.specs.Readings.{below_text}
use Rattle.incoming_line.specs.declared.summary.Summary.{Summary}

abbrev pub line_text : Summary → List ℕ
line_text s = codes "line: octets " ++ (decimal s.tally.octets ++ (codes ", bits " ++ (decimal s.readings.bits ++ codes "\n")))

abbrev pub cells_text : Summary → List ℕ
cells_text s =
    codes "user cells: written " ++ (decimal s.tally.cells ++ (codes "; taken " ++ (decimal s.readings.counters.taken
    ++ (codes ", full " ++ (decimal s.readings.counters.full
    ++ (codes ", not served " ++ (decimal s.readings.counters.unserved ++ codes "\n")))))))

abbrev pub summary_text : Summary → List ℕ
summary_text s = line_text s ++ (cells_text s ++ below_text s.readings)
