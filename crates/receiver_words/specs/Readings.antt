-- What can be read of a receiving end.
--
--   readings_of r    its bits, its counters and its state
--   above_text r     what is printed of the bits and the user cells of the readings r, as octets of text
--   counters_text c  the same of the other counters
--   state_text s     the same of a state
--   below_text r     what is printed of the readings r below the bits and the user cells
--   readings_text r  what is printed of all of them
use Rattle.std.specs.Prelude.{List, ℕ, ◌++◌, codes, decimal}
use Rattle.tracker.specs.Display.{boundary_text, descrambler_text, mode_text}
use Rattle.tracker.specs.Reading.{state_of}
use Rattle.tracker.specs.declared.reading.State.{State}
use Rattle.receiver.specs.declared.book.Counters.{Counters}
use Rattle.receiver.specs.declared.receiver.Receiver.{Receiver}
use Rattle.receiver_words.specs.declared.readings.Readings.{Readings}

abbrev pub readings_of : Receiver → Readings
readings_of r = record { bits = r.book.bits; counters = r.book.counters; state = state_of r.tracker }

abbrev pub above_text : Readings → List ℕ
above_text r =
    codes "bits: " ++ (decimal r.bits
    ++ (codes "\nuser cells: taken " ++ (decimal r.counters.taken ++ (codes ", full " ++ (decimal r.counters.full
    ++ (codes ", not served " ++ (decimal r.counters.unserved ++ codes "\n")))))))

abbrev pub counters_text : Counters → List ℕ
counters_text c =
    codes "F3 cells: " ++ (decimal c.f3
    ++ (codes "\nheaders: mended " ++ (decimal c.mended ++ (codes ", discarded " ++ (decimal c.discarded
    ++ (codes "\nevents: lost " ++ (decimal c.lost ++ codes "\n")))))))

abbrev pub state_text : State → List ℕ
state_text s =
    codes "boundary: " ++ (boundary_text s.boundary
    ++ (codes "\ndescrambler: " ++ (descrambler_text s.descrambler
    ++ (codes "\nmode: " ++ mode_text s.mode))))

abbrev pub below_text : Readings → List ℕ
below_text r = counters_text r.counters ++ state_text r.state

abbrev pub readings_text : Readings → List ℕ
readings_text r = above_text r ++ below_text r
