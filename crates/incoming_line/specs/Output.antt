-- How cells and events are written.
--
--   written payloads cell       those of a cell's 52 octets that are written: all, or the 48 of its payload, behind the 4 of its header
--   cells_written payloads cs   the same of the cells cs, one cell after the other
--   lines es                    the events es in words, one to a line
--   events_listed listed es     the same where they are listed, and nothing where they are not
--   Emptied ring r ring'        once all went out, the ring holds nothing, and has as many places as before
--   Wrote w r w' octets         once all went out, what a writer is known to hold, w, grew by these octets
use Rattle.std.specs.Prelude.{◌≡◌, ℕ, Bool, cond, List, [], ◌∷◌, ◌++◌, take, drop, Option, Result, OnOk}
use Rattle.std.specs.Io.KnownBytes.{Appends}
use Rattle.ring.specs.declared.ring.Ring.{Ring}
use Rattle.ring.specs.Ring.{held, places}
use Rattle.ports.specs.Cell.{octets}
use Rattle.ports.specs.UserCell.{cell_of}
use Rattle.ports.specs.declared.user_cell.UserCell.{UserCell}
use Rattle.receiver.specs.Event.{record_words}
use Rattle.receiver.specs.declared.event.EventRecord.{EventRecord}

abbrev pub written : Bool → List ℕ → List ℕ
written payloads cell = cond payloads (take 48 (drop 4 cell)) cell

unfoldable pub cells_written : Bool → List UserCell → List ℕ
cells_written payloads [] = []
cells_written payloads (c ∷ cs) = written payloads (octets (cell_of c)) ++ cells_written payloads cs

-- 10 ends a line
unfoldable pub lines : List EventRecord → List ℕ
lines [] = []
lines (e ∷ es) = (record_words e ++ 10 ∷ []) ++ lines es

abbrev pub events_listed : Bool → List EventRecord → List ℕ
events_listed listed es = cond listed (lines es) []

abbrev pub Emptied : {X Y E : Type 0} → Ring X → Result Y E → Ring X → Type 0
Emptied ring r ring' = OnOk r ((held ring' ≡ []) × (places ring' ≡ places ring))

abbrev pub Wrote : {Y E : Type 0} → Option (List ℕ) → Result Y E → Option (List ℕ) → List ℕ → Type 0
Wrote w r w' octets = OnOk r (Appends w w' octets)
