-- What came in on the line. Each counter stops at its top, 2^64 - 1.
--
--   none                nothing came yet
--   counted n k t       the tally t with n octets and k cells more
--   counted_feed n r t  the tally t after a feed of n octets with the answer r: a refused feed counts for nothing
--   Fed os n l cells events l' cells' events'
--                       the octets os were fed to the receiving end of the line l, which handed n cells up to the ring of cells and put its
--                       events into the ring of events
--   summary_of l        what came in on the line l, and how its receiving end stands
use Rattle.std.specs.Prelude.{◌≡◌, ℕ, ◌+◌, List, length, Ok, Err, Result}
use Rattle.std.specs.Io.Iter.{u64_saturate}
use Rattle.cell.specs.declared.refusal.Refusal.{Refusal}
use Rattle.ring.specs.declared.ring.Ring.{Ring}
use Rattle.ports.specs.CellRing.{ring_state}
use Rattle.ports.specs.declared.user_cell.UserCell.{UserCell}
use Rattle.receiver.specs.Feed.{Feeds, events_of}
use Rattle.receiver.specs.declared.event.EventRecord.{EventRecord}
use Rattle.receiver_words.specs.Readings.{readings_of}
use Rattle.incoming_line.specs.declared.line.Line.{Line}
use Rattle.incoming_line.specs.declared.line.Tally.{Tally}
use Rattle.incoming_line.specs.declared.summary.Summary.{Summary}

abbrev pub none : Tally
none = record { octets = 0; cells = 0 }

abbrev pub counted : ℕ → ℕ → Tally → Tally
counted n k t = record { octets = u64_saturate (t.octets + n); cells = u64_saturate (t.cells + k) }

abbrev pub counted_feed : ℕ → Result ℕ Refusal → Tally → Tally
counted_feed n (Ok k) t = counted n k t
counted_feed n (Err e) t = t

abbrev pub Fed : List ℕ → ℕ → Line → Ring UserCell → Ring EventRecord → Line → Ring UserCell → Ring EventRecord → Type 0
Fed os n l cells events l' cells' events' =
    Feeds os l.receiver (ring_state cells) (events_of events) n l'.receiver (ring_state cells') (events_of events')
    × (l'.tally ≡ counted (length os) n l.tally)

abbrev pub summary_of : Line → Summary
summary_of l = record { tally = l.tally; readings = readings_of l.receiver }
