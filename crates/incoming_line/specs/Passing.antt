-- What comes in on the line, and all that it brings, written out. A line is l before and l' after, and what the two writers are known to hold,
-- for cells w and w', for events v and v'.
--
--   TakenIn os l l' cells events      the octets os were fed to the line, with places for all that they bring, which stands in these rings then:
--                                     cells in the order in which each connection has them, and events
--   Passed a os l w v l' w' v'        the octets os were taken in; all the cells were written to the one writer, and all the events listed to the other,
--                                     as the arguments a ask for
--   PassAnswer a os l w v r l' w' v'  what the passing on of the octets os answers: refused, they leave line and writers; where a write fails they were
--                                     taken in, and nothing is said of the writers
use Rattle.std.specs.Prelude.{◌≡◌, ℕ, ◌<◌, List, [], length, Ok, Err, Option, Result}
use Rattle.std.specs.Io.KnownBytes.{Appends}
use Rattle.ring.specs.declared.ring.Ring.{Ring}
use Rattle.ring.specs.Ring.{held, places}
use Rattle.ports.specs.declared.user_cell.UserCell.{UserCell}
use Rattle.receiver.specs.Feed.{FeedWhy}
use Rattle.receiver.specs.Run.{bits_of, offers}
use Rattle.receiver.specs.declared.event.EventRecord.{EventRecord}
use Rattle.incoming_line.specs.Line.{Fed}
use Rattle.incoming_line.specs.Output.{cells_written, events_listed}
use Rattle.incoming_line.specs.declared.arguments.Arguments.{Arguments}
use Rattle.incoming_line.specs.declared.line.Line.{Line}
use Rattle.incoming_line.specs.declared.passing.PassError.{PassError}
use Rattle.incoming_line.specs.declared.passing.PassError.TheVariants.{Refused, Unwritten}

-- the rings for cells and events are empty before the feed, with 78 and 1,024 places; after it they are `cells` and `events`
pub record TakenIn (os : List ℕ) (l l' : Line) (cells : Ring UserCell) (events : Ring EventRecord) : Type 0 where
  pub no_cells : Ring UserCell
  pub no_events : Ring EventRecord
  pub empty : (held no_cells ≡ []) × (held no_events ≡ [])
  pub places : (places no_cells ≡ 78) × (places no_events ≡ 1024)
  pub taken : ℕ
  pub fed : Fed os taken l no_cells no_events l' cells events
  -- all that the octets bring had a place: each user cell handed up went in, and no event was lost. The counters alone would say less, since they stop
  pub all_taken : taken ≡ offers l.receiver.tracker (bits_of os)
  pub free : length (held events) < 1024
  pub none_full : l'.receiver.book.counters.full ≡ l.receiver.book.counters.full
  pub none_lost : l'.receiver.book.counters.lost ≡ l.receiver.book.counters.lost

pub record Passed (a : Arguments) (os : List ℕ) (l : Line) (w v : Option (List ℕ)) (l' : Line) (w' v' : Option (List ℕ)) : Type 0 where
  pub cells : Ring UserCell
  pub events : Ring EventRecord
  pub taken_in : TakenIn os l l' cells events
  pub written : Appends w w' (cells_written a.payloads (held cells))
  pub listed : Appends v v' (events_listed a.events (held events))

abbrev pub PassAnswer : {X : Type 0} → Arguments → List ℕ → Line → Option (List ℕ) → Option (List ℕ) → Result X PassError → Line → Option (List ℕ) → Option (List ℕ) → Type 0
PassAnswer a os l w v (Ok x) l' w' v' = Passed a os l w v l' w' v'
PassAnswer a os l w v (Err (Refused e)) l' w' v' = FeedWhy os e × (l' ≡ l) × (w' ≡ w) × (v' ≡ v)
PassAnswer a os l w v (Err (Unwritten e)) l' w' v' = (cells : Ring UserCell) × (events : Ring EventRecord) × TakenIn os l l' cells events
