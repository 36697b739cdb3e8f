-- Events and their numbers.
--
--   event_numbers e  the numbers of the layer and of the cause of the event e
--   record_of n e    the event e as a ring holds it, where n is the number of the last bit seen
--   Undoes x r       r is the one event that has the numbers of the record x, or an error where no event has them
--   event_words e    the event e in words
--   event_of n       the event that has the numbers n, if one has
--   all_events       every event; has_numbers n e  whether the event e has the numbers n
--   record_words x   the record x in words: the number of the bit, and the event, or the numbers where no event has them
use Rattle.std.specs.Prelude.{◌≡◌, ℕ, ◌&&◌, Bool, List, [], ◌∷◌, ◌++◌, find, Some, None, Option, Ok, Result, codes, decimal, ◌==◌}
use Rattle.tracker.specs.declared.events.HeaderCause.TheVariants.{Mended, Discarded}
use Rattle.tracker.specs.declared.events.BoundaryCause.TheVariants as boundary
use Rattle.tracker.specs.declared.events.DescramblerCause.TheVariants as descrambler
use Rattle.receiver.specs.declared.event.SinkCause.TheVariants as sink
use Rattle.receiver.specs.declared.event.Event.{Event}
use Rattle.receiver.specs.declared.event.Event.TheVariants.{Header, Boundary, Descrambler, Sink}
use Rattle.receiver.specs.declared.event.EventRecord.{EventRecord}
use Rattle.receiver.specs.declared.event.UnknownEvent.{UnknownEvent}

abbrev pub event_numbers : Event → ℕ × ℕ
event_numbers (Header Mended) = (1, 1)
event_numbers (Header Discarded) = (1, 2)
event_numbers (Boundary boundary.Presync) = (2, 1)
event_numbers (Boundary boundary.Sync) = (2, 2)
event_numbers (Boundary boundary.LostFromPresync) = (2, 3)
event_numbers (Boundary boundary.LostFromSync) = (2, 4)
event_numbers (Descrambler descrambler.Verification) = (3, 1)
event_numbers (Descrambler descrambler.Steady) = (3, 2)
event_numbers (Descrambler descrambler.LeftForAcquisition) = (3, 3)
event_numbers (Sink sink.Full) = (4, 1)
event_numbers (Sink sink.NotServed) = (4, 2)

abbrev pub record_of : ℕ → Event → EventRecord
record_of n e = record { bit = n; layer = (event_numbers e).0; cause = (event_numbers e).1 }

pub record Undoes (x : EventRecord) (r : Result Event UnknownEvent) : Type 0 where
  pub found : (e : Event) → event_numbers e ≡ (x.layer, x.cause) → r ≡ Ok e
  pub right : (e : Event) → r ≡ Ok e → event_numbers e ≡ (x.layer, x.cause)

abbrev pub event_words : Event → List ℕ
event_words (Header Mended) = codes "header: mended"
event_words (Header Discarded) = codes "header: discarded"
event_words (Boundary boundary.Presync) = codes "boundary: PRESYNC"
event_words (Boundary boundary.Sync) = codes "boundary: SYNC"
event_words (Boundary boundary.LostFromPresync) = codes "boundary: lost from PRESYNC"
event_words (Boundary boundary.LostFromSync) = codes "boundary: lost from SYNC"
event_words (Descrambler descrambler.Verification) = codes "descrambler: verification"
event_words (Descrambler descrambler.Steady) = codes "descrambler: steady state"
event_words (Descrambler descrambler.LeftForAcquisition) = codes "descrambler: back to acquisition"
event_words (Sink sink.Full) = codes "sink: full"
event_words (Sink sink.NotServed) = codes "sink: not served"

abbrev pub all_events : List Event
all_events =
    Header Mended ∷ Header Discarded ∷ Boundary boundary.Presync ∷ Boundary boundary.Sync ∷ Boundary boundary.LostFromPresync
    ∷ Boundary boundary.LostFromSync ∷ Descrambler descrambler.Verification ∷ Descrambler descrambler.Steady
    ∷ Descrambler descrambler.LeftForAcquisition ∷ Sink sink.Full ∷ Sink sink.NotServed ∷ []

abbrev pub has_numbers : ℕ × ℕ → Event → Bool
has_numbers n e = (event_numbers e).0 == n.0 && (event_numbers e).1 == n.1

unfoldable pub event_of : ℕ × ℕ → Option Event
event_of n = find (has_numbers n) all_events

abbrev pub record_words : EventRecord → List ℕ
record_words x =
    codes "bit " ++ decimal x.bit ++ codes ": "
    ++ elim (event_of (x.layer, x.cause)) [ None ↦ codes "layer " ++ decimal x.layer ++ codes ", cause " ++ decimal x.cause | Some e ↦ event_words e ]
