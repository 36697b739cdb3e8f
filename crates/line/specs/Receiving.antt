-- The calls on one receiving end, from its making on, and what it hears by them.
--
--   Feed          one call of feed, with all that it was lent and answered: the octets; what the sink lent means, before and after it; the
--                 events of the ring lent, before and after it; the answer. Another sink and another ring may be lent to each feed, and a
--                 sink or a ring may change between two feeds
--   Call          one call: a feed, a reset, or a reading with what it answered (the state, the counters, the bit count, the F3 payload)
--   Feeding       the call of feed f on the receiving end r leaves it as r', where it answers so
--   Calls r c r'  the call c on the receiving end r leaves it as r': what the contract of each call says. A refused feed is a call too
--   History cs r  the calls cs, the newest in front, each taking over the result of those before, lead from a receiving end as it is
--                 made to r
--   Stretches     what a receiving end has heard: since its making or its last reset (newest), and in the stretches before that reset,
--                 from one reset to the next (earlier, the newest in front)
--   moments_of    the moments of a feed, where it answers so; a refused one has none
--   heard_with    what it has heard, after one call more
--   heard h       what it has heard by the history h: the moments of the accepted feeds, in order
--   stretches h   all of that, stretch by stretch, the newest in front
use Rattle.std.specs.Prelude.{◌≡◌, ℕ, List, [], ◌∷◌, ◌++◌, Ok, Err, Result}
use Rattle.cell.specs.declared.refusal.Refusal.{Refusal}
use Rattle.ports.specs.Sink.{SinkState}
use Rattle.tracker.specs.declared.reading.State.{State}
use Rattle.tracker.specs.Reading.{state_of}
use Rattle.receiver.specs.declared.book.Counters.{Counters}
use Rattle.receiver.specs.declared.receiver.Receiver.{Receiver}
use Rattle.receiver.specs.Feed.{Events, FeedAnswer, was_reset}
use Rattle.receiver.specs.Feed as receiver
use Rattle.receiver.specs.Handing.{Moment}

pub record Feed : Type 0 where
  pub octets : List ℕ
  pub sink : SinkState
  pub events : Events
  pub answer : Result ℕ Refusal
  pub sink' : SinkState
  pub events' : Events

pub data Call : Type 0 where
  feed : Feed → Call
  reset : Call
  state : State → Call
  counters : Counters → Call
  bits : ℕ → Call
  f3_payload : List ℕ → Call

abbrev pub Feeding : Receiver → Feed → Result ℕ Refusal → Receiver → Type 0
Feeding r f answer r' = FeedAnswer f.octets r f.sink f.events answer r' f.sink' f.events'

abbrev pub Calls : Receiver → Call → Receiver → Type 0
Calls r (feed f) r' = Feeding r f f.answer r'
Calls r reset r' = r' ≡ was_reset r
Calls r (state s) r' = (s ≡ state_of r.tracker) × (r' ≡ r)
Calls r (counters c) r' = (c ≡ r.book.counters) × (r' ≡ r)
Calls r (bits n) r' = (n ≡ r.book.bits) × (r' ≡ r)
Calls r (f3_payload p) r' = (p ≡ r.book.f3) × (r' ≡ r)

pub data History : List Call → Receiver → Type 0 where
  made : History [] receiver.made
  called : {cs : List Call} {r r' : Receiver} {c : Call} → History cs r → Calls r c r' → History (c ∷ cs) r'

-- ---- what it hears

pub record Stretches : Type 0 where
  pub newest : List Moment
  pub earlier : List (List Moment)

abbrev pub moments_of : (r : Receiver) (f : Feed) (r' : Receiver) (answer : Result ℕ Refusal) → Feeding r f answer r' → List Moment
moments_of r f r' (Ok n) h = h.works.moments
moments_of r f r' (Err e) h = []

abbrev pub heard_with : (r : Receiver) (c : Call) (r' : Receiver) → Calls r c r' → Stretches → Stretches
heard_with r (feed f) r' h s = record s { newest = s.newest ++ moments_of r f r' f.answer h }
heard_with r reset r' h s = record { newest = []; earlier = s.newest ∷ s.earlier }
heard_with r (state x) r' h s = s
heard_with r (counters x) r' h s = s
heard_with r (bits x) r' h s = s
heard_with r (f3_payload x) r' h s = s

abbrev pub heard : {cs : List Call} {r : Receiver} → History cs r → Stretches
heard made = record { newest = []; earlier = [] }
heard (called {r = r} {r' = r'} {c = c} h x) = heard_with r c r' x (heard h)

abbrev pub stretches : {cs : List Call} {r : Receiver} → History cs r → List (List Moment)
stretches h = (heard h).newest ∷ (heard h).earlier
