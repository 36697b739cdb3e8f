-- The theorem of the line: what holds of every list of calls on a receiving end, and of every list of calls on a sender. It rests on
-- what the contracts of these calls say and on nothing else, over every sink and every source that keeps its meaning.
--
--   MendedTold g g'  what is written down with the last bit of a mended header, g before it and g' after it: the bit is counted, the
--                    counter of mended headers is one on, and the event with the number of that bit is in the ring, behind all others;
--                    where no place is free there, it is lost, and counted as lost
--   Received h       what holds of a receiving end after the history h of calls on it. Its tracker is where the bits that it has heard since
--                    its making or the last reset lead to from the start. Of every stretch between two resets: each cell that the laws
--                    call offered is put into the sink that is lent with its last bit, and no other cell is; and the laws hold, at each
--                    moment of it. In the next feed each header that is mended is told; and the next call, by what its contract says,
--                    makes a history again
--   Sent h           what holds of a sender after the history h of calls on it: each stream that is read off it is a sent stream, begun at
--                    the phase of its start, so that the laws speak of what any sender's calls write; and the next call makes a history
--                    again
--   LineTheorem      both, for every list of calls
use Rattle.std.specs.Prelude.{◌≡◌, ℕ, ◌<◌, ◌≤◌, List, [], ◌∷◌, ◌++◌, length, Some, Result}
use Rattle.std.specs.List.{AllByRecursion}
use Rattle.cell.specs.declared.refusal.Refusal.{Refusal}
use Rattle.cell.specs.declared.header.Kind.{Kind}
use Rattle.ports.specs.Cell.{Cell, User}
use Rattle.sender.specs.Sender.{SenderState, StartAnswer, Sends, SendAnswer, F3Answer}
use Rattle.sender.specs.Stream.{SentStream}
use Rattle.tracker.specs.declared.events.HeaderCause.TheVariants.{Mended}
use Rattle.tracker.specs.declared.tracker.Moment.TheVariants as moment
use Rattle.tracker.specs.Reading.{state_of}
use Rattle.tracker.specs.Tracker.{start, bit_brings}
use Rattle.receiver.specs.declared.event.Event.TheVariants.{Header}
use Rattle.receiver.specs.declared.receiver.Receiver.{Receiver}
use Rattle.receiver.specs.Book.{Log, bits_on, bit_counted, counting, mended_one, lost_one, log_run}
use Rattle.receiver.specs.Event.{record_of}
use Rattle.receiver.specs.Feed.{Feeds, FeedAnswer, was_reset, log}
use Rattle.receiver.specs.Handing.{Moment, bits}
use Rattle.receiver.specs.Run.{after}
use Rattle.line.specs.Heard.{Heard}
use Rattle.line.specs.Laws.{LawsThroughout, mended_only}
use Rattle.line.specs.Receiving as receiving
use Rattle.line.specs.Receiving.{heard, stretches}
use Rattle.line.specs.Sending as sending
use Rattle.line.specs.Sending.{streams, unplaced}

pub record MendedTold (g g' : Log) : Type 0 where
  pub told : length g.events < g.places → g' ≡ record g {
    book = counting (bit_counted g.book) (mended_one g.book.counters);
    events = g.events ++ record_of (bits_on g.book.bits) (Header Mended) ∷ [];
  }
  pub lost : g.places ≤ length g.events → g' ≡ record g { book = counting (bit_counted g.book) (lost_one (mended_one g.book.counters)) }

pub record Received {cs : List receiving.Call} {r : Receiver} (h : receiving.History cs r) : Type 0 where
  pub tracker : r.tracker ≡ after start (bits (heard h).newest)
  pub handed : AllByRecursion (Heard start) (stretches h)
  pub laws : AllByRecursion LawsThroughout (stretches h)
  -- the moment m of the next feed, with those of the feed before it
  pub mended : (f : receiving.Feed) (n : ℕ) (r' : Receiver) (fed : Feeds f.octets r f.sink f.events n r' f.sink' f.events')
      (before later : List Moment) (m : Moment) → fed.works.moments ≡ before ++ m ∷ later
      → bit_brings (after start (bits ((heard h).newest ++ before))) m.bit ≡ Some (moment.Header mended_only)
      → MendedTold (log_run r.tracker (log r f.events) before) (log_run r.tracker (log r f.events) (before ++ m ∷ []))
  -- the next call
  pub feed : (f : receiving.Feed) (r' : Receiver) → FeedAnswer f.octets r f.sink f.events f.answer r' f.sink' f.events'
      → receiving.History (receiving.feed f ∷ cs) r'
  pub reset : receiving.History (receiving.reset ∷ cs) (was_reset r)
  pub state : receiving.History (receiving.state (state_of r.tracker) ∷ cs) r
  pub counters : receiving.History (receiving.counters r.book.counters ∷ cs) r
  pub bits : receiving.History (receiving.bits r.book.bits ∷ cs) r
  pub f3_payload : receiving.History (receiving.f3_payload r.book.f3 ∷ cs) r

pub record Sent {cs : List sending.Call} {s : SenderState} (h : sending.History cs s) : Type 0 where
  pub streams : AllByRecursion (λ x. SentStream x.begins x.sends) (streams h)
  -- the next call
  pub start : (p : ℕ) (answer : Result (Unit {0}) Refusal) (s' : SenderState) → StartAnswer s p answer s' → sending.History (sending.start p answer ∷ cs) s'
  pub send : (x : sending.Sending) (s' : SenderState) → AllByRecursion User x.waiting → SendAnswer s x.waiting x.place x.answer s' x.waiting' x.place'
      → sending.History (sending.send x ∷ cs) s'
  pub send_next : (waiting waiting' : List Cell) (kind : Kind) (line : List ℕ) (s' : SenderState) → AllByRecursion User waiting → Sends s waiting kind line s' waiting'
      → sending.History (sending.send (unplaced waiting kind line waiting') ∷ cs) s'
  pub set_f3 : (f : List ℕ) (answer : Result (Unit {0}) Refusal) (s' : SenderState) → F3Answer s f answer s' → sending.History (sending.set_f3 f answer ∷ cs) s'
  pub phase : sending.History (sending.phase s.phase ∷ cs) s
  pub number : sending.History (sending.number s.number ∷ cs) s

pub record LineTheorem : Type 0 where
  pub receiving : (cs : List receiving.Call) (r : Receiver) (h : receiving.History cs r) → Received h
  pub sending : (cs : List sending.Call) (s : SenderState) (h : sending.History cs s) → Sent h
