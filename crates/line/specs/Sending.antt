-- The calls on one sender, from its making on, and the streams that it sends by them.
--
--   Sending       one call of send, with all that it was lent and answered: the cells that wait in the source lent, before and after
--                 it; the place for the 53 octets, before and after it; the answer. Another source may be lent to each send
--   unplaced      the same of an accepted send that lends no place (send_next): as into any place of 53 octets
--   Call          one call: a start at a phase, a send, the setting of the F3 payload, or a reading of the phase or of the number, each
--                 with what it answered
--   Calls s c s'  the call c on the sender s leaves it as s': what the contract of each call says. Refused calls are calls too. A
--                 source that keeps its meaning holds user cells only
--   History cs s  the calls cs, the newest in front, each taking over the result of those before, lead from a sender as it is made to s
--   Stream        what a sender sends from its making or an accepted start on: the phase at which it begins, and the sends, in order
--   Streams       the stream that goes on (newest), and those that a start has ended (earlier, the newest in front)
--   beginning p   the stream that a start at the phase p begins
--   started_with  what it has sent, after a start that answered so
--   sent_by       the sends that a call of send adds to the stream, where it answered so: one or none
--   sent_with     what it has sent, after one call more
--   sent h        what it has sent by the history h: its accepted sends
--   streams h     all of that, stream by stream, the newest in front
use Rattle.std.specs.Prelude.{◌≡◌, ℕ, List, [], ◌∷◌, ◌++◌, Ok, Err, Result, replicate}
use Rattle.std.specs.List.{AllByRecursion}
use Rattle.cell.specs.declared.header.Kind.{Kind}
use Rattle.cell.specs.declared.refusal.Refusal.{Refusal}
use Rattle.ports.specs.Cell.{Cell, User}
use Rattle.sender.specs.Sender.{SenderState, fresh, cell_sent, StartAnswer, SendAnswer, F3Answer}
use Rattle.sender.specs.Stream.{Send}

pub record Sending : Type 0 where
  pub waiting : List Cell
  pub place : List ℕ
  pub answer : Result Kind Refusal
  pub waiting' : List Cell
  pub place' : List ℕ

abbrev pub unplaced : List Cell → Kind → List ℕ → List Cell → Sending
unplaced waiting kind line waiting' = record { waiting = waiting; place = replicate 53 0; answer = Ok kind; waiting' = waiting'; place' = line }

pub data Call : Type 0 where
  start : ℕ → Result (Unit {0}) Refusal → Call
  send : Sending → Call
  set_f3 : List ℕ → Result (Unit {0}) Refusal → Call
  phase : ℕ → Call
  number : ℕ → Call

abbrev pub Calls : SenderState → Call → SenderState → Type 0
Calls s (start p answer) s' = StartAnswer s p answer s'
Calls s (send x) s' = AllByRecursion User x.waiting × SendAnswer s x.waiting x.place x.answer s' x.waiting' x.place'
Calls s (set_f3 f answer) s' = F3Answer s f answer s'
Calls s (phase p) s' = (p ≡ s.phase) × (s' ≡ s)
Calls s (number n) s' = (n ≡ s.number) × (s' ≡ s)

pub data History : List Call → SenderState → Type 0 where
  made : History [] fresh
  called : {cs : List Call} {s s' : SenderState} {c : Call} → History cs s → Calls s c s' → History (c ∷ cs) s'

-- ---- what it sends

pub record Stream : Type 0 where
  pub begins : ℕ
  pub sends : List Send

pub record Streams : Type 0 where
  pub newest : Stream
  pub earlier : List Stream

abbrev pub beginning : ℕ → Stream
beginning p = record { begins = p; sends = [] }

abbrev pub started_with : ℕ → Result (Unit {0}) Refusal → Streams → Streams
started_with p (Ok u) t = record { newest = beginning p; earlier = t.newest ∷ t.earlier }
started_with p (Err e) t = t

abbrev pub sent_by : SenderState → Sending → Result Kind Refusal → List Send
sent_by s x (Ok kind) =
    record { waiting = x.waiting; phase = s.phase; cell = cell_sent s x.waiting; kind = kind; line = x.place'; left = x.waiting' } ∷ []
sent_by s x (Err e) = []

abbrev pub sent_with : SenderState → Call → Streams → Streams
sent_with s (start p answer) t = started_with p answer t
sent_with s (send x) t = record t { newest = record t.newest { sends = t.newest.sends ++ sent_by s x x.answer } }
sent_with s (set_f3 f answer) t = t
sent_with s (phase p) t = t
sent_with s (number n) t = t

abbrev pub sent : {cs : List Call} {s : SenderState} → History cs s → Streams
sent made = record { newest = beginning 1; earlier = [] }
sent (called {s = s} {c = c} h x) = sent_with s c (sent h)

abbrev pub streams : {cs : List Call} {s : SenderState} → History cs s → List Stream
streams h = (sent h).newest ∷ (sent h).earlier
