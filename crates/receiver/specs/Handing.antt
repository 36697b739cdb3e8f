-- Handing cells up, bit by bit.
--
--   Reply             what handing a cell up came to, where one was handed up: the sink took it, or why it did not
--   Puts c k r k'     the user cell c is put into a sink that means k before and k' after it: the answer is r
--   Handed o k r k'   the same of the user cell o, if there is one; where there is none, the sink does not reply
--   NotAsked o a b    where there is no user cell o, the sink a is not asked: it is then the very same, b
--   Quiet s bs        over the bits bs, from the tracker s on, no user cell is handed up
--   Unasked s bs a b  where that is so, the sink a is not asked: it is then the very same, b
--   Moment            one bit of a feed: the bit, what the sink lent means before and after it, and its reply
--   bits ms           the bits of moments
--   Along s k ms k'   the moments ms, one after the other, from the tracker s on: each hands up the cell that its bit completes, and
--                     takes over the sink as the one before left it
--   taken r           one, where the reply r is that the sink took a cell, and else none
--   taken_in ms       how many cells the sink took
use Rattle.std.specs.Prelude.{◌≡◌, ℕ, ◌+◌, Bool, List, [], ◌∷◌, Some, None, Option, ⊤, Ok, Err, Result}
use Rattle.cell.specs.declared.refusal.Refusal.TheVariants as refusal
use Rattle.ports.specs.Cell.{Cell}
use Rattle.ports.specs.Sink.{SinkState, Put, PutWhy}
use Rattle.tracker.specs.declared.tracker.Tracker.{Tracker}
use Rattle.receiver.specs.declared.event.SinkCause.{SinkCause}
use Rattle.receiver.specs.declared.event.SinkCause.TheVariants.{Full, NotServed}
use Rattle.receiver.specs.Run.{step, offered}

abbrev pub Reply : Type 0
Reply = Option (Result ⊤ SinkCause)

-- a refused put leaves the sink as it was
abbrev pub Puts : Cell → SinkState → Result ⊤ SinkCause → SinkState → Type 0
Puts c k (Ok x) k' = Put k c.header c.payload k'
Puts c k (Err Full) k' = PutWhy k c.header c.payload refusal.NoSpace × (k' ≡ k)
Puts c k (Err NotServed) k' = PutWhy k c.header c.payload refusal.NotServed × (k' ≡ k)

abbrev pub Handed : Option Cell → SinkState → Reply → SinkState → Type 0
Handed None k r k' = (r ≡ None) × (k' ≡ k)
Handed (Some c) k None k' = ⊥
Handed (Some c) k (Some r) k' = Puts c k r k'

abbrev pub NotAsked : {K : Type 0} → Option Cell → K → K → Type 0
NotAsked None sink sink' = sink' ≡ sink
NotAsked (Some c) sink sink' = ⊤

abbrev pub Quiet : Tracker → List Bool → Type 0
Quiet s [] = ⊤
Quiet s (b ∷ bs) = (offered s b ≡ None) × Quiet (step s b) bs

unfoldable pub Unasked : {K : Type 0} → Tracker → List Bool → K → K → Type 0
Unasked s bs sink sink' = Quiet s bs → sink' ≡ sink

pub record Moment : Type 0 where
  pub bit : Bool
  pub sink : SinkState
  pub reply : Reply
  pub sink' : SinkState

abbrev pub bits : List Moment → List Bool
bits [] = []
bits (m ∷ ms) = m.bit ∷ bits ms

abbrev pub Along : Tracker → SinkState → List Moment → SinkState → Type 0
Along s k [] k' = k' ≡ k
Along s k (m ∷ ms) k' = (m.sink ≡ k) × Handed (offered s m.bit) m.sink m.reply m.sink' × Along (step s m.bit) m.sink' ms k'

abbrev pub taken : Reply → ℕ
taken None = 0
taken (Some (Ok x)) = 1
taken (Some (Err e)) = 0

abbrev pub taken_in : List Moment → ℕ
taken_in [] = 0
taken_in (m ∷ ms) = taken m.reply + taken_in ms
