-- The laws are not empty: calls on both ends exist that bring about what they ask for.
--
--   BothEnds         a sender's calls and a receiving end's calls, and a cell x of the stream that goes on
--   StreamArrives    calls by which a hunt ends on the header of x, that cell and all later ones arrive as sent, every sink is ready,
--                    twenty-five cells and more have come, and a connection gains a user cell
--   BurstArrives     calls by which the end is in step at confidence 24 after the right header of x, bits change in exactly six cells in a
--                    row, in each of the six, and a connection gains a user cell that comes after them
--   MendedArrives    calls by which one bit of the next header is wrong after the right header of x, its payload comes as sent, the sink is
--                    ready, and a connection gains that user cell
--   TwoWrongArrives  calls by which, in step after the header of x, just two bits of the next header are wrong, and its payload comes as
--                    sent: it is a user cell, and by the law nothing is handed up with its last bit
--   Instances        all four
--
-- That the laws shut out an end that stays in HUNT, one that never calls its sink, and one that hands cells up from the first agreement
-- on, is shown by edits of the code that must be refused: in crates/tracker/must-fail and crates/receiver/must-fail.
use Rattle.std.specs.Prelude.{◌≡◌, ℕ, ◌+◌, ◌<◌, ◌≤◌, Bool, ◌⊎◌, List, [], ◌∷◌, ◌++◌, length, take, drop, slice_index_or}
use Rattle.cell.specs.declared.header.Kind.TheVariants.{User}
use Rattle.ports.specs.Cell.{Cell}
use Rattle.sender.specs.Sender.{SenderState}
use Rattle.sender.specs.Stream.{Send, SentStream}
use Rattle.tracker.specs.Tracker.{start}
use Rattle.receiver.specs.declared.receiver.Receiver.{Receiver}
use Rattle.receiver.specs.Handing.{Moment, bits}
use Rattle.receiver.specs.Run.{after}
use Rattle.line.specs.Heard.{Gains, ReadyAt}
use Rattle.line.specs.Laws.{header_bits, payload_bits, complete, last_bit, Arrives, ReadyFrom, InStep, Right, Follows, Undamaged, BurstGains, differing}
use Rattle.line.specs.Receiving as receiving
use Rattle.line.specs.Receiving.{heard}
use Rattle.line.specs.Sending as sending
use Rattle.line.specs.Sending.{sent}

-- the calls on both ends; the sends of the sender's stream, x among them; and the moments that the receiving end has heard
pub record BothEnds : Type 0 where
  pub sender_calls : List sending.Call
  pub sender : SenderState
  pub sender_history : sending.History sender_calls sender
  pub front : List Send
  pub x : Send
  pub back : List Send
  pub sends : (sent sender_history).newest.sends ≡ front ++ x ∷ back
  pub calls : List receiving.Call
  pub receiver : Receiver
  pub history : receiving.History calls receiver

pub record StreamArrives : Type 0 where
  pub ends : BothEnds
  pub past : List Moment
  pub m : Moment
  pub rest : List Moment
  pub heard : (heard ends.history).newest ≡ past ++ m ∷ rest
  pub arrives : Arrives past m rest (sent ends.sender_history).newest.begins ends.front ends.x ends.back
  pub ready : ReadyFrom 24 rest (ends.x ∷ ends.back)
  pub many : 25 ≤ complete (length rest)
  pub connection : ℕ
  pub cell : Cell
  pub others : List Cell
  pub gains : Gains connection rest (cell ∷ others)

pub record BurstArrives : Type 0 where
  pub ends : BothEnds
  pub past : List Moment
  pub rest : List Moment
  pub heard : (heard ends.history).newest ≡ past ++ rest
  pub got : List (List Bool)
  pub follows : Follows past rest (sent ends.sender_history).newest.begins ends.front ends.x ends.back got
  pub confidence : follows.right.in_step.confidence ≡ 24
  -- the six cells are d to d + 5
  pub d : ℕ
  pub outside : (i : ℕ) → (i < d) ⊎ (d + 6 ≤ i) → Undamaged (ends.x ∷ ends.back) got i
  pub inside : (i : ℕ) → d ≤ i → i < d + 6 → Undamaged (ends.x ∷ ends.back) got i → ⊥
  -- the user cell y comes after them
  pub before : List Send
  pub y : Send
  pub later : List Send
  pub place : ends.x ∷ ends.back ≡ before ++ y ∷ later
  pub after : d + 6 ≤ length before
  pub user : y.kind ≡ User
  pub came : length before < complete (length rest)
  pub ready : ReadyAt rest (last_bit (length before)) y.cell
  pub connection : ℕ
  pub gains : BurstGains connection rest (ends.x ∷ ends.back) got
  pub gained : slice_index_or gains.pieces (length before) [] ≡ y.cell ∷ []

pub record MendedArrives : Type 0 where
  pub ends : BothEnds
  pub past : List Moment
  pub body : List Moment
  pub m : Moment
  pub rest : List Moment
  pub heard : (heard ends.history).newest ≡ past ++ (body ++ m ∷ rest)
  pub many : length body ≡ 423
  pub y : Send
  pub later : List Send
  pub next : ends.back ≡ y ∷ later
  pub right : Right past (sent ends.sender_history).newest.begins ends.front ends.x (y ∷ later)
  pub wrong : differing (drop 384 (bits body ++ m.bit ∷ [])) (header_bits y) ≡ 1
  pub user : y.kind ≡ User
  pub payload : List Moment
  pub n : Moment
  pub others : List Moment
  pub cut : rest ≡ payload ++ n ∷ others
  pub as_sent : bits payload ++ n.bit ∷ [] ≡ payload_bits y
  pub ready : ReadyAt rest (last_bit 0) y.cell
  pub connection : ℕ
  pub gains : Gains connection (payload ++ n ∷ []) (y.cell ∷ [])

pub record TwoWrongArrives : Type 0 where
  pub ends : BothEnds
  pub past : List Moment
  pub body : List Moment
  pub m : Moment
  pub rest : List Moment
  pub heard : (heard ends.history).newest ≡ past ++ (body ++ m ∷ rest)
  pub least : 424 ≤ length body
  pub most : length body ≤ 807
  pub y : Send
  pub later : List Send
  pub next : ends.back ≡ y ∷ later
  pub stream : SentStream (sent ends.sender_history).newest.begins (ends.front ++ ends.x ∷ (y ∷ later))
  pub in_step : InStep (after start (bits past)) ends.x.phase
  pub wrong : differing (take 40 (drop 384 (bits body))) (header_bits y) ≡ 2
  pub user : y.kind ≡ User
  -- m brings the last bit of the cell, whose payload came as sent
  pub as_sent : drop 424 (bits body) ++ m.bit ∷ [] ≡ payload_bits y

pub record Instances : Type 0 where
  pub stream : StreamArrives
  pub burst : BurstArrives
  pub mended : MendedArrives
  pub two_wrong : TwoWrongArrives
