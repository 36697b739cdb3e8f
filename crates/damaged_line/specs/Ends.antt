-- A sending and a receiving end, and how they came to stand as they do.
--
--   Pair              the states of both
--   made_pair         both as they are made
--   SenderStands s    calls on a sender, each as the contract of such a call says, lead from its making to s; and what the theorem of
--                     the line says holds of them: each stream that is read off them is a sent stream
--   ReceiverStands r  the same of a receiving end: the laws hold of all that it has heard by these calls, between any two resets
--   Stand e           both
use Rattle.std.specs.Prelude.{List}
use Rattle.receiver.specs.Feed.{made}
use Rattle.receiver.specs.declared.receiver.Receiver.{Receiver}
use Rattle.sender.specs.Sender.{SenderState, fresh}
use Rattle.line.specs.Receiving as receiving
use Rattle.line.specs.Sending as sending
use Rattle.line.specs.Theorem.{Received, Sent}

pub record Pair : Type 0 where
  pub sender : SenderState
  pub receiver : Receiver

abbrev pub made_pair : Pair
made_pair = record { sender = fresh; receiver = made }

pub record SenderStands (s : SenderState) : Type 0 where
  pub calls : List sending.Call
  pub history : sending.History calls s
  pub holds : Sent history

pub record ReceiverStands (r : Receiver) : Type 0 where
  pub calls : List receiving.Call
  pub history : receiving.History calls r
  pub holds : Received history

pub record Stand (e : Pair) : Type 0 where
  pub sender : SenderStands e.sender
  pub receiver : ReceiverStands e.receiver
