-- What each call on either end makes of the calls before it.
use Rattle.std.proofs.Common.{◌≡◌, ℕ, List, Result, sym, subst}
use Rattle.std.specs.List.{AllByRecursion}
use Rattle.cell.specs.declared.header.Kind.{Kind}
use Rattle.cell.specs.declared.refusal.Refusal.{Refusal}
use Rattle.ports.specs.Cell.{Cell, User}
use Rattle.ports.specs.Sink.{SinkState}
use Rattle.receiver.specs.Feed.{Events, FeedAnswer, was_reset}
use Rattle.receiver.specs.declared.receiver.Receiver.{Receiver}
use Rattle.sender.specs.Sender.{SenderState, StartAnswer, Sends, F3Answer}
use Rattle.line.specs.Receiving as receiving
use Rattle.line.specs.Sending as sending
use Rattle.line.specs.Theorem.{LineTheorem}
use Rattle.damaged_line.specs.Ends.{SenderStands, ReceiverStands, made_pair, Stand}

module _ (t : LineTheorem) where
  sent_by : {cs : List sending.Call} {s : SenderState} → sending.History cs s → SenderStands s
  sent_by {cs} {s} h = record { calls = cs; history = h; holds = t.sending cs s h }

  received_by : {cs : List receiving.Call} {r : Receiver} → receiving.History cs r → ReceiverStands r
  received_by {cs} {r} h = record { calls = cs; history = h; holds = t.receiving cs r h }

  pub made_stand : Stand made_pair
  made_stand = record { sender = sent_by sending.made; receiver = received_by receiving.made }

  pub start_stands : {s s' : SenderState} {r : Receiver} (p : ℕ) (answer : Result (Unit {0}) Refusal) → Stand (record { sender = s; receiver = r })
      → StartAnswer s p answer s' → Stand (record { sender = s'; receiver = r })
  start_stands {s' = s'} p answer e told = record { sender = sent_by (e.sender.holds.start p answer s' told); receiver = e.receiver }

  pub set_f3_stands : {s s' : SenderState} {r : Receiver} (f : List ℕ) (answer : Result (Unit {0}) Refusal) → Stand (record { sender = s; receiver = r })
      → F3Answer s f answer s' → Stand (record { sender = s'; receiver = r })
  set_f3_stands {s' = s'} f answer e told = record { sender = sent_by (e.sender.holds.set_f3 f answer s' told); receiver = e.receiver }

  pub send_stands : {s s' : SenderState} {r : Receiver} (waiting waiting' : List Cell) (kind : Kind) (line : List ℕ) → Stand (record { sender = s; receiver = r })
      → AllByRecursion User waiting → Sends s waiting kind line s' waiting' → Stand (record { sender = s'; receiver = r })
  send_stands {s' = s'} waiting waiting' kind line e users told =
      record { sender = sent_by (e.sender.holds.send_next waiting waiting' kind line s' users told); receiver = e.receiver }

  pub feed_stands : {s : SenderState} {r r' : Receiver} (os : List ℕ) (k k' : SinkState) (q q' : Events) (answer : Result ℕ Refusal) → Stand (record { sender = s; receiver = r })
      → FeedAnswer os r k q answer r' k' q' → Stand (record { sender = s; receiver = r' })
  feed_stands {r' = r'} os k k' q q' answer e told =
      record {
        sender = e.sender;
        receiver = received_by (e.receiver.holds.feed (record { octets = os; sink = k; events = q; answer = answer; sink' = k'; events' = q' }) r' told);
      }

  pub reset_stands : {s : SenderState} {r r' : Receiver} → Stand (record { sender = s; receiver = r }) → r' ≡ was_reset r → Stand (record { sender = s; receiver = r' })
  reset_stands e told = record { sender = e.sender; receiver = subst ReceiverStands (sym told) (received_by e.receiver.holds.reset) }
