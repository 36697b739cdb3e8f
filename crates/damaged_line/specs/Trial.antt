-- Two ends, user cells with numbers, and what goes over the line between them; and what carrying a command out makes of them. A trial
-- is t before a call and t' after it, and the ring of events q and q'.
--
--   trial_made                     both ends as they are made; the first user cell has the number 1
--   payload_of n                   the payload of user cell number n: the number as four octets, the most significant first, and 44
--                                  octets 0x55
--   user_cell n                    user cell number n: VPI 0, VCI 100
--   number_after kind n            the number of the user cell that goes out next, where a cell of this kind went out while number n waited
--   if_sent kind c                 the user cell c, if it went out
--   CellSent c t kind line t'      the next cell went out while the user cell c waited: its kind, and its octets on the line
--   Came os sent t q counts t' q'  the octets os came at the receiving end: the cells that went up are counted beside the cell that was
--                                  sent, if one was
--   CellWent d t q counts t' q'    one cell was sent and went over the line with the damage d: what was sent and what went up is counted
--   Passed n t q counts t' q'      n cells were sent and went over the line as they were sent, one after the other: all counts together
--   Noised n t q counts t' q'      the octet 0xA5, which nobody sent, came n times
--   Starts p t r t'                what a start at the phase p answers
--   F3Set o t t'                   the F3 payload is 48 times the octet o from now on
--   reset_trial t                  the trial t with its receiving end reset
--   CarriedOut c t q o t' q'       the command c was carried out, and o came of it
use Rattle.std.specs.Prelude.{◌≡◌, ℕ, ◌+◌, ◌%◌, ◌^◌, List, [], ◌∷◌, ◌++◌, replicate, Some, None, Option, Result}
use Rattle.cell.specs.declared.header.Kind.{Kind}
use Rattle.cell.specs.declared.header.Kind.TheVariants.{Idle, F3, User}
use Rattle.cell.specs.declared.refusal.Refusal.{Refusal}
use Rattle.ring.specs.Ring.{held, places}
use Rattle.ring.specs.declared.ring.Ring.{Ring}
use Rattle.ports.specs.Cell.{Cell, header_octets}
use Rattle.ports.specs.CellRing.{ring_cells, ring_state}
use Rattle.ports.specs.declared.user_cell.UserCell.{UserCell}
use Rattle.sender.specs.Sender.{Sends, StartAnswer, with_f3}
use Rattle.receiver.specs.Feed.{Feeds, events_of, was_reset}
use Rattle.receiver.specs.declared.event.EventRecord.{EventRecord}
use Rattle.damaged_line.specs.Damage as damage
use Rattle.damaged_line.specs.Damage.{turned}
use Rattle.damaged_line.specs.Ends.{made_pair}
use Rattle.damaged_line.specs.Outcome.{answered}
use Rattle.damaged_line.specs.Tally.{none, counted_sent, counted_all, added}
use Rattle.damaged_line.specs.declared.command.Command.{Command}
use Rattle.damaged_line.specs.declared.command.Command.TheVariants as command
use Rattle.damaged_line.specs.declared.command.Command.TheVariants.{Pass, Turn, Noise, Start, Reset}
use Rattle.damaged_line.specs.declared.damage.Damage.{Damage}
use Rattle.damaged_line.specs.declared.outcome.Outcome.{Outcome}
use Rattle.damaged_line.specs.declared.outcome.Outcome.TheVariants.{Went, Accepted}
use Rattle.damaged_line.specs.declared.tally.Tally.{Tally}
use Rattle.damaged_line.specs.declared.trial.Trial.{Trial}

abbrev pub trial_made : Trial
trial_made = record { ends = made_pair; number = 1 }

abbrev pub payload_of : ℕ → List ℕ
payload_of n = header_octets n ++ replicate 44 0x55

unfoldable pub user_cell : ℕ → Cell
user_cell n = record { header = 0x00000640; payload = payload_of n }

abbrev pub number_after : Kind → ℕ → ℕ
number_after User n = (n + 1) % 2 ^ 32
number_after Idle n = n
number_after F3 n = n

abbrev pub if_sent : Kind → Cell → Option Cell
if_sent User c = Some c
if_sent Idle c = None
if_sent F3 c = None

pub record CellSent (c : Cell) (t : Trial) (kind : Kind) (line : List ℕ) (t' : Trial) : Type 0 where
  pub left : List Cell
  pub sends : Sends t.ends.sender (c ∷ []) kind line t'.ends.sender left
  pub receiver : t'.ends.receiver ≡ t.ends.receiver
  pub number : t'.number ≡ number_after kind t.number

pub record Came (os : List ℕ) (sent : Option Cell) (t : Trial) (q : Ring EventRecord) (counts : Tally) (t' : Trial) (q' : Ring EventRecord) : Type 0 where
  -- the ring for the cells before and after the feed: it was empty, and has 78 places
  pub blank : Ring UserCell
  pub up : Ring UserCell
  pub empty : held blank ≡ []
  pub places : places blank ≡ 78
  pub taken : ℕ
  pub feeds : Feeds os t.ends.receiver (ring_state blank) (events_of q) taken t'.ends.receiver (ring_state up) (events_of q')
  pub counted : counts ≡ counted_all sent (ring_cells up) none
  pub sender : t'.ends.sender ≡ t.ends.sender
  pub number : t'.number ≡ t.number

pub record CellWent (d : Damage) (t : Trial) (q : Ring EventRecord) (counts : Tally) (t' : Trial) (q' : Ring EventRecord) : Type 0 where
  pub kind : Kind
  pub line : List ℕ
  -- between the send and the feed
  pub between : Trial
  pub up : Tally
  pub sent : CellSent (user_cell t.number) t kind line between
  pub came : Came (turned d line) (if_sent kind (user_cell t.number)) between q up t' q'
  pub counted : counts ≡ counted_sent kind up

pub data Passed : ℕ → Trial → Ring EventRecord → Tally → Trial → Ring EventRecord → Type 0 where
  no_cell : {t : Trial} {q : Ring EventRecord} → Passed 0 t q none t q
  one_cell : {n : ℕ} {t t' t'' : Trial} {q q' q'' : Ring EventRecord} {counts now : Tally} → Passed n t q counts t' q'
      → CellWent damage.none t' q' now t'' q'' → Passed (n + 1) t q (added counts now) t'' q''

pub data Noised : ℕ → Trial → Ring EventRecord → Tally → Trial → Ring EventRecord → Type 0 where
  no_octet : {t : Trial} {q : Ring EventRecord} → Noised 0 t q none t q
  one_octet : {n : ℕ} {t t' t'' : Trial} {q q' q'' : Ring EventRecord} {counts now : Tally} → Noised n t q counts t' q'
      → Came (0xA5 ∷ []) None t' q' now t'' q'' → Noised (n + 1) t q (added counts now) t'' q''

pub record Starts {X : Type 0} (p : ℕ) (t : Trial) (r : Result X Refusal) (t' : Trial) : Type 0 where
  pub answer : StartAnswer t.ends.sender p r t'.ends.sender
  pub receiver : t'.ends.receiver ≡ t.ends.receiver
  pub number : t'.number ≡ t.number

pub record F3Set (o : ℕ) (t t' : Trial) : Type 0 where
  pub sender : t'.ends.sender ≡ with_f3 t.ends.sender (replicate 48 o)
  pub receiver : t'.ends.receiver ≡ t.ends.receiver
  pub number : t'.number ≡ t.number

abbrev pub reset_trial : Trial → Trial
reset_trial t = record t { ends = record t.ends { receiver = was_reset t.ends.receiver } }

abbrev pub CarriedOut : Command → Trial → Ring EventRecord → Outcome → Trial → Ring EventRecord → Type 0
CarriedOut (Pass n) t q o t' q' = (counts : Tally) × (o ≡ Went counts) × Passed n t q counts t' q'
CarriedOut (Turn d) t q o t' q' = (counts : Tally) × (o ≡ Went counts) × CellWent d t q counts t' q'
CarriedOut (Noise n) t q o t' q' = (counts : Tally) × (o ≡ Went counts) × Noised n t q counts t' q'
CarriedOut (Start p) t q o t' q' = (r : Result (Unit {0}) Refusal) × (o ≡ answered r) × Starts p t r t' × (q' ≡ q)
CarriedOut (command.F3 b) t q o t' q' = (o ≡ Accepted) × F3Set b t t' × (q' ≡ q)
CarriedOut Reset t q o t' q' = (o ≡ Accepted) × (t' ≡ reset_trial t) × (q' ≡ q)
