-- What holds of everything that one receiving end hears between its making or a reset and the next reset, or now: of the moments `all`,
-- whatever bits come, however feeds cut them, and whichever sinks are lent. A stream is what one sender's sends write in a row.
--
--   header_bits x, payload_bits x  the first 40 bits of the cell that the send x wrote, and the other 384
--   complete n                     how many cells are whole n bits after the header of the first of them
--   last_bit i                     where the last bit of the cell i stands, counted from 0 on behind the header of the cell 0
--   Arrives                        a hunt ends, with the bit of m, on the header of the send x of a sent stream, and what comes after it is that
--                                  stream, cut anywhere
--   ReadyFrom d ms xs              at the last bit of each user cell of the sends xs, from the cell d on, the sink lent serves it and has space
--   InStep s q                     the end s, asked after a header, is in step with a sender: SYNC and Steady, on its cell boundary, with the phase q
--                                  of its cell. It tells the confidence, and the header that the cell is kept by, if it is kept
--   Right past p front x back      past ends with the header of the send x of a sent stream, as sent, and the end is in step with it
--   Follows                        a right header, and then only that stream, no bit added or lost: got are the bits of each of its cells as they
--                                  come in, from the right header's cell on, and some of them may be wrong
--   Undamaged xs got i             all 424 bits of the cell i of the sends xs came as sent
--   StaysInStep past rest xs       after each next header of the sends xs, right or wrong, the end is in step
--   BurstGains k                   what each whole cell brings the connection k, one cell at most, and all of it together; a later undamaged cell
--                                  brings what was sent
--   differing w v                  at how many places the bits w and v differ
--   mended_only                    the events of a header that is mended: one in layer 1, none in layers 2 and 3
--   Restored s b y                 the header of y ends with the bit b: it is mended, the end stays in step, and the cell is kept by the header
--                                  that was sent
--   GoesUp                         with the bit of n, the last of its payload, the cell of y is offered as sent; and where the sink is then ready,
--                                  its connection gains that cell over the payload, and nothing else is gained
--
-- The laws, in words:
--
--   CellsPreceded     each cell handed up is preceded, since the last hunt, by sixteen agreeing headers in a row and then eight more
--                     whose samples came as predicted. Its own header stands in front of them
--   StreamGained      where a hunt ends on a sent stream's header, and that cell and all later ones arrive as sent, each connection
--                     gains exactly its sent user cells from the twenty-fifth cell on, in order
--   BurstSurvived     in step at confidence 24, after a right header, let bits change only in at most six cells in a row, d to d + 5:
--                     the end stays in step, and hands up every later undamaged user cell as sent, in order. A damaged cell, and the
--                     one with the right header, may bring a cell or none
--   OneBitMended      in step, one wrong header bit after a right header is mended; and the cell goes up if its payload comes as sent
--   TwoBitsDiscarded  in step, whatever header came before, a cell with exactly two wrong header bits is never handed up: nothing is,
--                     at any bit of its payload
--   Laws              all five
--   LawsThroughout    they hold at each moment, of what has come so far; so that a stream may end, and others may follow it
use Rattle.std.specs.Prelude.{◌≡◌, ℕ, suc, ◌+◌, ◌*◌, ◌/◌, ◌<◌, ◌≤◌, Bool, true, false, ◌⊎◌, List, [], ◌∷◌, ◌++◌, map, length, take, drop, Some, None, Option, slice_index_or}
use Rattle.std.specs.List.{AllByRecursion}
use Rattle.cell.specs.declared.header.Header as header
use Rattle.cell.specs.declared.header.Kind.TheVariants.{User}
use Rattle.ports.specs.Cell.{Cell, of_connection}
use Rattle.sender.specs.Stream.{Send, SentStream, line_of, lost, sent_users}
use Rattle.tracker.specs.declared.events.HeaderCause.TheVariants.{Mended}
use Rattle.tracker.specs.declared.events.HeaderEvents.{HeaderEvents}
use Rattle.tracker.specs.declared.state.Mode.{Mode}
use Rattle.tracker.specs.declared.state.Delineation.TheVariants.{Sync}
use Rattle.tracker.specs.declared.state.Descrambler.TheVariants.{Steady}
use Rattle.tracker.specs.declared.state.Place.TheVariants.{Payload}
use Rattle.tracker.specs.declared.tracker.Tracker.{Tracker}
use Rattle.tracker.specs.declared.tracker.Moment.TheVariants as moment
use Rattle.tracker.specs.Tracker.{start, bit_brings}
use Rattle.receiver.specs.Run.{bits_of, step, after, user_cell, offered}
use Rattle.receiver.specs.Handing.{Moment, bits}
use Rattle.line.specs.Heard.{Gains, ReadyAt, Begins, Ends, join}
use Rattle.line.specs.Headers.{hunting, headers, Preceded}

abbrev pub header_bits : Send → List Bool
header_bits x = take 40 (bits_of x.line)

abbrev pub payload_bits : Send → List Bool
payload_bits x = drop 40 (bits_of x.line)

abbrev pub complete : ℕ → ℕ
complete n = (n + 40) / 424

abbrev pub last_bit : ℕ → ℕ
last_bit i = 424 * i + 383

-- ---- (a) the evidence for a boundary and a phase

abbrev pub CellsPreceded : List Moment → Type 0
CellsPreceded all = (past rest : List Moment) (m : Moment) (c : Cell) → all ≡ past ++ m ∷ rest
    → offered (after start (bits past)) m.bit ≡ Some c
    → (own : ℕ) × (before : List ℕ) × (headers start [] (bits past) ≡ own ∷ before) × Preceded before

-- ---- (b) a stream from a hunt's end on

pub record Arrives (past : List Moment) (m : Moment) (rest : List Moment) (p : ℕ) (front : List Send) (x : Send) (back : List Send) : Type 0 where
  pub stream : SentStream p (front ++ x ∷ back)
  pub hunts : hunting (after start (bits past)).control.place ≡ true
  pub ends : hunting (step (after start (bits past)) m.bit).control.place ≡ false
  pub on_header : Ends (bits past ++ m.bit ∷ []) (header_bits x)
  pub as_sent : Begins (bits rest) (payload_bits x ++ bits_of (line_of back))

abbrev pub ReadyFrom : ℕ → List Moment → List Send → Type 0
ReadyFrom d ms xs = (before later : List Send) (y : Send) → xs ≡ before ++ y ∷ later → d ≤ length before → y.kind ≡ User
    → ReadyAt ms (last_bit (length before)) y.cell

abbrev pub StreamGained : List Moment → Type 0
StreamGained all = (past rest : List Moment) (m : Moment) (p : ℕ) (front back : List Send) (x : Send) → all ≡ past ++ m ∷ rest
    → Arrives past m rest p front x back → ReadyFrom 24 rest (x ∷ back)
    → (k : ℕ) → Gains k rest (of_connection k (sent_users (drop 24 (take (complete (length rest)) (x ∷ back)))))

-- ---- (c) in step

pub record InStep (s : Tracker) (q : ℕ) : Type 0 where
  pub confidence : ℕ
  pub kept : Option header.Header
  -- the wrong headers in a row, the mode and the samples kept may be any; 48 octets of payload are still to come, none begun
  pub wrong : ℕ
  pub mode : Mode
  pub samples : ℕ
  pub is : s.control ≡ record {
    mode = mode;
    place = Payload 47 7 kept (record { delineation = Sync wrong; descrambler = Steady confidence q; samples = samples });
  }

pub record Right (past : List Moment) (p : ℕ) (front : List Send) (x : Send) (back : List Send) : Type 0 where
  pub stream : SentStream p (front ++ x ∷ back)
  pub in_step : InStep (after start (bits past)) x.phase
  pub on_header : Ends (bits past) (header_bits x)

pub record Follows (past rest : List Moment) (p : ℕ) (front : List Send) (x : Send) (back : List Send) (got : List (List Bool)) : Type 0 where
  pub right : Right past p front x back
  pub as_many : length got ≡ length (x ∷ back)
  pub whole : AllByRecursion (λ w. length w ≡ 424) got
  pub first : take 40 (join got) ≡ header_bits x
  pub comes : Begins (bits rest) (drop 40 (join got))

abbrev pub Undamaged : List Send → List (List Bool) → ℕ → Type 0
Undamaged xs got i = slice_index_or got i [] ≡ slice_index_or (map (λ x. bits_of x.line) xs) i []

abbrev pub StaysInStep : List Moment → List Moment → List Send → Type 0
StaysInStep past rest xs = (before later : List Send) (y : Send) → xs ≡ before ++ y ∷ later → 424 * length before ≤ length rest
    → InStep (after start (bits (past ++ take (424 * length before) rest))) y.phase

pub record BurstGains (k : ℕ) (rest : List Moment) (xs : List Send) (got : List (List Bool)) : Type 0 where
  pub pieces : List (List Cell)
  pub count : length pieces ≡ complete (length rest)
  pub gains : Gains k rest (join pieces)
  pub few : (i : ℕ) → length (slice_index_or pieces i []) ≤ 1
  -- a later undamaged cell, if the sink is ready for it
  pub as_sent : (before later : List Send) (y : Send) → xs ≡ before ++ y ∷ later → 1 ≤ length before → length before < complete (length rest)
      → Undamaged xs got (length before) → (y.kind ≡ User → ReadyAt rest (last_bit (length before)) y.cell)
      → slice_index_or pieces (length before) [] ≡ of_connection k (lost y)

abbrev pub BurstSurvived : List Moment → Type 0
BurstSurvived all = (past rest : List Moment) (p : ℕ) (front back : List Send) (x : Send) (got : List (List Bool)) (d : ℕ)
    → all ≡ past ++ rest → (follows : Follows past rest p front x back got) → follows.right.in_step.confidence ≡ 24
    → ((i : ℕ) → (i < d) ⊎ (d + 6 ≤ i) → Undamaged (x ∷ back) got i)
    → StaysInStep past rest (x ∷ back) × ((k : ℕ) → BurstGains k rest (x ∷ back) got)

abbrev pub differing : List Bool → List Bool → ℕ
differing [] w = 0
differing (x ∷ xs) [] = 0
differing (true ∷ xs) (true ∷ ys) = differing xs ys
differing (true ∷ xs) (false ∷ ys) = suc (differing xs ys)
differing (false ∷ xs) (true ∷ ys) = suc (differing xs ys)
differing (false ∷ xs) (false ∷ ys) = differing xs ys

abbrev pub mended_only : HeaderEvents
mended_only = record { header = Some Mended; boundary = None; descrambler = None }

pub record Restored (s : Tracker) (b : Bool) (y : Send) : Type 0 where
  pub events : bit_brings s b ≡ Some (moment.Header mended_only)
  pub in_step : InStep (step s b) y.phase
  pub kept : in_step.kept ≡ Some (record { 0 = y.cell.header })

pub record GoesUp (past rest : List Moment) (y : Send) (payload : List Moment) (n : Moment) : Type 0 where
  pub offers : offered (after start (bits (past ++ payload))) n.bit ≡ user_cell (Some y.cell)
  pub gains : (y.kind ≡ User → ReadyAt rest (last_bit 0) y.cell) → (k : ℕ) → Gains k (payload ++ n ∷ []) (of_connection k (lost y))

-- 384 bits of payload and 40 of the next header follow the right one; m brings the last of them, and n the last of the payload after it
abbrev pub OneBitMended : List Moment → Type 0
OneBitMended all = (past body rest : List Moment) (m : Moment) (p : ℕ) (front back : List Send) (x y : Send)
    → all ≡ past ++ (body ++ m ∷ rest) → length body ≡ 423 → Right past p front x (y ∷ back)
    → differing (drop 384 (bits body ++ m.bit ∷ [])) (header_bits y) ≡ 1
    → Restored (after start (bits (past ++ body))) m.bit y
    × ((payload later : List Moment) (n : Moment) → rest ≡ payload ++ n ∷ later → bits payload ++ n.bit ∷ [] ≡ payload_bits y
    → GoesUp (past ++ (body ++ m ∷ [])) rest y payload n)

abbrev pub TwoBitsDiscarded : List Moment → Type 0
TwoBitsDiscarded all = (past body rest : List Moment) (m : Moment) (p : ℕ) (front back : List Send) (x y : Send)
    → all ≡ past ++ (body ++ m ∷ rest) → 424 ≤ length body → length body ≤ 807
    → SentStream p (front ++ x ∷ (y ∷ back)) → InStep (after start (bits past)) x.phase
    → differing (take 40 (drop 384 (bits body))) (header_bits y) ≡ 2
    → offered (after start (bits (past ++ body))) m.bit ≡ None

pub record Laws (all : List Moment) : Type 0 where
  pub a : CellsPreceded all
  pub b : StreamGained all
  pub six : BurstSurvived all
  pub one : OneBitMended all
  pub two : TwoBitsDiscarded all

abbrev pub LawsThroughout : List Moment → Type 0
LawsThroughout all = (sofar later : List Moment) → all ≡ sofar ++ later → Laws sofar
