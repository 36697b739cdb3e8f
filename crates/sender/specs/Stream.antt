-- A sent stream: what one sender's accepted sends write from one accepted start to any next one. Making a sender counts as a start at
-- phase 1. Another source may be lent to each send, and another F3 payload be set between two sends.
--
--   Send             one accepted send: the cells that waited in the source lent to it, the phase at which the cell was coded, the cell
--                    that went out, its kind, the 53 octets that were written, and the cells that wait after it
--   Accepted s x s'  the sender s becomes s' by the accepted send x, to which a source of user cells is lent
--   Run s xs s'      the sender s becomes s' by the sends xs, one after the other; another F3 payload of 48 octets may be set between them
--   Begins p s       s is a sender as it is made, with p = 1, or as an accepted start at phase p leaves a sender
--   SentStream p xs  the sends xs are a stream, begun at phase p
--   cells_of xs      the cells of a stream, in order
--   line_of xs       the octets of a stream: those of all its cells joined
--   coded_from p cs  the cells cs, coded one after the other, the first at phase p and each next one 424 steps on
--   lost x           the user cell that the source's list lost to the send x, if it lost one (lost_to: by its kind)
--   sent_users xs    the sent user cells of a stream: what the sources' lists lost to it, in order (that they lost just these is a law)
--   header_on line   the header on the line in the first five of its octets
--   CellLaws         what holds of each cell of a sent stream, by the cells before it
--   Parted           a run of sends that is cut in two: the sender between them
--   StreamLaws       what holds of every sent stream, and of runs of sends
use Rattle.std.specs.Prelude.{◌≡◌, ℕ, ◌*◌, ◌%◌, ◌^◌, ◌<◌, List, [], ◌∷◌, ◌++◌, map, length, slice_index}
use Rattle.std.specs.List.{AllByRecursion}
use Rattle.cell.specs.Header.{kind_of}
use Rattle.cell.specs.Sorting.{header_of}
use Rattle.cell.specs.declared.header.Kind.{Kind}
use Rattle.cell.specs.declared.header.Kind.TheVariants.{Idle, F3, User}
use Rattle.cell.specs.declared.line_header.LineHeader.{LineHeader}
use Rattle.ports.specs.Cell as cells
use Rattle.ports.specs.Cell.{Cell, octets}
use Rattle.scrambler.specs.Coding.{coded, CarriesSamples}
use Rattle.scrambler.specs.Generator.{step, iterate, next_phase, Running}
use Rattle.sender.specs.Sender.{SenderState, Sends, fresh, started, idle_cell, cell_sent, Octets, with_f3}

pub record Send : Type 0 where
  pub waiting : List Cell
  pub phase : ℕ
  pub cell : Cell
  pub kind : Kind
  pub line : List ℕ
  pub left : List Cell

pub record Accepted (s : SenderState) (x : Send) (s' : SenderState) : Type 0 where
  -- a source that keeps its meaning holds user cells only
  pub users : AllByRecursion cells.User x.waiting
  pub phase : x.phase ≡ s.phase
  pub cell : x.cell ≡ cell_sent s x.waiting
  pub sends : Sends s x.waiting x.kind x.line s' x.left

pub data Run : SenderState → List Send → SenderState → Type 0 where
  none : {s : SenderState} → Run s [] s
  more : {s t u : SenderState} {x : Send} {xs : List Send} → Accepted s x t → Run t xs u → Run s (x ∷ xs) u
  f3_set : {s u : SenderState} {f : List ℕ} {xs : List Send} → Octets 48 f → Run (with_f3 s f) xs u → Run s xs u

pub data Begins : ℕ → SenderState → Type 0 where
  made : Begins 1 fresh
  start : (s : SenderState) (p : ℕ) → Running p → Begins p (started s p)

pub record SentStream (p : ℕ) (xs : List Send) : Type 0 where
  pub first : SenderState
  pub last : SenderState
  pub begins : Begins p first
  pub run : Run first xs last

abbrev pub cells_of : List Send → List Cell
cells_of xs = map (λ x. x.cell) xs

abbrev pub line_of : List Send → List ℕ
line_of [] = []
line_of (x ∷ xs) = x.line ++ line_of xs

unfoldable pub coded_from : ℕ → List Cell → List ℕ
coded_from p [] = []
coded_from p (c ∷ cs) = coded p (octets c) ++ coded_from (next_phase p) cs

abbrev pub lost_to : Kind → Cell → List Cell
lost_to Idle c = []
lost_to F3 c = []
lost_to User c = c ∷ []

abbrev pub lost : Send → List Cell
lost x = lost_to x.kind x.cell

abbrev pub sent_users : List Send → List Cell
sent_users [] = []
sent_users (x ∷ xs) = lost x ++ sent_users xs

abbrev pub header_on : List ℕ → LineHeader
header_on line = record { header = record { 0 = header_of line }; hec = slice_index line 4 }

-- of the cell x of a stream that began at phase p, with the sends front before it
pub record CellLaws (p : ℕ) (front : List Send) (x : Send) : Type 0 where
  -- its phase is the start's, moved on by 424 steps for each cell before it, and it is coded at that phase
  pub phase : x.phase ≡ iterate (424 * length front) step p
  pub running : Running x.phase
  pub written : x.line ≡ coded x.phase (octets x.cell)
  -- its payload has 48 octets, and the line carries 53
  pub payload : Octets 48 x.cell.payload
  pub line : Octets 53 x.line
  -- every 432nd cell is an F3 cell, and no other
  pub f3 : (x.kind ≡ F3 → length front % 432 ≡ 0) × (length front % 432 ≡ 0 → x.kind ≡ F3)
  -- it is idle only where no cell waited, and then it is the idle cell
  pub idle : x.kind ≡ Idle → (x.waiting ≡ []) × (x.cell ≡ idle_cell)
  -- the kind is that of its header
  pub kind : (x.cell.header < 2 ^ 32) × (x.kind ≡ kind_of x.cell.header)
  -- its header agrees, and carries the two samples of its phase
  pub header : CarriesSamples (header_on x.line) x.phase
  -- its source's list lost just the cell that went out, where it is a user cell, and else nothing
  pub taken : x.waiting ≡ lost x ++ x.left

pub record Parted (s : SenderState) (xs ys : List Send) (u : SenderState) : Type 0 where
  pub middle : SenderState
  pub front : Run s xs middle
  pub back : Run middle ys u

pub record StreamLaws : Type 0 where
  -- an accepted send, as its contract tells it, is a send of a run
  pub accepted : (s s' : SenderState) (waiting left : List Cell) (kind : Kind) (line : List ℕ) → AllByRecursion cells.User waiting → Sends s waiting kind line s' left
      → Accepted s (record { waiting = waiting; phase = s.phase; cell = cell_sent s waiting; kind = kind; line = line; left = left }) s'
  pub cells : (p : ℕ) (xs : List Send) → SentStream p xs → (front : List Send) (x : Send) (back : List Send) → xs ≡ front ++ x ∷ back → CellLaws p front x
  -- the line carries the cells in order, coded one after the other, in 53 octets each
  pub line : (p : ℕ) (xs : List Send) → SentStream p xs → line_of xs ≡ coded_from p (cells_of xs)
  pub octets : (p : ℕ) (xs : List Send) → SentStream p xs → Octets (53 * length xs) (line_of xs)
  -- two runs of sends, one after the other, are one run, and a run may be cut anywhere
  pub joined : (s t u : SenderState) (xs ys : List Send) → Run s xs t → Run t ys u → Run s (xs ++ ys) u
  pub parted : (s u : SenderState) (xs ys : List Send) → Run s (xs ++ ys) u → Parted s xs ys u
