-- The sending end: which cell goes out, and what the sender is after it.
--
--   SenderState           what a sender means: the phase of the next cell, its number since the start by its remainder at 432, and
--                         the F3 payload
--   IsRunning s           what holds of every sender: its phase is one that cells are coded at, its number a remainder, its F3 payload whole
--   fresh                 phase 1, number 0, an F3 payload of 48 octets 0x6A
--   started s p           the sender s after a start at phase p: the F3 payload stays
--   kind_sent s cells     the kind of the next cell, where the list cells waits in the source: F3 at the numbers 0, 432, 864 and so on;
--                         else user where a cell waits, and else idle (waiting_kind cells)
--   cell_sent s cells     the next cell: f3_cell s, or else the first that waits or idle_cell (waiting_cell cells)
--   left_waiting s cells  what waits after it: where it is a user cell, the rest of the list, and else the list
--   advanced s            the sender s one cell on: its phase 424 steps on, and its number one on
--   StartWhy p e          why a start at phase p is refused with e
--   StartAnswer s p r s'  what a start at phase p answers, and the sender after it
--   SendWhy place e       why a send into a place is refused with e
--   Octets n xs           xs are n octets, each below 256
--   KindWhy s cells kind  the number of the kind, and why a cell of this kind goes out
--   Sends                 what an accepted send writes, answers and leaves
--   SendAnswer            what a send answers and leaves in sender, source and place, also where it is refused
--   NotAsked kind a b     a source that is a before and b after a cell of this kind is not asked for an F3 cell: b is then the very a
--   SourceAnswer r a b    the same of a send with the answer r, which may be refused: b is then the very a too
--   with_f3 s f           the sender s with the F3 payload f
--   F3Why f e             why the F3 payload f is refused with e
--   F3Answer s f r s'     what setting the F3 payload f answers, and the sender after it
use Rattle.std.specs.Prelude.{◌≡◌, ℕ, ◌+◌, ◌%◌, ◌^◌, ◌<◌, cond, List, [], ◌∷◌, length, replicate, Result, MatchResult, ◌==◌, ◌≢◌}
use Rattle.std.specs.List.{AllByRecursion}
use Rattle.cell.specs.Header.{kind_number}
use Rattle.cell.specs.Refusal.{number_of}
use Rattle.cell.specs.declared.header.Kind.{Kind}
use Rattle.cell.specs.declared.header.Kind.TheVariants.{Idle, F3, User}
use Rattle.cell.specs.declared.refusal.Refusal.{Refusal}
use Rattle.cell.specs.declared.refusal.Refusal.TheVariants.{BadPhase, WrongLength}
use Rattle.ports.specs.Cell.{Cell, octets}
use Rattle.scrambler.specs.Coding.{coded}
use Rattle.scrambler.specs.Generator.{next_phase, Running, NotRunning}

pub record SenderState : Type 0 where
  pub phase : ℕ
  pub number : ℕ
  pub f3 : List ℕ

pub record IsRunning (s : SenderState) : Type 0 where
  pub phase : Running s.phase
  pub number : s.number < 432
  pub f3 : length s.f3 ≡ 48

abbrev pub fresh : SenderState
fresh = record { phase = 1; number = 0; f3 = replicate 48 0x6A }

abbrev pub started : SenderState → ℕ → SenderState
started s p = record s { phase = p; number = 0 }

abbrev pub waiting_kind : List Cell → Kind
waiting_kind [] = Idle
waiting_kind (c ∷ cells) = User

abbrev pub kind_sent : SenderState → List Cell → Kind
kind_sent s cells = cond (s.number == 0) F3 (waiting_kind cells)

abbrev pub idle_cell : Cell
idle_cell = record { header = 0x00000001; payload = replicate 48 0x6A }

abbrev pub f3_cell : SenderState → Cell
f3_cell s = record { header = 0x00000009; payload = s.f3 }

abbrev pub waiting_cell : List Cell → Cell
waiting_cell [] = idle_cell
waiting_cell (c ∷ cells) = c

abbrev pub cell_sent : SenderState → List Cell → Cell
cell_sent s cells = cond (s.number == 0) (f3_cell s) (waiting_cell cells)

abbrev pub rest : List Cell → List Cell
rest [] = []
rest (c ∷ cells) = cells

abbrev pub left_waiting : SenderState → List Cell → List Cell
left_waiting s cells = cond (s.number == 0) cells (rest cells)

abbrev pub advanced : SenderState → SenderState
advanced s = record s { phase = next_phase s.phase; number = (s.number + 1) % 432 }

-- ---- a start

abbrev pub StartWhy : ℕ → Refusal → Type 0
StartWhy p BadPhase = (number_of BadPhase ≡ 3) × NotRunning p
StartWhy p _ = ⊥

abbrev pub StartAnswer : {X : Type 0} → SenderState → ℕ → Result X Refusal → SenderState → Type 0
StartAnswer s p r s' = MatchResult r (λ _. Running p × (s' ≡ started s p)) (λ e. StartWhy p e × (s' ≡ s))

-- ---- a send

abbrev pub Octets : ℕ → List ℕ → Type 0
Octets n xs = (length xs ≡ n) × AllByRecursion (λ x. x < 2 ^ 8) xs

abbrev pub KindWhy : SenderState → List Cell → Kind → Type 0
KindWhy s cells Idle = (kind_number Idle ≡ 0) × (s.number ≢ 0) × (cells ≡ [])
KindWhy s cells F3 = (kind_number F3 ≡ 1) × (s.number ≡ 0)
KindWhy s cells User = (kind_number User ≡ 2) × (s.number ≢ 0) × (cells ≢ [])

abbrev pub SendWhy : List ℕ → Refusal → Type 0
SendWhy place WrongLength = (number_of WrongLength ≡ 4) × (length place ≢ 53)
SendWhy place _ = ⊥

-- one cell goes out: s and cells before it, the kind and the 53 octets, s' and cells' after it
pub record Sends (s : SenderState) (cells : List Cell) (kind : Kind) (line : List ℕ) (s' : SenderState) (cells' : List Cell) : Type 0 where
  pub sort : kind ≡ kind_sent s cells
  pub why : KindWhy s cells kind
  pub payload : Octets 48 (cell_sent s cells).payload
  pub written : line ≡ coded s.phase (octets (cell_sent s cells))
  pub after : s' ≡ advanced s
  pub left : cells' ≡ left_waiting s cells

abbrev pub SendAnswer : SenderState → List Cell → List ℕ → Result Kind Refusal → SenderState → List Cell → List ℕ → Type 0
SendAnswer s cells place r s' cells' place' =
    MatchResult r (λ kind. (length place ≡ 53) × Sends s cells kind place' s' cells')
    (λ e. SendWhy place e × (s' ≡ s) × (cells' ≡ cells) × (place' ≡ place))

abbrev pub NotAsked : {S : Type 0} → Kind → S → S → Type 0
NotAsked kind source source' = kind ≡ F3 → source' ≡ source

abbrev pub SourceAnswer : {S : Type 0} → Result Kind Refusal → S → S → Type 0
SourceAnswer r source source' = MatchResult r (λ kind. NotAsked kind source source') (λ _. source' ≡ source)

-- ---- the setting of the F3 payload

abbrev pub with_f3 : SenderState → List ℕ → SenderState
with_f3 s f = record s { f3 = f }

abbrev pub F3Why : List ℕ → Refusal → Type 0
F3Why f WrongLength = (number_of WrongLength ≡ 4) × (length f ≢ 48)
F3Why f _ = ⊥

abbrev pub F3Answer : {X : Type 0} → SenderState → List ℕ → Result X Refusal → SenderState → Type 0
F3Answer s f r s' = MatchResult r (λ _. Octets 48 f × (s' ≡ with_f3 s f)) (λ e. F3Why f e × (s' ≡ s))
