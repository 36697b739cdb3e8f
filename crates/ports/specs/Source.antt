-- What a source answers, by the list of cells that wait in it.
--
--   TakeWhy cells place e              why a look or a take into `place` is refused with e
--   Taken cells place rest             a cell waits first, `place` holds its octets, and `rest` waits behind it
--   Looks cells place r place'         what a look answers, and the place after it
--   Takes cells place r place' cells'  what a take answers, and the place and the waiting cells after it
use Rattle.std.specs.Prelude.{◌≡◌, ℕ, List, [], ◌∷◌, length, Result, MatchResult, ◌≢◌}
use Rattle.cell.specs.Refusal.{number_of}
use Rattle.cell.specs.declared.refusal.Refusal.{Refusal}
use Rattle.cell.specs.declared.refusal.Refusal.TheVariants.{WrongLength, NoneWaiting}
use Rattle.ports.specs.Cell.{Cell, octets}

abbrev pub TakeWhy : List Cell → List ℕ → Refusal → Type 0
TakeWhy cells place WrongLength = (number_of WrongLength ≡ 4) × (length place ≢ 52)
TakeWhy cells place NoneWaiting = (number_of NoneWaiting ≡ 8) × (length place ≡ 52) × (cells ≡ [])
TakeWhy cells place _ = ⊥

pub record Taken (cells : List Cell) (place : List ℕ) (rest : List Cell) : Type 0 where
  pub cell : Cell
  pub first : cells ≡ cell ∷ rest
  pub written : place ≡ octets cell

abbrev pub Looks : {X : Type 0} → List Cell → List ℕ → Result X Refusal → List ℕ → Type 0
Looks cells place r place' =
    MatchResult r (λ _. (length place ≡ 52) × ((rest : List Cell) × Taken cells place' rest))
    (λ e. TakeWhy cells place e × (place' ≡ place))

abbrev pub Takes : {X : Type 0} → List Cell → List ℕ → Result X Refusal → List ℕ → List Cell → Type 0
Takes cells place r place' cells' =
    MatchResult r (λ _. (length place ≡ 52) × Taken cells place' cells')
    (λ e. TakeWhy cells place e × (place' ≡ place) × (cells' ≡ cells))
