-- The record of a user cell: making one, and writing it out.
--
--   cell_of u                       the cell that the record holds
--   MakeWhy header payload e        why there is no user cell of this header and payload
--   Makes header payload r          what making one answers
--   IsUserPayload header payload p  p is the payload, of 48 octets, and the header is not reserved
--   WriteWhy place e                why a cell is not written into a place
--   Writes u place r place'         what writing one answers, and the place after it
use Rattle.std.specs.Prelude.{◌≡◌, ℕ, true, false, List, length, Result, MatchResult, ◌≢◌}
use Rattle.cell.specs.Header.{reserved}
use Rattle.cell.specs.Refusal.{number_of}
use Rattle.cell.specs.declared.refusal.Refusal.{Refusal}
use Rattle.cell.specs.declared.refusal.Refusal.TheVariants.{WrongLength, ReservedHeader}
use Rattle.ports.specs.Cell.{Cell, octets}
use Rattle.ports.specs.declared.user_cell.UserCell.{UserCell}

abbrev pub cell_of : UserCell → Cell
cell_of u = record { header = u.header.0; payload = u.payload }

abbrev pub MakeWhy : ℕ → List ℕ → Refusal → Type 0
MakeWhy header payload WrongLength = (number_of WrongLength ≡ 4) × (length payload ≢ 48)
MakeWhy header payload ReservedHeader = (number_of ReservedHeader ≡ 5) × (length payload ≡ 48) × (reserved header ≡ true)
MakeWhy header payload _ = ⊥

pub record IsUserPayload (header : ℕ) (payload p : List ℕ) : Type 0 where
  pub same : p ≡ payload
  pub whole : length payload ≡ 48
  pub user : reserved header ≡ false

abbrev pub Makes : ℕ → List ℕ → Result UserCell Refusal → Type 0
Makes header payload r = MatchResult r (λ u. cell_of u ≡ record { header = header; payload = payload }) (λ e. MakeWhy header payload e)

abbrev pub WriteWhy : List ℕ → Refusal → Type 0
WriteWhy place WrongLength = (number_of WrongLength ≡ 4) × (length place ≢ 52)
WriteWhy place _ = ⊥

abbrev pub Writes : {X : Type 0} → UserCell → List ℕ → Result X Refusal → List ℕ → Type 0
Writes u place r place' = MatchResult r (λ _. (length place ≡ 52) × (place' ≡ octets (cell_of u))) (λ e. WriteWhy place e × (place' ≡ place))
