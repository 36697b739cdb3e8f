-- A ring of user cells, as a source and as a sink.
--
--   ring_cells ring      the cells that it holds, the oldest first: those that wait in it
--   ring_users ring      each of them is a user cell
--   ring_state ring      as a sink it serves all user headers, and all connections share its free places
--   ring_bounded ring k  its space is below 2^31
--   RingPut              what a put leaves in the ring: the cell behind all others, and as many places; or, refused, the very same ring
--   RingTake             a take leaves as many places, so that one more is free; or, refused, the very same ring
use Rattle.std.specs.Prelude.{◌≡◌, ℕ, ◌-◌, ◌^◌, ◌<◌, not, List, [], ◌∷◌, ◌++◌, map, length, Result, MatchResult}
use Rattle.std.specs.List.{AllByRecursion}
use Rattle.std.proofs.Common.{lit<}
use Rattle.std.proofs.Math.Nat.{sub-le, le_trans, lt_of_le_of_lt}
use Rattle.cell.specs.declared.refusal.Refusal.{Refusal}
use Rattle.cell.specs.Header.{reserved}
use Rattle.ring.specs.declared.ring.Ring.{Ring}
use Rattle.ring.specs.Ring.{held, places}
use Rattle.ports.specs.declared.user_cell.UserCell.{UserCell}
use Rattle.ports.specs.Cell.{Cell, User, of_connection}
use Rattle.ports.specs.Sink.{SinkState}
use Rattle.ports.specs.UserCell.{cell_of}

abbrev pub ring_cells : Ring UserCell → List Cell
ring_cells ring = map cell_of (held ring)

all_users : (us : List UserCell) → AllByRecursion User (map cell_of us)
all_users [] = tt
all_users (u ∷ us) = (record { fits = u.fits; user = u.user; whole = u.whole }, all_users us)

pub ring_users : (ring : Ring UserCell) → AllByRecursion User (ring_cells ring)
ring_users ring = all_users (held ring)

abbrev pub ring_state : Ring UserCell → SinkState
ring_state ring = record {
  held = λ k. of_connection k (ring_cells ring);
  space = λ _. places ring - length (held ring);
  serves = λ h. not (reserved h);
}

pub ring_bounded : (ring : Ring UserCell) (k : ℕ) → (ring_state ring).space k < 2 ^ 31
unfolding places
ring_bounded ring k = lt_of_le_of_lt (le_trans (sub-le (places ring) (length (held ring))) ring.small) (lit< tt)

abbrev pub RingPut : {X : Type 0} → Ring UserCell → ℕ → List ℕ → Result X Refusal → Ring UserCell → Type 0
RingPut ring header payload r ring' =
    MatchResult r (λ _. (ring_cells ring' ≡ ring_cells ring ++ record { header = header; payload = payload } ∷ []) × (places ring' ≡ places ring))
    (λ _. ring' ≡ ring)

abbrev pub RingTake : {X : Type 0} → Ring UserCell → Result X Refusal → Ring UserCell → Type 0
RingTake ring r ring' = MatchResult r (λ _. places ring' ≡ places ring) (λ _. ring' ≡ ring)
