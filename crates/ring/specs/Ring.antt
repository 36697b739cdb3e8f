-- A ring, by the list that it holds and its number of places.
--
--   held ring              the elements held, the oldest first
--   places ring            how many it can hold
--   PushWhy ring e         why a push is refused with e
--   PopWhy ring e          why a pop, or a look at the oldest, is refused with e
--   Pushed ring x ring'    x went in behind all others
--   Pushes ring x r ring'  what a push of x answers, and the ring after it
--   Shows ring r           what a look at the oldest answers
--   Popped ring x ring'    x was the oldest and went out
--   Pops ring r ring'      what a pop answers, and the ring after it
use Rattle.std.specs.Prelude.{◌≡◌, ℕ, ◌<◌, List, [], ◌∷◌, ◌++◌, length, drop, Result, MatchResult}
use Rattle.cell.specs.Refusal.{number_of}
use Rattle.cell.specs.declared.refusal.Refusal.{Refusal}
use Rattle.cell.specs.declared.refusal.Refusal.TheVariants.{NoSpace, NoneWaiting}
use Rattle.ring.specs.Window.{window}
use Rattle.ring.specs.declared.ring.Ring.{Ring}

unfoldable pub held : {X : Type 0} → Ring X → List X
held ring = window ring.slots.now ring.first ring.count

unfoldable pub places : {X : Type 0} → Ring X → ℕ
places ring = length ring.slots.now

abbrev pub PushWhy : {X : Type 0} → Ring X → Refusal → Type 0
PushWhy ring NoSpace = (number_of NoSpace ≡ 7) × (length (held ring) ≡ places ring)
PushWhy ring _ = ⊥

abbrev pub PopWhy : {X : Type 0} → Ring X → Refusal → Type 0
PopWhy ring NoneWaiting = (number_of NoneWaiting ≡ 8) × (held ring ≡ [])
PopWhy ring _ = ⊥

pub record Pushed {X : Type 0} (ring : Ring X) (x : X) (ring' : Ring X) : Type 0 where
  pub free : length (held ring) < places ring
  pub held : held ring' ≡ held ring ++ x ∷ []
  pub places : places ring' ≡ places ring

abbrev pub Pushes : {X Y : Type 0} → Ring X → X → Result Y Refusal → Ring X → Type 0
Pushes ring x r ring' = MatchResult r (λ _. Pushed ring x ring') (λ e. PushWhy ring e × (ring' ≡ ring))

abbrev pub Shows : {X : Type 0} → Ring X → Result X Refusal → Type 0
Shows ring r = MatchResult r (λ x. held ring ≡ x ∷ drop 1 (held ring)) (λ e. PopWhy ring e)

pub record Popped {X : Type 0} (ring : Ring X) (x : X) (ring' : Ring X) : Type 0 where
  pub held : held ring ≡ x ∷ held ring'
  pub places : places ring' ≡ places ring

abbrev pub Pops : {X : Type 0} → Ring X → Result X Refusal → Ring X → Type 0
Pops ring r ring' = MatchResult r (λ x. Popped ring x ring') (λ e. PopWhy ring e × (ring' ≡ ring))
