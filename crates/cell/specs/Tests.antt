-- Tests that are computed: over the numbers below a bound, and over a list.
--
--   both a b     a and b
--   below n f    f passes at each number below n
--   every f i l  f passes at each element of l with its place, counted from i
use Rattle.std.specs.Prelude.{ℕ, zero, suc, Bool, true, false, List, [], ◌∷◌}

abbrev pub both : Bool → Bool → Bool
both true b = b
both false b = false

abbrev pub below : ℕ → (ℕ → Bool) → Bool
below zero f = true
below (suc n) f = both (f n) (below n f)

abbrev pub every : {A : Type 0} → (ℕ → A → Bool) → ℕ → List A → Bool
every f i [] = true
every f i (x ∷ xs) = both (f i x) (every f (suc i) xs)
