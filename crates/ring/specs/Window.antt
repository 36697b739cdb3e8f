-- Elements that stand in places used in a circle: the first place comes after the last.
--
--   turned xs first        the list of places xs, read from place `first` on and round to it again
--   window xs first count  the `count` elements that stand from place `first` on
--   around n i             the place of number i among n, where i is below twice n
use Rattle.std.specs.Prelude.{ℕ, ◌-◌, cond, List, ◌++◌, take, drop, nat_lt}

unfoldable pub turned : {X : Type 0} → List X → ℕ → List X
turned xs first = drop first xs ++ take first xs

unfoldable pub window : {X : Type 0} → List X → ℕ → ℕ → List X
window xs first count = take count (turned xs first)

abbrev pub around : ℕ → ℕ → ℕ
around n i = cond (nat_lt i n) i (i - n)
