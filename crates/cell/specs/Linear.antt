-- Functions on words of bits that go through exclusive or. Such a function is known by its values at the powers of two.
--
--   Linear f  f of an exclusive or is the exclusive or of f's values
use Rattle.std.specs.Prelude.{◌≡◌, ℕ, bit_xor}

abbrev pub Linear : (ℕ → ℕ) → Type 0
Linear f = (a b : ℕ) → f (bit_xor a b) ≡ bit_xor (f a) (f b)
