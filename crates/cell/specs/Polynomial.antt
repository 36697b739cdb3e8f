-- Polynomials over GF(2) as numbers: bit i is the coefficient of x^i, so that bit_xor is their sum and their difference.
--
--   divisor           x^8 + x^2 + x + 1
--   coefficient i p   the coefficient of x^i in p
--   product n p q     p times q, where p has a degree below n
--   remainder n p     long division of p, of a degree below n + 8, by the divisor: what is left
--   Division p q r    p is q times the divisor plus r, where r has a degree below 8 and q one below 32, since p has one below 40
--   TheRemainder p r  r is the one remainder of p by the divisor
use Rattle.std.specs.Prelude.{◌≡◌, ℕ, zero, suc, ◌+◌, ◌*◌, ◌/◌, ◌%◌, ◌^◌, ◌<◌, bit_xor}

abbrev pub divisor : ℕ
divisor = 0b1_0000_0111

abbrev pub coefficient : ℕ → ℕ → ℕ
coefficient i p = p / 2 ^ i % 2

unfoldable pub product : ℕ → ℕ → ℕ → ℕ
product zero p q = 0
product (suc n) p q = bit_xor (product n p q) (coefficient n p * (q * 2 ^ n))

-- from the top down: where x^(n + 8) stands in p, x^n times the divisor is taken from p
unfoldable pub remainder : ℕ → ℕ → ℕ
remainder zero p = p
remainder (suc n) p = remainder n (bit_xor p (coefficient (8 + n) p * (divisor * 2 ^ n)))

abbrev pub Division : ℕ → ℕ → ℕ → Type 0
Division p q r = (q < 2 ^ 32) × (r < 2 ^ 8) × (p ≡ bit_xor (product 32 q divisor) r)

abbrev pub TheRemainder : ℕ → ℕ → Type 0
TheRemainder p r = ((q : ℕ) × Division p q r) × ((q s : ℕ) → Division p q s → s ≡ r)
