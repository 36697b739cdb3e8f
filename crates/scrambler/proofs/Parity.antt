-- The sum of the bits of a number: it is linear, it is what counting the ones gives, and it computes.
use Rattle.std.proofs.Common.{◌≡◌, ℕ, zero, suc, ◌+◌, ◌/◌, ◌%◌, ◌^◌, ◌<◌, T, sym, refl, ap, ◌∙◌, subst, ap₂, lt_of_le_of_lt, add-one, arith, shr_lt}
use lib.Arith.{lt-one}
use lib.Bits.{bit_xor, bit_and, and_le_l, xor_mod, xor_add_and}
use lib.Count.{ones, ones_step, ones_in}
use Rattle.cell.specs.Linear.{Linear}
use Rattle.cell.proofs.Linear.{lin_id, lin_xor, lin_comp, lin_shr, lin_mod, lin_and, agree, basis}

-- the sum of the low k bits of n
unfoldable pub parity : ℕ → ℕ → ℕ
parity zero n = 0
parity (suc k) n = bit_xor (n % 2) (parity k (n / 2))

pub lin_parity : (k : ℕ) → Linear (parity k)
unfolding parity
lin_parity zero = λ a b. refl
lin_parity (suc k) =
    lin_xor (λ n. n % 2) (λ n. parity k (n / 2)) (lin_mod 1 (λ n. n) lin_id) (lin_comp (parity k) (λ n. n / 2) (lin_parity k) (lin_shr 1 (λ n. n) lin_id))

-- the sum of the bits that a row picks from a word
pub lin_row : (row : ℕ) → Linear (λ w. parity 32 (bit_and w row))
lin_row row = lin_comp (parity 32) (λ w. bit_and w row) (lin_parity 32) (lin_and row (λ w. w) lin_id)

mod_two : (a b : ℕ) → (a + b) % 2 ≡ bit_xor (a % 2) (b % 2)
mod_two a b = let e : (a + b) % 2 ≡ bit_xor a b % 2 = omega (arith, xor_add_and a b) in e ∙ xor_mod a b 1

mod_mod : (a : ℕ) → a % 2 % 2 ≡ a % 2
mod_mod a = omega arith

ones_parity : (k n : ℕ) → n < 2 ^ k → ones n % 2 ≡ parity k n
unfolding parity ones ones_in
ones_parity zero n h = ap (λ (x : ℕ). ones x % 2) (lt-one h)
ones_parity (suc k) n h =
    ap (λ (x : ℕ). x % 2) (ones_step n) ∙ mod_two (n % 2) (ones (n / 2))
    ∙ ap₂ bit_xor (mod_mod n) (ones_parity k (n / 2) (shr_lt k 1 (subst (λ (x : ℕ). n < 2 ^ x) (sym (add-one k)) h)))

-- as the code has it
pub counted_parity : (w row : ℕ) → w < 2 ^ 32 → ones (bit_and w row) % 2 ≡ parity 32 (bit_and w row)
counted_parity w row h = ones_parity 32 (bit_and w row) (lt_of_le_of_lt (and_le_l w row) h)

-- a row whose bits of a word add up to f at each power of two does so at each word
pub row_sums : (row : ℕ) (f : ℕ → ℕ) → Linear f → T (agree 32 (λ w. parity 32 (bit_and w row)) f)
    → (w : ℕ) → w < 2 ^ 32 → ones (bit_and w row) % 2 ≡ f w
row_sums row f l t w h = counted_parity w row h ∙ basis (λ w. parity 32 (bit_and w row)) f (lin_row row) l 32 t w h
