-- Functions on numbers that go through exclusive or, and that two of them agree below 2 ^ n where they agree at 2 ^ 0 .. 2 ^ (n - 1).
use Rattle.std.proofs.Common.{◌≡◌, ℕ, zero, suc, ◌+◌, ◌*◌, ◌/◌, ◌%◌, ◌^◌, ◌<◌, Bool, true, T, eqb, ◌⊎◌, sym, refl, ap, ◌∙◌, subst, ap₂, inl, inr, add-zero, mod-lt, zero-lt-suc, mul_comm, div-lt_iff_lt-mul, one-mul, pow-suc, zero-mul, arith, eqb→eq, pow_pos}
use lib.Arith.{bin_ind}
use lib.Pow.{split}
use lib.Bits.{bit_xor, bit_and, xor_self, xor_comm, xor_assoc, xor_shr, xor_mod, xor_block, xor_shifted, and_shr, and_mod}
use Rattle.cell.specs.Linear.{Linear}
use Rattle.cell.specs.Tests.{both}
use Rattle.cell.proofs.Table.{both_left, both_right}

pub lin_zero : (f : ℕ → ℕ) → Linear f → f 0 ≡ 0
lin_zero f h = ap f (sym (xor_self 0)) ∙ h 0 0 ∙ xor_self (f 0)

-- (a xor b) xor (c xor d) = (a xor c) xor (b xor d)
pub xor_swap : (a b c d : ℕ) → bit_xor (bit_xor a b) (bit_xor c d) ≡ bit_xor (bit_xor a c) (bit_xor b d)
xor_swap a b c d =
    xor_assoc a b (bit_xor c d)
    ∙ ap (bit_xor a) (sym (xor_assoc b c d) ∙ ap (λ x. bit_xor x d) (xor_comm b c) ∙ xor_assoc c b d)
    ∙ sym (xor_assoc a c (bit_xor b d))

pub lin_id : Linear (λ x. x)
lin_id a b = refl

pub lin_zero_word : Linear (λ x. 0)
lin_zero_word a b = refl

pub lin_xor : (f g : ℕ → ℕ) → Linear f → Linear g → Linear (λ x. bit_xor (f x) (g x))
lin_xor f g hf hg a b = ap₂ bit_xor (hf a b) (hg a b) ∙ xor_swap (f a) (f b) (g a) (g b)

pub lin_comp : (f g : ℕ → ℕ) → Linear f → Linear g → Linear (λ x. f (g x))
lin_comp f g hf hg a b = ap f (hg a b) ∙ hf (g a) (g b)

pub lin_shr : (k : ℕ) (f : ℕ → ℕ) → Linear f → Linear (λ x. f x / 2 ^ k)
lin_shr k f h a b = ap (λ (x : ℕ). x / 2 ^ k) (h a b) ∙ xor_shr (f a) (f b) k

pub lin_mod : (k : ℕ) (f : ℕ → ℕ) → Linear f → Linear (λ x. f x % 2 ^ k)
lin_mod k f h a b = ap (λ (x : ℕ). x % 2 ^ k) (h a b) ∙ xor_mod (f a) (f b) k

xor_shl : (a b k : ℕ) → bit_xor a b * 2 ^ k ≡ bit_xor (a * 2 ^ k) (b * 2 ^ k)
xor_shl a b k =
    sym (add-zero (bit_xor a b * 2 ^ k))
    ∙ sym (xor_block k a b 0 0 (pow_pos k) (pow_pos k))
    ∙ ap₂ bit_xor (add-zero (a * 2 ^ k)) (add-zero (b * 2 ^ k))

pub lin_shl : (k : ℕ) (f : ℕ → ℕ) → Linear f → Linear (λ x. f x * 2 ^ k)
lin_shl k f h a b = ap (λ (x : ℕ). x * 2 ^ k) (h a b) ∙ xor_shl (f a) (f b) k

-- a bit times a constant
two_cases : (q : ℕ) → q < 2 → (q ≡ 0) ⊎ (q ≡ 1)
two_cases zero h = inl refl
two_cases (suc zero) h = inr refl
two_cases (suc (suc q)) h = absurd (let z : ⊥ = omega arith in z)

bit_times : (c p q : ℕ) → p < 2 → q < 2 → bit_xor p q * c ≡ bit_xor (p * c) (q * c)
bit_times c p q hp hq =
    elim (two_cases p hp) [
      | inl e ↦ ap (λ (z : ℕ). bit_xor z q * c) e ∙ sym (ap (λ (z : ℕ). bit_xor (z * c) (q * c)) e ∙ ap (λ (z : ℕ). bit_xor z (q * c)) (zero-mul c))
      | inr e ↦ elim (two_cases q hq) [
        | inl d ↦ ap₂ (λ (y z : ℕ). bit_xor y z * c) e d
            ∙ sym (ap₂ (λ (y z : ℕ). bit_xor (y * c) (z * c)) e d ∙ xor_comm (1 * c) (0 * c) ∙ ap (λ (z : ℕ). bit_xor z (1 * c)) (zero-mul c))
        | inr d ↦ ap₂ (λ (y z : ℕ). bit_xor y z * c) e d ∙ zero-mul c
            ∙ sym (ap₂ (λ (y z : ℕ). bit_xor (y * c) (z * c)) e d ∙ xor_self (1 * c))
      ]
    ]

pub lin_bit : (c : ℕ) (f : ℕ → ℕ) → Linear f → Linear (λ x. f x % 2 * c)
lin_bit c f h a b =
    ap (λ (z : ℕ). z % 2 * c) (h a b) ∙ ap (λ (z : ℕ). z * c) (xor_mod (f a) (f b) 1)
    ∙ bit_times c (f a % 2) (f b % 2) (mod-lt (f a) (zero-lt-suc 1)) (mod-lt (f b) (zero-lt-suc 1))

-- a mask
by_halves : (a b : ℕ) → a / 2 ≡ b / 2 → a % 2 ≡ b % 2 → a ≡ b
by_halves a b p q = sym (split a 1) ∙ ap₂ (λ (x y : ℕ). x * 2 + y) p q ∙ split b 1

digit_and : (c p q : ℕ) → c < 2 → p < 2 → q < 2 → bit_and (bit_xor p q) c ≡ bit_xor (bit_and p c) (bit_and q c)
digit_and zero zero q hc hp hq = refl
digit_and zero (suc zero) zero hc hp hq = refl
digit_and zero (suc zero) (suc zero) hc hp hq = refl
digit_and zero (suc zero) (suc (suc q)) hc hp hq = absurd (let z : ⊥ = omega arith in z)
digit_and zero (suc (suc p)) q hc hp hq = absurd (let z : ⊥ = omega arith in z)
digit_and (suc zero) zero q hc hp hq = refl
digit_and (suc zero) (suc zero) zero hc hp hq = refl
digit_and (suc zero) (suc zero) (suc zero) hc hp hq = refl
digit_and (suc zero) (suc zero) (suc (suc q)) hc hp hq = absurd (let z : ⊥ = omega arith in z)
digit_and (suc zero) (suc (suc p)) q hc hp hq = absurd (let z : ⊥ = omega arith in z)
digit_and (suc (suc c)) p q hc hp hq = absurd (let z : ⊥ = omega arith in z)

two_pos : 0 < 2
two_pos = zero-lt-suc 1

pub and_xor : (a b c : ℕ) → bit_and (bit_xor a b) c ≡ bit_xor (bit_and a c) (bit_and b c)
and_xor =
    bin_ind (λ (n : ℕ). (b c : ℕ) → bit_and (bit_xor n b) c ≡ bit_xor (bit_and n c) (bit_and b c)) (λ b c. refl)
    (λ n ih b c. by_halves (bit_and (bit_xor n b) c) (bit_xor (bit_and n c) (bit_and b c))
    (and_shr (bit_xor n b) c 1 ∙ ap (λ (x : ℕ). bit_and x (c / 2)) (xor_shr n b 1) ∙ ih (b / 2) (c / 2)
    ∙ sym (xor_shr (bit_and n c) (bit_and b c) 1 ∙ ap₂ bit_xor (and_shr n c 1) (and_shr b c 1)))
    (and_mod (bit_xor n b) c 1 ∙ ap (λ (x : ℕ). bit_and x (c % 2)) (xor_mod n b 1)
    ∙ digit_and (c % 2) (n % 2) (b % 2) (mod-lt c two_pos) (mod-lt n two_pos) (mod-lt b two_pos)
    ∙ sym (xor_mod (bit_and n c) (bit_and b c) 1 ∙ ap₂ bit_xor (and_mod n c 1) (and_mod b c 1))))

pub lin_and : (c : ℕ) (f : ℕ → ℕ) → Linear f → Linear (λ x. bit_and (f x) c)
lin_and c f h a b = ap (λ (x : ℕ). bit_and x c) (h a b) ∙ and_xor (f a) (f b) c

-- the test at 2 ^ 0 .. 2 ^ (n - 1), and what it says
abbrev pub agree : ℕ → (ℕ → ℕ) → (ℕ → ℕ) → Bool
agree zero f g = true
agree (suc n) f g = both (eqb (f (2 ^ n)) (g (2 ^ n))) (agree n f g)

top_lt : (n a : ℕ) → a < 2 ^ suc n → a / 2 ^ n < 2
top_lt n a h = (div-lt_iff_lt-mul {k = 2 ^ n} (pow_pos n)).1 (subst (λ (x : ℕ). a < x) (pow-suc 2 n ∙ mul_comm (2 ^ n) 2) h)

module _ (f g : ℕ → ℕ) (hf : Linear f) (hg : Linear g) where
  pub basis : (n : ℕ) → T (agree n f g) → (a : ℕ) → a < 2 ^ n → f a ≡ g a
  basis zero t a h =
      let z : a ≡ 0 = omega arith in
      ap f z ∙ lin_zero f hf ∙ sym (ap g z ∙ lin_zero g hg)
  basis (suc n) t a h =
      let low : f (a % 2 ^ n) ≡ g (a % 2 ^ n) = basis n (both_right (eqb (f (2 ^ n)) (g (2 ^ n))) (agree n f g) t) (a % 2 ^ n) (mod-lt a (pow_pos n)) in
      let one : f (2 ^ n) ≡ g (2 ^ n) = eqb→eq (f (2 ^ n)) (g (2 ^ n)) (both_left (eqb (f (2 ^ n)) (g (2 ^ n))) (agree n f g) t) in
      let parts : a ≡ bit_xor (a / 2 ^ n * 2 ^ n) (a % 2 ^ n) = sym (xor_shifted (a / 2 ^ n) n (a % 2 ^ n) (mod-lt a (pow_pos n)) ∙ split a n) in
      let top : f (a / 2 ^ n * 2 ^ n) ≡ g (a / 2 ^ n * 2 ^ n) =
      elim (two_cases (a / 2 ^ n) (top_lt n a h)) [
        | inl e ↦ ap (λ (q : ℕ). f (q * 2 ^ n)) e ∙ ap f (zero-mul (2 ^ n)) ∙ lin_zero f hf
            ∙ sym (ap (λ (q : ℕ). g (q * 2 ^ n)) e ∙ ap g (zero-mul (2 ^ n)) ∙ lin_zero g hg)
        | inr e ↦ ap (λ (q : ℕ). f (q * 2 ^ n)) e ∙ ap f (one-mul (2 ^ n)) ∙ one
            ∙ sym (ap (λ (q : ℕ). g (q * 2 ^ n)) e ∙ ap g (one-mul (2 ^ n)))
      ] in
      ap f parts ∙ hf (a / 2 ^ n * 2 ^ n) (a % 2 ^ n)
      ∙ ap₂ bit_xor top low
      ∙ sym (ap g parts ∙ hg (a / 2 ^ n * 2 ^ n) (a % 2 ^ n))
