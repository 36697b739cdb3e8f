-- What the definitions on phases say of an endless sequence of bits that obeys the recurrence.
use Rattle.std.proofs.Common.{◌≡◌, ℕ, zero, suc, ◌+◌, ◌-◌, ◌*◌, ◌/◌, ◌%◌, ◌^◌, ◌<◌, sym, ap, ◌∙◌, ap₂, add-zero, add-suc, mod-eq_of_lt, mul_assoc, pow-suc, add-one, arith}
use lib.Arith.{digits_div, digits_mod}
use lib.Bits.{bit_xor, xor_mod, xor_shifted, xor_comm, xor_assoc, xor_self, xor_zero_r}
use Rattle.std.proofs.lemmas.Nat.{mod_low, shr-shr}
use Rattle.scrambler.specs.Generator.{step, back, iterate, ahead, ago, octet_ahead}
use Rattle.scrambler.specs.Coding.{header_mask}
use Rattle.scrambler.specs.Sequence.{Generated, bits_at, phase_at}
use Rattle.scrambler.proofs.Masks.{ago_32_sum}
use Rattle.scrambler.proofs.Steps.{back_step}

module _ (u : ℕ → ℕ) (g : Generated u) where
  bits_lt : (n k : ℕ) → bits_at u n k < 2 ^ k
  unfolding bits_at
  bits_lt n zero = omega arith
  bits_lt n (suc k) = omega (arith, bits_lt n k, g.bit (n + k), pow-suc 2 k)

  -- the first bit apart
  bits_first : (n k : ℕ) → bits_at u n (suc k) ≡ u n * 2 ^ k + bits_at u (n + 1) k
  unfolding bits_at
  bits_first n zero = omega (arith, ap u (add-zero n))
  bits_first n (suc k) =
      ap (λ (x : ℕ). x * 2 + u (n + suc k)) (bits_first n k)
      ∙ (let e : u (n + suc k) ≡ u (n + 1 + k) = ap u (omega arith) in
      let f : u n * 2 ^ suc k ≡ u n * 2 ^ k * 2 = ap (λ (x : ℕ). u n * x) (pow-suc 2 k) ∙ sym (mul_assoc (u n) (2 ^ k) 2) in
      omega arith)

  bits_last : (n k : ℕ) → bits_at u n (suc k) % 2 ≡ u (n + k)
  unfolding bits_at
  bits_last n k = digits_mod (bits_at u n k) (g.bit (n + k))

  bits_half : (n k : ℕ) → bits_at u n (suc k) / 2 ≡ bits_at u n k
  unfolding bits_at
  bits_half n k = digits_div (bits_at u n k) (g.bit (n + k))

  -- the first j of j + k bits
  bits_shr : (n j k : ℕ) → bits_at u n (j + k) / 2 ^ k ≡ bits_at u n j
  bits_shr n j zero = ap (λ (m : ℕ). bits_at u n m / 1) (add-zero j) ∙ (omega arith)
  bits_shr n j (suc k) =
      ap₂ (λ (m d : ℕ). bits_at u n m / 2 ^ d) (add-suc j k) (sym (add-one k) ∙ (omega arith))
      ∙ sym (shr-shr (bits_at u n (suc (j + k))) 1 k) ∙ ap (λ (x : ℕ). x / 2 ^ k) (bits_half n (j + k)) ∙ bits_shr n j k

  bits_more : (m k x : ℕ) → x ≡ u (m + k) → bits_at u m k * 2 + x ≡ bits_at u m (suc k)
  unfolding bits_at
  bits_more m k x e = ap (λ (y : ℕ). bits_at u m k * 2 + y) e

  pub step_at : (n : ℕ) → step (phase_at u n) ≡ phase_at u (n + 1)
  unfolding step
  step_at n =
      let p : ℕ = phase_at u n in
      let q : ℕ = bits_at u (n + 1) 30 in
      let ql : q * 2 < 2 ^ 31 = omega (arith, bits_lt (n + 1) 30) in
      let first : p ≡ u n * 2 ^ 30 + q = bits_first n 30 in
      let dbl : p * 2 ≡ u n * 2 ^ 31 + q * 2 = omega arith in
      let up : p * 2 % 2 ^ 31 ≡ q * 2 = ap (λ (x : ℕ). x % 2 ^ 31) dbl ∙ mod_low (u n) 31 (q * 2) ql in
      let three : p / 2 ^ 27 % 2 ≡ u (n + 3) = ap (λ (x : ℕ). x % 2) (bits_shr n 4 27) ∙ bits_last n 3 in
      let none : p / 2 ^ 30 % 2 ≡ u n = ap (λ (x : ℕ). x % 2) (bits_shr n 1 30) ∙ bits_last n 0 ∙ ap u (add-zero n) in
      let new : bit_xor (p / 2 ^ 27) (p / 2 ^ 30) % 2 ≡ u (n + 31) = xor_mod (p / 2 ^ 27) (p / 2 ^ 30) 1 ∙ ap₂ bit_xor three none ∙ sym (g.rule n) in
      ap₂ bit_xor up new ∙ xor_shifted q 1 (u (n + 31)) (g.bit (n + 31))
      ∙ bits_more (n + 1) 30 (u (n + 31)) (ap u (omega arith))

  pub steps_at : (k n : ℕ) → iterate k step (phase_at u n) ≡ phase_at u (n + k)
  unfolding iterate
  steps_at zero n = ap (phase_at u) (sym (add-zero n))
  steps_at (suc k) n = ap (iterate k step) (step_at n) ∙ steps_at k (n + 1) ∙ ap (phase_at u) (omega arith)

  pub back_at : (n : ℕ) → back (phase_at u (n + 1)) ≡ phase_at u n
  back_at n = ap back (sym (step_at n)) ∙ back_step (phase_at u n) (bits_lt n 31)

  pub backs_at : (k n : ℕ) → iterate k back (phase_at u (n + k)) ≡ phase_at u n
  unfolding iterate
  backs_at zero n = ap (phase_at u) (add-zero n)
  backs_at (suc k) n = ap (λ (m : ℕ). iterate k back (back (phase_at u m))) (omega arith) ∙ ap (iterate k back) (back_at (n + k)) ∙ backs_at k n

  pub ahead_at : (n k : ℕ) → ahead k (phase_at u n) ≡ u (n + 31 + k)
  unfolding ahead
  ahead_at n k = ap (λ (x : ℕ). x % 2) (steps_at (k + 1) n) ∙ bits_last (n + (k + 1)) 30 ∙ ap u (omega arith)

  pub ago_at : (n k : ℕ) → ago (k + 1) (phase_at u (n + k)) ≡ u (n + 30)
  unfolding ago
  ago_at n k =
      let e : k + 1 - 1 ≡ k = omega arith in
      ap (λ (j : ℕ). iterate j back (phase_at u (n + k)) % 2) e ∙ ap (λ (x : ℕ). x % 2) (backs_at k n) ∙ bits_last n 30

  pub mask_at : (n : ℕ) → header_mask (phase_at u (n + 1)) ≡ bits_at u n 32
  unfolding header_mask
  mask_at n =
      let p : ℕ = phase_at u (n + 1) in
      let one : p % 2 ≡ u (n + 31) = bits_last (n + 1) 30 ∙ ap u (omega arith) in
      let other : p / 2 ^ 28 % 2 ≡ u (n + 3) = ap (λ (x : ℕ). x % 2) (bits_shr (n + 1) 3 28) ∙ bits_last (n + 1) 2 ∙ ap u (omega arith) in
      let top : ago 32 p ≡ u n =
      sym (ago_32_sum p (omega (arith, bits_lt (n + 1) 31))) ∙ xor_mod p (p / 2 ^ 28) 1 ∙ ap₂ bit_xor one other
      ∙ ap (λ (x : ℕ). bit_xor x (u (n + 3))) (g.rule n ∙ xor_comm (u (n + 3)) (u n))
      ∙ xor_assoc (u n) (u (n + 3)) (u (n + 3)) ∙ ap (bit_xor (u n)) (xor_self (u (n + 3))) ∙ xor_zero_r (u n) in
      let whole : p % 2 ^ 31 ≡ p = mod-eq_of_lt (bits_lt (n + 1) 31) in
      ap₂ (λ (x y : ℕ). x * 2 ^ 31 + y) top whole ∙ sym (bits_first n 31)

  -- j bits, and k more
  bits_split : (n j k : ℕ) → bits_at u n (j + k) ≡ bits_at u n j * 2 ^ k + bits_at u (n + j) k
  unfolding bits_at
  bits_split n j zero = ap (bits_at u n) (add-zero j) ∙ omega arith
  bits_split n j (suc k) =
      ap (bits_at u n) (add-suc j k) ∙ ap (λ (x : ℕ). x * 2 + u (n + (j + k))) (bits_split n j k)
      ∙ (let e : u (n + (j + k)) ≡ u (n + j + k) = ap u (omega arith) in
      let f : bits_at u n j * 2 ^ suc k ≡ bits_at u n j * 2 ^ k * 2 = ap (λ (x : ℕ). bits_at u n j * x) (pow-suc 2 k) ∙ sym (mul_assoc (bits_at u n j) (2 ^ k) 2) in
      omega arith)

  pub octet_at_lem : (n k : ℕ) → octet_ahead k (phase_at u n) ≡ bits_at u (n + 31 + k) 8
  unfolding octet_ahead
  octet_at_lem n k =
      let m : ℕ = n + (k + 8) in
      ap (λ (x : ℕ). x % 2 ^ 8) (steps_at (k + 8) n)
      ∙ ap (λ (x : ℕ). x % 2 ^ 8) (bits_split m 23 8) ∙ mod_low (bits_at u m 23) 8 (bits_at u (m + 23) 8) (bits_lt (m + 23) 8)
      ∙ ap (λ (x : ℕ). bits_at u x 8) (omega arith)
