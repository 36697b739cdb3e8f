-- The sample word, read on the sequence of bits: its samples lie 212 steps apart.
use Rattle.std.proofs.Common.{◌≡◌, ℕ, zero, suc, ◌+◌, ◌-◌, ◌*◌, ◌/◌, ◌%◌, ◌^◌, ◌<◌, sym, ap, ◌∙◌, div-one, arith, shr-shr}
use lib.Arith.{digits_div, digits_mod}
use lib.Bits.{bit_xor, xor_assoc, xor_shifted}
use lib.Pow.{field, mod-mod-pow}
use Rattle.scrambler.specs.Generator.{ago, before}
use Rattle.scrambler.specs.Coding.{sample8, sample7}
use Rattle.scrambler.specs.Finder.{samples_of, sample_word}
use Rattle.scrambler.specs.Sequence.{Generated, phase_at}
use Rattle.scrambler.proofs.Masks.{ago_lt, sample7_lt}
use Rattle.scrambler.proofs.Sequences.{ahead_at, ago_at, backs_at}

-- two bits below a number
last_bit : (x a b : ℕ) → b < 2 → (x * 4 + (a * 2 + b)) / 2 ^ 0 % 2 ≡ b
last_bit x a b h =
    ap (λ (n : ℕ). n % 2) (div-one (x * 4 + (a * 2 + b))) ∙ ap (λ (n : ℕ). n % 2) (omega arith) ∙ digits_mod (x * 2 + a) h

bit_before : (x a b : ℕ) → a < 2 → b < 2 → (x * 4 + (a * 2 + b)) / 2 ^ 1 % 2 ≡ a
bit_before x a b h k =
    let e : x * 4 + (a * 2 + b) ≡ (x * 2 + a) * 2 + b = omega arith in
    ap (λ (n : ℕ). n % 2) (ap (λ (n : ℕ). n / 2) e ∙ digits_div (x * 2 + a) k) ∙ digits_mod x h

bits_above : (x a b j : ℕ) → a < 2 → b < 2 → (x * 4 + (a * 2 + b)) / 2 ^ suc (suc j) % 2 ≡ x / 2 ^ j % 2
bits_above x a b j h k =
    let n : ℕ = x * 4 + (a * 2 + b) in
    let e : suc (suc j) ≡ 2 + j = omega arith in
    let q : n / 2 ^ 2 ≡ x = omega arith in
    ap (λ (m : ℕ). n / 2 ^ m % 2) e ∙ ap (λ (m : ℕ). m % 2) (sym (shr-shr n 2 j)) ∙ ap (λ (m : ℕ). m / 2 ^ j % 2) q

pub samples_sum : (c p : ℕ) → samples_of (suc c) p ≡ samples_of c (before p) * 4 + (sample8 p * 2 + sample7 p)
unfolding samples_of
samples_sum c p =
    xor_assoc (samples_of c (before p) * 2 ^ 2) (sample8 p * 2 ^ 1) (sample7 p)
    ∙ ap (bit_xor (samples_of c (before p) * 2 ^ 2)) (xor_shifted (sample8 p) 1 (sample7 p) (sample7_lt p))
    ∙ xor_shifted (samples_of c (before p)) 2 (sample8 p * 2 + sample7 p) (omega (arith, ago_lt 211 p, sample7_lt p))

module _ (u : ℕ → ℕ) (g : Generated u) where
  one_more : (c a : ℕ) → samples_of (suc c) (phase_at u (a + 424 * suc c))
      ≡ samples_of c (phase_at u (a + 424 * c)) * 4 + (sample8 (phase_at u (a + 424 * suc c)) * 2 + sample7 (phase_at u (a + 424 * suc c)))
  one_more c a =
      let p : ℕ = phase_at u (a + 424 * suc c) in
      let back : before p ≡ phase_at u (a + 424 * c) =
      ap (λ (m : ℕ). before (phase_at u m)) (omega arith) ∙ backs_at u g 424 (a + 424 * c) in
      samples_sum c p ∙ ap (λ (q : ℕ). samples_of c q * 4 + (sample8 p * 2 + sample7 p)) back

  -- bit j of the samples of c cells, counted from the last
  samples_at : (c a j : ℕ) → j < 2 * c → samples_of c (phase_at u (a + 424 * c)) / 2 ^ j % 2 ≡ u (a + 424 * c + 32 - 212 * j)
  samples_at zero a j h = absurd (let z : ⊥ = omega arith in z)
  samples_at (suc c) a zero h =
      let p : ℕ = phase_at u (a + 424 * suc c) in
      ap (λ (n : ℕ). n / 2 ^ 0 % 2) (one_more c a) ∙ last_bit (samples_of c (phase_at u (a + 424 * c))) (sample8 p) (sample7 p) (sample7_lt p)
      ∙ ahead_at u g (a + 424 * suc c) 1 ∙ ap u (omega arith)
  samples_at (suc c) a (suc zero) h =
      let p : ℕ = phase_at u (a + 424 * suc c) in
      ap (λ (n : ℕ). n / 2 ^ 1 % 2) (one_more c a)
      ∙ bit_before (samples_of c (phase_at u (a + 424 * c))) (sample8 p) (sample7 p) (ago_lt 211 p) (sample7_lt p)
      ∙ ap (λ (m : ℕ). ago 211 (phase_at u m)) (omega arith) ∙ ago_at u g (a + 424 * c + 214) 210 ∙ ap u (omega arith)
  samples_at (suc c) a (suc (suc j)) h =
      let p : ℕ = phase_at u (a + 424 * suc c) in
      ap (λ (n : ℕ). n / 2 ^ suc (suc j) % 2) (one_more c a)
      ∙ bits_above (samples_of c (phase_at u (a + 424 * c))) (sample8 p) (sample7 p) j (ago_lt 211 p) (sample7_lt p)
      ∙ samples_at c a j (omega arith) ∙ ap u (omega arith)

  pub sampled_at : (n j : ℕ) → j < 31 → sample_word (phase_at u (n + 6784)) / 2 ^ j % 2 ≡ u (n + 6784 + 31 + 1 - 212 * j)
  unfolding sample_word
  sampled_at n j h =
      let x : ℕ = samples_of 16 (phase_at u (n + 6784)) in
      let k : ℕ = 30 - j in
      let e : 31 ≡ k + 1 + j = omega arith in
      ap (λ (m : ℕ). x % 2 ^ m / 2 ^ j % 2) e ∙ ap (λ (m : ℕ). m % 2) (field x (k + 1) j) ∙ mod-mod-pow (x / 2 ^ j) k 1
      ∙ samples_at 16 n j (omega arith) ∙ ap u (omega arith)
