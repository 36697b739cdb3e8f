-- Each phase lies on a sequence of bits that obeys the recurrence: the bit at a place is the oldest one of the phase there.
use Rattle.std.proofs.Common.{◌≡◌, ℕ, zero, suc, ◌+◌, ◌-◌, ◌*◌, ◌/◌, ◌%◌, ◌^◌, ◌<◌, ◌≤◌, sym, refl, ap, ◌∙◌, ap₂, add-one, arith}
use lib.Bits.{bit_xor, xor_lt}
use Rattle.cell.proofs.Fields.{level}
use Rattle.cell.proofs.Linear.{lin_id, lin_xor, lin_shr, lin_mod, agree, basis}
use Rattle.cell.proofs.Table.{below_at}
use Rattle.scrambler.specs.Generator.{step, back, iterate}
use Rattle.scrambler.specs.Sequence.{Generated, bits_at, phase_at, OnSequence}
use Rattle.scrambler.proofs.Steps.{lin_steps, steps_lt, step_back, iterate_add}

abbrev oldest : ℕ → ℕ → ℕ
oldest q n = iterate n step q / 2 ^ 30

-- three steps on the oldest bit is the fourth, and 31 steps on it is the sum of the two
recurs : (x : ℕ) → x < 2 ^ 31 → oldest x 31 ≡ bit_xor (oldest x 3) (oldest x 0)
unfolding iterate step
recurs x h =
    basis (λ x. oldest x 31) (λ x. bit_xor (oldest x 3) (oldest x 0)) (lin_shr 30 (iterate 31 step) (lin_steps 31))
    (lin_xor (λ x. oldest x 3) (λ x. oldest x 0) (lin_shr 30 (iterate 3 step) (lin_steps 3)) (lin_shr 30 (iterate 0 step) (lin_steps 0))) 31 tt x h

-- k steps on the oldest bit is bit 30 - k
oldest_is : (k x : ℕ) → k < 31 → x < 2 ^ 31 → oldest x k ≡ x / 2 ^ (30 - k) % 2
unfolding iterate step
oldest_is k x h b =
    basis (λ x. oldest x k) (λ x. x / 2 ^ (30 - k) % 2) (lin_shr 30 (iterate k step) (lin_steps k))
    (lin_mod 1 (λ x. x / 2 ^ (30 - k)) (lin_shr (30 - k) (λ x. x) lin_id)) 31
    (below_at 31 (λ k. agree 31 (λ x. oldest x k) (λ x. x / 2 ^ (30 - k) % 2)) tt k h) x b

back_lt : (p : ℕ) → back p < 2 ^ 31
unfolding back
back_lt p = xor_lt 31 (p / 2 % 2 ^ 30) (bit_xor p (p / 2 ^ 28) % 2 * 2 ^ 30) (omega arith) (omega arith)

backs_lt : (n p : ℕ) → p < 2 ^ 31 → iterate n back p < 2 ^ 31
unfolding iterate
backs_lt zero p h = h
backs_lt (suc n) p h = backs_lt n (back p) (back_lt p)

steps_backs : (n p : ℕ) → p < 2 ^ 31 → iterate n step (iterate n back p) ≡ p
unfolding iterate
steps_backs zero p h = refl
steps_backs (suc n) p h =
    let x : ℕ = iterate n back (back p) in
    ap (λ (m : ℕ). iterate m step x) (sym (add-one n)) ∙ sym (iterate_add n 1 step x) ∙ ap step (steps_backs n (back p) (back_lt p)) ∙ step_back p h

module _ (q : ℕ) (small : q < 2 ^ 31) where
  later : (n k : ℕ) → oldest q (n + k) ≡ oldest (iterate n step q) k
  later n k = ap (λ (x : ℕ). x / 2 ^ 30) (sym (iterate_add n k step q))

  generated : Generated (oldest q)
  unfolding iterate
  generated =
      record {
        bit = λ n. (let b = steps_lt n q small in omega arith);
        rule = λ n. later n 31 ∙ recurs (iterate n step q) (steps_lt n q small)
            ∙ ap₂ bit_xor (sym (later n 3)) refl;
      }

  -- the first k bits from a place are the top ones of the phase there
  top_bits : (n k : ℕ) → k ≤ 31 → bits_at (oldest q) n k ≡ iterate n step q / 2 ^ (31 - k)
  unfolding bits_at
  top_bits n zero h = let b = steps_lt n q small in omega arith
  top_bits n (suc k) h =
      let x : ℕ = iterate n step q in
      let e : 31 - k ≡ 30 - k + 1 = omega arith in
      let d : 31 - suc k ≡ 30 - k = omega arith in
      ap₂ (λ (y z : ℕ). y * 2 + z) (top_bits n k (omega arith)) (later n k ∙ oldest_is k x (omega arith) (steps_lt n q small))
      ∙ ap (λ (m : ℕ). x / 2 ^ m * 2 + x / 2 ^ (30 - k) % 2) e ∙ level x 1 (30 - k) ∙ ap (λ (m : ℕ). x / 2 ^ m) (sym d)

  phase_is : (n : ℕ) → phase_at (oldest q) n ≡ iterate n step q
  phase_is n = top_bits n 31 (omega arith) ∙ omega arith

pub each_on : (p m : ℕ) → p < 2 ^ 31 → OnSequence p m
each_on p m h =
    let q : ℕ = iterate m back p in
    record { u = oldest q; generated = generated q (backs_lt m p h); here = phase_is q (backs_lt m p h) m ∙ steps_backs m p h }
