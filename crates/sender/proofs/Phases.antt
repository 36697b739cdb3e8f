-- A phase that is not 0 is followed by phases that are not 0.
use Rattle.std.proofs.Common.{◌≡◌, ℕ, zero, suc, ◌^◌, ◌<◌, sym, refl, ap, ◌∙◌, add-one, arith}
use Rattle.scrambler.specs.Generator.{step, back, iterate, next_phase}
use Rattle.scrambler.proofs.Steps.{back_step, step_lt, steps_lt, iterate_add}

pub backs_steps : (n p : ℕ) → p < 2 ^ 31 → iterate n back (iterate n step p) ≡ p
unfolding iterate
backs_steps zero p h = refl
backs_steps (suc n) p h =
    let y : ℕ = iterate n step (step p) in
    ap (λ (m : ℕ). iterate m back y) (sym (add-one n)) ∙ sym (iterate_add n 1 back y) ∙ ap back (backs_steps n (step p) (step_lt p)) ∙ back_step p h

backs_zero : (n : ℕ) → iterate n back 0 ≡ 0
unfolding iterate back
backs_zero zero = refl
backs_zero (suc n) = backs_zero n

not_zero : (n : ℕ) → (n ≡ 0 → ⊥) → 0 < n
not_zero zero h = absurd (h refl)
not_zero (suc n) h = omega arith

pub steps_running : (n p : ℕ) → 0 < p → p < 2 ^ 31 → (0 < iterate n step p) × (iterate n step p < 2 ^ 31)
steps_running n p h b = (
  not_zero (iterate n step p) (λ e. let z : p ≡ 0 = sym (backs_steps n p b) ∙ ap (iterate n back) e ∙ backs_zero n in omega arith),
  steps_lt n p b,
)

pub next_running : (p : ℕ) → 0 < p → p < 2 ^ 31 → (0 < next_phase p) × (next_phase p < 2 ^ 31)
next_running p h b = steps_running 424 p h b
