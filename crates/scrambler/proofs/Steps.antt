-- Steps of the generator: they are linear, one undoes the other, and several may be taken at once.
use Rattle.std.proofs.Common.{◌≡◌, ℕ, zero, suc, ◌+◌, ◌-◌, ◌*◌, ◌/◌, ◌%◌, ◌^◌, ◌<◌, ◌≤◌, sym, ap, ◌∙◌, subst, lt_of_lt_of_le, mod-lt, suc-add, zero-add, arith, lit≤, pow_pos}
use lib.Bits.{bit_xor, bit_and, xor_lt}
use Rattle.cell.specs.Linear.{Linear}
use Rattle.cell.proofs.Linear.{lin_id, lin_xor, lin_comp, lin_shr, lin_shl, lin_mod, lin_and, agree, basis}
use Rattle.cell.proofs.Table.{below_at}
use Rattle.scrambler.specs.Generator.{step, back, iterate, ahead, ago, octet_ahead, Steps}

pub lin_step : Linear step
unfolding step
lin_step =
    lin_xor (λ p. p * 2 % 2 ^ 31) (λ p. bit_xor (p / 2 ^ 27) (p / 2 ^ 30) % 2)
    (lin_mod 31 (λ p. p * 2) (lin_shl 1 (λ p. p) lin_id))
    (lin_mod 1 (λ p. bit_xor (p / 2 ^ 27) (p / 2 ^ 30)) (lin_xor (λ p. p / 2 ^ 27) (λ p. p / 2 ^ 30) (lin_shr 27 (λ p. p) lin_id) (lin_shr 30 (λ p. p) lin_id)))

pub lin_back : Linear back
unfolding back
lin_back =
    lin_xor (λ p. p / 2 % 2 ^ 30) (λ p. bit_xor p (p / 2 ^ 28) % 2 * 2 ^ 30)
    (lin_mod 30 (λ p. p / 2) (lin_shr 1 (λ p. p) lin_id))
    (lin_shl 30 (λ p. bit_xor p (p / 2 ^ 28) % 2) (lin_mod 1 (λ p. bit_xor p (p / 2 ^ 28)) (lin_xor (λ p. p) (λ p. p / 2 ^ 28) lin_id (lin_shr 28 (λ p. p) lin_id))))

pub lin_iterate : (n : ℕ) (f : ℕ → ℕ) → Linear f → Linear (iterate n f)
unfolding iterate
lin_iterate zero f h = lin_id
lin_iterate (suc n) f h = lin_comp (iterate n f) f (lin_iterate n f h) h

pub lin_steps : (n : ℕ) → Linear (iterate n step)
lin_steps n = lin_iterate n step lin_step

pub lin_ahead : (k : ℕ) → Linear (ahead k)
unfolding ahead
lin_ahead k = lin_mod 1 (iterate (k + 1) step) (lin_steps (k + 1))

pub lin_ago : (k : ℕ) → Linear (ago k)
unfolding ago
lin_ago k = lin_mod 1 (iterate (k - 1) back) (lin_iterate (k - 1) back lin_back)

pub lin_octet_ahead : (k : ℕ) → Linear (octet_ahead k)
unfolding octet_ahead
lin_octet_ahead k = lin_mod 8 (iterate (k + 8) step) (lin_steps (k + 8))

pub back_step : (p : ℕ) → p < 2 ^ 31 → back (step p) ≡ p
unfolding step back
back_step p h = basis (λ x. back (step x)) (λ x. x) (lin_comp back step lin_back lin_step) lin_id 31 tt p h

pub step_back : (p : ℕ) → p < 2 ^ 31 → step (back p) ≡ p
unfolding step back
step_back p h = basis (λ x. step (back x)) (λ x. x) (lin_comp step back lin_step lin_back) lin_id 31 tt p h

pub step_lt : (p : ℕ) → step p < 2 ^ 31
unfolding step
step_lt p =
    xor_lt 31 (p * 2 % 2 ^ 31) (bit_xor (p / 2 ^ 27) (p / 2 ^ 30) % 2) (mod-lt (p * 2) (pow_pos 31))
    (lt_of_lt_of_le (mod-lt (bit_xor (p / 2 ^ 27) (p / 2 ^ 30)) (pow_pos 1)) (lit≤ tt))

pub steps_lt : (n p : ℕ) → p < 2 ^ 31 → iterate n step p < 2 ^ 31
unfolding iterate
steps_lt zero p h = h
steps_lt (suc n) p h = steps_lt n (step p) (step_lt p)

pub iterate_add : (m n : ℕ) (f : ℕ → ℕ) (x : ℕ) → iterate n f (iterate m f x) ≡ iterate (m + n) f x
unfolding iterate
iterate_add zero n f x = ap (λ (k : ℕ). iterate k f x) (sym (zero-add n))
iterate_add (suc m) n f x = iterate_add m n f (f x) ∙ ap (λ (k : ℕ). iterate k f x) (sym (suc-add m n))

-- k steps on, wherever the phase came from
pub steps_on : (k p r : ℕ) → r ≡ iterate k step p → Steps k p r
steps_on k p r e n q f = e ∙ ap (iterate k step) f ∙ iterate_add n k step q

-- ---- as the code has them

-- k steps at once: the phase moves up, and k bits come in below
abbrev pub at_once : ℕ → ℕ → ℕ
at_once k p = bit_xor (bit_and (p * 2 ^ k % 2 ^ 32) 0x7fff_ffff) (bit_and (bit_xor (p / 2 ^ (28 - k)) (p / 2 ^ (31 - k))) (1 * 2 ^ k % 2 ^ 32 - 1))

lin_at_once : (k : ℕ) → Linear (at_once k)
lin_at_once k =
    lin_xor (λ p. bit_and (p * 2 ^ k % 2 ^ 32) 0x7fff_ffff) (λ p. bit_and (bit_xor (p / 2 ^ (28 - k)) (p / 2 ^ (31 - k))) (1 * 2 ^ k % 2 ^ 32 - 1))
    (lin_and 0x7fff_ffff (λ p. p * 2 ^ k % 2 ^ 32) (lin_mod 32 (λ p. p * 2 ^ k) (lin_shl k (λ p. p) lin_id)))
    (lin_and (1 * 2 ^ k % 2 ^ 32 - 1) (λ p. bit_xor (p / 2 ^ (28 - k)) (p / 2 ^ (31 - k)))
    (lin_xor (λ p. p / 2 ^ (28 - k)) (λ p. p / 2 ^ (31 - k)) (lin_shr (28 - k) (λ p. p) lin_id) (lin_shr (31 - k) (λ p. p) lin_id)))

-- at each count from 1 to 28, at the powers of two
pub at_once_is : (j p : ℕ) → j < 28 → p < 2 ^ 32 → at_once (suc j) p ≡ iterate (suc j) step p
unfolding iterate step
at_once_is j p h b =
    basis (at_once (suc j)) (iterate (suc j) step) (lin_at_once (suc j)) (lin_steps (suc j)) 32
    (below_at 28 (λ j. agree 32 (at_once (suc j)) (iterate (suc j) step)) tt j h) p b

pub at_once_lt : (j p : ℕ) → j < 28 → p < 2 ^ 32 → at_once (suc j) p < 2 ^ 31
unfolding iterate
at_once_lt j p h b = subst (λ (x : ℕ). x < 2 ^ 31) (sym (at_once_is j p h b)) (steps_lt j (step p) (step_lt p))

-- over the count as the code has it
pub some_at_once : (k p : ℕ) → 0 < k → k ≤ 28 → p < 2 ^ 32 → Steps k p (at_once k p) × (at_once k p < 2 ^ 31)
some_at_once zero p h l b = absurd (let z : ⊥ = omega arith in z)
some_at_once (suc j) p h l b = (steps_on (suc j) p (at_once (suc j) p) (at_once_is j p l b), at_once_lt j p l b)
