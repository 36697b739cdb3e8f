-- The syndromes of single errors: none is 0, they differ, and the sum of two of them is none of them.
use Rattle.std.proofs.Common.{◌≡◌, ℕ, ◌-◌, ◌<◌, Bool, not, T, eqb, List, map, get_or, sym, ap, ◌∙◌, subst, ap₂, zero-add, arith, eqb→eq}
use native.Mathlib.Decide.{dec_lt}
use lib.Bits.{bit_xor, xor_comm, xor_self}
use Rattle.std.specs.List.{range_with_len}
use Rattle.std.proofs.lemmas.List.FromFn.{get_or-map-range_with_len}
use Rattle.cell.specs.Polynomial.{remainder}
use Rattle.cell.specs.Tests.{both, below}
use Rattle.cell.specs.Verdict.{error_at, NoSuch}
use Rattle.cell.specs.VerdictTest.{power_x}
use Rattle.cell.proofs.Table.{both_left, both_right, below_at, not_eqb}

-- the test over all pairs of places, on the list of the 40 syndromes
errors : List ℕ
errors = map error_at (range_with_len 0 40)

error_listed : (i : ℕ) → i < 40 → get_or errors i 0 ≡ error_at i
unfolding errors
error_listed i h = get_or-map-range_with_len error_at 0 40 i i 0 h (zero-add i)

no_such : List ℕ → ℕ → Bool
no_such l s = both (not (eqb s 0)) (below 40 (λ k. not (eqb s (get_or l k 0))))

pairs : List ℕ → Bool
pairs l = below 40 (λ j. below j (λ i. no_such l (bit_xor (get_or l i 0) (get_or l j 0))))

all_pairs : T (pairs errors)
unfolding pairs no_such errors error_at remainder
all_pairs = tt

pair_none : (i j : ℕ) → i < j → j < 40 → NoSuch (bit_xor (error_at i) (error_at j))
unfolding pairs no_such
pair_none i j h k =
    let s : ℕ = bit_xor (error_at i) (error_at j) in
    let at : T (no_such errors s) =
    subst (λ (x : ℕ). T (no_such errors x)) (ap₂ bit_xor (error_listed i (omega arith)) (error_listed j k))
    (below_at j (λ i. no_such errors (bit_xor (get_or errors i 0) (get_or errors j 0)))
    (below_at 40 (λ j. below j (λ i. no_such errors (bit_xor (get_or errors i 0) (get_or errors j 0)))) all_pairs j k) i h) in
    let not0 : T (not (eqb s 0)) = both_left (not (eqb s 0)) (below 40 (λ k. not (eqb s (get_or errors k 0)))) at in
    let rest : T (below 40 (λ k. not (eqb s (get_or errors k 0)))) =
    both_right (not (eqb s 0)) (below 40 (λ k. not (eqb s (get_or errors k 0)))) at in (
      not_eqb s 0 not0,
      λ m l e. not_eqb s (get_or errors m 0) (below_at 40 (λ k. not (eqb s (get_or errors k 0))) rest m l) (e ∙ sym (error_listed m l)),
    )

pub two_none : (i j : ℕ) → i < 40 → j < 40 → (i ≡ j → ⊥) → NoSuch (bit_xor (error_at i) (error_at j))
two_none i j h k apart =
    elim (dec_lt i j) [
      | yes l ↦ pair_none i j l k
      | no l ↦ subst NoSuch (xor_comm (error_at j) (error_at i)) (pair_none j i (omega arith) h)
    ]

pub errors_differ : (i j : ℕ) → i < 40 → j < 40 → error_at i ≡ error_at j → i ≡ j
errors_differ i j h k e =
    elim (dec_lt i j) [
      | yes l ↦ absurd ((pair_none i j l k).0 (ap (λ (x : ℕ). bit_xor x (error_at j)) e ∙ xor_self (error_at j)))
      | no l ↦ elim (dec_lt j i) [
        | yes m ↦ absurd ((pair_none j i m h).0 (ap (λ (x : ℕ). bit_xor (error_at j) x) e ∙ xor_self (error_at j)))
        | no m ↦ omega arith
      ]
    ]

pub error_not_0 : (i : ℕ) → i < 40 → error_at i ≡ 0 → ⊥
unfolding error_at remainder
error_not_0 i h = not_eqb (error_at i) 0 (below_at 40 (λ i. not (eqb (error_at i) 0)) tt i h)

-- the test of the table takes the powers of x in their place
pub power_is : (i : ℕ) → i < 40 → power_x (39 - i) ≡ error_at i
unfolding error_at remainder
power_is i h = eqb→eq (power_x (39 - i)) (error_at i) (below_at 40 (λ i. eqb (power_x (39 - i)) (error_at i)) tt i h)
