-- The worked values, by one test that is computed over the whole table.
use Rattle.std.proofs.Common.{◌≡◌, ℕ, ◌%◌, ◌^◌, ◌<◌, Bool, true, false, cond, T, eqb, ltb, List, [], ◌∷◌, length, take, Ok, Err, Result, sym, refl, ap, ◌∙◌, ap₂, mod-lt, arith, eqb→eq, ltb→lt, pow_pos, le-ltb}
use Rattle.std.specs.List.{AllByRecursion}
use Rattle.cell.specs.CheckOctet.{check_octet, syndrome}
use Rattle.cell.specs.Polynomial.{remainder}
use Rattle.cell.specs.Tests.{both}
use Rattle.cell.specs.VerdictTest.{ruled}
use Rattle.cell.specs.declared.refusal.Refusal.{Refusal}
use Rattle.cell.specs.declared.refusal.Refusal.TheVariants.{BadSampleWord}
use Rattle.cell.proofs.Table.{both_left, both_right}
use Rattle.cell.proofs.Verdicts.{ruled_value}
use Rattle.scrambler.specs.Generator.{step, back, iterate, ahead, ago, octet_ahead, next_phase}
use Rattle.scrambler.specs.Coding.{header_mask, masked, coded}
use Rattle.scrambler.specs.Finder.{samples_of, sample_word, times_rows, phase_rows, found}
use Rattle.scrambler.specs.WorkedValues.{Worked, has_check_octet, received, followed_by, idle_starts, samples_give, idle_cell, Holds, worked_values, WorkedValuesHold}
use Rattle.scrambler.proofs.Rows.{one_phase_lem}

same : List ℕ → List ℕ → Bool
same [] [] = true
same [] (y ∷ ys) = false
same (x ∷ xs) [] = false
same (x ∷ xs) (y ∷ ys) = both (eqb x y) (same xs ys)

same_is : (xs ys : List ℕ) → T (same xs ys) → xs ≡ ys
unfolding same
same_is [] [] t = refl
same_is [] (y ∷ ys) t = absurd t
same_is (x ∷ xs) [] t = absurd t
same_is (x ∷ xs) (y ∷ ys) t =
    ap₂ ◌∷◌ (eqb→eq x y (both_left (eqb x y) (same xs ys) t)) (same_is xs ys (both_right (eqb x y) (same xs ys) t))

test : Worked → Bool
test (has_check_octet h c) = eqb (check_octet h) c
test (received h c s v) = both (eqb (syndrome h c) s) (ruled s v)
test (followed_by p q) = eqb (next_phase p) q
test (idle_starts p xs) = same (take (length xs) (coded p idle_cell)) xs
test (samples_give w p) = both (ltb p (2 ^ 31)) (eqb (samples_of 16 p) w)

-- the phase of samples is the one that has them
found_is : (w p : ℕ) → p < 2 ^ 31 → samples_of 16 p ≡ w → found (w % 2 ^ 31) ≡ Ok p
unfolding sample_word
found_is w p h e =
    let x : ℕ = w % 2 ^ 31 in
    let b : x < 2 ^ 31 = mod-lt w (pow_pos 31) in
    let small : ltb 0x7fff_ffff x ≡ false = le-ltb 0x7fff_ffff x (omega arith) in
    let pick : Bool → Result ℕ Refusal = λ t. cond t (Err BadSampleWord) (Ok (times_rows phase_rows x)) in
    ap pick small ∙ ap Ok (sym ((one_phase_lem x b).2 p h (ap (λ (y : ℕ). y % 2 ^ 31) e)))

holds : (l : Worked) → T (test l) → Holds l
unfolding test
holds (has_check_octet h c) t = eqb→eq (check_octet h) c t
holds (received h c s v) t =
    (eqb→eq (syndrome h c) s (both_left (eqb (syndrome h c) s) (ruled s v) t), ruled_value s v (both_right (eqb (syndrome h c) s) (ruled s v) t))
holds (followed_by p q) t = eqb→eq (next_phase p) q t
holds (idle_starts p xs) t = same_is (take (length xs) (coded p idle_cell)) xs t
holds (samples_give w p) t =
    let e : samples_of 16 p ≡ w = eqb→eq (samples_of 16 p) w (both_right (ltb p (2 ^ 31)) (eqb (samples_of 16 p) w) t) in
    (e, found_is w p (ltb→lt p (2 ^ 31) (both_left (ltb p (2 ^ 31)) (eqb (samples_of 16 p) w) t)) e)

all : List Worked → Bool
all [] = true
all (l ∷ ls) = both (test l) (all ls)

all_hold : (ls : List Worked) → T (all ls) → AllByRecursion Holds ls
unfolding all
all_hold [] t = tt
all_hold (l ∷ ls) t = (holds l (both_left (test l) (all ls) t), all_hold ls (both_right (test l) (all ls) t))

pub worked_values_hold : WorkedValuesHold
unfolding all test same remainder header_mask masked coded samples_of octet_ahead ahead ago iterate step back
worked_values_hold = all_hold worked_values tt
