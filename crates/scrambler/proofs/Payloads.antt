-- A payload masked three octets at a time, and freed by the same mask.
use Rattle.std.proofs.Common.{◌≡◌, ℕ, zero, suc, ◌+◌, ◌-◌, ◌*◌, ◌/◌, ◌%◌, ◌^◌, ◌<◌, ◌≤◌, List, [], ◌∷◌, ◌++◌, length, take, drop, get_or, flat_map, sym, refl, ap, ◌∙◌, ap₂, arith}
use lib.Bits.{bit_xor, xor_assoc, xor_self, xor_zero_r}
use Rattle.std.specs.Simd.{first_chunks}
use Rattle.std.proofs.lemmas.List.{length-drop}
use Rattle.cell.proofs.Linear.{lin_shr, lin_mod, agree, basis}
use Rattle.cell.proofs.Table.{below_at}
use Rattle.scrambler.specs.Generator.{step, iterate, octet_ahead, Steps}
use Rattle.scrambler.specs.Coding.{masked}
use Rattle.scrambler.proofs.Steps.{lin_steps, lin_octet_ahead, iterate_add}

step_none : (p : ℕ) → p ≡ iterate 0 step p
unfolding iterate
step_none p = refl

pub steps_of : (k p r : ℕ) → Steps k p r → r ≡ iterate (0 + k) step p
steps_of k p r s = s 0 p (step_none p)

-- ---- three octets

-- the octets of 24 steps
word_octet : (j q : ℕ) → j < 3 → q < 2 ^ 32 → iterate 24 step q / 2 ^ (16 - 8 * j) % 2 ^ 8 ≡ octet_ahead (8 * j) q
unfolding octet_ahead iterate step
word_octet j q h b =
    basis (λ q. iterate 24 step q / 2 ^ (16 - 8 * j) % 2 ^ 8) (octet_ahead (8 * j))
    (lin_mod 8 (λ q. iterate 24 step q / 2 ^ (16 - 8 * j)) (lin_shr (16 - 8 * j) (iterate 24 step) (lin_steps 24))) (lin_octet_ahead (8 * j)) 32
    (below_at 3 (λ j. agree 32 (λ q. iterate 24 step q / 2 ^ (16 - 8 * j) % 2 ^ 8) (octet_ahead (8 * j))) tt j h) q b

octet_later : (m k p : ℕ) → octet_ahead k (iterate m step p) ≡ octet_ahead (m + k) p
unfolding octet_ahead
octet_later m k p = ap (λ (x : ℕ). x % 2 ^ 8) (iterate_add m (k + 8) step p ∙ ap (λ (n : ℕ). iterate n step p) (omega arith))

-- one octet of a part
octet_of_word : (word k p j : ℕ) → j < 3 → iterate k step p < 2 ^ 31 → word ≡ iterate (k + 24) step p
    → word / 2 ^ (16 - 8 * j) % 2 ^ 8 ≡ octet_ahead (k + 8 * j) p
octet_of_word word k p j h small is =
    let b : iterate k step p < 2 ^ 32 = omega (arith, small) in
    ap (λ (x : ℕ). x / 2 ^ (16 - 8 * j) % 2 ^ 8) (is ∙ sym (iterate_add k 24 step p))
    ∙ word_octet j (iterate k step p) h b
    ∙ octet_later k (8 * j) p

pub part_masked : (xs : List ℕ) (word k p : ℕ) → length xs ≡ 3 → iterate k step p < 2 ^ 31 → word ≡ iterate (k + 24) step p
    → bit_xor (get_or xs 0 0) (word / 2 ^ 16 % 2 ^ 8) ∷ bit_xor (get_or xs 1 0) (word / 2 ^ 8 % 2 ^ 8) ∷ bit_xor (get_or xs 2 0) (word % 2 ^ 8) ∷ [] ≡ masked k p xs
unfolding masked
part_masked (a ∷ b ∷ c ∷ []) word k p long small is =
    let low : word % 2 ^ 8 ≡ word / 2 ^ (16 - 8 * 2) % 2 ^ 8 = ap (λ (x : ℕ). x % 2 ^ 8) (omega arith) in
    ap₂ ◌∷◌ (ap (bit_xor a) (octet_of_word word k p 0 (omega arith) small is ∙ ap (λ (n : ℕ). octet_ahead n p) (omega arith)))
    (ap₂ ◌∷◌ (ap (bit_xor b) (octet_of_word word k p 1 (omega arith) small is))
    (ap₂ ◌∷◌ (ap (bit_xor c) (low ∙ octet_of_word word k p 2 (omega arith) small is ∙ ap (λ (n : ℕ). octet_ahead n p) (omega arith))) refl))
part_masked [] word k p long small is = absurd (let z : ◌≡◌ {A = ℕ} 0 3 = long in omega arith)
part_masked (a ∷ []) word k p long small is = absurd (let z : ◌≡◌ {A = ℕ} 1 3 = long in omega arith)
part_masked (a ∷ b ∷ []) word k p long small is = absurd (let z : ◌≡◌ {A = ℕ} 2 3 = long in omega arith)
part_masked (a ∷ b ∷ c ∷ d ∷ xs) word k p long small is = absurd (let z : suc (suc (suc (suc (length xs)))) ≡ 3 = long in omega arith)

-- ---- the whole payload

masked_cut : (xs : List ℕ) (k p : ℕ) → 3 ≤ length xs → masked k p (take 3 xs) ++ masked (k + 24) p (drop 3 xs) ≡ masked k p xs
unfolding masked
masked_cut (a ∷ b ∷ c ∷ xs) k p long =
    ap (λ (n : ℕ). bit_xor a (octet_ahead k p) ∷ bit_xor b (octet_ahead (k + 8) p) ∷ bit_xor c (octet_ahead (k + 8 + 8) p) ∷ masked n p xs) (omega arith)
masked_cut [] k p long = absurd (let z : 3 ≤ 0 = long in omega arith)
masked_cut (a ∷ []) k p long = absurd (let z : 3 ≤ 1 = long in omega arith)
masked_cut (a ∷ b ∷ []) k p long = absurd (let z : 3 ≤ 2 = long in omega arith)

-- each part masked from its place on is all of it masked
pub parts_masked : (k : ℕ) (xs : List ℕ) (yss : List (List ℕ)) (m p : ℕ) → length xs ≡ k * 3 → length yss ≡ k
    → ((j : ℕ) → j < k → get_or yss j [] ≡ masked (m + 24 * j) p (get_or (first_chunks 3 k xs) j []))
    → flat_map (λ part. part) yss ≡ masked m p xs
unfolding masked
parts_masked zero [] [] m p long many each = refl
parts_masked zero (x ∷ xs) yss m p long many each = absurd (let z : suc (length xs) ≡ 0 * 3 = long in omega arith)
parts_masked zero [] (y ∷ ys) m p long many each = absurd (let z : suc (length ys) ≡ 0 = many in omega arith)
parts_masked (suc k) xs [] m p long many each = absurd (let z : 0 ≡ suc k = many in omega arith)
parts_masked (suc k) xs (y ∷ ys) m p long many each =
    ap₂ ◌++◌ (each 0 (omega arith) ∙ ap (λ (n : ℕ). masked n p (take 3 xs)) (omega arith))
    (parts_masked k (drop 3 xs) ys (m + 24) p (length-drop 3 xs ∙ omega arith) (omega arith)
    (λ j h. each (suc j) (omega arith) ∙ ap (λ (n : ℕ). masked n p (get_or (first_chunks 3 k (drop 3 xs)) j [])) (omega arith)))
    ∙ masked_cut xs m p (omega arith)

pub length-masked : (xs : List ℕ) (k p : ℕ) → length (masked k p xs) ≡ length xs
unfolding masked
length-masked [] k p = refl
length-masked (x ∷ xs) k p = ap suc (length-masked xs (k + 8) p)

pub masked_twice : (xs : List ℕ) (k p : ℕ) → masked k p (masked k p xs) ≡ xs
unfolding masked
masked_twice [] k p = refl
masked_twice (x ∷ xs) k p =
    ap₂ ◌∷◌ (xor_assoc x (octet_ahead k p) (octet_ahead k p) ∙ ap (bit_xor x) (xor_self (octet_ahead k p)) ∙ xor_zero_r x) (masked_twice xs (k + 8) p)
