-- A text cut into pairs of letters.
use Rattle.std.proofs.Common.{◌≡◌, ℕ, zero, suc, ◌+◌, ◌*◌, ◌<◌, List, [], ◌∷◌, ◌++◌, length, drop, get_or, Some, Option, ap, ap₂, ◌∙◌, arith, below_more}
use Rattle.std.proofs.lemmas.Grind.{common_steps}
use Rattle.std.specs.Simd.{first_chunks}
use Rattle.std.proofs.lemmas.List.{get_or-take, get_or-drop}
use Rattle.hex_digits.specs.Digits.{octet_of, octet_at}

letter_of_pair : (text : List ℕ) (n k i at : ℕ) → k < n → i < 2 → at ≡ 2 * k + i → get_or (get_or (first_chunks 2 n text) k []) i 0 ≡ get_or text at 0
letter_of_pair text zero k i at h two e = absurd (omega arith)
letter_of_pair text (suc n) zero i at h two e = get_or-take 2 text i 0 two ∙ ap (λ j. get_or text j 0) (omega arith)
letter_of_pair text (suc n) (suc k) i at h two e =
    letter_of_pair (drop 2 text) n k i (2 * k + i) (omega arith) two (omega arith)
    ∙ get_or-drop 2 text (2 * k + i) 0
    ∙ ap (λ j. get_or text j 0) (omega arith)

pub octet_of_pair : (text : List ℕ) (n k : ℕ)
    → k < n
    → octet_of (get_or (get_or (first_chunks 2 n text) k []) 0 0) (get_or (get_or (first_chunks 2 n text) k []) 1 0) ≡ octet_at text k
octet_of_pair text n k h =
    ap₂ octet_of (letter_of_pair text n k 0 (2 * k) h (omega arith) (omega arith)) (letter_of_pair text n k 1 (2 * k + 1) h (omega arith) (omega arith))

-- one more octet behind those that a text spells
pub told_more : (told : ℕ → Option ℕ) (xs : List ℕ) (x : ℕ)
    → ((k : ℕ) → k < length xs → told k ≡ Some (get_or xs k 0))
    → Some x ≡ told (length xs)
    → (k : ℕ) → k < length (xs ++ x ∷ []) → told k ≡ Some (get_or (xs ++ x ∷ []) k 0)
told_more told xs x before here k h =
    below_more (λ j. told j ≡ Some (get_or (xs ++ x ∷ []) j 0)) (length xs)
    (λ j l. grind (arith, common_steps, before j l))
    (grind (arith, common_steps, here))
    k
    (grind (arith, common_steps))
