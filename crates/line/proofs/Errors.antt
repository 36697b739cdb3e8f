-- One and two wrong bits of a header, for lists of bits: one is told and mended, two are past mending.
-- Knows of the check octet that it tells single errors and is past mending at double ones, and nothing of the tracker's states.
--
--   apart x y    1 where the bits x and y differ, else 0
--   error xs ys  the number with ones where the bits xs and ys differ
use Rattle.std.proofs.Common.{◌≡◌, ℕ, suc, ◌+◌, ◌-◌, ◌*◌, ◌/◌, ◌%◌, ◌^◌, ◌<◌, Bool, true, false, eqb, ◌⊎◌, inl, inr, List, [], ◌∷◌, length, sym, refl, ap, ◌∙◌, subst, ap₂, mod-lt, mod-eq_of_lt, one-mul, pow-suc, arith, eqb→eq, pow_pos}
use lib.Bits.{bit_xor, xor_assoc, xor_zero_r, xor_lt, xor_block, xor_shifted, xor_shr, xor_mod}
use lib.Pow.{pow-lt, split}
use Rattle.cell.specs.CheckOctet.{check_octet, syndrome}
use Rattle.cell.specs.LineHeader.{bits40, turned, Codeword}
use Rattle.cell.specs.Verdict.{place, verdict_of}
use Rattle.cell.specs.declared.line_header.LineHeader.{LineHeader}
use Rattle.cell.specs.declared.verdict.Verdict.TheVariants.{OneWrongBit, PastMending}
use Rattle.cell.proofs.Table.{below_at}
use Rattle.cell.proofs.WrongBits.{xor_swap_last, one_told, two_past, turned_twice, bits_of}
use Rattle.scrambler.specs.Coding.{sample8, sample7, samples}
use Rattle.scrambler.proofs.Masks.{ago_lt, sample7_lt}
use Rattle.tracker.specs.Rules.{verdict_at}
use Rattle.tracker.specs.Window.{syndrome_in, freed, header_in, mended_in}
use Rattle.line.specs.Laws.{differing}
use Rattle.line.proofs.Bits.{bit, value, value_from, value_from_lem, value_lt}

-- ---- the numbers of bits that differ

number_cons : (b : Bool) (bs : List Bool) → value_from 0 (b ∷ bs) ≡ bit b * 2 ^ length bs + value_from 0 bs
number_cons b bs = value_from_lem bs (0 * 2 + bit b) ∙ ap (λ (z : ℕ). z * 2 ^ length bs + value_from 0 bs) (let z : 0 * 2 + bit b ≡ bit b = omega arith in z)

abbrev apart : Bool → Bool → ℕ
apart true true = 0
apart true false = 1
apart false true = 1
apart false false = 0

abbrev error : List Bool → List Bool → ℕ
error (x ∷ xs) (y ∷ ys) = apart x y * 2 ^ length xs + error xs ys
error xs ys = 0

apart_xor : (x y : Bool) → bit_xor (bit y) (apart x y) ≡ bit x
apart_xor true true = refl
apart_xor true false = refl
apart_xor false true = refl
apart_xor false false = refl

-- one bit more in front: it is the same or not
abbrev Same : Bool → Bool → List Bool → List Bool → Type 0
Same x y xs ys = (error (x ∷ xs) (y ∷ ys) ≡ error xs ys) × (differing (x ∷ xs) (y ∷ ys) ≡ differing xs ys)

abbrev Other : Bool → Bool → List Bool → List Bool → Type 0
Other x y xs ys = (error (x ∷ xs) (y ∷ ys) ≡ 2 ^ length xs + error xs ys) × (differing (x ∷ xs) (y ∷ ys) ≡ suc (differing xs ys))

same_or_other : (x y : Bool) (xs ys : List Bool) → Same x y xs ys ⊎ Other x y xs ys
same_or_other true true xs ys = inl (omega arith, refl)
same_or_other true false xs ys = inr (omega arith, refl)
same_or_other false true xs ys = inr (omega arith, refl)
same_or_other false false xs ys = inl (omega arith, refl)

error_lt : (xs ys : List Bool) → error xs ys < 2 ^ length xs
error_lt [] ys = omega arith
error_lt (x ∷ xs) [] = pow_pos (suc (length xs))
error_lt (x ∷ xs) (y ∷ ys) =
    let h = error_lt xs ys in
    let p = pow-suc 2 (length xs) in
    elim (same_or_other x y xs ys) [ inl a ↦ let e = a.0 in omega arith | inr a ↦ let e = a.0 in omega arith ]

error_is : (xs ys : List Bool) → length xs ≡ length ys → value_from 0 xs ≡ bit_xor (value_from 0 ys) (error xs ys)
error_is [] [] l = refl
error_is [] (y ∷ ys) l = absurd (omega arith)
error_is (x ∷ xs) [] l = absurd (omega arith)
error_is (x ∷ xs) (y ∷ ys) l =
    let n : ℕ = length xs in
    let same : length ys ≡ n = omega arith in
    number_cons x xs ∙ ap₂ (λ (b v : ℕ). b * 2 ^ n + v) (sym (apart_xor x y)) (error_is xs ys (sym same))
    ∙ sym (xor_block n (bit y) (apart x y) (value_from 0 ys) (error xs ys) (subst (λ (j : ℕ). value_from 0 ys < 2 ^ j) same (value_lt ys)) (error_lt xs ys))
    ∙ ap (λ (z : ℕ). bit_xor z (error (x ∷ xs) (y ∷ ys))) (sym (number_cons y ys ∙ ap (λ (j : ℕ). bit y * 2 ^ j + value_from 0 ys) same))

none_apart : (xs ys : List Bool) → differing xs ys ≡ 0 → error xs ys ≡ 0
none_apart [] ys d = refl
none_apart (x ∷ xs) [] d = refl
none_apart (x ∷ xs) (y ∷ ys) d =
    elim (same_or_other x y xs ys) [ inl a ↦ a.0 ∙ none_apart xs ys (sym a.1 ∙ d) | inr a ↦ absurd (let e = a.1 in omega arith) ]

one_apart : (xs ys : List Bool) → differing xs ys ≡ 1 → (k : ℕ) × (k < length xs) × (error xs ys ≡ 2 ^ k)
one_apart [] ys d = absurd (omega arith)
one_apart (x ∷ xs) [] d = absurd (omega arith)
one_apart (x ∷ xs) (y ∷ ys) d =
    elim (same_or_other x y xs ys) [
      | inl a ↦ let r = one_apart xs ys (sym a.1 ∙ d) in let l = r.1 in (r.0, omega arith, a.0 ∙ r.2)
      | inr a ↦ let e = a.0 in let c = a.1 in let z = none_apart xs ys (omega arith) in (length xs, omega arith, omega arith)
    ]

two_apart : (xs ys : List Bool) → differing xs ys ≡ 2 → (j : ℕ) × (k : ℕ) × (k < j) × (j < length xs) × (error xs ys ≡ 2 ^ j + 2 ^ k)
two_apart [] ys d = absurd (omega arith)
two_apart (x ∷ xs) [] d = absurd (omega arith)
two_apart (x ∷ xs) (y ∷ ys) d =
    elim (same_or_other x y xs ys) [
      | inl a ↦ let r = two_apart xs ys (sym a.1 ∙ d) in let l = r.3 in (r.0, r.1, r.2, omega arith, a.0 ∙ r.4)
      | inr a ↦ let c = a.1 in let r = one_apart xs ys (omega arith) in (length xs, r.0, r.1, omega arith, a.0 ∙ ap (λ (z : ℕ). 2 ^ length xs + z) r.2)
    ]

-- ---- a header freed of its samples

samples_lt : (p : ℕ) → samples p < 2 ^ 8
samples_lt p = let eight : sample8 p < 2 = ago_lt 211 p in let seven : sample7 p < 2 = sample7_lt p in omega arith

-- the freed syndrome is that of the 40 bits with the samples taken out of their check octet
freed_is : (p x : ℕ) → x < 2 ^ 40 → freed p x ≡ syndrome (bit_xor x (samples p) / 2 ^ 8) (bit_xor x (samples p) % 2 ^ 8)
unfolding freed syndrome_in
freed_is p x h =
    let s : ℕ = samples p in
    let small : s < 2 ^ 8 = samples_lt p in
    let none : s / 2 ^ 8 ≡ 0 = omega arith in
    let top : bit_xor x s / 2 ^ 8 ≡ x / 2 ^ 8 % 2 ^ 32 =
    xor_shr x s 8 ∙ ap (bit_xor (x / 2 ^ 8)) none ∙ xor_zero_r (x / 2 ^ 8) ∙ (let e : x / 2 ^ 8 ≡ x / 2 ^ 8 % 2 ^ 32 = omega arith in e) in
    let bottom : bit_xor x s % 2 ^ 8 ≡ bit_xor (x % 2 ^ 8) s = xor_mod x s 8 ∙ ap (bit_xor (x % 2 ^ 8)) (mod-eq_of_lt small) in
    xor_assoc (check_octet (x / 2 ^ 8 % 2 ^ 32)) (x % 2 ^ 8) s ∙ sym (ap₂ syndrome top bottom)

-- 40 bits as a header on the line
abbrev on_line : ℕ → LineHeader
on_line y = record { header = record { 0 = y / 2 ^ 8 }; hec = y % 2 ^ 8 }

codeword : (p x : ℕ) → x < 2 ^ 40 → freed p x ≡ 0 → Codeword (bit_xor x (samples p))
codeword p x h c =
    let small : samples p < 2 ^ 40 = (let l = samples_lt p in omega arith) in
    (xor_lt 40 x (samples p) h small, sym (freed_is p x h) ∙ c)

module _ (p sent came : ℕ) (hs : sent < 2 ^ 40) (hc : came < 2 ^ 40) (clean : freed p sent ≡ 0) where
  one_bit : (i : ℕ) → i < 40 → came ≡ turned sent i → verdict_at p came ≡ OneWrongBit i
  one_bit i b e =
      let y : ℕ = bit_xor came (samples p) in
      let on : bits40 (on_line y) ≡ turned (bit_xor sent (samples p)) i =
      split y 8 ∙ ap (λ (z : ℕ). bit_xor z (samples p)) e ∙ xor_swap_last sent (place i) (samples p) in
      ap verdict_of (freed_is p came hc) ∙ one_told (on_line y) (mod-lt y (pow_pos 8)) (bit_xor sent (samples p)) i (codeword p sent hs clean) b on

  two_bits : (i j : ℕ) → i < 40 → j < 40 → (i ≡ j → ⊥) → came ≡ turned (turned sent i) j → verdict_at p came ≡ PastMending
  two_bits i j b c differ e =
      let y : ℕ = bit_xor came (samples p) in
      let on : bits40 (on_line y) ≡ turned (turned (bit_xor sent (samples p)) i) j =
      split y 8 ∙ ap (λ (z : ℕ). bit_xor z (samples p)) e ∙ xor_swap_last (turned sent i) (place j) (samples p)
      ∙ ap (λ (z : ℕ). turned z j) (xor_swap_last sent (place i) (samples p)) in
      ap verdict_of (freed_is p came hc) ∙ two_past (on_line y) (mod-lt y (pow_pos 8)) (bit_xor sent (samples p)) i j (codeword p sent hs clean) b c differ on

  mended_bit : (i : ℕ) → came ≡ turned sent i → mended_in p came i ≡ header_in p sent
  unfolding mended_in
  mended_bit i e =
      ap (λ (z : ℕ). header_in p (turned z i)) (bits_of came hc ∙ e) ∙ ap (header_in p) (turned_twice sent i)

-- ---- for bits

value_lt_40 : (w : List Bool) → length w ≡ 40 → value_from 0 w < 2 ^ 40
value_lt_40 w l = subst (λ (z : ℕ). value_from 0 w < 2 ^ z) l (value_lt w)

place_is : (i : ℕ) → i < 40 → place i ≡ 2 ^ (39 - i)
place_is i h = eqb→eq (place i) (2 ^ (39 - i)) (below_at 40 (λ i. eqb (place i) (2 ^ (39 - i))) tt i h)

place_of : (k : ℕ) → k < 40 → 2 ^ k ≡ place (39 - k)
place_of k h = ap (λ (z : ℕ). 2 ^ z) (let e : k ≡ 39 - (39 - k) = omega arith in e) ∙ sym (place_is (39 - k) (omega arith))

-- a header sent as s, clean where it is freed of the samples of the phase p, comes as w with one bit wrong
pub one_wrong_lem : (p : ℕ) (s w : List Bool) → length s ≡ 40 → length w ≡ 40 → freed p (value s) ≡ 0 → differing w s ≡ 1
    → (i : ℕ) × (verdict_at p (value w) ≡ OneWrongBit i) × (mended_in p (value w) i ≡ header_in p (value s))
unfolding value
one_wrong_lem p s w ls lw c d =
    let o = one_apart w s d in
    let low : o.0 < 40 = let z = o.1 in omega arith in
    let i : ℕ = 39 - o.0 in
    let e : value_from 0 w ≡ turned (value_from 0 s) i = error_is w s (lw ∙ sym ls) ∙ ap (bit_xor (value_from 0 s)) (o.2 ∙ place_of o.0 low) in (
      i,
      one_bit p (value_from 0 s) (value_from 0 w) (value_lt_40 s ls) (value_lt_40 w lw) c i (omega arith) e,
      mended_bit p (value_from 0 s) (value_from 0 w) (value_lt_40 s ls) (value_lt_40 w lw) c i e,
    )

-- and with two bits wrong
pub two_wrong_lem : (p : ℕ) (s w : List Bool) → length s ≡ 40 → length w ≡ 40 → freed p (value s) ≡ 0 → differing w s ≡ 2 → verdict_at p (value w) ≡ PastMending
unfolding value
two_wrong_lem p s w ls lw c d =
    let o = two_apart w s d in
    let high : o.0 < 40 = let z = o.3 in omega arith in
    let below : o.1 < o.0 = o.2 in
    let i : ℕ = 39 - o.0 in
    let j : ℕ = 39 - o.1 in
    let two : 2 ^ o.0 + 2 ^ o.1 ≡ bit_xor (2 ^ o.0) (2 ^ o.1) =
    ap (λ (z : ℕ). z + 2 ^ o.1) (sym (one-mul (2 ^ o.0))) ∙ sym (xor_shifted 1 o.0 (2 ^ o.1) (pow-lt below)) ∙ ap (λ (z : ℕ). bit_xor z (2 ^ o.1)) (one-mul (2 ^ o.0)) in
    let e : value_from 0 w ≡ turned (turned (value_from 0 s) i) j =
    error_is w s (lw ∙ sym ls) ∙ ap (bit_xor (value_from 0 s)) (o.4 ∙ two ∙ ap₂ bit_xor (place_of o.0 high) (place_of o.1 (omega arith)))
    ∙ sym (xor_assoc (value_from 0 s) (place i) (place j)) in
    two_bits p (value_from 0 s) (value_from 0 w) (value_lt_40 s ls) (value_lt_40 w lw) c i j (omega arith) (omega arith) (λ z. omega arith) e
