-- What wrong bits do to a syndrome, and that turning a wrong bit again restores what was sent.
use Rattle.std.proofs.Common.{◌≡◌, ℕ, ◌*◌, ◌/◌, ◌%◌, ◌^◌, ◌<◌, ◌≢◌, sym, ap, ◌∙◌, ap₂, lt_of_le_of_lt, lit<}
use lib.Bits.{bit_xor, xor_assoc, xor_comm, xor_self, xor_lt, xor_zero_r, xor_zero_l}
use lib.Pow.{shr_le, high, low, recompose}
use Rattle.cell.specs.Polynomial.{remainder}
use Rattle.cell.specs.CheckOctet.{syndrome}
use Rattle.cell.specs.Verdict.{place, error_at, verdict_of}
use Rattle.cell.specs.LineHeader.{bits40, of_bits, syndrome_of, turned, Codeword, OneTold, TwoPast, Restored}
use Rattle.cell.specs.declared.verdict.Verdict.{Verdict}
use Rattle.cell.specs.declared.verdict.Verdict.TheVariants.{OneWrongBit, PastMending}
use Rattle.cell.specs.declared.line_header.LineHeader.{LineHeader}
use Rattle.cell.proofs.Linear.{lin_id, lin_xor, lin_comp, lin_shr, lin_shl, lin_mod, basis}
use Rattle.cell.proofs.Division.{lin_remainder}
use Rattle.cell.proofs.SingleErrors.{two_none}
use Rattle.cell.proofs.Verdicts.{verdict_rule}

-- the syndrome of 40 bits is their remainder, but for 0x55
header_and_octet : (w : ℕ) → w < 2 ^ 40 → bit_xor (remainder 32 (w / 2 ^ 8 * 2 ^ 8)) (w % 2 ^ 8) ≡ remainder 32 w
unfolding remainder
header_and_octet w h =
    basis (λ w. bit_xor (remainder 32 (w / 2 ^ 8 * 2 ^ 8)) (w % 2 ^ 8)) (remainder 32)
    (lin_xor (λ w. remainder 32 (w / 2 ^ 8 * 2 ^ 8)) (λ w. w % 2 ^ 8)
    (lin_comp (remainder 32) (λ w. w / 2 ^ 8 * 2 ^ 8) (lin_remainder 32) (lin_shl 8 (λ w. w / 2 ^ 8) (lin_shr 8 (λ w. w) lin_id)))
    (lin_mod 8 (λ w. w) lin_id))
    (lin_remainder 32) 40 tt w h

pub xor_swap_last : (a b c : ℕ) → bit_xor (bit_xor a b) c ≡ bit_xor (bit_xor a c) b
xor_swap_last a b c = xor_assoc a b c ∙ ap (bit_xor a) (xor_comm b c) ∙ sym (xor_assoc a c b)

syndrome_is : (w : ℕ) → w < 2 ^ 40 → syndrome (w / 2 ^ 8) (w % 2 ^ 8) ≡ bit_xor (remainder 32 w) 0x55
syndrome_is w h =
    xor_swap_last (remainder 32 (w / 2 ^ 8 * 2 ^ 8)) 0x55 (w % 2 ^ 8) ∙ ap (λ (x : ℕ). bit_xor x 0x55) (header_and_octet w h)

-- wrong bits e leave their own remainder
pub error_leaves : (w e : ℕ) → Codeword w → e < 2 ^ 40 → syndrome (bit_xor w e / 2 ^ 8) (bit_xor w e % 2 ^ 8) ≡ remainder 32 e
error_leaves w e (hw, clean) he =
    syndrome_is (bit_xor w e) (xor_lt 40 w e hw he) ∙ ap (λ (x : ℕ). bit_xor x 0x55) (lin_remainder 32 w e)
    ∙ xor_swap_last (remainder 32 w) (remainder 32 e) 0x55
    ∙ ap (λ (x : ℕ). bit_xor x (remainder 32 e)) (sym (syndrome_is w hw) ∙ clean)
    ∙ xor_zero_l (remainder 32 e)

place_lt : (i : ℕ) → place i < 2 ^ 40
place_lt i = lt_of_le_of_lt (shr_le (2 ^ 39) i) (lit< tt)

-- the syndrome of a header on the line by its 40 bits
by_bits : (l : LineHeader) → l.hec < 2 ^ 8 → syndrome l.header.0 l.hec ≡ syndrome (bits40 l / 2 ^ 8) (bits40 l % 2 ^ 8)
by_bits l h = ap₂ syndrome (sym (high l.header.0 8 h)) (sym (low l.header.0 8 h))

module _ (l : LineHeader) (h : l.hec < 2 ^ 8) where
  pub one_told : OneTold (bits40 l) (verdict_of (syndrome l.header.0 l.hec))
  unfolding error_at
  one_told w i r b e =
      ((verdict_rule (syndrome l.header.0 l.hec)).bit i).1 b
      (by_bits l h ∙ ap (λ (x : ℕ). syndrome (x / 2 ^ 8) (x % 2 ^ 8)) e ∙ error_leaves w (place i) r (place_lt i))

  pub two_past : TwoPast (bits40 l) (verdict_of (syndrome l.header.0 l.hec))
  unfolding error_at
  two_past w i j r b c apart e =
      let is : syndrome l.header.0 l.hec ≡ bit_xor (error_at i) (error_at j) =
      by_bits l h ∙ ap (λ (x : ℕ). syndrome (x / 2 ^ 8) (x % 2 ^ 8)) (e ∙ xor_assoc w (place i) (place j))
      ∙ error_leaves w (bit_xor (place i) (place j)) r (xor_lt 40 (place i) (place j) (place_lt i) (place_lt j))
      ∙ lin_remainder 32 (place i) (place j) in
      (verdict_rule (syndrome l.header.0 l.hec)).past.1
      ((λ z. (two_none i j b c apart).0 (sym is ∙ z)), λ k d z. (two_none i j b c apart).1 k d (sym is ∙ z))

-- the same, as the code has it
pub told : (l : LineHeader) (v : Verdict) (w i : ℕ) → v ≡ verdict_of (syndrome_of l) → l.hec < 2 ^ 8 → Codeword w → i < 40 → bits40 l ≡ turned w i → v ≡ OneWrongBit i
told l v w i e h r b x = e ∙ one_told l h w i r b x

pub past : (l : LineHeader) (v : Verdict) (w i j : ℕ) → v ≡ verdict_of (syndrome_of l) → l.hec < 2 ^ 8 → Codeword w → i < 40 → j < 40 → (i ≢ j) → bits40 l ≡ turned (turned w i) j → v ≡ PastMending
past l v w i j e h r b c apart x = e ∙ two_past l h w i j r b c apart x

pub turned_twice : (w i : ℕ) → turned (turned w i) i ≡ w
turned_twice w i = xor_assoc w (place i) (place i) ∙ ap (bit_xor w) (xor_self (place i)) ∙ xor_zero_r w

pub bits_of : (w : ℕ) → w < 2 ^ 40 → bits40 (of_bits w) ≡ w
bits_of w h = recompose 32 8 h

pub restored : (x i : ℕ) → Restored x i (bits40 (of_bits (turned x i)))
restored x i w h e = ap (λ (y : ℕ). bits40 (of_bits (turned y i))) e ∙ ap (λ (y : ℕ). bits40 (of_bits y)) (turned_twice w i) ∙ bits_of w h
