-- A header on the line: 32 header bits and what came in the place of the check octet, 40 bits in all, and what wrong bits among them do.
--
--   bits40 l, of_bits w  the 40 bits as a number, the first sent on top; the header of such a number
--   syndrome_of l        the syndrome of a header on the line
--   turned w i           the 40 bits w with bit i the other way
--   octet_text o         the two hexadecimal digits of an octet
--   line_text l          the five octets of a header on the line, with blanks between
--   Codeword w           the 40 bits w are a header with its own check octet
--   OneTold x v          where x is a codeword with one of its 40 bits the other way, v names that bit
--   TwoPast x v          where x is a codeword with two of its bits the other way, v is past mending
--   Restored x i y       where x is 40 bits with bit i the other way, y is those 40 bits
use Rattle.std.specs.Prelude.{◌≡◌, ℕ, ◌+◌, ◌*◌, ◌/◌, ◌%◌, ◌^◌, ◌<◌, true, List, [], ◌∷◌, ◌++◌, ◌≢◌, bit_xor, codes}
use Rattle.std.specs.Fmt.{digit_glyph}
use Rattle.cell.specs.CheckOctet.{syndrome}
use Rattle.cell.specs.Verdict.{place}
use Rattle.cell.specs.declared.line_header.LineHeader.{LineHeader}
use Rattle.cell.specs.declared.verdict.Verdict.{Verdict}
use Rattle.cell.specs.declared.verdict.Verdict.TheVariants.{OneWrongBit, PastMending}

abbrev pub bits40 : LineHeader → ℕ
bits40 l = l.header.0 * 2 ^ 8 + l.hec

abbrev pub of_bits : ℕ → LineHeader
of_bits w = record { header = record { 0 = w / 2 ^ 8 % 2 ^ 32 }; hec = w % 2 ^ 8 }

abbrev pub syndrome_of : LineHeader → ℕ
syndrome_of l = syndrome l.header.0 l.hec

abbrev pub turned : ℕ → ℕ → ℕ
turned w i = bit_xor w (place i)

abbrev pub octet_text : ℕ → List ℕ
octet_text o = digit_glyph true (o / 16) ∷ digit_glyph true (o % 16) ∷ []

abbrev pub line_text : LineHeader → List ℕ
line_text l = let h = l.header.0 in
    octet_text (h / 2 ^ 24 % 2 ^ 8) ++ codes " " ++ octet_text (h / 2 ^ 16 % 2 ^ 8) ++ codes " " ++ octet_text (h / 2 ^ 8 % 2 ^ 8) ++ codes " "
    ++ octet_text (h % 2 ^ 8) ++ codes " " ++ octet_text l.hec

abbrev pub Codeword : ℕ → Type 0
Codeword w = (w < 2 ^ 40) × (syndrome (w / 2 ^ 8) (w % 2 ^ 8) ≡ 0)

abbrev pub OneTold : ℕ → Verdict → Type 0
OneTold x v = (w i : ℕ) → Codeword w → i < 40 → x ≡ turned w i → v ≡ OneWrongBit i

abbrev pub TwoPast : ℕ → Verdict → Type 0
TwoPast x v = (w i j : ℕ) → Codeword w → i < 40 → j < 40 → (i ≢ j) → x ≡ turned (turned w i) j → v ≡ PastMending

abbrev pub Restored : ℕ → ℕ → ℕ → Type 0
Restored x i y = (w : ℕ) → w < 2 ^ 40 → x ≡ turned w i → y ≡ w
