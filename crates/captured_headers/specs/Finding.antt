-- What is found out of a header as received.
--
--   mended l i      the header l with bit i of its 40 the other way
--   finding_of l v  the finding on the header l under the verdict v
--   CleanSent x r   r is clean exactly where x is a header with its own check octet
--   OneMended x r   if x was sent with its own check octet and one bit came wrong, r names the bit and what was sent
--   TwoFound x r    if two bits came wrong, r is past mending
--   Finds l r       r is the finding on the header l under the verdict on its syndrome, and so all of these
--   finding_text r  what is printed of the finding r, as octets of text
use Rattle.std.specs.Prelude.{◌≡◌, ℕ, ◌/◌, ◌^◌, ◌<◌, ◌≢◌, List, ◌++◌, codes, decimal}
use Rattle.cell.specs.LineHeader.{bits40, of_bits, turned, Codeword, syndrome_of, line_text}
use Rattle.cell.specs.Header.{kind_of, kind_name}
use Rattle.cell.specs.Verdict.{verdict_of}
use Rattle.cell.specs.declared.line_header.LineHeader.{LineHeader}
use Rattle.cell.specs.declared.verdict.Verdict.{Verdict}
use Rattle.cell.specs.declared.verdict.Verdict.TheVariants as verdict
use Rattle.captured_headers.specs.declared.finding.Finding.{Finding}
use Rattle.captured_headers.specs.declared.finding.Finding.TheVariants.{Clean, OneWrongBit, PastMending}

abbrev pub mended : LineHeader → ℕ → LineHeader
mended l i = of_bits (turned (bits40 l) i)

abbrev pub finding_of : LineHeader → Verdict → Finding
finding_of l verdict.Clean = Clean
finding_of l (verdict.OneWrongBit i) = OneWrongBit i (mended l i) (kind_of (mended l i).header.0)
finding_of l verdict.PastMending = PastMending

abbrev pub CleanSent : ℕ → Finding → Type 0
CleanSent x r = (r ≡ Clean → Codeword x) × (Codeword x → r ≡ Clean)

abbrev pub OneMended : ℕ → Finding → Type 0
OneMended x r = (w i : ℕ) → Codeword w → i < 40 → x ≡ turned w i → r ≡ OneWrongBit i (of_bits w) (kind_of (w / 2 ^ 8))

abbrev pub TwoFound : ℕ → Finding → Type 0
TwoFound x r = (w i j : ℕ) → Codeword w → i < 40 → j < 40 → (i ≢ j) → x ≡ turned (turned w i) j → r ≡ PastMending

pub record Finds (l : LineHeader) (r : Finding) : Type 0 where
  pub value : r ≡ finding_of l (verdict_of (syndrome_of l))
  pub clean : CleanSent (bits40 l) r
  pub one : OneMended (bits40 l) r
  pub two : TwoFound (bits40 l) r

abbrev pub finding_text : Finding → List ℕ
finding_text Clean = codes "clean"
finding_text (OneWrongBit i l k) = codes "bit " ++ (decimal i ++ (codes " wrong, mended " ++ (line_text l ++ (codes " " ++ kind_name k))))
finding_text PastMending = codes "past mending"
