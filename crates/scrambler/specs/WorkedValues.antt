-- Worked values: what the definitions give at numbers that were worked out apart from them.
--
--   Worked         one line of the table
--     has_check_octet h c        the header h has the check octet c
--     received h c s v           the header h with the octet c has the syndrome s, and the verdict on it is v
--     followed_by p q            the phase p is followed by the phase q
--     idle_starts p xs           an idle cell coded at the phase p starts with the octets xs
--     samples_give w p           the 32 samples w of 16 cells, the first on top, give the phase p of the last one
--   idle_cell      the 52 octets of an idle cell
--   Holds l        the definitions give what the line l says
--   worked_values  the table
use Rattle.std.specs.Prelude.{◌≡◌, ℕ, ◌%◌, ◌^◌, List, [], ◌∷◌, ◌++◌, length, take, replicate, Ok}
use Rattle.std.specs.List.{AllByRecursion}
use Rattle.cell.specs.CheckOctet.{check_octet, syndrome}
use Rattle.cell.specs.Verdict.{verdict_of}
use Rattle.cell.specs.declared.verdict.Verdict.{Verdict}
use Rattle.cell.specs.declared.verdict.Verdict.TheVariants.{OneWrongBit, PastMending}
use Rattle.scrambler.specs.Generator.{next_phase}
use Rattle.scrambler.specs.Coding.{header_octets, coded}
use Rattle.scrambler.specs.Finder.{samples_of, found}

pub data Worked : Type 0 where
  has_check_octet : (header octet : ℕ) → Worked
  received : (header octet left : ℕ) (verdict : Verdict) → Worked
  followed_by : (phase next : ℕ) → Worked
  idle_starts : (phase : ℕ) (octets : List ℕ) → Worked
  samples_give : (word phase : ℕ) → Worked

abbrev pub idle_cell : List ℕ
idle_cell = header_octets 0x00000001 ++ replicate 48 0x6A

abbrev pub Holds : Worked → Type 0
Holds (has_check_octet h c) = check_octet h ≡ c
Holds (received h c s v) = (syndrome h c ≡ s) × (verdict_of s ≡ v)
Holds (followed_by p q) = next_phase p ≡ q
Holds (idle_starts p xs) = take (length xs) (coded p idle_cell) ≡ xs
Holds (samples_give w p) = (samples_of 16 p ≡ w) × (found (w % 2 ^ 31) ≡ Ok p)

abbrev pub worked_values : List Worked
worked_values =
    has_check_octet 0x00000000 0x55
    ∷ has_check_octet 0x00000001 0x52
    ∷ has_check_octet 0x00000009 0x6A
    ∷ has_check_octet 0xBECFEDE9 0xF8
    ∷ has_check_octet 0x7786A112 0x00
    ∷ received 0x00000000 0x52 0x07 (OneWrongBit 31)
    ∷ received 0x00000001 0x92 0xC0 PastMending
    ∷ followed_by 0x3ECFEDE8 0x7786A113
    ∷ idle_starts 0x3ECFEDE8 (0xBE ∷ 0xCF ∷ 0xED ∷ 0xE9 ∷ 0x78 ∷ 0x0B ∷ [])
    ∷ samples_give 0b10_10_00_11_11_00_11_10_01_10_01_01_00_11_01_11 0x061979AB
    ∷ followed_by 0x061979AB 0x1BD3A17C
    ∷ samples_give 0 0
    ∷ []

abbrev pub WorkedValuesHold : Type 0
WorkedValuesHold = AllByRecursion Holds worked_values
