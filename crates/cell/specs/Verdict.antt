-- What a syndrome says of the 40 bits that left it. They count from 0, the first sent, to 39.
--
--   agreeing s     HEC6 to HEC1, the low six bits of the syndrome s, are zero
--   place i        bit i alone of 40; there is none from 40 on
--   error_at i     the syndrome that bit i leaves where it alone came wrong
--   NoSuch s       s is neither 0 nor the syndrome of one wrong bit
--   Rule s v       v is the verdict on the syndrome s
--   TwoErrors s v  where two different bits left the syndrome s, v is past mending
--   verdict_of s   that verdict, found by trying the 40 bits (wrong_below n s: those below n)
--   Judged s v     v is that verdict, it meets the rule, and two errors are past mending
--   entry t s      the entry at s of a table t of verdicts
use Rattle.std.specs.Prelude.{◌≡◌, ℕ, zero, suc, ◌/◌, ◌%◌, ◌^◌, ◌<◌, Bool, cond, List, ◌==◌, ◌≢◌, bit_xor, slice_index_or}
use Rattle.cell.specs.Polynomial.{remainder}
use Rattle.cell.specs.declared.verdict.Verdict.{Verdict}
use Rattle.cell.specs.declared.verdict.Verdict.TheVariants.{Clean, OneWrongBit, PastMending}

abbrev pub agreeing : ℕ → Bool
agreeing s = s % 2 ^ 6 == 0

abbrev pub place : ℕ → ℕ
place i = 2 ^ 39 / 2 ^ i

unfoldable pub error_at : ℕ → ℕ
error_at i = remainder 32 (place i)

abbrev pub NoSuch : ℕ → Type 0
NoSuch s = (s ≢ 0) × ((i : ℕ) → i < 40 → s ≢ error_at i)

-- clean exactly at 0, bit i exactly at the syndrome of the single error at i, past mending everywhere else
pub record Rule (s : ℕ) (v : Verdict) : Type 0 where
  pub clean : (v ≡ Clean → s ≡ 0) × (s ≡ 0 → v ≡ Clean)
  pub bit : (i : ℕ) → (v ≡ OneWrongBit i → (i < 40) × (s ≡ error_at i)) × (i < 40 → s ≡ error_at i → v ≡ OneWrongBit i)
  pub past : (v ≡ PastMending → NoSuch s) × (NoSuch s → v ≡ PastMending)

abbrev pub TwoErrors : ℕ → Verdict → Type 0
TwoErrors s v = (i j : ℕ) → i < 40 → j < 40 → (i ≢ j) → s ≡ bit_xor (error_at i) (error_at j) → v ≡ PastMending

unfoldable pub wrong_below : ℕ → ℕ → Verdict
wrong_below zero s = PastMending
wrong_below (suc n) s = cond (s == error_at n) (OneWrongBit n) (wrong_below n s)

unfoldable pub verdict_of : ℕ → Verdict
verdict_of s = cond (s == 0) Clean (wrong_below 40 s)

pub record Judged (s : ℕ) (v : Verdict) : Type 0 where
  pub value : v ≡ verdict_of s
  pub rule : Rule s v
  pub two : TwoErrors s v

unfoldable pub entry : List Verdict → ℕ → Verdict
entry table s = slice_index_or table s Clean
