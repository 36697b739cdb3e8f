-- The test of a whole table of verdicts. It is computed over the 256 entries, and a lemma turns it into the rule at each.
-- Nothing is believed of it: only the table that is lent to the look-up has to pass it.
--
--   times_x p      x times p, of a degree below 8, by the divisor
--   power_x n      what x^n leaves by the divisor
--   ruled s v      the verdict v stands where it belongs at s
--   every_ruled t  so does each entry of the table t
use Rattle.std.specs.Prelude.{ℕ, zero, suc, ◌-◌, ◌*◌, Bool, cond, not, List, ◌==◌, bit_xor, nat_lt}
use Rattle.cell.specs.Tests.{both, below, every}
use Rattle.cell.specs.Polynomial.{divisor}
use Rattle.cell.specs.declared.verdict.Verdict.{Verdict}
use Rattle.cell.specs.declared.verdict.Verdict.TheVariants.{Clean, OneWrongBit, PastMending}

abbrev pub times_x : ℕ → ℕ
times_x p = cond (nat_lt p 128) (2 * p) (bit_xor (2 * p) divisor)

abbrev pub power_x : ℕ → ℕ
power_x zero = 1
power_x (suc n) = times_x (power_x n)

abbrev pub ruled : ℕ → Verdict → Bool
ruled s Clean = s == 0
ruled s (OneWrongBit i) = both (nat_lt i 40) (s == power_x (39 - i))
ruled s PastMending = both (not (s == 0)) (below 40 (λ i. not (s == power_x (39 - i))))

abbrev pub every_ruled : List Verdict → Bool
every_ruled table = every ruled 0 table
