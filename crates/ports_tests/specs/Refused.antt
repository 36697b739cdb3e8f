-- How the tests look at a refusal.
--
--   refused_by r  the number of the refusal that r is, if it is one
use Rattle.std.specs.Prelude.{ℕ, Some, None, Option, Ok, Err, Result}
use Rattle.cell.specs.Refusal.{number_of}
use Rattle.cell.specs.declared.refusal.Refusal.{Refusal}

abbrev pub refused_by : {T : Type 0} → Result T Refusal → Option ℕ
refused_by (Ok x) = None
refused_by (Err e) = Some (number_of e)
