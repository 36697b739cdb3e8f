-- What is left of the digits gives the answer, from the number so far.
use Rattle.std.proofs.Common.{◌≡◌, drop}
use Rattle.text.specs.Number.{base_of, value_from}
use Rattle.text.proofs.number.Radix.value.Given as goal

abbrev pub invariant-loop-octet : goal.invariant-loop-octet
invariant-loop-octet l = value_from (base_of l.self) l.number (drop l.octet-index l.digits) ≡ value_from (base_of l.self) 0 l.digits
