use Rattle.std.proofs.Common.{◌≡◌, ℕ, ◌<◌, get_or, Some, length}
use Rattle.hex_digits.specs.Digits.{octet_at}
use Rattle.hex_digits.proofs.digits.octets.Given as goal

abbrev pub invariant-loop-high : goal.invariant-loop-high
invariant-loop-high l =
    (length l.octets.items ≡ l.high-index)
    × ((k : ℕ) → k < length l.octets.items → octet_at l.text k ≡ Some (get_or l.octets.items k 0))
