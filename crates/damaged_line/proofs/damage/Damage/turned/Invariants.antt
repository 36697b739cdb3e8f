-- The octets before number i are turned, and the others are as they were.
use Rattle.std.proofs.Common.{◌≡◌, ℕ, ◌<◌, ◌≤◌, length, get_or}
use lib.Bits.{bit_xor}
use Rattle.damaged_line.proofs.damage.Damage.turned.Given as goal

abbrev pub invariant-loop-i : goal.invariant-loop-i
invariant-loop-i l =
    (length l.damaged ≡ 53)
    × ((k : ℕ) → k < l.i → get_or l.damaged k 0 ≡ bit_xor (get_or l.line k 0) (get_or l.self.marks k 0))
    × ((k : ℕ) → l.i ≤ k → get_or l.damaged k 0 ≡ get_or l.line k 0)
