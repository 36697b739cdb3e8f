-- The marked bits before this one are written.
use Rattle.std.specs.Fmt.{HasWritten, IsPlainFormatter}
use Rattle.std.specs.List.{flat_map, range_with_len}
use Rattle.damaged_line.specs.Damage.{mark_text}
use Rattle.damaged_line.proofs.damage.DamageDisplay.fmt.Given as goal

abbrev pub invariant-loop-bit : goal.invariant-loop-bit
invariant-loop-bit g l =
    IsPlainFormatter l.initial.f → HasWritten g.W.Write.write_str_gives l.initial.f (flat_map (mark_text l.self) (range_with_len 0 l.bit-counter)) l.f
