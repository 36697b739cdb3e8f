use Rattle.std.proofs.Common.{◌≡◌, ◌*◌}
use Rattle.scrambler.specs.Generator.{step, iterate}
use Rattle.scrambler.proofs.generator.next_phase.Given as goal

abbrev pub invariant-loop-i : goal.invariant-loop-i
invariant-loop-i l = l.p ≡ iterate (28 * l._i) step l.phase
