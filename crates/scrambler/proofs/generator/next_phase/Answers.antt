use Rattle.std.proofs.Common.{refl}
use Rattle.scrambler.specs.Generator.{iterate}
use Rattle.scrambler.proofs.generator.next_phase.Goals as goal

pub loop-i-init : goal.loop-i-init
unfolding iterate
loop-i-init c = refl
