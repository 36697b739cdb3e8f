-- So many octets came as the loop has gone round.
use Rattle.damaged_line.specs.Trial.{Noised}
use Rattle.damaged_line.proofs.trial.Trial.noise.Given as goal

abbrev pub invariant-loop : goal.invariant-loop
invariant-loop l = Noised l.counter l.initial.self l.initial.events l.counts l.self l.events
