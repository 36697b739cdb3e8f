-- So many cells were sent as the loop has gone round.
use Rattle.damaged_line.specs.Trial.{Passed}
use Rattle.damaged_line.proofs.trial.Trial.pass.Given as goal

abbrev pub invariant-loop : goal.invariant-loop
invariant-loop l = Passed l.counter l.initial.self l.initial.events l.counts l.self l.events
