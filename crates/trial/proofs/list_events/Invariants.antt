-- Each turn takes an event out of the ring.
use Rattle.std.proofs.Common.{length}
use Rattle.ring.specs.Ring.{held}
use Rattle.trial.proofs.list_events.Given as goal

abbrev pub decreases-loop-event : goal.decreases-loop-event
decreases-loop-event g l = length (held l.events)
