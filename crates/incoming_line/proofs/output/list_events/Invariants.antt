-- Each turn takes the oldest event out of the ring, which keeps its places, and lists it where that is asked for.
use Rattle.std.proofs.Common.{◌≡◌, length}
use Rattle.ring.specs.Ring.{held, places}
use Rattle.incoming_line.specs.Output.{events_listed}
use Rattle.incoming_line.proofs.Written.{Left}
use Rattle.incoming_line.proofs.output.list_events.Given as goal

abbrev pub invariant-loop-event : goal.invariant-loop-event
invariant-loop-event g l =
    (places l.events ≡ places l.initial.events)
    × Left (g.W.Write.contents l.initial.out) (events_listed l.listed (held l.initial.events)) (g.W.Write.contents l.out) (events_listed l.listed (held l.events))

abbrev pub decreases-loop-event : goal.decreases-loop-event
decreases-loop-event g l = length (held l.events)
