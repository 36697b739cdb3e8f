-- Each turn takes an event out of the ring.
use Rattle.std.proofs.Common.{length}
use Rattle.ring.specs.Ring.{held}
use Rattle.receiver_vectors.proofs.write_events.Given as goal

abbrev pub decreases-loop-bit : goal.decreases-loop-bit
decreases-loop-bit g l = length (held l.events)
