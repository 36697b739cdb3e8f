-- Each turn takes the oldest cell out of the ring, which keeps its places, and writes it.
use Rattle.std.proofs.Common.{◌≡◌, length}
use Rattle.ring.specs.Ring.{held, places}
use Rattle.incoming_line.specs.Output.{cells_written}
use Rattle.incoming_line.proofs.Written.{Left}
use Rattle.incoming_line.proofs.output.write_cells.Given as goal

abbrev pub invariant-loop-cell : goal.invariant-loop-cell
invariant-loop-cell g l =
    (places l.cells ≡ places l.initial.cells)
    × Left (g.W.Write.contents l.initial.out) (cells_written l.payloads (held l.initial.cells)) (g.W.Write.contents l.out) (cells_written l.payloads (held l.cells))

abbrev pub decreases-loop-cell : goal.decreases-loop-cell
decreases-loop-cell g l = length (held l.cells)
