-- Each turn takes a cell out of the ring.
use Rattle.std.proofs.Common.{length}
use Rattle.ring.specs.Ring.{held}
use Rattle.receiver_vectors.proofs.write_cells.Given as goal

abbrev pub decreases-loop-cell : goal.decreases-loop-cell
decreases-loop-cell g l = length (held l.cells)
