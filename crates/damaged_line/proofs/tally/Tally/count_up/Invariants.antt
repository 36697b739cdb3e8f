-- Each turn takes a cell out of the ring and counts it; the others are to be counted still.
use Rattle.std.proofs.Common.{◌≡◌, length, option_map}
use Rattle.ring.specs.Ring.{held}
use Rattle.ports.specs.CellRing.{ring_cells}
use Rattle.ports.specs.UserCell.{cell_of}
use Rattle.damaged_line.specs.Tally.{counted_all}
use Rattle.damaged_line.proofs.tally.Tally.count_up.Given as goal

abbrev pub invariant-loop-cell : goal.invariant-loop-cell
invariant-loop-cell l =
    counted_all (option_map cell_of l.sent) (ring_cells l.cells) l.self ≡ counted_all (option_map cell_of l.sent) (ring_cells l.initial.cells) l.initial.self

abbrev pub decreases-loop-cell : goal.decreases-loop-cell
decreases-loop-cell l = length (held l.cells)
