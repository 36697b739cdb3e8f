use Rattle.std.proofs.Common.{◌≡◌, [], option_map, ap, ◌∙◌, rules}
use Rattle.ring.specs.Ring.{held}
use Rattle.ports.specs.CellRing.{ring_cells}
use Rattle.ports.specs.UserCell.{cell_of}
use Rattle.damaged_line.specs.Tally.{counted_up, counted_all}
use Rattle.damaged_line.proofs.Counting.{count_next, count_end}
use Rattle.damaged_line.proofs.tally.Tally.count_up.Goals as goal

pub loop-cell-preserved : goal.loop-cell-preserved
loop-cell-preserved c =
    let sent = option_map cell_of c.args.sent in
    ap (counted_all sent (ring_cells c.pop.new.self)) (c.count_cell.ensures ∙ ap (λ b. counted_up b c.loop-cell.self) c.is_as_sent.ensures)
    ∙ count_next sent c.in-Ok.cell c.loop-cell.cells c.pop.new.self c.loop-cell.self c.in-Ok.ensures.held
    ∙ c.loop-cell.invariant

pub returns-clause-counted : goal.returns-clause-counted
returns-clause-counted c =
    let none : held c.loop-cell.cells ≡ [] = search rules in
    count_end (option_map cell_of c.args.sent) c.loop-cell.cells c.loop-cell.self none ∙ c.loop-cell.invariant
