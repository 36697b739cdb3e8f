-- Cells of a ring, counted one by one.
use Rattle.std.proofs.Common.{◌≡◌, [], ◌∷◌, map, Option, sym, ap}
use Rattle.ring.specs.Ring.{held}
use Rattle.ring.specs.declared.ring.Ring.{Ring}
use Rattle.ports.specs.Cell.{Cell}
use Rattle.ports.specs.CellRing.{ring_cells}
use Rattle.ports.specs.UserCell.{cell_of}
use Rattle.ports.specs.declared.user_cell.UserCell.{UserCell}
use Rattle.damaged_line.specs.Tally.{counted_up, counted_all, as_sent}
use Rattle.damaged_line.specs.declared.tally.Tally.{Tally}

pub count_next : (sent : Option Cell) (u : UserCell) (ring ring' : Ring UserCell) (t : Tally) → held ring ≡ u ∷ held ring'
    → counted_all sent (ring_cells ring') (counted_up (as_sent sent (cell_of u)) t) ≡ counted_all sent (ring_cells ring) t
unfolding counted_all
count_next sent u ring ring' t e = sym (ap (λ us. counted_all sent (map cell_of us) t) e)

pub count_end : (sent : Option Cell) (ring : Ring UserCell) (t : Tally) → held ring ≡ [] → t ≡ counted_all sent (ring_cells ring) t
unfolding counted_all
count_end sent ring t e = sym (ap (λ us. counted_all sent (map cell_of us) t) e)
