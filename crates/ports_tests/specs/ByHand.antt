-- The meaning of a source written by hand.
--
--   cell_in slot   the cell that waits in a slot, if one does
--   users_in slot  it is a user cell
use Rattle.std.specs.Prelude.{List, [], ◌∷◌, Some, None, Option}
use Rattle.std.specs.List.{AllByRecursion}
use Rattle.ports.specs.Cell.{Cell, User}
use Rattle.ports.specs.UserCell.{cell_of}
use Rattle.ports.specs.declared.user_cell.UserCell.{UserCell}

abbrev pub cell_in : Option UserCell → List Cell
cell_in None = []
cell_in (Some u) = cell_of u ∷ []

pub users_in : (slot : Option UserCell) → AllByRecursion User (cell_in slot)
users_in None = tt
users_in (Some u) = (record { fits = u.fits; user = u.user; whole = u.whole }, tt)
