use Rattle.std.proofs.Common.{map, ap, ◌∙◌, rules}
use Rattle.ports.specs.UserCell.{cell_of}
use Rattle.ports.proofs.cell_ring.RingUserCellSource.look.Goals as goal

pub returns : goal.returns
returns c =
    (search rules, (_, record { cell = _; first = ap (map cell_of) c.in_ok-front.ensures; written = c.copy_from_slice.ensures.after ∙ c.octets.ensures }))
