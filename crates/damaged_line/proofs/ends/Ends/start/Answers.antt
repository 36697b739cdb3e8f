use Rattle.damaged_line.proofs.Standing.{start_stands}
use Rattle.damaged_line.proofs.ends.Ends.start.Goals as goal

pub invariant_of-self : goal.invariant_of-self
invariant_of-self c = start_stands c.line_theorem_holds.ensures _ _ c.self.invariant c.start.ensures
