use Rattle.damaged_line.proofs.Standing.{reset_stands}
use Rattle.damaged_line.proofs.ends.Ends.reset.Goals as goal

pub invariant_of-self : goal.invariant_of-self
invariant_of-self c = reset_stands c.line_theorem_holds.ensures c.self.invariant c.reset.ensures
