use Rattle.damaged_line.proofs.Standing.{set_f3_stands}
use Rattle.damaged_line.proofs.ends.Ends.set_f3.Goals as goal

pub invariant_of-self : goal.invariant_of-self
invariant_of-self c = set_f3_stands c.line_theorem_holds.ensures _ _ c.self.invariant c.set_f3.ensures
