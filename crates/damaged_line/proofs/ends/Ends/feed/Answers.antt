use Rattle.damaged_line.proofs.Standing.{feed_stands}
use Rattle.damaged_line.proofs.ends.Ends.feed.Goals as goal

pub invariant_of-self : goal.invariant_of-self
invariant_of-self g c = feed_stands c.line_theorem_holds.ensures _ _ _ _ _ _ c.self.invariant c.feed.ensures.answer
