use Rattle.damaged_line.proofs.Standing.{send_stands}
use Rattle.damaged_line.proofs.ends.Ends.send.Goals as goal

pub invariant_of-self : goal.invariant_of-self
invariant_of-self g c = send_stands c.line_theorem_holds.ensures _ _ _ _ c.self.invariant (g.S.Source.users c.args.source.now) c.send_next.ensures.sends
