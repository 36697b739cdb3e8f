use Rattle.line.proofs.LawsHold.{laws_throughout}
use Rattle.line.proofs.BothEnds.{line_theorem}
use Rattle.line.proofs.theorem.line_theorem_holds.Goals as goal

pub returns : goal.returns
returns c = line_theorem laws_throughout
