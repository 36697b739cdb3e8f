use Rattle.scrambler.proofs.Worked.{worked_values_hold}
use Rattle.scrambler.proofs.worked_values.worked_values_hold.Goals as goal

pub returns : goal.returns
returns c = worked_values_hold
