use Rattle.damaged_line.proofs.Rounds.{passed_more}
use Rattle.damaged_line.proofs.trial.Trial.pass.Goals as goal

pub loop-preserved : goal.loop-preserved
loop-preserved c = passed_more _ _ _ _ _ _ _ _ _ _ _ c.loop.invariant c.none.ensures c.pass_cell.ensures c.add.ensures
