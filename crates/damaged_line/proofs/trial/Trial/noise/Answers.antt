use Rattle.damaged_line.proofs.Rounds.{noised_more}
use Rattle.damaged_line.proofs.trial.Trial.noise.Goals as goal

pub loop-preserved : goal.loop-preserved
loop-preserved c = noised_more _ _ _ _ _ _ _ _ _ _ c.loop.invariant c.feed.ensures c.add.ensures
