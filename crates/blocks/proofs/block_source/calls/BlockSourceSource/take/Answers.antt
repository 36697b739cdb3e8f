use Rattle.blocks.proofs.Cuts.{taken}
use Rattle.blocks.proofs.block_source.calls.BlockSourceSource.take.Goals as goal

pub returns : goal.returns
returns c = (c.in_ok-look.ensures.0, taken _ _ _ _ _ _ c.in_ok-look.ensures.1.1 c.pass.ensures.header c.pass.ensures.rest)
