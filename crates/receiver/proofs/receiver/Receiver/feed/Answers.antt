use Rattle.std.proofs.Common.{refl, arith}
use Rattle.receiver.proofs.Runs.{works_octet}
use Rattle.receiver.proofs.Unasked.{unasked_octet}
use Rattle.receiver.proofs.receiver.Receiver.feed.Goals as goal

pub loop-octet-preserved : goal.loop-octet-preserved
loop-octet-preserved g c = (
  works_octet c.args.octets.now c.loop-octet.octet-index _ c.loop-octet-test.true refl c.loop-octet.invariant.0 c.take_octet-taken.ensures.works,
  omega arith,
  unasked_octet c.args.octets.now c.loop-octet.octet-index _ _ _ _ c.loop-octet-test.true refl c.loop-octet.invariant.0 c.loop-octet.invariant.2
      c.take_octet-taken.ensures.unasked,
)
