use Rattle.std.proofs.Common.{arith}
use Rattle.receiver.proofs.Octets.{works_bit}
use Rattle.receiver.proofs.Unasked.{unasked_bit}
use Rattle.receiver.proofs.receiver.Receiver.take_octet.Goals as goal

pub loop-k-preserved : goal.loop-k-preserved
loop-k-preserved g c = (
  works_bit c.args.octet c.loop-k.k c.bit_at.result c.bit_at.ensures c.loop-k.invariant.0 c.take_bit-taken.ensures.works,
  omega arith,
  unasked_bit c.args.octet c.loop-k.k c.bit_at.result _ _ _ c.bit_at.ensures c.loop-k.invariant.0 c.loop-k.invariant.2
      c.take_bit-taken.ensures.unasked,
)
