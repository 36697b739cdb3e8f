use Rattle.std.proofs.Common.{replicate, arith, rules}
use Rattle.ports.proofs.Drains.{looked, moves}
use Rattle.ports.proofs.drain.step.Goals as goal

pub returns : goal.returns
returns g c =
    let t = (looked (g.S.Source.waiting c.args.from.now) (replicate 52 0) c.look.new.place c.look.result c.if-is_err.ensures.value c.look.ensures).1 in
    moves _ _ _ _ _ _ _ _ _ (g.S.Source.users c.args.from.now) (omega arith) t c.cell_parts.ensures.header c.cell_parts.ensures.payload c.take.result (search rules) c.take.ensures
