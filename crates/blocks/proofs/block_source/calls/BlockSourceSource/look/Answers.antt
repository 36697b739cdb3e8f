use Rattle.std.proofs.Common.{◌<◌, length, rules}
use Rattle.blocks.proofs.Cuts.{cells_next}
use Rattle.blocks.proofs.block_source.calls.BlockSourceSource.look.Goals as goal

pub returns : goal.returns
returns c =
    let b = c.args.self.now in
    let some : 0 < length b.rest.now = search rules in
    (search rules, (_, record { cell = _; first = cells_next b.header.0 b.rest.now some; written = search rules }))
