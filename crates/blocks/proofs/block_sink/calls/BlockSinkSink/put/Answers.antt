use Rattle.std.proofs.Common.{◌*◌, ◌/◌, ◌<◌, length, ◌∙◌, ap, arith}
use lib.Seq.{paste}
use borrow.Author.Tests.{false-leb}
use Rattle.blocks.specs.BlockSink.{Filled}
use Rattle.blocks.proofs.Places.{put_in_block, served}
use Rattle.blocks.proofs.block_sink.calls.BlockSinkSink.put.Goals as goal

pub returns : goal.returns
returns c =
    let b = c.args.self.now in
    let p = c.in_ok-payload.ensures in
    let room : b.filled < length b.block.now / 48 = omega (arith, false-leb) in
    let stored : Filled b c.args.payload.now c.store.new.self =
    record {
      header = c.store.ensures.header;
      filled = c.store.ensures.filled;
      lent = c.store.ensures.lent;
      block = c.store.ensures.block ∙ ap (λ xs. paste b.block.now (48 * b.filled) xs 48) p.same;
    } in
    record { answer = put_in_block b c.store.new.self c.args.header.0 c.args.payload.now p.whole p.user (served _ _ c.if-ne.ensures) room stored; octets = stored }
