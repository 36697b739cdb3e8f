-- So many cells went out as turns were made, and no user cell waits.
use Rattle.std.proofs.Common.{◌≡◌, []}
use Rattle.blocks.specs.BlockSource.{block_cells}
use Rattle.outgoing_line.specs.Sending.{UnusedSent}
use Rattle.outgoing_line.proofs.line.Line.send_unused.Given as goal

abbrev pub invariant-loop : goal.invariant-loop
invariant-loop g l = (block_cells l.none ≡ []) × UnusedSent l.counter l.fn.self (g.W.Write.contents l.fn.out) l.self (g.W.Write.contents l.out)
