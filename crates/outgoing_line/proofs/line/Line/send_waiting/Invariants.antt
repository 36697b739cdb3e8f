-- What was to wait and has not gone out waits. A user cell leaves fewer cells in the source. An F3 cell leaves them all, and none comes right
-- after it.
use Rattle.std.proofs.Common.{◌+◌, ◌*◌, cond, length, ◌==◌}
use Rattle.outgoing_line.proofs.Sendings.{WaitingBegun}
use Rattle.outgoing_line.proofs.line.Line.send_waiting.Given as goal

abbrev pub invariant-loop-source : goal.invariant-loop-source
invariant-loop-source g l = WaitingBegun (g.S.Source.waiting l.initial.source) l.initial.self (g.W.Write.contents l.initial.out) l.self (g.S.Source.waiting l.source) (g.W.Write.contents l.out)

abbrev pub decreases-loop-source : goal.decreases-loop-source
decreases-loop-source g l = 2 * length (g.S.Source.waiting l.source) + cond (l.self.sender.number == 0) 1 0
