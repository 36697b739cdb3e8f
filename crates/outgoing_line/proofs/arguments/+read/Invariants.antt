-- Each turn reads two words.
use Rattle.std.proofs.Common.{length}
use Rattle.outgoing_line.proofs.arguments.+read.Given as goal

abbrev pub decreases-read : goal.decreases-read
decreases-read l = length l.words.now
