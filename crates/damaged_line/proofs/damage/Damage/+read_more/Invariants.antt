-- Each turn reads a word.
use Rattle.std.proofs.Common.{length}
use Rattle.damaged_line.proofs.damage.Damage.+read_more.Given as goal

abbrev pub decreases-read_more : goal.decreases-read_more
decreases-read_more l = length l.text.now
