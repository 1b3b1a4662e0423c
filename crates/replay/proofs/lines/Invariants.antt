-- Each line leaves less of the text.
use Rattle.std.proofs.Common.{length}
use Rattle.replay.proofs.lines.Given as goal

abbrev pub decreases-loop-fields : goal.decreases-loop-fields
decreases-loop-fields l = length l.fields.left.now
