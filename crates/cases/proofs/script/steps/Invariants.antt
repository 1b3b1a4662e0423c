-- Each step leaves less of the line.
use Rattle.std.proofs.Common.{length}
use Rattle.cases.proofs.script.steps.Given as goal

abbrev pub decreases-loop-left : goal.decreases-loop-left
decreases-loop-left l = length l.left
