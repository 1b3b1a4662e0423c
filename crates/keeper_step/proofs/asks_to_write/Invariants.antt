-- No write request stands before the place, and the next frame ends as the run says.
use Rattle.std.proofs.Common.{◌-◌, length}
use Rattle.keeper_step.proofs.Laws as laws
use Rattle.keeper_step.proofs.asks_to_write.Given as goal

abbrev pub invariant-loop-at : goal.invariant-loop-at
invariant-loop-at l = laws.Seeking l.run l.at l.end

abbrev pub decreases-loop-at : goal.decreases-loop-at
decreases-loop-at l = length l.run - l.at
