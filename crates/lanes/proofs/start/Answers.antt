use native.Mathlib.Omega.{arith}
use Rattle.lanes.proofs.Laws.{each_next}
use Rattle.lanes.proofs.start.Goals as goal

pub loop-l-preserved : goal.loop-l-preserved
loop-l-preserved c = let l = c.loop-l in each_next _ l.l _ _ _ _ (omega arith) l.invariant c.initial.ensures c.put_lane.ensures
