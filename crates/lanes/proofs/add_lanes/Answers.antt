use mathlib.Core.Path.{ap₂, ◌∙◌}
use native.Mathlib.Omega.{arith}
use Rattle.sha256.specs.Sha256.{added_of}
use Rattle.lanes.proofs.Laws.{each_next, each_own}
use Rattle.lanes.proofs.add_lanes.Goals as goal

pub loop-l-preserved : goal.loop-l-preserved
loop-l-preserved c = let l = c.loop-l in each_next _ l.l _ _ _ _ (omega arith) l.invariant (c.added-r.ensures ∙ ap₂ added_of (c.lane.ensures ∙ each_own _ l.l _ _ (omega arith) l.invariant) c.lane-in-loop-l.ensures) c.put_lane.ensures
