use mathlib.Core.Path.{ap, ◌∙◌}
use native.Mathlib.Omega.{arith}
use Rattle.sha256.specs.declared.State.{State}
use Rattle.lanes.specs.Inside.{rounds_at}
use Rattle.lanes.proofs.Laws.{each_next, each_own}
use Rattle.lanes.proofs.turn.Goals as goal

pub loop-l-preserved : goal.loop-l-preserved
loop-l-preserved c = let l = c.loop-l in
    let a = c.args in
    each_next _ l.l _ _ _ _ (omega arith) l.invariant (c.four-r.ensures ∙ ap (λ (x : State). rounds_at a.w.now l.l a.t 4 x) (c.lane.ensures ∙ each_own _ l.l _ _ (omega arith) l.invariant)) c.put_lane.ensures
