use Rattle.lanes.proofs.Batches.{stored_none, stored_next}
use Rattle.lanes.proofs.store_all.Goals as goal

pub loop-l-init : goal.loop-l-init
loop-l-init c = stored_none _ _ _ _

pub loop-l-preserved : goal.loop-l-preserved
loop-l-preserved c = let l = c.loop-l in stored_next _ _ _ l.l _ _ _ l.invariant c.store.ensures
