use mathlib.Core.Path.{◌∙◌}
use native.Mathlib.Omega.{arith}
use Rattle.lanes.proofs.Batches.{stored_hashes}
use Rattle.lanes.proofs.group.Goals as goal

pub returns : goal.returns
returns c = let m = c.args.m.now in
    c.store_all.ensures ∙ stored_hashes _ _ m.batch _ _ _ _ _ m.batch.n _ m.lying (omega arith) c.start.ensures c.absorb.ensures
