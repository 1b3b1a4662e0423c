use Rattle.sha256.specs.Sha256.{ended}
use Rattle.lanes.specs.Lanes.{message_of}
use native.Mathlib.Omega.{arith}
use Rattle.lanes.proofs.Windows.{blocks_start, blocks_next}
use Rattle.lanes.proofs.absorb.Goals as goal

pub loop-b-init : goal.loop-b-init
loop-b-init c = let m = c.args.m.now in blocks_start (λ l. ended c.args.before (message_of m.heads.now m.bodies.now m.batch l)) _ _ (omega arith)

pub loop-b-preserved : goal.loop-b-preserved
loop-b-preserved c = let a = c.args in
    let m = a.m.now in
    let l = c.loop-b in
    blocks_next (λ i. ended a.before (message_of m.heads.now m.bodies.now m.batch i)) m.batch.n l.b _ _ _ _ _ l.invariant c.load_all.ensures c.block.ensures
