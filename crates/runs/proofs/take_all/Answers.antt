use native.Mathlib.Omega.{arith}
use mathlib.Core.Path.{refl}
use Prim.Native.Nat.{◌+◌, ◌≤◌, ◌<◌}
use lib.ListN.{length}
use Rattle.runs.proofs.Cuts as cuts
use Rattle.runs.proofs.Runs as laws
use Rattle.runs.proofs.take_all.Goals as goal

pub loop-at-init : goal.loop-at-init
loop-at-init c = (laws.start _ _ _ _ _ _ _ c.requires c.longest-room.ensures.0 c.ends-end.ensures, refl, refl, refl)

pub slice_bounds-take_one-end : goal.slice_bounds-take_one-end
slice_bounds-take_one-end c = laws.inside c.loop-at.invariant.0 c.loop-at-test.true

pub take_one-n-requires : goal.take_one-n-requires
take_one-n-requires c = (laws.ready c.loop-at.invariant.0 c.loop-at-test.true, laws.place c.loop-at.invariant.0 c.loop-at-test.true)

pub loop-at-preserved : goal.loop-at-preserved
loop-at-preserved c = (laws.turn c.loop-at.invariant.0 c.loop-at-test.true _ _ _ _ _ c.take_one-n.ensures c.ends-end-in-loop-at.ensures (omega arith) (omega arith), omega arith, omega arith, omega arith)

pub returns : goal.returns
returns c = laws.done c.loop-at.invariant.0 c.loop-at-test.false
