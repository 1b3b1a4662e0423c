use native.Mathlib.Omega.{arith}
use Rattle.runs.proofs.Cuts as cuts
use Rattle.runs.proofs.count.Goals as goal

pub loop-at-init : goal.loop-at-init
loop-at-init c = cuts.count_start _ _ c.ends-end.ensures

pub loop-at-smaller : goal.loop-at-smaller
loop-at-smaller c = cuts.count_less _ _ _ _ c.loop-at.invariant c.loop-at-test.true

pub loop-at-preserved : goal.loop-at-preserved
loop-at-preserved c = cuts.count_turn _ _ _ _ _ c.loop-at.invariant c.loop-at-test.true c.ends-end-in-loop-at.ensures

pub returns : goal.returns
returns c = cuts.count_done _ _ _ _ c.loop-at.invariant c.loop-at-test.false
