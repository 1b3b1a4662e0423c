use Rattle.lanes.proofs.Windows.{loading_next}
use native.Mathlib.Omega.{arith}
use Rattle.lanes.proofs.load_lane.Goals as goal

pub loop-i-preserved : goal.loop-i-preserved
loop-i-preserved g c = let l = c.loop-i in λ m f. loading_next _ _ l.i _ _ _ (omega arith) c.requires.lane (f l.i _ (omega arith) c.word.ensures) (l.invariant m f)
