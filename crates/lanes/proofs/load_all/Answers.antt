use native.Mathlib.Omega.{arith}
use Rattle.sha256.proofs.Laws.{words_length}
use Rattle.lanes.proofs.Windows.{loads_next}
use Rattle.lanes.proofs.load_all.Goals as goal

pub loop-l-preserved : goal.loop-l-preserved
loop-l-preserved c = let l = c.loop-l in loads_next _ l.l _ _ (omega arith) (words_length 16 _) l.invariant c.load_at.ensures
