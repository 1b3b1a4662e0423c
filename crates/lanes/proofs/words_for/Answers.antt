use native.Mathlib.Omega.{arith}
use Rattle.lanes.proofs.Windows.{standing_rolled}
use Rattle.lanes.proofs.words_for.Goals as goal

pub returns-then-t-eq0-2 : goal.returns-then-t-eq0-2
returns-then-t-eq0-2 c = standing_rolled c.args.n c.args.t _ _ (omega arith) c.requires.0 (omega arith) c.roll.ensures
