use native.Mathlib.Omega.{arith}
use Rattle.sha256.proofs.Laws.{turn_one}
use Rattle.sha256.proofs.round_and_word.Goals as goal

pub returns : goal.returns
returns c = turn_one c.args.t c.args.w.now _ c.args.s _ (omega arith) (omega arith) c.at-r.ensures c.step.ensures
