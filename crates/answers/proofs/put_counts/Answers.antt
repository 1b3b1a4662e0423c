use Rattle.answers.proofs.Laws as laws
use Rattle.answers.specs.Answers.{counts_after}
use mathlib.Core.Path.{refl}
use Rattle.answers.proofs.put_counts.Goals as goal

pub returns-in-Err : goal.returns-in-Err
unfolding counts_after
returns-in-Err c = laws.counts_told _ _ _ _ c.in-Err.is refl

pub returns-in-Ok : goal.returns-in-Ok
unfolding counts_after
returns-in-Ok c = laws.counts_told _ _ _ _ c.in-Ok.is c.write_counts.ensures
