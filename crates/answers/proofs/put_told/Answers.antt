use Rattle.answers.proofs.Laws as laws
use Rattle.answers.specs.Answers.{told_after}
use mathlib.Core.Path.{refl}
use Rattle.answers.proofs.put_told.Goals as goal

pub returns-in-Err : goal.returns-in-Err
unfolding told_after
returns-in-Err c = laws.ran_told _ _ _ _ c.in-Err.is refl

pub returns-in-Ok : goal.returns-in-Ok
unfolding told_after
returns-in-Ok c = laws.ran_told _ _ _ _ c.in-Ok.is c.write_told.ensures
