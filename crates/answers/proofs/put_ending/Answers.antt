use Rattle.answers.specs.Answers.{ending_after}
use Rattle.answers.proofs.Laws as laws
use mathlib.Core.Path.{refl}
use Rattle.answers.proofs.put_ending.Goals as goal

pub returns-in-Err : goal.returns-in-Err
unfolding ending_after
returns-in-Err c = laws.ending_of_answer _ _ _ _ c.in-Err.is refl
