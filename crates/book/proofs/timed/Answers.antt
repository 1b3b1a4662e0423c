use Rattle.std.proofs.Common.{ap, arith, subst, ℕ, ◌<◌, ◌≤◌}
use Rattle.book.specs.Records.{timed}
use Rattle.book.proofs.Turns as laws
use Rattle.book.proofs.timed.Goals as goal

pub returns-then-get-lt1 : goal.returns-then-get-lt1
returns-then-get-lt1 c = laws.timed_stop _ _ _ _ (omega arith) _ _ (omega arith) (omega arith) c.loop-i.invariant

pub loop-i-preserved : goal.loop-i-preserved
loop-i-preserved c = laws.timed_on _ _ _ _ (omega arith) _ _ (omega arith) (omega arith) c.loop-i.invariant

pub returns : goal.returns
returns c = laws.timed_end _ _ _ _ (omega arith) _ _ (omega arith) c.loop-i.invariant
