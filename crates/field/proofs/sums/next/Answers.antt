use native.Mathlib.Omega.{arith}
use Rattle.field.proofs.Horner.{found, passed_by}
use Rattle.field.proofs.sums.next.Goals as goal

pub returns-then-w-k-eq1 : goal.returns-then-w-k-eq1
returns-then-w-k-eq1 c = let l = c.loop-k in found _ _ _ l.k (omega arith) (omega arith) l.invariant c.if-w-k-eq1.true

pub loop-k-preserved : goal.loop-k-preserved
loop-k-preserved c = let l = c.loop-k in passed_by _ _ _ l.k l.invariant c.if-w-k-eq1.false
