use native.Mathlib.Omega.{arith}
use Rattle.field.proofs.Laws.{twice_mul}
use Rattle.field.proofs.Horner.{paid_twice}
use Rattle.field.proofs.sums.twice.Goals as goal

pub returns-in-Zero : goal.returns-in-Zero
returns-in-Zero c = λ k h. rw c.in-Zero.is (twice_mul 0 _ (omega arith))

pub returns-in-One : goal.returns-in-One
returns-in-One c = λ k h. rw c.in-One.is (twice_mul 1 _ (omega arith))

pub returns-in-Two : goal.returns-in-Two
returns-in-Two c = λ k h. rw c.in-Two.is (twice_mul 2 _ (omega arith))

pub returns-in-Four : goal.returns-in-Four
returns-in-Four c = λ k h. rw c.in-Four.is (paid_twice _ _ (c.scale.ensures k h))
