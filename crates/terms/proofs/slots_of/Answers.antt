use mathlib.Core.Path.{refl}
use native.Mathlib.Omega.{arith}
use Rattle.terms.proofs.Plans as laws
use Rattle.terms.specs.Terms.{record_length}
use Rattle.terms.proofs.slots_of.Goals as goal

pub overflow_mul-head : goal.overflow_mul-head
overflow_mul-head c = let q = laws.plan_is _ c.args.p.within in omega arith

pub overflow_add-head : goal.overflow_add-head
overflow_add-head c = let q = laws.plan_is _ c.args.p.within in omega arith

pub overflow_add-result : goal.overflow_add-result
overflow_add-result c = let q = laws.plan_is _ c.args.p.within in omega arith

pub returns : goal.returns
unfolding record_length
returns c = refl
