use mathlib.Core.Path.{refl}
use native.Mathlib.Omega.{arith}
use Rattle.terms.proofs.Plans as laws
use Rattle.terms.specs.Terms.{record_length}
use Rattle.terms.proofs.record_length.Goals as goal

pub overflow_mul-result : goal.overflow_mul-result
overflow_mul-result c = let q = laws.plan_is _ c.args.p.within in omega arith

pub overflow_add-result : goal.overflow_add-result
overflow_add-result c = let q = laws.plan_is _ c.args.p.within in omega arith

pub overflow_add-result-2 : goal.overflow_add-result-2
overflow_add-result-2 c = let q = laws.plan_is _ c.args.p.within in omega arith

pub returns : goal.returns
unfolding record_length
returns c = let q = laws.plan_is _ c.args.p.within in (refl, omega arith, omega arith)
