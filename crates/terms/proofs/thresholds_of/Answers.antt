use native.Mathlib.Omega.{arith}
use Rattle.terms.proofs.Facts as laws
use Rattle.terms.proofs.Plans.{plan_is}
use Rattle.terms.proofs.thresholds_of.Goals as goal

pub overflow_add-result : goal.overflow_add-result
overflow_add-result c = let f = laws.facts _ c.args.p.within in let q = plan_is _ c.args.p.within in omega arith

pub overflow_sub-result : goal.overflow_sub-result
overflow_sub-result c = let f = laws.facts _ c.args.p.within in omega arith
