use Rattle.std.proofs.Common.{arith}
use Rattle.terms.proofs.Plans.{plan_is}
use Rattle.terms.proofs.Facts.{facts}
use Rattle.standing.proofs.Rules as rules
use Rattle.standing.proofs.lengths.lengths_ok.Goals as goal

pub overflow_mul-p : goal.overflow_mul-p
overflow_mul-p c = let q = plan_is _ c.args.p.within in omega (arith, rules.product_low c.args.p.plan.n c.record_length.result 16 1576 q.n_high c.record_length.ensures.1)

pub overflow_mul-result : goal.overflow_mul-result
overflow_mul-result c = let q = plan_is _ c.args.p.within in let g = facts _ c.args.p.within in omega (arith, rules.product_low c.args.p.plan.m c.args.p.plan.f 16 1024 (omega arith) q.f_high)
