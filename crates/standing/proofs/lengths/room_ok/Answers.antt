use Rattle.std.proofs.Common.{arith}
use Rattle.terms.proofs.Plans.{plan_is}
use Rattle.standing.proofs.Rules as rules
use Rattle.standing.proofs.lengths.room_ok.Goals as goal

pub overflow_mul-p : goal.overflow_mul-p
overflow_mul-p c = let q = plan_is _ c.args.p.within in omega (arith, rules.product_low c.args.p.plan.n c.record_length.result 16 1576 q.n_high c.record_length.ensures.1)
