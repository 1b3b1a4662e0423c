use Rattle.std.proofs.Common.{arith}
use Rattle.terms.proofs.Plans.{plan_is}
use Rattle.standing.proofs.Rules as rules
use Rattle.standing.proofs.Round.slots_ok.Goals as goal

pub slots_fit-requires : goal.slots_fit-requires
slots_fit-requires c = let q = plan_is _ c.args.p.within in rw c.slots_of.ensures (omega arith, rules.record_long c.args.p.plan, q.n_high)
