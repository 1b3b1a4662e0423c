-- What fits the desk is a plan, and has 16 nodes at most.
use Rattle.std.proofs.Common.{arith}
use Rattle.terms.proofs.Plans.{plan_is}
use Rattle.cases.proofs.walk.records.Goals as goal

pub cross-requires : goal.cross-requires
cross-requires c = let h = (plan_is _ c.in-Some.accepted.within).n_high in (c.in-Some.ensures.1, omega arith)

pub stamp_of-t-requires : goal.stamp_of-t-requires
stamp_of-t-requires c = let h = (plan_is _ c.in-Some.accepted.within).n_high in omega arith

pub fill-requires : goal.fill-requires
fill-requires c = let h = (plan_is _ c.in-Some.accepted.within).n_high in (c.in-Some.ensures.1, omega arith)
