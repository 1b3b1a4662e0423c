use native.Mathlib.Omega.{arith}
use Rattle.terms.proofs.Plans.{plan_is, small}
use Rattle.session.specs.Writer.{kth_reply}
use Rattle.session.proofs.Session.kth_reply.Goals as goal

pub overflow_add-p : goal.overflow_add-p
overflow_add-p c = omega (arith, (plan_is _ c.args.p.within).b_t, (small _ c.args.p.within).t_small)

pub returns : goal.returns
returns c = unfold kth_reply in c.kth_greatest.ensures
