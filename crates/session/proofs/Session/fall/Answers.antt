use native.Mathlib.Omega.{arith}
use Rattle.terms.proofs.Plans.{plan_is}
use Rattle.session.proofs.Readers as laws
use Rattle.session.proofs.Session.fall.Goals as goal

pub returns-then-round-p : goal.returns-then-round-p
returns-then-round-p c = laws.spent c.args.p.plan c.args.self c.args.t _ _ _ c.if-round-p.true c.over-s.ensures

pub next-s-requires : goal.next-s-requires
next-s-requires c = let q = plan_is _ c.args.p.within in omega arith

pub returns : goal.returns
returns c = laws.goes_on c.args.p.plan c.args.self c.args.t _ _ _ c.if-round-p.false c.next-s.ensures
