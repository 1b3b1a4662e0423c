use native.Mathlib.Omega.{arith}
use Rattle.terms.proofs.Plans.{plan_is}
use Rattle.record.proofs.Desks as laws
use borrow.Author.Rules.{rules}
use Rattle.record.proofs.stamp_of.Goals as goal

pub digest-d-requires : goal.digest-d-requires
digest-d-requires c = let q = plan_is _ c.args.p.within in search rules

pub returns : goal.returns
returns c = let a = c.args in
    let b1 = c.get-a.ensures.1 in
    let b2 = c.get-b.ensures.1 in
    let b3 = c.get-c.ensures.1 in
    let b4 = c.get-e.ensures.1 in (
      laws.stamp_made_lem _ a.cross.now _ a.at a.p.plan.n (omega (arith, c.well_formed.1.0))
          c.get-a.ensures.0 c.get-b.ensures.0 c.get-c.ensures.0 c.get-e.ensures.0 c.digest-d.ensures,
      laws.stamp_is _ a.cross.now _ a.at a.p.plan.n (record { w1 = b2; w2 = b3; w3 = b4 }) b1
          c.get-a.ensures.2 c.get-b.ensures.2 c.get-c.ensures.2 c.get-e.ensures.2 c.digest-d.ensures,
    )
