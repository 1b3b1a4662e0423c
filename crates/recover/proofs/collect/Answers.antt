use native.Mathlib.Omega.{arith}
use Rattle.terms.proofs.Plans.{plan_is}
use Rattle.terms.proofs.Facts.{facts}
use Rattle.recover.proofs.Sets as laws
use Rattle.recover.proofs.collect.Goals as goal

pub collect-requires : goal.collect-requires
collect-requires c = let q = plan_is _ c.args.p.within in
    let g = facts _ c.args.p.within in
    rw c.slots_of-slots.ensures (omega arith, c.requires.1, laws.first_slots c.args.p.plan c.args.desk.now c.args.p.within c.requires.0)

pub returns : goal.returns
returns c = let a = c.args in
    laws.collected_is a.p.plan c.slots_of-slots.result c.slots_of-slots.ensures a.desk.now a.item.now _ c.collect.ensures
