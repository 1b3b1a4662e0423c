use native.Mathlib.Omega.{arith}
use Rattle.terms.proofs.Plans.{plan_is, small}
use Rattle.record.proofs.Desks.{sources}
use Rattle.recover.proofs.Records as laws
use Rattle.recover.proofs.write_records.Goals as goal

pub encode-requires : goal.encode-requires
encode-requires c = rw c.slots_of-slots.ensures
    (c.requires.0, (small _ c.args.p.within).m_small, (plan_is _ c.args.p.within).n_high, sources c.args.p.plan c.args.desk.now c.args.p.plan.n c.requires.1)

pub cross-requires : goal.cross-requires
cross-requires c = let pre = c.requires in
    let q = plan_is _ c.args.p.within in
    (omega arith, omega arith)

pub stamp_of-t-requires : goal.stamp_of-t-requires
stamp_of-t-requires c = let pre = c.requires in
    let q = plan_is _ c.args.p.within in
    omega arith

pub fill-requires : goal.fill-requires
fill-requires c = let pre = c.requires in
    let q = plan_is _ c.args.p.within in
    (omega arith, omega arith)

pub returns : goal.returns
returns c = let a = c.args in
    laws.records_made a.p.plan c.slots_of-slots.result c.slots_of-slots.ensures a.item.now a.desk.now _ _ _ c.requires.0 c.requires.1 c.encode.ensures
    c.cross.ensures a.at.0 _ _ c.stamp_of-t.ensures.0 c.stamp_of-t.ensures.1 c.fill.ensures
