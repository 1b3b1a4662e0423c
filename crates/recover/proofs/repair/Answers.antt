use native.Mathlib.Omega.{arith}
use Rattle.terms.proofs.Plans.{plan_is}
use Rattle.terms.proofs.Places.{record_length_lem}
use Rattle.recover.proofs.Sets as laws
use Rattle.recover.proofs.repair.Goals as goal

pub slice_bounds-nodes-end : goal.slice_bounds-nodes-end
slice_bounds-nodes-end c = let a = c.args in
    omega (arith, laws.m16 a.p.plan a.c a.a a.desk.now c.requires, c.requires.nodes)

pub slice_bounds-mend-end : goal.slice_bounds-mend-end
slice_bounds-mend-end c = let a = c.args in
    laws.few a.p.plan a.c a.a a.desk.now c.requires

pub mend-requires : goal.mend-requires
mend-requires c = let a = c.args in
    let q = plan_is _ c.requires.plan in
    rw c.slots_of-slots.ensures
    (laws.sources a.p.plan a.c a.a a.desk.now c.requires, q.f_high, record_length_lem a.p.plan, q.n_high, omega (arith, c.requires.desk), c.requires.lead, laws.few16 a.p.plan a.c a.a a.desk.now c.requires)

pub returns : goal.returns
returns c = let a = c.args in
    laws.repaired_is a.p.plan a.c a.a a.desk.now c.requires c.slots_of-slots.result c.slots_of-slots.ensures _ c.mend.ensures
