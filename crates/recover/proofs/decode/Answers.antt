use native.Mathlib.Omega.{arith}
use Rattle.recover.proofs.Sets as laws
use Rattle.recover.proofs.decode.Goals as goal

pub slice_bounds-nodes-end : goal.slice_bounds-nodes-end
slice_bounds-nodes-end c = let a = c.args in
    omega (arith, laws.m16 a.p.plan a.c a.a a.desk.now c.requires.0, c.requires.0.nodes)

pub slice_bounds-decode-end : goal.slice_bounds-decode-end
slice_bounds-decode-end c = let a = c.args in
    laws.few a.p.plan a.c a.a a.desk.now c.requires.0

pub decode-requires : goal.decode-requires
decode-requires c = let a = c.args in
    rw c.slots_of-slots.ensures
    (laws.sources a.p.plan a.c a.a a.desk.now c.requires.0, laws.m16 a.p.plan a.c a.a a.desk.now c.requires.0, c.requires.1, laws.few16 a.p.plan a.c a.a a.desk.now c.requires.0)

pub returns : goal.returns
returns c = let a = c.args in
    laws.decoded_is a.p.plan a.c a.a a.desk.now c.requires.0 c.slots_of-slots.result c.slots_of-slots.ensures a.item.now _ c.decode.ensures
