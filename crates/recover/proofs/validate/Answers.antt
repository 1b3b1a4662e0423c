use native.Mathlib.Omega.{arith}
use Rattle.recover.proofs.Sets as laws
use Rattle.recover.proofs.validate.Goals as goal

pub slice_bounds-nodes-end : goal.slice_bounds-nodes-end
slice_bounds-nodes-end c = let a = c.args in
    omega (arith, laws.m16 a.p.plan a.c a.a a.desk.now c.requires, c.requires.nodes)

pub slice_bounds-validated-end : goal.slice_bounds-validated-end
slice_bounds-validated-end c = let a = c.args in
    laws.few a.p.plan a.c a.a a.desk.now c.requires

pub validated-requires : goal.validated-requires
validated-requires c = let a = c.args in
    (laws.sources a.p.plan a.c a.a a.desk.now c.requires, laws.head_room a.p.plan a.c a.a a.desk.now c.requires, laws.few16 a.p.plan a.c a.a a.desk.now c.requires)

pub returns-in-Crash : goal.returns-in-Crash
returns-in-Crash c = let a = c.args in
    laws.sound_crash a.p.plan a.c a.a a.desk.now c.requires c.in-Crash.is

pub returns-in-Byzantine : goal.returns-in-Byzantine
returns-in-Byzantine c = let a = c.args in
    laws.sound_told a.p.plan a.c a.a a.desk.now c.requires _ c.in-Byzantine.is c.validated.ensures
