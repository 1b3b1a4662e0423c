use native.Mathlib.Omega.{arith}
use Rattle.terms.proofs.Places.{slots_are}
use Rattle.fragments.specs.Inside.{points_of}
use Rattle.recover.proofs.Laws as laws
use Rattle.recover.proofs.valid.Goals as goal

pub loop-i-init : goal.loop-i-init
loop-i-init c = let a = c.args in (c.requires.1, laws.agreed_none a.p.plan a.desk.now (points_of a.b) a.a)

pub overflow_cast-i : goal.overflow_cast-i
overflow_cast-i c = let q = slots_are _ _ c.args.p.within c.slots_of-slots.ensures in omega arith

pub entry_ok-requires : goal.entry_ok-requires
entry_ok-requires c = let q = slots_are _ _ c.args.p.within c.slots_of-slots.ensures in
    let r = laws.head_room _ _ c.slots_of-slots.ensures c.args.a _ c.requires.2 in
    (omega arith, omega (arith, r, c.loop-i-test.true), omega (arith, q.n_is, q.n_high, c.loop-i-test.true))

pub returns-then-not-entry_ok : goal.returns-then-not-entry_ok
returns-then-not-entry_ok c = let a = c.args in
    let q = slots_are _ _ c.args.p.within c.slots_of-slots.ensures in
    let r = laws.head_room _ _ c.slots_of-slots.ensures a.a _ c.requires.2 in
    laws.agreed_not a.p.plan a.desk.now (points_of a.b) a.a c.loop-i.i c.entry_ok.result _ c.slots_of-slots.result c.slots_of-slots.ensures
    c.regenerate.ensures c.entry_ok.ensures (omega arith) (omega (arith, c.requires.2)) c.if-not-entry_ok.true

pub loop-i-preserved : goal.loop-i-preserved
loop-i-preserved c = let a = c.args in
    let q = slots_are _ _ c.args.p.within c.slots_of-slots.ensures in (
      laws.refit a.p.plan a.desk.now (points_of a.b) c.slots_of-slots.result c.loop-i.i _ c.slots_of-slots.ensures c.requires.0 c.regenerate.ensures,
      laws.agreed_more a.p.plan a.desk.now (points_of a.b) a.a c.loop-i.i c.entry_ok.result _ c.slots_of-slots.result c.slots_of-slots.ensures
          c.regenerate.ensures c.entry_ok.ensures (omega (arith, c.requires.2)) c.loop-i.invariant.1 c.if-not-entry_ok.false,
    )

pub returns : goal.returns
returns c = let a = c.args in
    let q = slots_are _ _ c.args.p.within c.slots_of-slots.ensures in
    laws.agreed_all a.p.plan a.desk.now (points_of a.b) a.a c.loop-i.i (omega arith) c.loop-i.invariant.1
