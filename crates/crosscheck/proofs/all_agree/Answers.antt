use native.Mathlib.Omega.{arith}
use Rattle.terms.proofs.Places.{slots_are}
use Rattle.fragments.specs.Inside.{points_of}
use Rattle.crosscheck.proofs.Entries as entries
use Rattle.crosscheck.proofs.all_agree.Goals as goal

pub loop-i-init : goal.loop-i-init
loop-i-init c = let a = c.args in (omega arith, entries.agreed_none a.p.plan a.desk.now (points_of a.b) a.at)

pub invariant_of-g : goal.invariant_of-g
invariant_of-g c = let s = c.slots_of-slots in
    let q = slots_are _ _ c.args.p.within s.ensures in
    let k = c.at_once.ensures in
    record { sources = rw s.ensures c.requires.0; hashable = entries.hashable c.args.p.plan s.result c.loop-i.i c.at_once.result c.args.p.within s.ensures (omega arith) k.2 }

pub returns-then-not-some_agree : goal.returns-then-not-some_agree
returns-then-not-some_agree c = let s = c.slots_of-slots in
    let a = c.args in
    let q = slots_are _ _ c.args.p.within s.ensures in
    entries.agreed_not a.p.plan a.desk.now (points_of a.b) a.at s.result c.loop-i.i c.at_once.result c.some_agree.result s.ensures (omega arith) c.requires.1
    c.some_agree.ensures c.if-not-some_agree.true c.loop-i.invariant.1

pub loop-i-preserved : goal.loop-i-preserved
loop-i-preserved c = let s = c.slots_of-slots in
    let a = c.args in
    let q = slots_are _ _ c.args.p.within s.ensures in (
      omega arith,
      entries.agreed_more a.p.plan a.desk.now (points_of a.b) a.at s.result c.loop-i.i c.at_once.result c.some_agree.result s.ensures (omega arith) c.requires.1
          c.some_agree.ensures c.if-not-some_agree.false c.loop-i.invariant.1,
    )

pub returns : goal.returns
returns c = let l = c.loop-i in
    let a = c.args in
    let q = slots_are _ _ c.args.p.within c.slots_of-slots.ensures in
    entries.agreed_all a.p.plan a.desk.now (points_of a.b) a.at l.i (omega arith) l.invariant.1
