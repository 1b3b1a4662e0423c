use native.Mathlib.Omega.{arith}
use Rattle.terms.proofs.Places.{slots_are}
use Rattle.rounds.specs.Rounds.{told}
use Rattle.session.proofs.Readers as laws
use Rattle.session.proofs.Session.settle.Goals as goal

pub returns-then-round_open : goal.returns-then-round_open
returns-then-round_open c = let args = c.args in
    laws.settled_open args.p.plan args.self _ _ _ c.round_open.ensures c.if-round_open.true

pub closing-c-requires : goal.closing-c-requires
closing-c-requires c = let slots = c.slots_of-slots in
    let q = slots_are _ _ c.args.p.within slots.ensures in
    (laws.desk_room c.args.p.plan slots.result slots.ensures c.args.desk.now c.requires.0, omega arith, omega arith, omega arith)

pub act-requires : goal.act-requires
act-requires c = let args = c.args in
    let q = slots_are _ _ c.args.p.within c.slots_of-slots.ensures in
    laws.acting args.p.plan args.self args.desk.now c.closing-c.result c.args.p.within c.requires.0
    (laws.closed_is args.p.plan args.self args.desk.now _ _ _ c.slots_of-slots.ensures c.thresholds_of-t.ensures c.closing-c.ensures.0)
    c.closing-c.ensures.1 (omega (arith, c.closing-c.ensures.2)) args.item.now c.requires.1

pub returns : goal.returns
returns c = let args = c.args in
    laws.settled_acts args.p.plan args.self args.desk.now args.item.now _ c.round_open.ensures _ (told c.closing-c.result) c.if-round_open.false
    (laws.closed_is args.p.plan args.self args.desk.now _ _ _ c.slots_of-slots.ensures c.thresholds_of-t.ensures c.closing-c.ensures.0)
    c.act.ensures
