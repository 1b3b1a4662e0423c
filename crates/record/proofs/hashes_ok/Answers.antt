use native.Mathlib.Omega.{arith}
use Rattle.terms.proofs.Places.{slots_are}
use Rattle.record.proofs.Records as laws
use borrow.Author.Rules.{rules}
use Rattle.record.proofs.hashes_ok.Goals as goal

pub overflow_add-from : goal.overflow_add-from
overflow_add-from c = let q = slots_are _ _ c.args.p.within c.slots_of-slots.ensures in omega arith

pub overflow_add-entry : goal.overflow_add-entry
overflow_add-entry c = let q = slots_are _ _ c.args.p.within c.slots_of-slots.ensures in omega arith

pub verifier_ok-requires : goal.verifier_ok-requires
verifier_ok-requires c = let q = slots_are _ _ c.args.p.within c.slots_of-slots.ensures in (omega arith, omega arith, omega arith)

pub returns-then-not-verifier_ok : goal.returns-then-not-verifier_ok
returns-then-not-verifier_ok c = let a = c.args in
    let q = slots_are _ _ c.args.p.within c.slots_of-slots.ensures in
    let r = c.verifier_ok in
    laws.hashes_no a.p.plan a.s.now a.at c.slots_of-slots.result.head q.head_is a.node r.result c.if-not-verifier_ok.true r.ensures

pub slice_bounds-entry_ok-count : goal.slice_bounds-entry_ok-count
slice_bounds-entry_ok-count c = let q = slots_are _ _ c.args.p.within c.slots_of-slots.ensures in omega arith

pub slice_bounds-entry_ok-start : goal.slice_bounds-entry_ok-start
slice_bounds-entry_ok-start c = let q = slots_are _ _ c.args.p.within c.slots_of-slots.ensures in omega arith

pub entry_ok-requires : goal.entry_ok-requires
entry_ok-requires c = let a = c.args in
    let q = slots_are _ _ c.args.p.within c.slots_of-slots.ensures in
    (search rules, omega arith, omega (arith, q.n_high, q.n_is, c.requires.1))

pub returns : goal.returns
returns c = let a = c.args in
    let q = slots_are _ _ c.args.p.within c.slots_of-slots.ensures in
    let r = c.verifier_ok in
    laws.hashes_last a.p.plan a.s.now a.at c.slots_of-slots.result.head q.head_is a.node r.result _ c.slots_of-slots.result.size q.size_is c.requires.1
    c.if-not-verifier_ok.false r.ensures c.entry_ok.ensures
