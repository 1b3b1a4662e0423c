use native.Mathlib.Omega.{arith}
use Rattle.frame.proofs.Frames.{reply_is}
use Rattle.session.proofs.Rules as rules
use Rattle.session.proofs.Session.awaits.Goals as goal

pub returns-then-not-answers : goal.returns-then-not-answers
returns-then-not-answers c = rules.other_ask c.args.self c.args.f.bytes.now c.args.f.head c.args.f.read _ c.asked-ask.ensures _ c.answers.ensures
    c.if-not-answers.true

pub returns-then-not-awaits_kind : goal.returns-then-not-awaits_kind
returns-then-not-awaits_kind c = rules.other_kind c.args.self c.args.f.bytes.now c.args.f.head c.args.f.read _ c.asked-ask.ensures _ c.answers.ensures
    c.if-not-answers.false _ c.awaits_kind.ensures c.if-not-awaits_kind.true

pub returns-then-not-storing : goal.returns-then-not-storing
returns-then-not-storing c = rules.no_stamp c.args.self c.args.f.bytes.now c.args.f.head c.args.f.read _ c.asked-ask.ensures _ c.answers.ensures
    c.if-not-answers.false _ c.awaits_kind.ensures c.if-not-awaits_kind.false
    _ c.storing.ensures c.if-not-storing.true

pub stamp_at-t-requires : goal.stamp_at-t-requires
stamp_at-t-requires c = let l = rules.stamp_there c.args.self c.args.f.bytes.now c.args.f.head c.args.f.read _ c.asked-ask.ensures _ c.answers.ensures
    c.if-not-answers.false _ c.awaits_kind.ensures c.if-not-awaits_kind.false
    _ c.storing.ensures c.if-not-storing.false (rules.header_stamped _ _ _ c.args.f.read (reply_is _ _ c.args.f.good)) in
    omega (arith, c.head_bytes-at.ensures)

pub returns : goal.returns
returns c = let l = rules.stamp_there c.args.self c.args.f.bytes.now c.args.f.head c.args.f.read _ c.asked-ask.ensures _ c.answers.ensures
    c.if-not-answers.false _ c.awaits_kind.ensures c.if-not-awaits_kind.false
    _ c.storing.ensures c.if-not-storing.false (rules.header_stamped _ _ _ c.args.f.read (reply_is _ _ c.args.f.good)) in
    rules.stamp_told c.args.self c.args.f.bytes.now c.args.f.head c.args.f.read _ c.asked-ask.ensures _ c.answers.ensures
    c.if-not-answers.false _ c.awaits_kind.ensures c.if-not-awaits_kind.false
    _ c.storing.ensures c.if-not-storing.false _ c.stamp_at-t.result _ c.head_bytes-at.ensures
    c.stamp_at-t.ensures l c.same.ensures
