use Prim.{tt}
use mathlib.Core.Path.{refl, sym, ap, ◌∙◌}
use mathlib.Core.Bool.{not}
use native.Mathlib.Omega.{arith}
use borrow.Author.Tests.{not-false}
use Rattle.terms.proofs.Plans.{plan_is}
use Rattle.frame.specs.declared.Header.{Header}
use Rattle.frame.specs.Frame.{good_reply}
use Rattle.frame.proofs.Frames.{reply_is, Opened, was_open, was_shut}
use Rattle.standing.specs.Standing.{same_operation}
use Rattle.session.specs.Reply.{reply_ladder}
use Rattle.standing.proofs.Rules as rules
use Rattle.session.proofs.Rules as here
use Rattle.terms.proofs.Down.{at, left, stop, goes_on}
use Rattle.session.proofs.Session.check.Goals as goal

pub returns-then-not-plan_ok : goal.returns-then-not-plan_ok
returns-then-not-plan_ok c =
    (stop _ _ (at 1 _ tt) (ap not (sym c.plan_ok.ensures) ∙ (ap not c.if-not-plan_ok.true)) refl, tt)

pub returns-then-not-lengths_ok : goal.returns-then-not-lengths_ok
returns-then-not-lengths_ok c =
    (stop _ _ (at 2 _ (ap not (sym c.plan_ok.ensures) ∙ (ap not c.if-not-plan_ok.false), tt)) (ap not (sym c.lengths_ok.ensures) ∙ (ap not c.if-not-lengths_ok.true)) refl, tt)

pub returns-then-not-same_operation : goal.returns-then-not-same_operation
returns-then-not-same_operation c =
    (stop _ _ (at 9 _ (ap not (sym c.plan_ok.ensures) ∙ (ap not c.if-not-plan_ok.false), (ap not (sym c.lengths_ok.ensures) ∙ (ap not c.if-not-lengths_ok.false), tt))) (ap not (sym (rules.and_fails _ (sym c.same_operation.ensures ∙ c.if-not-same_operation.true)))) refl, tt)

pub ranges_ok-requires : goal.ranges_ok-requires
ranges_ok-requires c =
    let d = at 9 (reply_ladder c.args.op c.args.p c.args.self c.args.frame.now c.args.desk.now c.args.item) (ap not (sym c.plan_ok.ensures) ∙ (ap not c.if-not-plan_ok.false), (ap not (sym c.lengths_ok.ensures) ∙ (ap not c.if-not-lengths_ok.false), tt)) in
    rules.desk_fits _ _ _ (not-false _ (left 2 d))

pub returns-then-not-ranges_ok : goal.returns-then-not-ranges_ok
returns-then-not-ranges_ok c =
    let same = c.same_operation in
    (stop _ _ (at 9 _ (ap not (sym c.plan_ok.ensures) ∙ (ap not c.if-not-plan_ok.false), (ap not (sym c.lengths_ok.ensures) ∙ (ap not c.if-not-lengths_ok.false), tt))) (ap not (sym (rules.and_last (sym same.ensures ∙ c.if-not-same_operation.false) c.ranges_ok.ensures)) ∙ (ap not c.if-not-ranges_ok.true)) refl, tt)

pub returns-then-ended : goal.returns-then-ended
returns-then-ended c =
    (stop _ _ (at 14 _ (ap not (sym c.plan_ok.ensures) ∙ (ap not c.if-not-plan_ok.false), (ap not (sym c.lengths_ok.ensures) ∙ (ap not c.if-not-lengths_ok.false), (ap not (sym (rules.and_last (sym c.same_operation.ensures ∙ c.if-not-same_operation.false) c.ranges_ok.ensures)) ∙ (ap not c.if-not-ranges_ok.false), tt)))) (sym c.ended.ensures ∙ c.if-ended.true) refl, tt)

pub check_awaited-requires : goal.check_awaited-requires
check_awaited-requires c =
    let opened : let a = c.args in Opened (good_reply a.p a.frame.now) a.frame.now c.in-Some.h = was_open _ _ _ (sym c.in-Some.is ∙ c.reply_at.ensures) in
    let d = at 10 (reply_ladder c.args.op c.args.p c.args.self c.args.frame.now c.args.desk.now c.args.item) (ap not (sym c.plan_ok.ensures) ∙ (ap not c.if-not-plan_ok.false), (ap not (sym c.lengths_ok.ensures) ∙ (ap not c.if-not-lengths_ok.false), (ap not (sym (rules.and_last (sym c.same_operation.ensures ∙ c.if-not-same_operation.false) c.ranges_ok.ensures)) ∙ (ap not c.if-not-ranges_ok.false), (sym c.ended.ensures ∙ c.if-ended.false, (ap not opened.good, tt))))) in
    let a = c.args in
    let q = plan_is a.p (not-false _ (left 1 d)) in
    let r = reply_is a.p a.frame.now (not-false _ (left 4 d)) in
    let h = (opened).is in
    let st = here.range_stands a.p a.self a.desk.now (rules.and_second (same_operation a.op a.self.operation) _ (not-false _ (left 9 d))) in
    (st.low, here.ask_high _ _ st)

pub returns-in_default : goal.returns-in_default
returns-in_default c =
    let d = at 4 (reply_ladder c.args.op c.args.p c.args.self c.args.frame.now c.args.desk.now c.args.item) (ap not (sym c.plan_ok.ensures) ∙ (ap not c.if-not-plan_ok.false), (ap not (sym c.lengths_ok.ensures) ∙ (ap not c.if-not-lengths_ok.false), (ap not (sym (rules.and_last (sym c.same_operation.ensures ∙ c.if-not-same_operation.false) c.ranges_ok.ensures)) ∙ (ap not c.if-not-ranges_ok.false), (sym c.ended.ensures ∙ c.if-ended.false, tt)))) in
    let a = c.args in
    (stop _ _ d (ap not (was_shut (good_reply a.p a.frame.now) a.frame.now (sym c.in_default.is ∙ c.reply_at.ensures))) refl, tt)

pub returns : goal.returns
returns c =
    let opened : let a = c.args in Opened (good_reply a.p a.frame.now) a.frame.now c.in-Some.h = was_open _ _ _ (sym c.in-Some.is ∙ c.reply_at.ensures) in
    (goes_on _ _ (at 10 _ (ap not (sym c.plan_ok.ensures) ∙ (ap not c.if-not-plan_ok.false), (ap not (sym c.lengths_ok.ensures) ∙ (ap not c.if-not-lengths_ok.false), (ap not (sym (rules.and_last (sym c.same_operation.ensures ∙ c.if-not-same_operation.false) c.ranges_ok.ensures)) ∙ (ap not c.if-not-ranges_ok.false), (sym c.ended.ensures ∙ c.if-ended.false, (ap not opened.good, tt)))))) c.check_awaited.ensures.0, c.check_awaited.ensures.1)
