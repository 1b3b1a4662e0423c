use Prim.{tt}
use mathlib.Core.Path.{refl, sym, ap, ◌∙◌}
use mathlib.Core.Bool.{not}
use native.Mathlib.Omega.{arith}
use borrow.Author.Tests.{not-false, le-ltb, lt-ltb}
use Rattle.terms.proofs.Down.{at, next, left, stop, end}
use Rattle.terms.proofs.Plans.{plan_is}
use Rattle.session.specs.Owed.{owed_ladder}
use Rattle.standing.proofs.Rules as rules
use Rattle.session.proofs.Session.owed_check.Goals as goal

pub returns-then-not-plan_ok : goal.returns-then-not-plan_ok
returns-then-not-plan_ok c =
    stop _ _ (at 1 _ tt) (ap not (sym c.plan_ok.ensures) ∙ (ap not c.if-not-plan_ok.true)) refl

pub returns-then-not-room_ok : goal.returns-then-not-room_ok
returns-then-not-room_ok c =
    stop _ _ (at 2 _ (ap not (sym c.plan_ok.ensures) ∙ (ap not c.if-not-plan_ok.false), tt)) (ap not (sym c.room_ok.ensures) ∙ (ap not c.if-not-room_ok.true)) refl

pub ranges_ok-requires : goal.ranges_ok-requires
ranges_ok-requires c =
    let d = at 9 (owed_ladder c.args.p c.args.self c.args.node c.args.desk.now c.args.request) (ap not (sym c.plan_ok.ensures) ∙ (ap not c.if-not-plan_ok.false), (ap not (sym c.room_ok.ensures) ∙ (ap not c.if-not-room_ok.false), tt)) in
    (rules.room_is _ _ _ (not-false _ (left 2 d))).desk_is

pub returns-then-not-ranges_ok : goal.returns-then-not-ranges_ok
returns-then-not-ranges_ok c =
    stop _ _ (at 9 _ (ap not (sym c.plan_ok.ensures) ∙ (ap not c.if-not-plan_ok.false), (ap not (sym c.room_ok.ensures) ∙ (ap not c.if-not-room_ok.false), tt))) (ap not (sym c.ranges_ok.ensures) ∙ (ap not c.if-not-ranges_ok.true)) refl

pub returns-then-ended : goal.returns-then-ended
returns-then-ended c =
    stop _ _ (at 14 _ (ap not (sym c.plan_ok.ensures) ∙ (ap not c.if-not-plan_ok.false), (ap not (sym c.room_ok.ensures) ∙ (ap not c.if-not-room_ok.false), (ap not (sym c.ranges_ok.ensures) ∙ (ap not c.if-not-ranges_ok.false), tt)))) (sym c.ended.ensures ∙ c.if-ended.true) refl

pub returns-then-node-p : goal.returns-then-node-p
returns-then-node-p c =
    stop _ _ (at 4 _ (ap not (sym c.plan_ok.ensures) ∙ (ap not c.if-not-plan_ok.false), (ap not (sym c.room_ok.ensures) ∙ (ap not c.if-not-room_ok.false), (ap not (sym c.ranges_ok.ensures) ∙ (ap not c.if-not-ranges_ok.false), (sym c.ended.ensures ∙ c.if-ended.false, tt))))) (ap not (le-ltb _ _ c.if-node-p.true)) refl

pub has_heard-requires : goal.has_heard-requires
has_heard-requires c =
    let d = at 11 (owed_ladder c.args.p c.args.self c.args.node c.args.desk.now c.args.request) (ap not (sym c.plan_ok.ensures) ∙ (ap not c.if-not-plan_ok.false), (ap not (sym c.room_ok.ensures) ∙ (ap not c.if-not-room_ok.false), (ap not (sym c.ranges_ok.ensures) ∙ (ap not c.if-not-ranges_ok.false), (sym c.ended.ensures ∙ c.if-ended.false, (ap not (lt-ltb _ _ c.if-node-p.false), tt))))) in
    let q = plan_is c.args.p (not-false _ (left 1 d)) in
    omega (arith, c.if-node-p.false, q.n_high)

pub returns-then-has_heard : goal.returns-then-has_heard
returns-then-has_heard c =
    stop _ _ (at 11 _ (ap not (sym c.plan_ok.ensures) ∙ (ap not c.if-not-plan_ok.false), (ap not (sym c.room_ok.ensures) ∙ (ap not c.if-not-room_ok.false), (ap not (sym c.ranges_ok.ensures) ∙ (ap not c.if-not-ranges_ok.false), (sym c.ended.ensures ∙ c.if-ended.false, (ap not (lt-ltb _ _ c.if-node-p.false), tt)))))) (sym c.has_heard.ensures ∙ c.if-has_heard.true) refl

pub returns : goal.returns
returns c =
    end _ _ (next 0 (at 11 (owed_ladder c.args.p c.args.self c.args.node c.args.desk.now c.args.request) (ap not (sym c.plan_ok.ensures) ∙ (ap not c.if-not-plan_ok.false), (ap not (sym c.room_ok.ensures) ∙ (ap not c.if-not-room_ok.false), (ap not (sym c.ranges_ok.ensures) ∙ (ap not c.if-not-ranges_ok.false), (sym c.ended.ensures ∙ c.if-ended.false, (ap not (lt-ltb _ _ c.if-node-p.false), tt)))))) refl (sym c.has_heard.ensures ∙ c.if-has_heard.false)) refl refl
