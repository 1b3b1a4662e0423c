use Prim.{tt}
use mathlib.Core.Path.{refl, sym, ap, ◌∙◌}
use mathlib.Core.Bool.{not}
use Rattle.terms.proofs.Down.{at, next, stop, end}
use native.Mathlib.Omega.{arith}
use Rattle.terms.proofs.Plans.{plan_is}
use Rattle.frame.proofs.Frames.{reply_is}
use Rattle.frame.specs.declared.Header.{Header}
use Rattle.session.specs.Reply.{awaited_ladder, is_heard}
use Rattle.session.proofs.Session.check_awaited.Goals as goal

pub returns-then-not-awaits : goal.returns-then-not-awaits
returns-then-not-awaits c =
    (stop _ _ (at 10 _ tt) (ap not (sym c.awaits.ensures) ∙ (ap not c.if-not-awaits.true)) refl, tt)

pub has_heard-requires : goal.has_heard-requires
has_heard-requires c =
    let r = reply_is _ _ c.args.f.good in
    let q = plan_is _ c.args.f.plan.within in
    omega (arith, ap (λ (h : Header). h.node) c.args.f.read, r.node_low, q.n_high)

pub returns-then-has_heard : goal.returns-then-has_heard
returns-then-has_heard c =
    let d = at 11 (awaited_ladder c.args.self c.args.f.bytes.now) (ap not (sym c.awaits.ensures) ∙ (ap not c.if-not-awaits.false), tt) in
    (stop _ _ d (sym (c.has_heard.ensures ∙ ap (λ (h : Header). is_heard c.args.self h.node) c.args.f.read) ∙ c.if-has_heard.true) refl, tt)

pub returns : goal.returns
returns c =
    let d = at 11 (awaited_ladder c.args.self c.args.f.bytes.now) (ap not (sym c.awaits.ensures) ∙ (ap not c.if-not-awaits.false), tt) in
    (end _ _ (next 0 d refl (sym (c.has_heard.ensures ∙ ap (λ (h : Header). is_heard c.args.self h.node) c.args.f.read) ∙ c.if-has_heard.false)) refl refl, c.args.f.read)
