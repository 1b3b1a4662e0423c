use Prim.{tt}
use mathlib.Core.Path.{refl, sym, ap, ◌∙◌}
use mathlib.Core.Bool.{not}
use Rattle.terms.proofs.Down.{at, next, stop, end}
use Rattle.session.specs.declared.Session.{Session}
use Rattle.session.specs.Opening.{opening_ladder, opens, open_with}
use Rattle.session.proofs.Session.begin.Goals as goal

pub returns-then-not-plan_ok : goal.returns-then-not-plan_ok
unfolding open_with
returns-then-not-plan_ok c =
    stop _ _ (at 1 _ tt) (ap not (sym c.plan_ok.ensures) ∙ (ap not c.if-not-plan_ok.true)) (ap (λ (s : Session). opens 1 s) c.none-none.ensures)

pub returns-then-not-opening_ok : goal.returns-then-not-opening_ok
unfolding open_with
returns-then-not-opening_ok c =
    stop _ _ (at 13 _ (ap not (sym c.plan_ok.ensures) ∙ (ap not c.if-not-plan_ok.false), tt)) (ap not (sym c.opening_ok.ensures) ∙ (ap not c.if-not-opening_ok.true))
    (ap (λ (s : Session). opens 13 s) c.none-none.ensures)

pub returns : goal.returns
unfolding open_with
returns c =
    end _ _ (next 0 (at 13 (opening_ladder c.args.p c.args.opening.0) (ap not (sym c.plan_ok.ensures) ∙ (ap not c.if-not-plan_ok.false), tt)) refl (ap not (sym c.opening_ok.ensures) ∙ (ap not c.if-not-opening_ok.false))) refl
    (ap (λ (s : Session). opens 0 s) c.fresh-session.ensures)
