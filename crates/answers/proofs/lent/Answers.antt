use Prim.{tt}
use mathlib.Core.Path.{refl, sym, ap, ◌∙◌}
use mathlib.Core.Bool.{not}
use Rattle.terms.proofs.Down.{at, next, stop, end}
use Rattle.answers.specs.Answers.{lent_ladder}
use Rattle.answers.proofs.lent.Goals as goal

pub returns-then-not-plan_ok : goal.returns-then-not-plan_ok
returns-then-not-plan_ok c =
    stop _ _ (at 1 _ tt) (ap not (sym c.plan_ok.ensures) ∙ (ap not c.if-not-plan_ok.true)) refl

pub returns-then-not-fits : goal.returns-then-not-fits
returns-then-not-fits c =
    stop _ _ (at 2 _ (ap not (sym c.plan_ok.ensures) ∙ (ap not c.if-not-plan_ok.false), tt)) (ap not c.if-not-fits.true) refl

pub returns : goal.returns
returns c =
    end _ _ (next 0 (at 2 (lent_ladder c.args.p c.args.fits) (ap not (sym c.plan_ok.ensures) ∙ (ap not c.if-not-plan_ok.false), tt)) refl (ap not c.if-not-fits.false)) refl refl
