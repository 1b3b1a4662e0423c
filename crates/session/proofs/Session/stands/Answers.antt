use mathlib.Core.Path.{sym, ◌∙◌}
use Rattle.terms.proofs.Plans.{plan_is}
use Rattle.standing.proofs.Rules as rules
use Rattle.session.specs.Ranges.{standing_rules}
use Rattle.session.proofs.Session.stands.Goals as goal

pub returns-then-not-stands : goal.returns-then-not-stands
unfolding standing_rules
returns-then-not-stands c = rules.fails _ (sym c.stands.ensures ∙ c.if-not-stands.true)

pub rest_unheard-requires : goal.rest_unheard-requires
rest_unheard-requires c = (plan_is _ c.args.p.within).n_high

pub returns-then-not-rest_unheard : goal.returns-then-not-rest_unheard
unfolding standing_rules
returns-then-not-rest_unheard c = rules.holds _ (sym c.stands.ensures ∙ c.if-not-stands.false)
    (rules.fails _ (sym c.rest_unheard.ensures ∙ c.if-not-rest_unheard.true))

pub returns : goal.returns
unfolding standing_rules
returns c = rules.holds _ (sym c.stands.ensures ∙ c.if-not-stands.false)
    (rules.holds _ (sym c.rest_unheard.ensures ∙ c.if-not-rest_unheard.false) (rules.last c.opening_ok.ensures))
