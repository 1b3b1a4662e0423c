use mathlib.Core.Path.{sym, ◌∙◌}
use Rattle.session.specs.Ranges.{in_range}
use Rattle.standing.proofs.Rules as rules
use Rattle.session.proofs.Session.ranges_ok.Goals as goal

pub returns-then-not-stands : goal.returns-then-not-stands
unfolding in_range
returns-then-not-stands c = rules.and_fails _ (sym c.stands.ensures ∙ c.if-not-stands.true)

pub returns-then-ended : goal.returns-then-ended
unfolding in_range
returns-then-ended c = rules.and_last (sym c.stands.ensures ∙ c.if-not-stands.false) (rules.or_holds _ (sym c.ended.ensures ∙ c.if-ended.true))

pub returns : goal.returns
unfolding in_range
returns c = rules.and_last (sym c.stands.ensures ∙ c.if-not-stands.false)
    (rules.or_last (sym c.ended.ensures ∙ c.if-ended.false) c.open_ok.ensures)
