use mathlib.Core.Path.{sym, ◌∙◌}
use Rattle.session.specs.Ranges.{open_rules}
use Rattle.standing.proofs.Rules as rules
use Rattle.session.proofs.Session.open_ok.Goals as goal

pub returns-then-not-stamp_ok : goal.returns-then-not-stamp_ok
unfolding open_rules
returns-then-not-stamp_ok c = rules.fails _ (sym c.stamp_ok.ensures ∙ c.if-not-stamp_ok.true)

pub returns-then-not-firsts_ok : goal.returns-then-not-firsts_ok
unfolding open_rules
returns-then-not-firsts_ok c = rules.holds _ (sym c.stamp_ok.ensures ∙ c.if-not-stamp_ok.false)
    (rules.fails _ (sym c.firsts_ok.ensures ∙ c.if-not-firsts_ok.true))

pub returns-then-not-is_open : goal.returns-then-not-is_open
unfolding open_rules
returns-then-not-is_open c = rules.holds _ (sym c.stamp_ok.ensures ∙ c.if-not-stamp_ok.false)
    (rules.holds _ (sym c.firsts_ok.ensures ∙ c.if-not-firsts_ok.false)
    (rules.fails _ (sym c.is_open.ensures ∙ c.if-not-is_open.true)))

pub returns : goal.returns
unfolding open_rules
returns c = rules.holds _ (sym c.stamp_ok.ensures ∙ c.if-not-stamp_ok.false)
    (rules.holds _ (sym c.firsts_ok.ensures ∙ c.if-not-firsts_ok.false)
    (rules.holds _ (sym c.is_open.ensures ∙ c.if-not-is_open.false) (rules.last c.slots_ok.ensures)))
