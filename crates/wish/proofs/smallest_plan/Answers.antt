use mathlib.Core.Path.{sym, ◌∙◌}
use Rattle.wish.proofs.Turns as turns
use Rattle.wish.proofs.smallest_plan.Goals as goal

pub returns-then-is_outside : goal.returns-then-is_outside
returns-then-is_outside c = turns.says_outside _ _ c.is_outside.ensures c.if-is_outside.true

pub is_unmet-requires : goal.is_unmet-requires
is_unmet-requires c = sym c.is_outside.ensures ∙ c.if-is_outside.false

pub returns-then-is_unmet : goal.returns-then-is_unmet
returns-then-is_unmet c = turns.says_unmet _ _ _ c.is_outside.ensures c.if-is_outside.false c.is_unmet.ensures c.if-is_unmet.true

pub nodes_for-n-requires : goal.nodes_for-n-requires
nodes_for-n-requires c = turns.met_small _ _ c.is_unmet.ensures c.if-is_unmet.false

pub quorum_for-q-requires : goal.quorum_for-q-requires
quorum_for-q-requires c = turns.met_small _ _ c.is_unmet.ensures c.if-is_unmet.false

pub returns : goal.returns
returns c = turns.says_counts _ _ _ _ _ c.is_outside.ensures c.if-is_outside.false c.is_unmet.ensures c.if-is_unmet.false c.nodes_for-n.ensures c.quorum_for-q.ensures
