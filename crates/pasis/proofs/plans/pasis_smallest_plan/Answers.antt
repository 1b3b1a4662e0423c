use mathlib.Core.Path.{◌∙◌}
use Rattle.answers.proofs.Laws as answers
use Rattle.pasis.proofs.Wishes as wishes
use Rattle.pasis.proofs.plans.pasis_smallest_plan.Goals as goal

pub returns-then-outside : goal.returns-then-outside
returns-then-outside c = wishes.told_outside _ _ _ _ _ _ _ _ c.wish_of-w.ensures c.smallest_plan-a.ensures (c.number-k.ensures ∙ answers.smallest_is c.smallest_plan-a.result) c.if-outside.true

pub returns-then-counts-ne2 : goal.returns-then-counts-ne2
returns-then-counts-ne2 c = wishes.told_length _ _ _ _ _ _ _ _ c.wish_of-w.ensures c.smallest_plan-a.ensures (c.number-k.ensures ∙ answers.smallest_is c.smallest_plan-a.result) c.if-outside.false c.if-counts-ne2.true

pub returns : goal.returns
returns c = wishes.told_answer _ _ _ _ _ _ _ _ c.wish_of-w.ensures c.smallest_plan-a.ensures (c.number-k.ensures ∙ answers.smallest_is c.smallest_plan-a.result) c.if-outside.false c.if-counts-ne2.false _ c.put_counts.ensures
