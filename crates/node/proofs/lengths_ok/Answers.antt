use mathlib.Core.Path.{sym, ◌∙◌}
use Rattle.node.proofs.Laws as laws
use Rattle.node.proofs.lengths_ok.Goals as goal

pub returns-then-not-lent : goal.returns-then-not-lent
returns-then-not-lent c = laws.lengths_no _ _ _ (sym c.lent.ensures ∙ c.if-not-lent.true)

pub returns : goal.returns
returns c = laws.lengths_last _ _ _ _ (sym c.lent.ensures ∙ c.if-not-lent.false) c.holds_any.ensures
