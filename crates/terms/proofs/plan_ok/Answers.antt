use mathlib.Core.Bool.{not}
use mathlib.Core.Path.{ap}
use Rattle.terms.proofs.Plans as laws
use Rattle.terms.proofs.plan_ok.Goals as goal

pub returns-then-not-counts_ok : goal.returns-then-not-counts_ok
returns-then-not-counts_ok c = laws.plan_counts _ _ c.counts_ok.ensures (ap not c.if-not-counts_ok.true)

pub returns : goal.returns
returns c = laws.plan_limits _ _ c.counts_ok.ensures _ (ap not c.if-not-counts_ok.false) c.limits_ok.ensures
