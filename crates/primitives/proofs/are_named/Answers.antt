use Rattle.primitives.proofs.Laws.{named_on, named_stop, named_end}
use mathlib.Core.Path.{sym, ◌∙◌}
use native.Mathlib.Omega.{arith}
use Rattle.primitives.proofs.are_named.Goals as goal

pub returns-then-not-is_apart : goal.returns-then-not-is_apart
returns-then-not-is_apart c = sym (c.loop-k.invariant ∙ named_stop c.args.f c.args.desk c.args.nodes.now c.loop-k.k (omega arith) (sym c.is_apart.ensures ∙ c.if-not-is_apart.true))

pub loop-k-preserved : goal.loop-k-preserved
loop-k-preserved c = c.loop-k.invariant ∙ named_on c.args.f c.args.desk c.args.nodes.now c.loop-k.k (omega arith) (sym c.is_apart.ensures ∙ c.if-not-is_apart.false)

pub returns : goal.returns
returns c = sym (c.loop-k.invariant ∙ named_end c.args.f c.args.desk c.args.nodes.now c.loop-k.k (omega arith))
