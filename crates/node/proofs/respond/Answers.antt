use Prim.{tt}
use mathlib.Core.Path.{refl, sym, ◌∙◌}
use Rattle.terms.proofs.Down.{at, stop, goes_on}
use Rattle.frame.specs.Frame.{body_of}
use Rattle.node.specs.Node.{work_ladder}
use Rattle.node.proofs.Laws as laws
use Rattle.node.proofs.respond.Goals as goal

pub returns-then-zero_time : goal.returns-then-zero_time
returns-then-zero_time c =
    laws.was_responded _ _ _ _ _ (stop _ _ (at 5 _ tt) (sym c.zero_time.ensures ∙ c.if-zero_time.true) refl)

pub returns-then-hash_fails : goal.returns-then-hash_fails
returns-then-hash_fails c =
    laws.was_responded _ _ _ _ _ (stop _ _ (at 6 _ (sym c.zero_time.ensures ∙ c.if-zero_time.false, tt)) (sym c.hash_fails.ensures ∙ c.if-hash_fails.true) refl)

pub returns : goal.returns
returns c =
    laws.was_responded _ _ _ _ _ (goes_on _ _ (at 7 _ (sym c.zero_time.ensures ∙ c.if-zero_time.false, (sym c.hash_fails.ensures ∙ c.if-hash_fails.false, tt))) (laws.goes_responded _ _ _ _ _ c.by_kind.ensures))
