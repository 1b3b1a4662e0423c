use Prim.{tt}
use mathlib.Core.Path.{refl, ap}
use mathlib.Core.Bool.{not}
use mathlib.Core.List.{List}
use Prim.Native.Nat.{ℕ}
use borrow.Author.Tests.{not-false, lt-ltb, le-ltb}
use Rattle.terms.specs.Ladder.{Rung}
use Rattle.terms.proofs.Down.{at, left, stop, end}
use Rattle.book.proofs.Laws as books
use Rattle.node.specs.Fresh.{fresh_ladder, fresh_outcome, made}
use Rattle.node.proofs.Laws as laws
use Rattle.node.proofs.fresh.Goals as goal

pub returns-then-not-plan_ok : goal.returns-then-not-plan_ok
returns-then-not-plan_ok c =
    laws.fresh_called _ _ _ _ _ (stop _ _ (at 1 _ tt) (laws.so_not c.plan_ok.ensures (ap not c.if-not-plan_ok.true)) refl)

pub returns-then-not-lent : goal.returns-then-not-lent
returns-then-not-lent c =
    laws.fresh_called _ _ _ _ _ (stop _ _ (at 2 _ (laws.so_not c.plan_ok.ensures (ap not c.if-not-plan_ok.false), tt)) (laws.so_not c.lent.ensures (ap not c.if-not-lent.true)) refl)

pub returns-then-node-n : goal.returns-then-node-n
returns-then-node-n c =
    laws.fresh_called _ _ _ _ _ (stop _ _ (at 4 _ (laws.so_not c.plan_ok.ensures (ap not c.if-not-plan_ok.false), (laws.so_not c.lent.ensures (ap not c.if-not-lent.false), tt))) (ap not (le-ltb _ _ c.if-node-n.true)) refl)

pub returns : goal.returns
returns c =
    laws.fresh_called _ _ _ _ _ (end _ _ (at 0 _ (laws.so_not c.plan_ok.ensures (ap not c.if-not-plan_ok.false), (laws.so_not c.lent.ensures (ap not c.if-not-lent.false), (ap not (lt-ltb _ _ c.if-node-n.false), tt)))) refl (ap (λ (l : List ℕ). fresh_outcome made l) c.fresh.ensures))
