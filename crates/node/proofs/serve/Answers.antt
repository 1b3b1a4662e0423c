use Prim.{tt}
use mathlib.Core.Path.{refl, ap}
use mathlib.Core.Bool.{not}
use borrow.Author.Tests.{not-false}
use Rattle.terms.proofs.Down.{at, left, stop}
use Rattle.book.proofs.Laws as books
use Rattle.node.specs.Node.{node_ladder}
use Rattle.node.proofs.Laws as laws
use Rattle.node.proofs.serve.Goals as goal

pub returns-then-not-plan_ok : goal.returns-then-not-plan_ok
returns-then-not-plan_ok c =
    laws.called _ _ _ _ _ _ _ (stop _ _ (at 1 _ tt) (laws.so_not c.plan_ok.ensures (ap not c.if-not-plan_ok.true)) refl)

pub returns-then-not-lengths_ok : goal.returns-then-not-lengths_ok
returns-then-not-lengths_ok c =
    laws.called _ _ _ _ _ _ _ (stop _ _ (at 2 _ (laws.so_not c.plan_ok.ensures (ap not c.if-not-plan_ok.false), tt)) (laws.so_not c.lengths_ok.ensures (ap not c.if-not-lengths_ok.true)) refl)

pub good-requires : goal.good-requires
good-requires c =
    let d = at 3 (node_ladder c.args.p c.args.request.now c.args.book.now c.args.reply.now) (laws.so_not c.plan_ok.ensures (ap not c.if-not-plan_ok.false), (laws.so_not c.lengths_ok.ensures (ap not c.if-not-lengths_ok.false), tt)) in
    (laws.lengths_are _ _ _ (not-false _ (left 2 d))).low

pub returns-in_default : goal.returns-in_default
returns-in_default c =
    laws.called _ _ _ _ _ _ _ (stop _ _ (at 3 _ (laws.so_not c.plan_ok.ensures (ap not c.if-not-plan_ok.false), (laws.so_not c.lengths_ok.ensures (ap not c.if-not-lengths_ok.false), tt))) (ap not (books.was_bad _ _ (books.checked_as _ _ _ _ c.in_default.is c.good.ensures))) refl)
