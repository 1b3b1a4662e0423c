use Prim.{tt}
use mathlib.Core.Path.{refl, ap}
use mathlib.Core.Bool.{not}
use borrow.Author.Tests.{not-false}
use Rattle.terms.proofs.Down.{at, next, left, stop, end}
use Rattle.book.proofs.Laws as books
use Rattle.node.proofs.Laws as nodes
use Rattle.runs.specs.Runs.{run_ladder}
use Rattle.runs.proofs.Runs as laws
use Rattle.runs.proofs.EndToEnd as ends
use Rattle.runs.proofs.serve_run.Goals as goal

pub returns-then-not-plan_ok : goal.returns-then-not-plan_ok
returns-then-not-plan_ok c =
    ends.called _ _ _ _ _ _ _ _ _ (stop _ _ (at 1 _ tt) (nodes.so_not c.plan_ok.ensures (ap not c.if-not-plan_ok.true)) refl)

pub returns-then-not-lent : goal.returns-then-not-lent
returns-then-not-lent c =
    ends.called _ _ _ _ _ _ _ _ _ (stop _ _ (at 2 _ (nodes.so_not c.plan_ok.ensures (ap not c.if-not-plan_ok.false), tt)) (nodes.so_not c.lent.ensures (ap not c.if-not-lent.true)) refl)

pub returns-then-not-room_for : goal.returns-then-not-room_for
returns-then-not-room_for c =
    ends.called _ _ _ _ _ _ _ _ _ (stop _ _ (at 21 _ (nodes.so_not c.plan_ok.ensures (ap not c.if-not-plan_ok.false), (nodes.so_not c.lent.ensures (ap not c.if-not-lent.false), tt))) (nodes.so_not (laws.counted_room _ _ _ _ _ c.room_for.ensures c.count-c.ensures.0) (ap not c.if-not-room_for.true)) refl)

pub returns-in_default : goal.returns-in_default
returns-in_default c =
    ends.called _ _ _ _ _ _ _ _ _ (stop _ _ (at 3 _ (nodes.so_not c.plan_ok.ensures (ap not c.if-not-plan_ok.false), (nodes.so_not c.lent.ensures (ap not c.if-not-lent.false), (nodes.so_not (laws.counted_room _ _ _ _ _ c.room_for.ensures c.count-c.ensures.0) (ap not c.if-not-room_for.false), tt)))) (ap not (books.was_bad _ _ (books.checked_as _ _ _ _ c.in_default.is c.good.ensures))) refl)

pub returns : goal.returns
returns c =
    let d = at 3 (run_ladder c.args.p c.args.run.now c.args.book.now c.args.reply.now c.args.numbers.now) (nodes.so_not c.plan_ok.ensures (ap not c.if-not-plan_ok.false), (nodes.so_not c.lent.ensures (ap not c.if-not-lent.false), (nodes.so_not (laws.counted_room _ _ _ _ _ c.room_for.ensures c.count-c.ensures.0) (ap not c.if-not-room_for.false), tt))) in
    let g = books.was_good _ _ _ (books.checked_as _ _ _ _ c.in-Some.is c.good.ensures) in
    ends.called _ _ _ _ _ _ _ _ _ (end _ _ (next 0 d refl (ap not g.good)) refl
    (ends.all_done _ _ _ _ _ _ _ _ _ _ _ (not-false _ (left 21 d)) c.count-c.ensures.0 c.count-c.ensures.1 c.take_all-written.ensures))
