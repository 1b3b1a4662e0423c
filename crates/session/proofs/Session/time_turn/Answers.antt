use mathlib.Core.Path.{sym, ◌∙◌}
use native.Mathlib.Omega.{arith}
use borrow.Author.Tests.{eqb-false}
use Rattle.terms.specs.Stamp.{top}
use Rattle.session.proofs.Writers as laws
use Rattle.session.proofs.Session.time_turn.Goals as goal

pub returns-then-round_open : goal.returns-then-round_open
returns-then-round_open c = let args = c.args in
    laws.time_open args.p.plan args.self _ _ c.round_open.ensures _ c.if-round_open.true

pub returns-then-spent : goal.returns-then-spent
returns-then-spent c = let args = c.args in
    laws.clock_spent_lem args.p.plan args.self _ _ c.round_open.ensures c.if-round_open.false _ _ c.kth_reply-g.ensures _
    c.spent.ensures c.if-spent.true _ c.over-s.ensures

pub returns : goal.returns
returns c = let args = c.args in
    laws.write_opens args.p.plan args.self _ _ c.round_open.ensures c.if-round_open.false args.item.now _ c.kth_reply-g.ensures _
    c.spent.ensures c.if-spent.false _ _ _ c.store-s.ensures c.write_records-t.ensures
