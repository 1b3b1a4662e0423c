use Rattle.session.proofs.Readers as laws
use Rattle.session.proofs.Session.keep.Goals as goal

pub returns-then-round_open : goal.returns-then-round_open
returns-then-round_open c = let args = c.args in
    laws.stored_open args.p.plan args.self _ _ _ c.round_open.ensures c.if-round_open.true

pub returns : goal.returns
returns c = let args = c.args in
    laws.stored_done args.p.plan args.self args.desk.now args.item.now _ c.round_open.ensures _ _ c.if-round_open.false c.over-s.ensures c.collect.ensures
