use Rattle.session.proofs.Writers as laws
use Rattle.session.proofs.Session.write_turn.Goals as goal

pub returns-then-round_open : goal.returns-then-round_open
returns-then-round_open c = let args = c.args in
    λ d. laws.write_open args.p.plan args.self d _ c.round_open.ensures c.if-round_open.true

pub returns : goal.returns
returns c = let args = c.args in
    λ d. laws.write_done args.p.plan args.self d _ c.round_open.ensures c.if-round_open.false _ c.over-s.ensures
