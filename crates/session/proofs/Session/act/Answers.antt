use Rattle.rounds.specs.Rounds.{told}
use Rattle.session.proofs.Readers as laws
use Rattle.session.proofs.Session.act.Goals as goal

pub returns-in-None : goal.returns-in-None
returns-in-None c = let a = c.args in
    laws.act_never a.p.plan a.self (told a.c) _ _ _ c.in-None.is c.over-s.ensures

pub returns-in-Some : goal.returns-in-Some
returns-in-Some c = let a = c.args in
    laws.act_led a.p.plan a.self (told a.c) _ _ c.in-Some.a _ c.in-Some.is c.act_on.ensures
