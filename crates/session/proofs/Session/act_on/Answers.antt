use Rattle.rounds.specs.Rounds.{told}
use Rattle.session.proofs.Readers as laws
use Rattle.session.proofs.Session.act_on.Goals as goal

pub returns-then-not-validate : goal.returns-then-not-validate
returns-then-not-validate c = let a = c.args in
    laws.act_ill a.p.plan a.self (told a.c) a.a a.desk.now a.item.now _ _ _ c.in-Complete.is c.validate.ensures
    c.if-not-validate.true c.fall.ensures

pub returns-then-not-validate-2 : goal.returns-then-not-validate-2
returns-then-not-validate-2 c = let a = c.args in
    laws.act_unsound a.p.plan a.self (told a.c) a.a a.desk.now a.item.now _ _ _ c.in-Repair.is c.validate-in-Repair.ensures
    c.if-not-validate-2.true c.fall-then-not-validate-2.ensures

pub returns-else-not-validate : goal.returns-else-not-validate
returns-else-not-validate c = let a = c.args in
    laws.act_done a.p.plan a.self (told a.c) a.a a.desk.now a.item.now _ _ _ _ c.in-Complete.is c.validate.ensures
    c.if-not-validate.false c.over-s.ensures c.decode.ensures

pub returns-else-not-validate-2 : goal.returns-else-not-validate-2
returns-else-not-validate-2 c = let a = c.args in
    laws.act_repair a.p.plan a.self (told a.c) a.a a.desk.now a.item.now _ _ _ _ c.in-Repair.is c.validate-in-Repair.ensures
    c.if-not-validate-2.false c.store-s.ensures c.repair.ensures

pub returns-in-Aborted : goal.returns-in-Aborted
returns-in-Aborted c = let a = c.args in
    laws.act_aborted a.p.plan a.self (told a.c) a.a a.desk.now a.item.now _ _ c.in-Aborted.is c.over-s-in-Aborted.ensures

pub returns-in-Incomplete : goal.returns-in-Incomplete
returns-in-Incomplete c = let a = c.args in
    laws.act_incomplete a.p.plan a.self (told a.c) a.a a.desk.now a.item.now _ _ c.in-Incomplete.is c.fall-in-Incomplete.ensures
