use Rattle.std.proofs.Common.{◌∙◌, refl, rules, tests, arith}
use Rattle.std.proofs.lemmas.Iterator.Search.{all_from_yields_List}
use Rattle.std.proofs.lemmas.Iterator.{YieldsList-from_range}
use Rattle.rounds.proofs.Laws as laws
use Rattle.rounds.proofs.slots_fit.Goals as goal

pub returns : goal.returns
returns c =
    let a = c.args in
    all_from_yields_List (laws.slot_ok a.marks a.desk.now a.slots a.b) _ _ _ c.all.ensures.ran
    (YieldsList-from_range 0 a.slots.n a.slots.n refl (omega arith)) (λ x b q k. search (rules, tests))
    ∙ laws.all_fit a.marks a.desk.now a.slots a.b a.slots.n
