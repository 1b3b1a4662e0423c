use Rattle.std.proofs.Common.{rules, tests}
use Rattle.std.proofs.lemmas.Iterator.Search.{all_from_yields_List}
use Rattle.std.proofs.lemmas.Iterator.{YieldsList-from_slice}
use Rattle.rounds.specs.Rounds.{is_not_first}
use Rattle.rounds.proofs.Laws as laws
use Rattle.rounds.proofs.none_first.Goals as goal

pub returns : goal.returns
returns c = laws.every_all is_not_first _ _ (all_from_yields_List is_not_first _ _ _ c.all.ensures.ran (YieldsList-from_slice c.args.marks (cc)) (λ x b q k. search (rules, tests)))
