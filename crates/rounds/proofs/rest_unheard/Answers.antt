use Rattle.std.proofs.Common.{rules, tests, drop}
use Rattle.std.proofs.lemmas.Iterator.Search.{all_from_yields_List}
use Rattle.std.proofs.lemmas.Iterator.{YieldsList-from_slice}
use Rattle.rounds.specs.Rounds.{is_unheard}
use Rattle.rounds.proofs.Laws as laws
use Rattle.rounds.proofs.rest_unheard.Goals as goal

pub returns : goal.returns
returns c = laws.every_all is_unheard _ _ (all_from_yields_List is_unheard _ _ _ c.all.ensures.ran (YieldsList-from_slice (drop c.args.n c.args.marks) (laws.up_to_end c.args.marks _ c.args.n (search rules) cc)) (λ x b q k. search (rules, tests)))
