use Rattle.std.proofs.Common.{◌∙◌, rules, tests}
use Rattle.std.proofs.lemmas.Iterator.Search.{all_from_yields_List}
use Rattle.std.proofs.lemmas.Iterator.{YieldsList-from_slice}
use lib.Dec.{leb}
use Rattle.packing.proofs.Laws as laws
use Rattle.packing.proofs.marks_shaped.Goals as goal

pub returns : goal.returns
returns c = all_from_yields_List (λ k. leb k 2) _ _ _ c.all.ensures.ran (YieldsList-from_slice c.args.b.now (cc)) (λ x b q k. search (rules, tests)) ∙ laws.shaped_is c.args.b.now
