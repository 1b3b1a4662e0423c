use Rattle.std.proofs.Common.{◌∙◌, rules, tests}
use Rattle.std.proofs.lemmas.Iterator.{YieldsList-from_slice, YieldsList-from_zip}
use Rattle.std.proofs.lemmas.Iterator.Consumers.{count_from_yields_List, YieldsList-from_filter, YieldsList-at}
use Rattle.clock.proofs.Laws as laws
use Rattle.clock.proofs.or_more.Goals as goal

pub returns : goal.returns
returns c =
    count_from_yields_List c.filter.result _ c.count.ensures.ran
    (YieldsList-from_filter _ (laws.counts c.args.v.0)
    (YieldsList-at c.filter.ensures.source
    (YieldsList-from_zip (YieldsList-at c.zip.ensures.first (YieldsList-from_slice c.args.marks.now cc))
    (YieldsList-at c.zip.ensures.second (YieldsList-from_slice c.args.times.now cc))))
    c.filter.ensures.closure (λ x b q k. search (rules, tests)))
    ∙ laws.more_by c.args.v.0 c.args.marks.now c.args.times.now
