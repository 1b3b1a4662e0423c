use Rattle.std.proofs.Common.{rules, tests}
use Rattle.packing.proofs.Laws as laws
use Rattle.packing.proofs.times_at.Goals as goal

pub returns : goal.returns
returns c =
    laws.times_from c.args.x.now 53 16 _ c.from_fn.ensures.items.long
    (λ i h. let w = c.from_fn.ensures.items.at i (record { 0 = 0 }) h in search (rules, tests))
