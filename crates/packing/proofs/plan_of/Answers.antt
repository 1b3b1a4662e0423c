use Rattle.std.proofs.Common.{◌≡◌, rules, length}
use Rattle.packing.proofs.Laws as laws
use Rattle.packing.proofs.plan_of.Goals as goal

pub returns-in_default-2 : goal.returns-in_default-2
returns-in_default-2 c = let short : length c.args.x.now ≡ 11 → ⊥ = search rules in laws.no_plan_coded _ (laws.no_plan_long _ short)
