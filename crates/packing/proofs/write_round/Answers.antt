use Rattle.std.proofs.Common.{rules}
use Rattle.packing.proofs.Laws as laws
use Rattle.packing.proofs.write_round.Goals as goal

pub returns : goal.returns
returns c = laws.round_put c.args.r _ _ _ _ _ (search rules) (search rules) c.put_num.ensures c.put_num-2.ensures c.write_bound.ensures
