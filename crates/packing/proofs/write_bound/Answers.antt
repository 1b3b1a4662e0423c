use Rattle.std.proofs.Common.{rules}
use Rattle.packing.proofs.Laws as laws
use Rattle.packing.proofs.write_bound.Goals as goal

pub returns : goal.returns
returns c =
    laws.bound_laid _ _ c.args.b _ _ _ (search rules) c.unwrap_or.ensures c.zero_stamp.ensures
    (laws.bound_put _ _ _ _ c.unwrap_or.result (search rules) c.put_num.ensures c.put_stamp.ensures)
