use Rattle.std.proofs.Common.{rules}
use Rattle.packing.proofs.Laws as laws
use Rattle.packing.proofs.write_heard.Goals as goal

pub returns : goal.returns
returns c = laws.heard_put c.args.s _ _ _ _ (search rules) (search rules) c.write_times.ensures c.put_stamp.ensures c.write_marks.ensures
