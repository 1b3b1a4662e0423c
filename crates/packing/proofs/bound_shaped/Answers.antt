use Rattle.std.proofs.Common.{sym, ◌∙◌, arith}
use Rattle.packing.proofs.Laws as laws
use Rattle.packing.proofs.bound_shaped.Goals as goal

pub returns-then-k-eq0 : goal.returns-then-k-eq0
returns-then-k-eq0 c = laws.bound_zero _ _ (sym c.get-k.ensures.0 ∙ c.if-k-eq0.true) (laws.zeros_tested _ _ _ (omega arith) c.stamp_at.ensures c.zero_stamp.ensures c.same.ensures)
