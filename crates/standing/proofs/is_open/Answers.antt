use Rattle.std.proofs.Common.{arith}
use Rattle.terms.proofs.Facts.{facts}
use Rattle.standing.proofs.is_open.Goals as goal

pub overflow_sub-result : goal.overflow_sub-result
overflow_sub-result c = let g = facts _ c.args.p.within in omega arith
