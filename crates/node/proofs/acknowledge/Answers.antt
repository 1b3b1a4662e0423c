use native.Mathlib.Omega.{arith}
use Rattle.node.proofs.Laws as laws
use Rattle.node.proofs.acknowledge.Goals as goal

pub returns : goal.returns
returns c = laws.acknowledged c.args.h _ _ _ _ c.head_bytes-at.ensures c.replying-g.ensures c.with_part.ensures
