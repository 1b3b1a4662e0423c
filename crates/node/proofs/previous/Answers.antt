use native.Mathlib.Omega.{arith}
use Rattle.node.proofs.Laws as laws
use Rattle.node.proofs.previous.Goals as goal

pub returns : goal.returns
returns c = laws.wrote_below _ _ _ _ _ _ c.args.a.frame.version c.head_bytes-at.ensures c.last_below-s.ensures.is c.send.ensures
