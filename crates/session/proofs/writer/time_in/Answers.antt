use native.Mathlib.Omega.{arith}
use Rattle.session.proofs.Writers as laws
use Rattle.session.proofs.writer.time_in.Goals as goal

pub returns : goal.returns
returns c = laws.time_at _ _ _ c.head_bytes-at.ensures c.word.ensures.0
