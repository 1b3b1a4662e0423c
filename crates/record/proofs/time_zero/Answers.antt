use Rattle.record.proofs.Records as laws
use Rattle.record.proofs.time_zero.Goals as goal

pub returns : goal.returns
returns c = laws.zero_at _ _ _ c.get.ensures.0
