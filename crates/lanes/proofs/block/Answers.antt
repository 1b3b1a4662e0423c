use Rattle.lanes.proofs.Windows.{blocked}
use Rattle.lanes.proofs.block.Goals as goal

pub returns : goal.returns
returns c = blocked _ _ _ _ _ _ c.all_rounds.ensures c.add_lanes.ensures
