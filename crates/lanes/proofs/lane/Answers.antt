use mathlib.Core.Path.{refl}
use Rattle.lanes.specs.Lanes.{lane_of}
use Rattle.lanes.proofs.lane.Goals as goal

pub returns : goal.returns
unfolding lane_of
returns c = refl
