use mathlib.Core.Path.{refl}
use Rattle.lanes.specs.Inside.{with_lane, scatter}
use Rattle.lanes.proofs.put_lane.Goals as goal

pub returns : goal.returns
unfolding with_lane scatter
returns c = refl
