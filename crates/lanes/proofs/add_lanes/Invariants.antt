use Rattle.sha256.specs.Sha256.{added_of}
use Rattle.lanes.specs.Lanes.{lane_of, EachLane}
use Rattle.lanes.proofs.add_lanes.Given as goal

abbrev pub invariant-loop-l : goal.invariant-loop-l
invariant-loop-l l = EachLane (λ i. added_of (lane_of l.initial.h i) (lane_of l.s i)) l.l l.initial.h l.h
