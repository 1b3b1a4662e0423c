use Rattle.lanes.specs.Lanes.{lane_of, EachLane}
use Rattle.lanes.specs.Inside.{rounds_at}
use Rattle.lanes.proofs.turn.Given as goal

abbrev pub invariant-loop-l : goal.invariant-loop-l
invariant-loop-l l = EachLane (λ i. rounds_at l.w i l.t 4 (lane_of l.initial.s i)) l.l l.initial.s l.s
