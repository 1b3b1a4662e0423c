use Rattle.sha256.specs.Sha256.{H0}
use Rattle.lanes.specs.Lanes.{EachLane}
use Rattle.lanes.proofs.start.Given as goal

abbrev pub invariant-loop-l : goal.invariant-loop-l
invariant-loop-l l = EachLane (λ i. H0) l.l l.initial.h l.h
