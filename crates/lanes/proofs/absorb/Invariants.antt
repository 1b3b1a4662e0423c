use Rattle.sha256.specs.Sha256.{after, ended}
use Rattle.lanes.specs.Lanes.{message_of, lane_of, EachLane}
use Rattle.lanes.proofs.absorb.Given as goal

abbrev pub invariant-loop-b : goal.invariant-loop-b
invariant-loop-b vars = EachLane (λ l. after (lane_of vars.initial.h l) vars.b (ended vars.before (message_of vars.m.heads.now vars.m.bodies.now vars.m.batch l))) vars.m.batch.n vars.initial.h vars.h
