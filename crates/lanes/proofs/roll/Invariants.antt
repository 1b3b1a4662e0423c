use Rattle.lanes.specs.Inside.{AllRolled}
use Rattle.lanes.proofs.roll.Given as goal

abbrev pub invariant-loop-l : goal.invariant-loop-l
invariant-loop-l l = AllRolled l.l l.initial.w l.w
