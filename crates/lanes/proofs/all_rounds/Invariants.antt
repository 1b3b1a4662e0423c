use Prim.Native.Nat.{◌*◌}
use Rattle.lanes.specs.Inside.{Rounded}
use Rattle.lanes.proofs.all_rounds.Given as goal

abbrev pub invariant-loop-i : goal.invariant-loop-i
invariant-loop-i l = Rounded (4 * l.i) l.n l.initial.s l.initial.w l.s l.w
