use Rattle.std.proofs.Common.{◌≡◌}
use Rattle.std.specs.Prelude.{take}
use Rattle.clock.specs.Clock.{times_heard, greatest_with}
use Rattle.clock.proofs.kth_greatest.Given as goal

abbrev pub invariant-loop-i : goal.invariant-loop-i
invariant-loop-i l = l.best.0 ≡ greatest_with l.k (times_heard l.marks l.times) 0 (times_heard (take l.i l.marks) (take l.i l.times))
