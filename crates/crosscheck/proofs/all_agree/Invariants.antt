use Prim.Native.Nat.{◌≤◌, ◌-◌}
use Rattle.fragments.specs.Inside.{points_of}
use Rattle.crosscheck.proofs.Entries as entries
use Rattle.crosscheck.proofs.all_agree.Given as goal

abbrev pub invariant-loop-i : goal.invariant-loop-i
invariant-loop-i l = (l.i ≤ l.n) × entries.Agreed l.p.plan l.desk (points_of l.b) l.at l.i

abbrev pub decreases-loop-i : goal.decreases-loop-i
decreases-loop-i l = l.n - l.i
