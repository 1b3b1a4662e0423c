use mathlib.Core.Path.{◌≡◌}
use lib.ListN.{length}
use Rattle.fragments.specs.Inside.{points_of}
use Rattle.recover.proofs.Laws as laws
use Rattle.recover.proofs.valid.Given as goal

abbrev pub invariant-loop-i : goal.invariant-loop-i
invariant-loop-i l = (length l.scratch ≡ l.p.plan.f) × laws.Agreed l.p.plan l.desk (points_of l.b) l.a l.i
