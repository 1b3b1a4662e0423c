use mathlib.Core.Path.{◌≡◌}
use lib.ListN.{length}
use Rattle.recover.specs.Recover.{refilled}
use Rattle.fragments.specs.Inside.{points_of}
use Rattle.recover.proofs.refill.Given as goal

abbrev pub invariant-loop-k : goal.invariant-loop-k
invariant-loop-k l = (length l.scratch ≡ l.set.slots.fragment) × (length l.desk ≡ length l.initial.desk) × (l.desk ≡ refilled l.initial.desk l.set.slots (points_of l.b) l.set.lead l.k)
