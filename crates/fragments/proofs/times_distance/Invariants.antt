use mathlib.Core.Path.{◌≡◌}
use lib.ListN.{get_or}
use Rattle.field.specs.Field.{mul}
use Rattle.field.proofs.Loops.{Upto}
use Rattle.fragments.specs.Basis.{distance_of}
use Rattle.fragments.proofs.times_distance.Given as goal

abbrev pub invariant-loop-k : goal.invariant-loop-k
invariant-loop-k l = Upto (λ j v. v ≡ mul (distance_of (get_or l.at j 0) (get_or l.points j 0) l.q) (get_or l.initial.row j 0)) l.k l.initial.row l.row
