use mathlib.Core.Path.{◌≡◌}
use lib.ListN.{get_or}
use Rattle.field.specs.Field.{mul}
use Rattle.field.specs.Inside.{number}
use Rattle.field.proofs.Loops.{Upto}
use Rattle.field.proofs.sums.scale.Given as goal

abbrev pub invariant-loop-x : goal.invariant-loop-x
invariant-loop-x l = Upto (λ k v. v ≡ mul (number l.g) (get_or l.initial.acc k 0)) l.x-index l.initial.acc l.acc
