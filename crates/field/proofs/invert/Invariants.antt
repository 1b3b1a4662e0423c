use mathlib.Core.Path.{◌≡◌}
use lib.ListN.{get_or}
use Rattle.field.specs.Field.{inv}
use Rattle.field.proofs.Loops.{Upto}
use Rattle.field.proofs.invert.Given as goal

abbrev pub invariant-loop-x : goal.invariant-loop-x
invariant-loop-x l = Upto (λ j v. v ≡ inv (get_or l.initial.row j 0)) l.x-index l.initial.row l.row
