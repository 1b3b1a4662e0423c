use mathlib.Core.Path.{◌≡◌}
use Prim.Native.Nat.{◌+◌, ◌*◌}
use lib.ListN.{get_or, take}
use Rattle.field.proofs.Loops.{Upto}
use Rattle.fragments.proofs.places.Given as goal

abbrev pub invariant-loop-k : goal.invariant-loop-k
invariant-loop-k l = Upto (λ j v. v ≡ l.first + get_or (take l.m l.points) j 0 * l.stride) l.k l.initial.r l.r
