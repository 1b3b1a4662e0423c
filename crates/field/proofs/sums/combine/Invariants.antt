use mathlib.Core.Path.{◌≡◌}
use Prim.Native.Nat.{ℕ, ◌<◌}
use lib.ListN.{length, get_or}
use Rattle.field.specs.Field.{mul}
use Rattle.field.specs.Inside.{number}
use Rattle.field.proofs.Horner.{high}
use Rattle.field.proofs.sums.combine.Given as goal

abbrev pub invariant-loop-b : goal.invariant-loop-b
invariant-loop-b l = ((i : ℕ) → i < length l.initial.out → mul (number l.owed) (get_or l.out i 0) ≡ high l.w l.at l.src i l.b)
