use mathlib.Core.Path.{◌≡◌}
use Prim.Native.Nat.{ℕ}
use lib.Bits.{bit_xor}
use lib.ListN.{get_or}
use Rattle.field.specs.Field.{mul}
use Rattle.field.specs.Inside.{number}
use Rattle.field.proofs.Loops.{Upto}
use Rattle.field.proofs.sums.scale_add.Given as goal

abbrev pub invariant-loop-i : goal.invariant-loop-i
invariant-loop-i g l = Upto (λ k v. (x : ℕ) × goal.F-post g l.added k x × (v ≡ bit_xor (mul (number l.g) (get_or l.initial.acc k 0)) x)) l.i l.initial.acc l.acc
