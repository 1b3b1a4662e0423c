use mathlib.Core.Path.{◌≡◌}
use Prim.Native.Nat.{◌-◌, ◌^◌, ◌/◌, ◌<◌}
use lib.Bits.{bit_xor}
use Rattle.field.specs.Field.{mul_n, mul}
use Rattle.field.proofs.product.Given as goal

abbrev pub invariant-loop-i : goal.invariant-loop-i
invariant-loop-i l = (l.doubled < 256) × (bit_xor l.sum (mul_n (8 - l.i) l.doubled (l.b / 2 ^ l.i)) ≡ mul l.a l.b)
