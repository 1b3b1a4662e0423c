use mathlib.Core.Path.{◌≡◌}
use Prim.Native.Nat.{ℕ, ◌-◌, ◌≤◌, ◌<◌}
use lib.Bits.{bit_xor}
use lib.ListN.{length, get_or}
use Rattle.field.specs.Field.{mul}
use Rattle.field.specs.Inside.{number, bit_of, with_bit}
use Rattle.field.proofs.sums.turn.Given as goal

abbrev pub invariant-loop-i : goal.invariant-loop-i
invariant-loop-i l = (l.i ≤ length l.w) × (l.i < length l.w → bit_of l.b l.w l.i ≡ 1)
    × ((k : ℕ) → k < length l.initial.acc → bit_xor (mul (number l.by) (get_or l.acc k 0)) (with_bit l.b l.w l.at l.src k l.i) ≡ bit_xor (mul (number l.fn.g) (get_or l.initial.acc k 0)) (with_bit l.b l.w l.at l.src k 0))

abbrev pub decreases-loop-i : goal.decreases-loop-i
decreases-loop-i l = length l.w - l.i
