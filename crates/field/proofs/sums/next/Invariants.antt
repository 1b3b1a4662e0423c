use mathlib.Core.Path.{◌≡◌}
use Prim.Native.Nat.{ℕ, ◌≤◌, ◌<◌}
use Rattle.field.specs.Inside.{bit_of}
use Rattle.field.proofs.sums.next.Given as goal

abbrev pub invariant-loop-k : goal.invariant-loop-k
invariant-loop-k l = ((j : ℕ) → l.from ≤ j → j < l.k → bit_of l.b l.w j ≡ 0)
