use mathlib.Core.Path.{◌≡◌}
use Prim.Native.Nat.{◌≤◌, ◌<◌, ◌^◌}
use Rattle.octets.specs.Bytes.{part, num, be}
use Rattle.octets.proofs.get.Given as goal

abbrev pub invariant-loop-i : goal.invariant-loop-i
invariant-loop-i l = (l.i ≤ l.n) × (l.x ≡ num (part l.b l.at l.i)) × (l.x < 256 ^ l.i) × (be l.i l.x ≡ part l.b l.at l.i)
