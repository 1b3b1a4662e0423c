use mathlib.Core.Path.{◌≡◌}
use Prim.Native.Nat.{◌≤◌}
use lib.ListN.{length}
use Rattle.octets.proofs.Laws as laws
use Rattle.octets.proofs.put_num.Given as goal

abbrev pub invariant-loop-i : goal.invariant-loop-i
invariant-loop-i l = (l.i ≤ l.n) × (length l.b ≡ length l.initial.b) × laws.Putting l.initial.b l.b l.at l.n l.x l.i l.y
