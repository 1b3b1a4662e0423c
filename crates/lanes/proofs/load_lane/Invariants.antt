use mathlib.Core.Path.{◌≡◌}
use mathlib.Core.List.{List}
use Prim.Native.Nat.{ℕ, ◌<◌}
use lib.ListN.{get_or}
use Rattle.lanes.proofs.Windows.{Loading}
use Rattle.lanes.proofs.load_lane.Given as goal

abbrev pub invariant-loop-i : goal.invariant-loop-i
invariant-loop-i g l = (m : List ℕ) → ((i x : ℕ) → i < 16 → goal.F-post g l.word i x → x ≡ get_or m i 0) → Loading m l.l l.i l.initial.w l.w
