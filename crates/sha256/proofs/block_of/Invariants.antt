use mathlib.Core.Path.{◌≡◌}
use mathlib.Core.List.{List}
use Prim.Native.Nat.{ℕ, ◌+◌, ◌-◌, ◌≤◌, ◌<◌}
use lib.ListN.{length, get_or, take}
use Rattle.sha256.specs.Sha256.{words}
use Rattle.sha256.proofs.block_of.Given as goal

abbrev pub invariant-loop-i : goal.invariant-loop-i
invariant-loop-i g l = (length l.w ≡ 16) × ((bs : List ℕ) → ((j x : ℕ) → l.at ≤ j → j < l.at + 64 → goal.F-post g l.byte j x → x ≡ get_or bs (j - l.at) 0) → take l.i l.w ≡ words l.i bs)
