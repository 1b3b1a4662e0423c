use mathlib.Core.Path.{◌≡◌}
use Prim.Native.Nat.{◌*◌}
use lib.ListN.{length, take}
use Rattle.sha256.specs.Sha256.{bytes_of}
use Rattle.sha256.proofs.bytes_of.Given as goal

abbrev pub invariant-loop-i : goal.invariant-loop-i
invariant-loop-i l = (length l.bytes ≡ 32) × (take (4 * l.i) l.bytes ≡ take (4 * l.i) (bytes_of l.fn.s))
