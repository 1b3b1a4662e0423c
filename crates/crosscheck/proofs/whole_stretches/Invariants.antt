use Prim.Native.Nat.{◌*◌, ◌/◌}
use Rattle.crosscheck.specs.Inside.{Taken}
use Rattle.crosscheck.proofs.whole_stretches.Given as goal

abbrev pub invariant-loop-k : goal.invariant-loop-k
invariant-loop-k l = Taken l.heads l.head l.g (192 * l.k / 64) l.h
