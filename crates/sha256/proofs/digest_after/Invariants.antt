use mathlib.Core.Path.{◌≡◌}
use mathlib.Core.List.{◌++◌}
use Rattle.sha256.specs.Sha256.{H0, after, pad}
use Rattle.sha256.proofs.digest_after.Given as goal

abbrev pub invariant-loop-k : goal.invariant-loop-k
invariant-loop-k l = l.h ≡ after H0 l.k (pad (l.p ++ l.s))
