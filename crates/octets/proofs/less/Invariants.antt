use mathlib.Core.Path.{◌≡◌}
use Rattle.octets.specs.Bytes.{part, num}
use Rattle.octets.proofs.less.Given as goal

abbrev pub invariant-loop-k : goal.invariant-loop-k
invariant-loop-k l = num (part l.a l.i l.k) ≡ num (part l.b l.j l.k)
