use Rattle.primitives.specs.Calls.{named}
use mathlib.Core.Path.{◌≡◌}
use lib.ListN.{drop}
use Rattle.primitives.proofs.are_named.Given as goal

abbrev pub invariant-loop-k : goal.invariant-loop-k
invariant-loop-k l = named l.f l.desk l.nodes ≡ named l.f l.desk (drop l.k l.nodes)
