use mathlib.Core.Path.{◌≡◌}
use Rattle.fragments.specs.Fragments.{laid}
use Rattle.fragments.specs.Inside.{points_of}
use Rattle.fragments.proofs.lay.Given as goal

abbrev pub invariant-loop-k : goal.invariant-loop-k
invariant-loop-k l = (l.out ≡ laid l.src l.s (points_of l.b) l.to l.k l.initial.out)
