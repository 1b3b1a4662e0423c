use mathlib.Core.Path.{◌≡◌}
use Rattle.lanes.specs.Inside.{stored_into}
use Rattle.lanes.proofs.store_all.Given as goal

abbrev pub invariant-loop-l : goal.invariant-loop-l
invariant-loop-l l = l.out ≡ stored_into l.h l.at l.stride l.l l.initial.out
