use mathlib.Core.Path.{◌≡◌}
use mathlib.Core.Bool.{true}
use Rattle.sha256.specs.Sha256.{bytes_of}
use Rattle.lanes.specs.Lanes.{lane_of}
use Rattle.crosscheck.proofs.Entries.{agrees}
use Rattle.crosscheck.proofs.are_entries.Given as goal

abbrev pub invariant-loop-l : goal.invariant-loop-l
invariant-loop-l l = agrees (λ k. bytes_of (lane_of l.h k)) l.s l.at l.l ≡ true
