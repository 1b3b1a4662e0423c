use mathlib.Core.Path.{◌≡◌}
use Prim.Native.Nat.{ℕ, ◌<◌}
use lib.ListN.{get_or, take, drop}
use Rattle.field.specs.Field.{mul}
use Rattle.fragments.specs.Basis.{distances_of}
use Rattle.fragments.proofs.times_distances.Given as goal

abbrev pub invariant-loop-q : goal.invariant-loop-q
invariant-loop-q l = ((j : ℕ) → j < 16 → get_or l.row j 0 < 256) × ((j : ℕ) → j < 16 → mul (get_or l.row j 0) (distances_of (drop l.q-index (take l.m l.points)) (get_or l.at j 0) (get_or l.points j 0)) ≡ mul (get_or l.initial.row j 0) (distances_of (take l.m l.points) (get_or l.at j 0) (get_or l.points j 0)))
