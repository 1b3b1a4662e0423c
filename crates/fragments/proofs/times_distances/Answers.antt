use mathlib.Core.Path.{refl, ap, ◌∙◌}
use Prim.Native.Nat.{ℕ, ◌+◌}
use native.Mathlib.Omega.{arith}
use lib.ListN.{get_or, take, drop}
use Rattle.field.specs.Field.{mul}
use Rattle.field.proofs.Laws.{mul_lt}
use Rattle.fragments.specs.Basis.{distances_of}
use Rattle.fragments.proofs.Parts.{distances_turn, distances_end}
use Rattle.fragments.proofs.times_distances.Goals as goal

pub loop-q-preserved : goal.loop-q-preserved
loop-q-preserved c = let l = c.loop-q in
    let a = c.args in
    let qs = take a.m a.points.now in (
      λ j h. rw (c.times_distance.ensures j h) (mul_lt _ _),
      λ j h.
          let x = get_or a.at.now j 0 in
          let p = get_or a.points.now j 0 in
          ap (λ (n : ℕ). mul n (distances_of (drop (l.q-index + 1) qs) x p)) (c.times_distance.ensures j h)
          ∙ distances_turn qs l.q-index x p (get_or l.row j 0) _ (omega arith) (l.invariant.1 j h),
    )

pub returns : goal.returns
returns c = let l = c.loop-q in λ j h. distances_end _ l.q-index _ _ _ _ (omega arith) (l.invariant.0 j h) (l.invariant.1 j h)
