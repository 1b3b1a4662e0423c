use native.Mathlib.Omega.{arith}
use Rattle.fragments.proofs.Parts.{points_row, points_kept, basis_ready}
use Rattle.fragments.proofs.basis_of.Goals as goal

pub invariant_of-result : goal.invariant_of-result
invariant_of-result c =
    record {
      ready = basis_ready _ _ c.times_distances.new.row _ c.requires (points_row c.args.qs.now _ c.requires (λ j. omega (arith, c.type_inv.qs j)) c.copy_from_slice.ensures.after)
          c.times_distances.ensures c.invert.array_long c.invert.ensures;
    }
