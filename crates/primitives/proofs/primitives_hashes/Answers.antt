use Rattle.primitives.proofs.Laws.{hashes_are, row_fits}
use mathlib.Core.Path.{sym, ◌∙◌}
use native.Mathlib.Omega.{arith}
use Rattle.primitives.proofs.primitives_hashes.Goals as goal

pub invariant_of-all : goal.invariant_of-all
invariant_of-all c = let r = hashes_are _ _ _ _ _ _ (sym c.hashes_fit.ensures ∙ c.if-not-hashes_fit.false) in
    record { lying = record { of_heads = λ i h. row_fits i _ _ _ h r.3; of_bodies = λ i h. row_fits i _ _ _ h r.0.length_is }; short = omega (arith, r.2, r.0.f_high) }

pub digests-requires : goal.digests-requires
digests-requires c = let r = hashes_are _ _ _ _ _ _ (sym c.hashes_fit.ensures ∙ c.if-not-hashes_fit.false) in λ i h. row_fits i _ _ _ h r.1.length_is
