use mathlib.Core.Path.{sym, ap, subst, ◌∙◌}
use Prim.Native.Nat.{◌+◌, ◌*◌}
use native.Mathlib.Omega.{arith}
use Rattle.lanes.specs.declared.Batch.{Batch}
use Rattle.lanes.specs.Lanes.{Lying}
use Rattle.lanes.proofs.Batches.{from_lying, from_made, from_spaced, hashed_one}
use Rattle.lanes.proofs.some_from.Goals as goal

pub invariant_of-y : goal.invariant_of-y
invariant_of-y c = let a = c.args in
    let m = a.m.now in
    let y = from_made m.batch a.i a.some _ _ c.rows_from.ensures c.rows_from-else-some-eq1.ensures in
    record {
      lying = subst (Lying m.heads.now m.bodies.now) (sym y) (from_lying m.heads.now m.bodies.now m.batch a.i a.some c.requires.1 m.lying);
      short = omega (arith, m.short, ap (λ (z : Batch). z.heads.size) y, ap (λ (z : Batch). z.bodies.size) y);
    }

pub group-requires : goal.group-requires
group-requires c = let a = c.args in (c.requires.2, from_spaced a.at a.stride a.i a.m.now.batch.n a.some a.out.now c.requires.1 c.requires.0)

pub returns-then-some-eq1 : goal.returns-then-some-eq1
returns-then-some-eq1 c = let a = c.args in
    c.one.ensures ∙ hashed_one _ _ a.m.now.batch (a.at + a.i * a.stride) a.stride a.i a.some _ (omega arith)
