use mathlib.Core.Path.{ap, ◌∙◌}
use mathlib.Core.List.{List}
use Prim.Native.Nat.{ℕ, ◌+◌, ◌*◌}
use native.Mathlib.Omega.{arith}
use Rattle.lanes.specs.Lanes.{hashed_into}
use Rattle.lanes.specs.Inside.{batch_from}
use Rattle.lanes.proofs.Batches.{hashed_none, hashed_on}
use Rattle.lanes.proofs.digests.Goals as goal

pub loop-i-init : goal.loop-i-init
loop-i-init c = (omega arith, hashed_none _ _ _ _ _ _)

pub loop-i-preserved : goal.loop-i-preserved
loop-i-preserved c = let l = c.loop-i in
    let a = c.args in
    let m = a.m.now in
    let k = c.at_once-some.result in (
      omega arith,
      c.some_from.ensures
          ∙ ap (λ (y : List ℕ). hashed_into m.heads.now m.bodies.now (batch_from m.batch l.i k) (a.at + l.i * a.stride) a.stride k y) l.invariant.1
          ∙ hashed_on _ _ m.batch a.at a.stride l.i k k a.out.now,
    )
