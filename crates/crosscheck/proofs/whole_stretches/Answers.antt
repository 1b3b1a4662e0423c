use Prim.Native.Nat.{◌*◌}
use mathlib.Core.Path.{refl}
use native.Mathlib.Omega.{arith}
use Rattle.crosscheck.proofs.Stretches.{fits_whole, taken_more}
use Rattle.crosscheck.proofs.whole_stretches.Goals as goal

pub loop-k-preserved : goal.loop-k-preserved
loop-k-preserved c = let a = c.args in
    let k = c.loop-k.k in
    taken_more a.heads.now a.g a.head (omega arith) _ _ _ _ (fits_whole a.g a.head c.requires.0 (192 * k) (omega arith) (omega arith)) refl
    (omega arith) (λ q. omega arith) c.loop-k.invariant c.take_in.ensures
