use mathlib.Core.Path.{◌≡◌}
use Prim.Native.Nat.{◌*◌, ◌+◌}
use native.Mathlib.Omega.{arith}
use Rattle.lanes.proofs.Windows.{rounded_start, rounded_next}
use Rattle.lanes.proofs.all_rounds.Goals as goal

pub loop-i-init : goal.loop-i-init
loop-i-init c = rounded_start _ _ _ (omega arith) (omega arith)

pub loop-i-preserved : goal.loop-i-preserved
loop-i-preserved c = let i = c.loop-i.i in
    let e : 4 * i + 4 ≡ 4 * (i + 1) = omega arith in
    rw e at (rounded_next (4 * i) c.args.n _ _ _ _ _ _ (omega arith) c.loop-i.invariant c.words_for.ensures c.turn.ensures)
