use Prim.Native.Nat.{◌*◌, ◌+◌, ◌-◌}
use native.Mathlib.Omega.{arith}
use Rattle.crosscheck.proofs.Stretches.{rows_more}
use Rattle.crosscheck.proofs.rows.Goals as goal

pub loop-l-preserved : goal.loop-l-preserved
loop-l-preserved c = let l = c.loop-l in
    let f = c.args.t.fragment in
    rows_more _ c.args.t _ c.args.g.first l.l (192 * l.l + f - 192 * l.l) l.out _ (omega arith) c.requires.1 (omega arith) c.requires.0 c.regenerate.ensures l.invariant
