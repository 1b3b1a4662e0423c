use mathlib.Core.Path.{refl, ◌∙◌}
use Prim.Native.Nat.{◌+◌, ◌*◌}
use native.Mathlib.Omega.{arith}
use lib.ListN.{length-set}
use Rattle.sha256.specs.Sha256.{words}
use Rattle.sha256.proofs.Laws.{stored_more, read_at}
use Rattle.sha256.proofs.block_of.Goals as goal

pub loop-i-init : goal.loop-i-init
unfolding words
loop-i-init g c = (refl, λ bs f. refl)

pub loop-i-preserved : goal.loop-i-preserved
loop-i-preserved g c = let l = c.loop-i in
    let at = c.args.at in (
      length-set l.w l.i _ ∙ l.invariant.0,
      λ bs f.
          let h0 = read_at at _ (4 * l.i) _ bs (omega arith) (f _ _ (omega arith) (omega arith) c.byte.ensures) in
          let h1 = read_at at _ (4 * l.i + 1) _ bs (omega arith) (f _ _ (omega arith) (omega arith) c.byte-in-loop-i.ensures) in
          let h2 = read_at at _ (4 * l.i + 2) _ bs (omega arith) (f _ _ (omega arith) (omega arith) c.byte-in-loop-i-2.ensures) in
          let h3 = read_at at _ (4 * l.i + 3) _ bs (omega arith) (f _ _ (omega arith) (omega arith) c.byte-in-loop-i-3.ensures) in
          stored_more l.w l.i _ bs (omega arith) (l.invariant.1 bs f) (c.word.ensures ∙ cc),
    )
