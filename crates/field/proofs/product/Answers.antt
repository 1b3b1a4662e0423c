use native.Mathlib.Omega.{arith}
use Rattle.field.proofs.Laws.{product_start, product_turn, product_end, xtime_lt}
use Rattle.field.proofs.product.Goals as goal

pub loop-i-init : goal.loop-i-init
loop-i-init c = (omega arith, product_start c.args.a c.args.b (omega arith) (omega arith))

pub loop-i-preserved : goal.loop-i-preserved
loop-i-preserved c = let l = c.loop-i in (rw c.double-doubled.ensures (xtime_lt l.doubled), product_turn l.i l.sum l.doubled _ c.args.b _ (omega arith) c.double-doubled.ensures l.invariant.1)

pub returns : goal.returns
returns c = let l = c.loop-i in product_end l.i l.sum l.doubled _ _ (omega arith) l.invariant.1
