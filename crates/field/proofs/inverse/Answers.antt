use native.Mathlib.Omega.{arith}
use Rattle.field.proofs.Division.{by_squares}
use Rattle.field.proofs.inverse.Goals as goal

pub returns : goal.returns
returns c = by_squares c.args.a _ _ _ _ _ _ _ _ _ _ _ _ _ (omega (arith, c.ranges))
    c.product-a2.ensures c.product-a4.ensures c.product-a8.ensures
    c.product-a16.ensures c.product-a32.ensures c.product-a64.ensures c.product-a128.ensures
    c.product.ensures c.product-2.ensures c.product-low.ensures
    c.product-3.ensures c.product-high.ensures c.product-4.ensures
