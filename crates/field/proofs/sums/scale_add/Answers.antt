use mathlib.Core.Path.{ap, ◌∙◌}
use Prim.Native.Nat.{ℕ}
use native.Mathlib.Omega.{arith}
use lib.Bits.{bit_xor}
use Rattle.field.specs.Field.{mul}
use Rattle.field.specs.Inside.{number}
use Rattle.field.proofs.Loops.{upto_next}
use Rattle.field.proofs.sums.scale_add.Goals as goal

pub loop-i-preserved : goal.loop-i-preserved
loop-i-preserved g c = let l = c.loop-i in
    let x = c.added.result in
    upto_next _ l.i _ _ _ l.invariant (omega arith)
    (x, c.added.ensures, ap (λ (y : ℕ). bit_xor y x) (c.scaled.ensures ∙ ap (mul (number c.args.g)) (l.invariant.left l.i (omega arith))))

pub returns : goal.returns
returns g c = λ i h. c.loop-i.invariant.done i (omega arith)
