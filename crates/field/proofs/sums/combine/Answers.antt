use mathlib.Core.Path.{◌∙◌}
use Prim.Native.Nat.{◌-◌}
use native.Mathlib.Omega.{arith}
use Rattle.field.proofs.Horner.{horner_start, horner_turn, horner_end}
use Rattle.field.proofs.sums.combine.Goals as goal

pub loop-b-init : goal.loop-b-init
loop-b-init c = λ i h. horner_start _ _ _ i (λ j. omega (arith, c.type_inv.w j)) (λ j. omega (arith, c.type_inv.src j)) _

pub loop-b-preserved : goal.loop-b-preserved
loop-b-preserved c = let l = c.loop-b in
    λ i h. horner_turn _ _ _ i (λ j. omega (arith, c.type_inv.w j)) (λ j. omega (arith, c.type_inv.src j)) (l.b - 1) l.b _ _ _ (omega arith) (l.invariant i h)
    (c.twice-g.ensures i (omega arith)) (c.turn-owed.ensures i (omega arith))

pub returns : goal.returns
returns c = let l = c.loop-b in
    λ i h. horner_end _ _ _ i (λ j. omega (arith, c.type_inv.w j)) (λ j. omega (arith, c.type_inv.src j)) l.b _ (omega arith) (c.scale.ensures i (omega arith) ∙ l.invariant i (omega arith))
