use native.Mathlib.Omega.{arith}
use Rattle.field.proofs.Horner.{turn_start, turn_pass, turn_end}
use Rattle.field.proofs.sums.turn.Goals as goal

pub loop-i-init : goal.loop-i-init
loop-i-init c = let n = c.next-i.ensures in (n.within, n.here, λ k h. turn_start _ _ _ _ k _ _ _ n)

pub loop-i-preserved : goal.loop-i-preserved
loop-i-preserved c = let l = c.loop-i in
    let n = c.next-i-in-loop-i.ensures in (
      n.within,
      n.here,
      λ k h. turn_pass _ _ _ _ k l.i _ _ _ _ _ _ (omega arith) (omega arith) (l.invariant.1 (omega arith)) c.next-j.ensures n (l.invariant.2 k h)
          (omega (arith, c.type_inv.acc k)) (c.fold.ensures k (omega arith)),
    )

pub returns : goal.returns
returns c = let l = c.loop-i in λ k h. turn_end _ _ _ _ k l.i _ _ (omega arith) (l.invariant.2 k h)
