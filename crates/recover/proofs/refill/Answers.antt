use mathlib.Core.Path.{refl}
use native.Mathlib.Omega.{arith}
use Rattle.recover.specs.Recover.{refilled}
use Rattle.recover.proofs.Laws as laws
use Rattle.recover.proofs.refill.Goals as goal

pub loop-k-init : goal.loop-k-init
unfolding refilled
loop-k-init c = (c.requires.1, refl, refl)

pub loop-k-preserved : goal.loop-k-preserved
loop-k-preserved c = let l = c.loop-k in
    (omega arith, omega arith, laws.refill_more _ _ _ _ _ _ l.k l.invariant.2 c.fill_slot.ensures)
