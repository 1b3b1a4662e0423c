use Rattle.std.proofs.Common.{arith, length-set, refl}
use Rattle.packing.specs.SessionBytes.{marks_of}
use Rattle.packing.proofs.Laws as laws
use Rattle.packing.proofs.marks_of.Goals as goal

pub loop-i-init : goal.loop-i-init
unfolding marks_of
loop-i-init c = record { wide = refl; so_far = refl }

pub loop-i-preserved : goal.loop-i-preserved
loop-i-preserved c =
    record {
      wide = simp length-set c.loop-i.invariant.wide;
      so_far = laws.marks_turn _ _ c.loop-i.i _ (omega arith) (omega (arith, c.loop-i.invariant.wide)) c.heard_of.ensures c.loop-i.invariant.so_far;
    }

pub returns : goal.returns
returns c = let k = c.loop-i.invariant in laws.marks_end _ _ c.loop-i.i (omega arith) (omega (arith, k.wide)) k.so_far
