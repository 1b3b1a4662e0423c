use mathlib.Core.Path.{◌≡◌, refl}
use Prim.Native.Nat.{◌+◌}
use native.Mathlib.Omega.{arith}
use Rattle.octets.specs.Bytes.{part, num, num_from, be, be_onto}
use Rattle.octets.proofs.Laws as laws
use Rattle.octets.proofs.Meaning as means
use Rattle.octets.proofs.get.Goals as goal

pub loop-i-init : goal.loop-i-init
unfolding num part num_from be be_onto
loop-i-init c = (omega arith, refl, omega arith, refl)

pub overflow_mul-x : goal.overflow_mul-x
overflow_mul-x c = omega (arith, laws.room c.loop-i.x c.loop-i.i (omega arith) (omega arith))

pub overflow_cast-x : goal.overflow_cast-x
overflow_cast-x c = omega (arith, c.type_inv.b (c.args.at + c.loop-i.i))

pub overflow_add-x-in-loop-i : goal.overflow_add-x-in-loop-i
overflow_add-x-in-loop-i c = omega (arith, laws.room c.loop-i.x c.loop-i.i (omega arith) (omega arith), c.type_inv.b (c.args.at + c.loop-i.i))

pub loop-i-preserved : goal.loop-i-preserved
loop-i-preserved c = let at = c.args.at in (omega arith, laws.get_turn _ at _ _ (omega arith) c.loop-i.invariant.1, laws.room_more _ c.loop-i.i _ (omega arith) (omega (arith, c.type_inv.b (at + c.loop-i.i))), means.be_turn _ at _ _ (omega arith) (omega (arith, c.type_inv.b (at + c.loop-i.i))) c.loop-i.invariant.3)

pub returns : goal.returns
returns c = let e : c.loop-i.i ≡ c.args.n = omega arith in (rw e at c.loop-i.invariant.1, rw e at c.loop-i.invariant.2, rw e at c.loop-i.invariant.3)
