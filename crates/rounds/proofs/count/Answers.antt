use Rattle.std.proofs.Common.{◌≡◌, refl, rules, arith, length}
use Rattle.rounds.specs.Rounds.{heard_count, unheard}
use Rattle.rounds.proofs.Laws as laws
use Rattle.rounds.proofs.count.Goals as goal

pub loop-i-init : goal.loop-i-init
unfolding heard_count
loop-i-init c = (omega arith, refl)

pub loop-i-preserved : goal.loop-i-preserved
loop-i-preserved c =
    let e : length c.args.marks ≡ 16 = search rules in
    (omega (arith, c.bit-n.ensures.1), laws.count_turn c.args.marks c.loop-i.i _ _ unheard (omega arith) c.loop-i.invariant.1 c.bit-n.ensures.0)

pub returns : goal.returns
returns c =
    let e : length c.args.marks ≡ 16 = search rules in
    (laws.count_all c.args.marks c.loop-i.i _ (omega arith) c.loop-i.invariant.1, omega arith)
