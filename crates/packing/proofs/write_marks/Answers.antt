use Rattle.std.proofs.Common.{◌≡◌, refl, rules, arith, length, length-set}
use Rattle.packing.specs.SessionBytes.{mark_bytes}
use Rattle.rounds.specs.Rounds.{unheard}
use Rattle.packing.proofs.Laws as laws
use Rattle.packing.proofs.write_marks.Goals as goal

pub loop-i-init : goal.loop-i-init
loop-i-init c = record { same = refl; so_far = laws.write_start mark_bytes _ c.args.marks _ (unfold mark_bytes in refl) }

pub loop-i-preserved : goal.loop-i-preserved
loop-i-preserved c =
    let e : length c.args.marks ≡ 16 = search rules in
    record {
      same = simp length-set c.loop-i.invariant.same;
      so_far = laws.write_turn_lem _ _ c.args.marks 221 c.loop-i.i _ unheard (omega arith) (omega (arith, c.loop-i.invariant.same)) (search rules) c.loop-i.invariant.so_far;
    }
