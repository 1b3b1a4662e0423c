use Rattle.std.proofs.Common.{◌≡◌, refl, rules, arith, length}
use Rattle.packing.specs.SessionBytes.{times_bytes}
use Rattle.packing.proofs.Laws as laws
use Rattle.packing.proofs.write_times.Goals as goal

pub loop-i-init : goal.loop-i-init
loop-i-init c = record { same = refl; so_far = laws.write_start times_bytes _ c.args.times _ (unfold times_bytes in refl) }

pub loop-i-preserved : goal.loop-i-preserved
loop-i-preserved c =
    let e : length c.args.times ≡ 16 = search rules in
    record {
      same = search rules;
      so_far = laws.write_time _ _ _ c.args.times 53 c.loop-i.i (record { 0 = 0 }) (omega arith) (omega arith) c.loop-i.invariant.so_far c.put_word.ensures;
    }
