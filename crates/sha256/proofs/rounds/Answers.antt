use mathlib.Core.Path.{refl, ◌∙◌}
use native.Mathlib.Omega.{arith}
use lib.ListN.{length-append, length-drop}
use lib.Seq.{take_at}
use Rattle.sha256.specs.Sha256.{schedule_of, rounds_of}
use Rattle.sha256.proofs.rounds.Goals as goal

pub loop-i-init : goal.loop-i-init
unfolding schedule_of rounds_of
loop-i-init c = let e = c.copy_from_slice.ensures in
    record {
      words_held = record {
        long = simp (length-append, length-drop) (omega arith);
        held = take_at c.copy_from_slice.new.self _ 16 (omega arith) ∙ e.after;
      };
      rounds_done = refl;
    }
