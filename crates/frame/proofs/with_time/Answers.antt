use native.Mathlib.Omega.{arith}
use Rattle.octets.proofs.Laws.{length_be}
use Rattle.frame.proofs.Built as built
use Rattle.frame.proofs.with_time.Goals as goal

pub returns : goal.returns
returns c = let h = c.head-end in
    built.whole_is _ _ _ _ _ _ _ _ (length_be _ _) h.ensures.1 (omega (arith, h.ensures.1)) h.ensures.0 c.put_word.ensures
