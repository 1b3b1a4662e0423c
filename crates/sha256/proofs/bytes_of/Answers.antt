use mathlib.Core.Path.{◌∙◌}
use Rattle.sha256.proofs.Laws.{bytes_more}
use Rattle.sha256.proofs.bytes_of.Goals as goal

pub loop-i-preserved : goal.loop-i-preserved
loop-i-preserved c = let l = c.loop-i in bytes_more c.args.s l.i l.bytes _ c.loop-i-test.true l.invariant.0 l.invariant.1 (c.copy_from_slice.ensures.after ∙ c.to_be_bytes.ensures)
