use mathlib.Core.Path.{ap, ◌∙◌}
use native.Mathlib.Omega.{arith}
use Rattle.octets.specs.Bytes.{put}
use Rattle.octets.proofs.Laws.{put_lent}
use Rattle.octets.proofs.Words.{be_word}
use Rattle.octets.proofs.put_word.Goals as goal

pub returns : goal.returns
returns c = let a = c.args in put_lent _ _ _ _ (omega arith) ∙ ap (put a.b.now a.at) (c.copy_from_slice.ensures.after ∙ c.to_be_bytes.ensures ∙ be_word a.x)
