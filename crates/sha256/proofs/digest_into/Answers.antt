use Prim.Native.Nat.{ℕ}
use mathlib.Core.Path.{ap, ◌∙◌}
use mathlib.Core.List.{List, ◌++◌}
use Rattle.octets.specs.Bytes.{put}
use Rattle.sha256.proofs.Laws.{whole}
use Rattle.sha256.proofs.digest_into.Goals as goal

pub returns : goal.returns
returns c = let a = c.args in c.copy.ensures ∙ ap (λ (s : List ℕ). put a.out.now a.at s) (whole (a.p.now ++ a.s.now) _ c.digest_after-d.ensures)
