use mathlib.Core.Path.{ap, ◌∙◌}
use mathlib.Core.List.{List}
use Prim.Native.Nat.{ℕ}
use Rattle.octets.specs.Bytes.{put}
use Rattle.lanes.proofs.Batches.{all_bytes}
use Rattle.lanes.proofs.store.Goals as goal

pub returns : goal.returns
returns c = let a = c.args in c.copy.ensures ∙ ap (λ (d : List ℕ). put a.out.now a.at d) (all_bytes _ _ c.hash_of-d.ensures)
