use mathlib.Core.Path.{ap, ◌∙◌}
use mathlib.Core.List.{List}
use Prim.Native.Nat.{ℕ}
use Rattle.octets.specs.Bytes.{put}
use Rattle.sha256.specs.Sha256.{sha256}
use Rattle.lanes.proofs.Batches.{message_lent}
use Rattle.lanes.proofs.one.Goals as goal

pub returns : goal.returns
returns c = let a = c.args in
    let m = a.m.now in
    c.digest_into.ensures
    ∙ ap (λ (m : List ℕ). put a.out.now a.at (sha256 m)) (message_lent m.heads.now m.bodies.now m.batch a.i _ _ c.row_at-c.ensures c.row_at-a.ensures)
