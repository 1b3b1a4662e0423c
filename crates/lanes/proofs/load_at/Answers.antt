use mathlib.Core.Path.{ap}
use mathlib.Core.List.{List}
use Prim.Native.Nat.{ℕ, ◌*◌}
use lib.ListN.{drop}
use Rattle.sha256.specs.Sha256.{words, ended}
use Rattle.lanes.proofs.Windows.{loaded_as}
use Rattle.lanes.proofs.Batches.{message_lent}
use Rattle.lanes.proofs.load_at.Goals as goal

pub returns : goal.returns
returns c = let a = c.args in
    let m = a.m.now in
    loaded_as _ _ _ _ _
    (ap (λ (m : List ℕ). words 16 (drop (64 * a.b) (ended a.before m))) (message_lent m.heads.now m.bodies.now m.batch a.l _ _ c.row_at-c.ensures c.row_at-a.ensures))
    c.load_block.ensures
