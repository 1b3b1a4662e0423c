use borrow.Author.Rules.{rules}
use mathlib.Core.Path.{◌≡◌, ◌∙◌}
use mathlib.Core.List.{◌++◌}
use Prim.Native.Nat.{◌*◌}
use lib.ListN.{get_or, drop}
use Rattle.sha256.specs.Sha256.{ended}
use Rattle.sha256.proofs.Laws.{dropped}
use Rattle.sha256.proofs.load.Goals as goal

pub returns : goal.returns
returns c = let a = c.args in
    let m = ended a.before (a.p.now ++ a.s.now) in
    c.block_of-2.ensures (drop (64 * a.k) m) (λ j x h l q. let e : x ≡ get_or m j 0 = search rules in e ∙ dropped m (64 * a.k) j h)
