use mathlib.Core.Path.{◌≡◌, ap, ◌∙◌}
use mathlib.Core.List.{◌++◌}
use Prim.Native.Nat.{ℕ, ◌+◌, ◌-◌}
use native.Mathlib.Omega.{arith}
use lib.ListN.{take, drop}
use Rattle.octets.proofs.Laws.{put_within}
use Rattle.octets.proofs.within.Goals as goal

pub returns : goal.returns
returns c =
    let a = c.args in
    let b = a.b.now in
    let k : a.from + a.n - a.from ≡ a.n = omega arith in
    c.copy_within.ensures.after ∙ ap (λ (n : ℕ). take a.at b ++ take n (drop a.from b) ++ drop (a.at + n) b) k ∙ put_within b a.from a.n a.at (omega arith)
