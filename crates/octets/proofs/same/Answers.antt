use mathlib.Core.Path.{◌≡◌, ◌∙◌}
use Prim.Native.Nat.{◌+◌, ◌-◌}
use native.Mathlib.Omega.{arith}
use Rattle.octets.specs.Bytes.{part}
use Rattle.octets.proofs.Words.{same_bytes}
use Rattle.octets.proofs.same.Goals as goal

pub returns : goal.returns
unfolding part
returns c =
    let a = c.args in
    let k : a.i + a.n - a.i ≡ a.n = omega arith in
    let m : a.j + a.n - a.j ≡ a.n = omega arith in
    (rw (k, m) at c.eq.ensures) ∙ same_bytes _ _
