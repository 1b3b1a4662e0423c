use mathlib.Core.Path.{ap, ◌∙◌}
use mathlib.Core.List.{List}
use Prim.Native.Nat.{◌+◌, ◌-◌}
use native.Mathlib.Omega.{arith}
use Rattle.octets.specs.Bytes.{part, alike}
use Rattle.sha256.specs.Sha256.{sha256}
use Rattle.sha256.proofs.Laws.{whole}
use Rattle.record.proofs.Records.{taken}
use Rattle.record.proofs.verifier_ok.Goals as goal

pub returns : goal.returns
returns c = let a = c.args in
    let t = taken a.s.now (a.at + 40) (a.at + a.head - (a.at + 40)) (a.head - 40) (omega arith) in
    c.same.ensures
    ∙ ap (λ (l : List _). alike l (part a.s.now (a.at + 8) 32)) (whole (part a.s.now (a.at + 40) (a.head - 40)) _ (c.digest-d.ensures ∙ ap sha256 t))
