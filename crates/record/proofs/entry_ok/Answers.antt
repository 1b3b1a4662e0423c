use mathlib.Core.Path.{ap, ◌∙◌}
use mathlib.Core.List.{List}
use Prim.Native.Nat.{◌+◌, ◌-◌, ◌*◌}
use native.Mathlib.Omega.{arith}
use Rattle.octets.specs.Bytes.{part, alike}
use Rattle.record.proofs.Records.{taken}
use Rattle.record.proofs.Desks as laws
use Rattle.record.proofs.entry_ok.Goals as goal

pub returns : goal.returns
returns c = let x = c.prefixes-x in
    let a = c.args in
    let i = a.node in
    let z = x.result.size in
    c.matches.ensures
    ∙ ap (λ (l : List _). alike l (part a.s.now a.at 32))
    (laws.hashed a.p i _ a.fragment.now (taken x.result.bytes (16 * i) (16 * i + z - 16 * i) z (omega arith) ∙ x.ensures.1 i c.requires.2))
