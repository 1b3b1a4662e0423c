use mathlib.Core.Path.{◌∙◌}
use native.Mathlib.Omega.{arith}
use mathlib.Core.Path.{ap}
use mathlib.Core.List.{List}
use Prim.Native.Nat.{ℕ}
use Rattle.terms.specs.Terms.{record_length}
use Rattle.record.specs.Record.{hashes_ok}
use Rattle.node.proofs.Laws as laws
use Rattle.node.proofs.hash_fails.Goals as goal

pub returns-then-kind-ne-WRITE_REQUEST : goal.returns-then-kind-ne-WRITE_REQUEST
returns-then-kind-ne-WRITE_REQUEST c = laws.fails_no _ _ _ c.if-kind-ne-WRITE_REQUEST.true

pub hashes_ok-requires : goal.hashes_ok-requires
hashes_ok-requires c = let l = laws.write_length _ _ _ c.requires c.if-kind-ne-WRITE_REQUEST.false in
    (omega (arith, c.head_bytes-at.ensures), c.requires.node)

pub returns : goal.returns
returns c = let a = c.args in
    laws.fails_last _ _ _ _ c.if-kind-ne-WRITE_REQUEST.false
    (c.hashes_ok.ensures ∙ ap (λ (l : List ℕ). hashes_ok a.p.plan a.h.node l) (laws.body_at _ _ _ c.requires _ _ c.head_bytes-at.ensures (λ i. record_length a.p.plan) c.if-kind-ne-WRITE_REQUEST.false))
