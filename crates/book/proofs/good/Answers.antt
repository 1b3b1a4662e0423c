use mathlib.Core.Path.{sym, ◌∙◌}
use native.Mathlib.Omega.{arith}
use Rattle.book.proofs.Laws as laws
use Rattle.book.proofs.good.Goals as goal

pub returns-then-not-headed : goal.returns-then-not-headed
returns-then-not-headed c = let h = c.header_of-k.ensures in
    let o = c.shared_slice_known-1 in
    let g = c.headed in
    laws.bad_head _ _ _ (λ i. omega (arith, o.given i)) h.0 h.1 (sym g.ensures ∙ c.if-not-headed.true)

pub returns-then-filled : goal.returns-then-filled
returns-then-filled c = let h = c.header_of-k.ensures in
    let o = c.shared_slice_known-1 in
    let g = c.headed in
    laws.all_good _ _ _ (λ i. omega (arith, o.given i)) h.0 h.1 g.ensures c.if-not-headed.false c.filled.ensures c.if-filled.true

pub returns : goal.returns
returns c = let h = c.header_of-k.ensures in
    let o = c.shared_slice_known-1 in
    let g = c.headed in
    laws.bad_fill _ _ _ (λ i. omega (arith, o.given i)) h.0 h.1 g.ensures c.if-not-headed.false c.filled.ensures c.if-filled.false
