use mathlib.Core.Path.{sym, ◌∙◌}
use native.Mathlib.Omega.{arith}
use Rattle.book.proofs.Laws as laws
use Rattle.book.proofs.fate_by.Goals as goal

pub returns-then-not-same : goal.returns-then-not-same
returns-then-not-same c = let pre = c.requires in
    let shared_slice_known = c.shared_slice_known-1 in
    let shared_slice_known2 = c.shared_slice_known-2-1 in
    let same = c.same in
    laws.by_free _ _ _ _ _ _ pre.2 (λ i. omega (arith, shared_slice_known.given i)) (λ i. omega (arith, shared_slice_known2.given i)) pre.0
    pre.1 (sym same.ensures ∙ c.if-not-same.true)

pub returns-then-same : goal.returns-then-same
returns-then-same c = let pre = c.requires in
    let shared_slice_known = c.shared_slice_known-1 in
    let shared_slice_known2 = c.shared_slice_known-2-1 in
    let same = c.same in
    let if1 = c.if-not-same in
    let same2 = c.same-2 in
    laws.by_held _ _ _ _ _ _ pre.2 (λ i. omega (arith, shared_slice_known.given i)) (λ i. omega (arith, shared_slice_known2.given i)) pre.0
    pre.1 (sym same.ensures ∙ if1.false) (sym same2.ensures ∙ c.if-same.true)

pub returns : goal.returns
returns c = let pre = c.requires in
    let shared_slice_known = c.shared_slice_known-1 in
    let shared_slice_known2 = c.shared_slice_known-2-1 in
    let same = c.same in
    let if1 = c.if-not-same in
    let same2 = c.same-2 in
    laws.by_other _ _ _ _ _ _ pre.2 (λ i. omega (arith, shared_slice_known.given i)) (λ i. omega (arith, shared_slice_known2.given i)) pre.0
    pre.1 (sym same.ensures ∙ if1.false) (sym same2.ensures ∙ c.if-same.false)
