use mathlib.Core.Path.{sym, ap, ◌∙◌}
use Prim.Native.Nat.{ℕ}
use native.Mathlib.Omega.{arith}
use lib.Dec.{eqb}
use Rattle.book.proofs.Turns as turns
use Rattle.book.proofs.Laws as laws
use Rattle.book.proofs.headed.Goals as goal

pub returns-then-get-k : goal.returns-then-get-k
returns-then-get-k c = laws.head_no _ _ _ _ (λ i. c.if-get-k.true (c.get.ensures.0 ∙ i.used ∙ sym (laws.length_of _ _ _ c.requires.1)))

pub returns-then-k-ne1 : goal.returns-then-k-ne1
returns-then-k-ne1 c = laws.head_no _ _ _ _ (λ i. c.if-k-ne1.true (laws.version_of _ _ _ c.requires.1 ∙ i.version))

pub returns-then-get-n : goal.returns-then-get-n
returns-then-get-n c = laws.head_no _ _ _ _ (λ i. c.if-get-n.true (c.get-2.ensures.0 ∙ i.nodes))

pub returns-then-k-n : goal.returns-then-k-n
returns-then-k-n c = let n = laws.node_of_lem c.args.p c.args.book.now c.args.k c.requires.1 in
    laws.head_no _ _ _ _ (λ i. let h = i.node in let t = c.if-k-n.true in omega arith)

pub returns : goal.returns
returns c = let n = laws.node_of_lem c.args.p c.args.book.now c.args.k c.requires.1 in
    let t = c.if-k-n.false in
    ap (λ (x : ℕ). eqb x c.args.p.f) c.get-3.ensures.0 ∙ laws.head_last _ _ _ _
    (sym c.get.ensures.0 ∙ c.if-get-k.false ∙ laws.length_of _ _ _ c.requires.1)
    (sym (laws.version_of _ _ _ c.requires.1) ∙ c.if-k-ne1.false) (sym c.get-2.ensures.0 ∙ c.if-get-n.false)
    (omega arith)
