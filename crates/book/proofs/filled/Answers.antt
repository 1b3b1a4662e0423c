use mathlib.Core.Path.{sym, ap, ◌∙◌}
use native.Mathlib.Omega.{arith}
use Rattle.terms.proofs.Rungs.{clash}
use Rattle.book.specs.Records.{timed, rising}
use Rattle.book.proofs.Turns as turns
use Rattle.book.proofs.Laws as laws
use Rattle.book.proofs.filled.Goals as goal

pub returns-then-book-k : goal.returns-then-book-k
returns-then-book-k c = let q = c.requires in
    let a = c.args in
    let u = laws.used_of_lem a.p a.book.now a.k q.0 in
    let t = c.if-book-k.true in
    laws.fill_no _ _ _ (λ i. let j = i.inside in omega arith)

pub returns-then-not-rising : goal.returns-then-not-rising
returns-then-not-rising c = let s = ap rising (laws.records_of_lem _ _ _ c.requires.0) in
    let g = c.rising in
    laws.fill_no _ _ _ (λ i. clash (sym i.rise ∙ sym s ∙ sym g.ensures ∙ c.if-not-rising.true))

pub returns : goal.returns
returns c = let e = c.requires.0 in
    let u = laws.used_of_lem c.args.p c.args.book.now c.args.k e in
    let r = laws.records_of_lem c.args.p c.args.book.now c.args.k e in
    let g = c.rising in
    let t = c.if-book-k.false in
    laws.fill_last _ _ _ _ (omega arith) (sym (ap rising r) ∙ sym g.ensures ∙ c.if-not-rising.false) (c.timed.ensures ∙ ap timed r)
