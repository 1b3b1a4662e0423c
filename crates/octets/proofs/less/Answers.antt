use mathlib.Core.Path.{◌≡◌, refl, sym}
use native.Mathlib.Omega.{arith}
use borrow.Author.Tests.{le-ltb}
use Rattle.octets.specs.Bytes.{part, num}
use Rattle.octets.proofs.Meaning.{bytes_all}
use Rattle.octets.proofs.Words.{less_here, less_more}
use Rattle.octets.proofs.less.Goals as goal

pub loop-k-init : goal.loop-k-init
unfolding part
loop-k-init c = refl

pub returns-then-x-y : goal.returns-then-x-y
returns-then-x-y c = let a = c.args in
    less_here a.a.now a.b.now a.i a.j a.n c.loop-k.k (omega arith) (omega arith) (omega arith) (bytes_all a.a.now (λ i. omega (arith, c.type_inv.a i)))
    (bytes_all a.b.now (λ i. omega (arith, c.type_inv.b i))) c.loop-k.invariant c.if-x-y.true

pub loop-k-preserved : goal.loop-k-preserved
loop-k-preserved c = less_more _ _ _ _ _ (omega arith) (omega arith) c.loop-k.invariant c.if-x-y.false

pub returns : goal.returns
returns c = let e : c.loop-k.k ≡ c.args.n = omega arith in
    let a = c.args in
    let z = rw e at c.loop-k.invariant in
    sym (le-ltb (num (part a.a.now a.i a.n)) (num (part a.b.now a.j a.n)) (omega arith))
