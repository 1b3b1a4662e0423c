use borrow.Author.Rules.{rules}
use mathlib.Core.Path.{◌≡◌, ap, ◌∙◌}
use Prim.Native.Nat.{◌+◌}
use lib.Bits.{bit_xor}
use lib.ListN.{get_or}
use Rattle.field.specs.Field.{mul}
use Rattle.field.specs.Inside.{number}
use Rattle.field.proofs.Horner.{both_folded, one_folded}
use Rattle.field.proofs.sums.fold.Goals as goal

pub returns-then-j-at : goal.returns-then-j-at
returns-then-j-at c = let a = c.args in
    λ k h.
    let w = c.scale_add.ensures k h in
    let y = mul (number a.g) (get_or a.acc.now k 0) in
    let e : w.0 ≡ bit_xor (get_or a.src.now (get_or a.at.now a.i 0 + k) 0) (get_or a.src.now (get_or a.at.now a.j 0 + k) 0) = search rules in
    w.2 ∙ ap (bit_xor y) e ∙ both_folded a.at.now a.src.now k a.i a.j y c.if-j-at.true

pub returns-else-j-at : goal.returns-else-j-at
returns-else-j-at c = let a = c.args in
    λ k h.
    let w = c.scale_add-else-j-at.ensures k h in
    let y = mul (number a.g) (get_or a.acc.now k 0) in
    let e : w.0 ≡ get_or a.src.now (get_or a.at.now a.i 0 + k) 0 = search rules in
    w.2 ∙ ap (bit_xor y) e ∙ one_folded a.at.now a.src.now k a.i a.j y c.if-j-at.false
