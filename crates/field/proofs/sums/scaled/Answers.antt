use borrow.Author.Rules.{rules}
use mathlib.Core.Path.{◌≡◌, sym}
use native.Mathlib.Omega.{arith}
use Rattle.field.specs.Inside.{number}
use Rattle.field.proofs.Laws.{zero_mul, one_mul, doubled_once, doubled_again}
use Rattle.field.proofs.sums.scaled.Goals as goal

pub returns-then-eq : goal.returns-then-eq
returns-then-eq c = let e : number c.args.g ≡ 0 = search rules in rw e (sym (zero_mul c.args.a))

pub returns-then-eq-2 : goal.returns-then-eq-2
returns-then-eq-2 c = let e : number c.args.g ≡ 1 = search rules in rw e (sym (one_mul c.args.a (omega arith)))

pub returns-then-eq-3 : goal.returns-then-eq-3
returns-then-eq-3 c = let e : number c.args.g ≡ 2 = search rules in rw e (doubled_once c.args.a _ (omega arith) c.double.ensures)

pub returns-else-eq-3 : goal.returns-else-eq-3
returns-else-eq-3 c = let e : number c.args.g ≡ 4 = search rules in rw e (doubled_again c.args.a _ _ (omega arith) c.double-else-eq-3.ensures c.double-else-eq-3-2.ensures)
