use Rattle.std.proofs.Common.{◌≡◌, ◌+◌, ◌-◌, ap, arith, sym, ◌∙◌}
use Rattle.book.specs.Records.{rising}
use Rattle.book.proofs.Turns as laws
use Rattle.book.proofs.rising.Goals as goal

pub returns-then-not-less : goal.returns-then-not-less
returns-then-not-less c =
    laws.rising_stop _ _ _ _ (omega arith) _ _ c.loop-i.i (omega arith) (omega arith) (sym c.less.ensures ∙ c.if-not-less.true) c.loop-i.invariant

pub loop-i-preserved : goal.loop-i-preserved
loop-i-preserved c =
    let e : c.loop-i.i + 1 - 1 ≡ c.loop-i.i = omega arith in
    rw e (laws.rising_on _ _ _ _ (omega arith) _ _ c.loop-i.i (omega arith) (omega arith) (sym c.less.ensures ∙ c.if-not-less.false) c.loop-i.invariant)

pub returns : goal.returns
returns c = laws.rising_end _ _ _ _ (omega arith) _ _ (omega arith) c.loop-i.invariant
