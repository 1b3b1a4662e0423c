use Rattle.std.proofs.Common.{◌≡◌, ap, arith, sym, ◌∙◌}
use Rattle.octets.specs.Bytes.{part, num}
use Rattle.book.specs.Records.{below}
use Rattle.book.proofs.Turns as laws
use Rattle.book.proofs.place.Goals as goal

pub returns-then-not-is_below : goal.returns-then-not-is_below
returns-then-not-is_below c = laws.place_stop _ _ _ _ (omega arith) _ _ _ (omega arith) (sym c.is_below.ensures ∙ c.if-not-is_below.true) c.loop-i.invariant

pub loop-i-preserved : goal.loop-i-preserved
loop-i-preserved c = laws.place_on _ _ _ _ (omega arith) _ _ _ (omega arith) (sym c.is_below.ensures ∙ c.if-not-is_below.false) c.loop-i.invariant

pub returns : goal.returns
returns c = let e : c.loop-i.i ≡ c.args.k.count = omega arith in laws.place_end _ _ _ _ (omega arith) _ _ c.args.k.count (omega arith) (rw e at c.loop-i.invariant)
