use Prim.Native.Nat.{◌-◌}
use native.Mathlib.Omega.{arith}
use Rattle.octets.proofs.Laws.{slot_fits}
use Rattle.book.proofs.Laws as laws
use Rattle.book.proofs.span_of.Goals as goal

pub returns-then-i-eq0 : goal.returns-then-i-eq0
returns-then-i-eq0 c = laws.span_none _ _ _ _ _ c.if-i-eq0.true

pub returns : goal.returns
returns c = let pre = c.requires in
    laws.span_some _ _ _ _ _ c.if-i-eq0.false pre.0 pre.1
