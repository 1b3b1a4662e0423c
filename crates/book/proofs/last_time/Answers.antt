use native.Mathlib.Omega.{arith}
use Prim.Native.Nat.{◌-◌}
use Rattle.octets.proofs.Laws.{slot_fits}
use Rattle.book.proofs.Laws as laws
use Rattle.book.proofs.last_time.Goals as goal

pub returns-then-m-eq0 : goal.returns-then-m-eq0
returns-then-m-eq0 c = laws.time_none c.args.k _ c.if-m-eq0.true

pub returns : goal.returns
returns c = let p = c.requires in
    let g = p.long in
    laws.time_some c.args.k _ _ c.if-m-eq0.false (omega arith) p.inside c.get.ensures.0
