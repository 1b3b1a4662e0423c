use native.Mathlib.Omega.{arith}
use Rattle.octets.proofs.Laws.{slot_fits}
use Rattle.book.proofs.Laws as laws
use Rattle.book.proofs.fate_of.Goals as goal

pub returns-then-i-k : goal.returns-then-i-k
returns-then-i-k c = laws.fate_found c.args.k _ _ _ _ c.requires.0.long c.place-i.ensures _ c.requires.0.rise c.if-i-k.true
    c.fate_by.ensures

pub returns : goal.returns
returns c = laws.fate_free c.args.k _ _ _ _ c.requires.0.long c.place-i.ensures c.if-i-k.false
