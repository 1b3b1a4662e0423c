use Rattle.book.proofs.Laws as laws
use native.Mathlib.Omega.{arith}
use Rattle.book.proofs.last.Goals as goal

pub returns : goal.returns
returns c = laws.last_is c.args.k _ _ c.span_of.ensures
