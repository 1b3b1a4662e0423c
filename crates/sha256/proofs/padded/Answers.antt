use native.Mathlib.Omega.{arith}
use Rattle.sha256.proofs.Laws.{two_one, two_zero, two_bits}
use Rattle.sha256.proofs.padded.Goals as goal

pub returns-then-i-n-2 : goal.returns-then-i-n-2
returns-then-i-n-2 c = let a = c.args in two_one a.before a.p.now a.s.now a.i (omega arith)

pub returns-then-i-end : goal.returns-then-i-end
returns-then-i-end c = let a = c.args in two_zero a.before a.p.now a.s.now a.i (omega arith) (omega arith) (omega arith)

pub returns : goal.returns
returns c = let a = c.args in two_bits a.before a.p.now a.s.now a.i (omega arith) (omega arith) (omega arith) (omega arith)
