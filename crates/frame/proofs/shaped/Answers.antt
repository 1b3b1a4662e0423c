use mathlib.Core.Path.{sym, ◌∙◌}
use native.Mathlib.Omega.{arith}
use Rattle.frame.proofs.Frames as laws
use Rattle.frame.proofs.shaped.Goals as goal

pub returns-then-n-lt-HEAD : goal.returns-then-n-lt-HEAD
returns-then-n-lt-HEAD c = laws.shaped_no _ (λ q. let l = q.low in omega arith)

pub returns-then-get-n : goal.returns-then-get-n
returns-then-get-n c = laws.shaped_no _ (λ q. c.if-get-n.true (c.get.ensures.0 ∙ q.whole))

pub returns : goal.returns
returns c = laws.shaped_last _ _ c.if-n-lt-HEAD.false (sym c.get.ensures.0 ∙ c.if-get-n.false) c.get-2.ensures.0
