use native.Mathlib.Omega.{arith}
use Rattle.terms.proofs.Plans as laws
use Rattle.terms.proofs.limits_ok.Goals as goal

pub returns-then-p-lt1 : goal.returns-then-p-lt1
returns-then-p-lt1 c = laws.limits_no _ (λ h. omega arith)

pub returns-then-p-gt1024 : goal.returns-then-p-gt1024
returns-then-p-gt1024 c = laws.limits_no _ (λ h. omega arith)

pub returns-then-p-lt1-2 : goal.returns-then-p-lt1-2
returns-then-p-lt1-2 c = laws.limits_no _ (λ h. omega arith)

pub returns : goal.returns
returns c = laws.limits_last _ (omega arith) (omega arith) (omega arith)
