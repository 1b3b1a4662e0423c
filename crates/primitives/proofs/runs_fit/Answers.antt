use Rattle.primitives.proofs.Laws.{runs_yes, runs_no}
use native.Mathlib.Omega.{arith}
use Rattle.primitives.proofs.runs_fit.Goals as goal

pub returns-then-count-lt1 : goal.returns-then-count-lt1
returns-then-count-lt1 c = runs_no _ _ _ (λ h. omega arith)

pub returns-then-count-gt16 : goal.returns-then-count-gt16
returns-then-count-gt16 c = runs_no _ _ _ (λ h. omega arith)

pub returns-then-f-lt1 : goal.returns-then-f-lt1
returns-then-f-lt1 c = runs_no _ _ _ (λ h. omega arith)

pub returns-then-f-gt1024 : goal.returns-then-f-gt1024
returns-then-f-gt1024 c = runs_no _ _ _ (λ h. omega arith)

pub returns : goal.returns
returns c = runs_yes _ _ _ (omega arith) (omega arith) (omega arith) (omega arith)
