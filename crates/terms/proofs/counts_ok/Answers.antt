use native.Mathlib.Omega.{arith}
use Rattle.terms.proofs.Plans as laws
use Rattle.terms.proofs.counts_ok.Goals as goal

pub returns-then-n-lt1 : goal.returns-then-n-lt1
returns-then-n-lt1 c = laws.counts_no _ _ _ _ _ _ (λ h s. omega arith)

pub returns-then-n-gt16 : goal.returns-then-n-gt16
returns-then-n-gt16 c = laws.counts_no _ _ _ _ _ _ (λ h s. omega arith)

pub returns-then-t-p : goal.returns-then-t-p
returns-then-t-p c = laws.counts_no _ _ _ _ _ _ (λ h s. omega arith)

pub returns-then-t-gt16 : goal.returns-then-t-gt16
returns-then-t-gt16 c = laws.counts_no _ _ _ _ _ _ (λ h s. omega arith)

pub returns-then-p-gt16 : goal.returns-then-p-gt16
returns-then-p-gt16 c = laws.counts_no _ _ _ _ _ _ (λ h s. omega arith)

pub returns-then-p-gt16-2 : goal.returns-then-p-gt16-2
returns-then-p-gt16-2 c = laws.counts_no _ _ _ _ _ _ (λ h s. omega arith)

pub returns : goal.returns
returns c = laws.counts_last _ _ _ _ _ _ _ (omega arith) (omega arith) (omega arith) c.table_ok.ensures
