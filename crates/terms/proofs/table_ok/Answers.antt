use native.Mathlib.Omega.{arith}
use Rattle.terms.proofs.Plans as laws
use Rattle.terms.proofs.table_ok.Goals as goal

pub returns-then-m-lt1 : goal.returns-then-m-lt1
returns-then-m-lt1 c = laws.table_no _ _ _ _ _ _ (λ h. omega arith)

pub returns-then-q-t : goal.returns-then-q-t
returns-then-q-t c = laws.table_no _ _ _ _ _ _ (λ h. omega arith)

pub returns-then-n-q : goal.returns-then-n-q
returns-then-n-q c = laws.repairable_no _ _ _ _ _ _ c.if-q-t.false c.if-m-lt1.false c.in-Repairable.is c.if-n-q.true

pub returns-then-n-q-2 : goal.returns-then-n-q-2
returns-then-n-q-2 c = laws.non_repair_no _ _ _ _ _ _ c.if-q-t.false c.if-m-lt1.false c.in-NonRepair.is c.if-n-q-2.true

pub returns-else-n-q : goal.returns-else-n-q
returns-else-n-q c = laws.repairable_yes _ _ _ _ _ _ c.if-q-t.false c.if-m-lt1.false c.in-Repairable.is c.if-n-q.false

pub returns-else-n-q-2 : goal.returns-else-n-q-2
returns-else-n-q-2 c = laws.non_repair_yes _ _ _ _ _ _ c.if-q-t.false c.if-m-lt1.false c.in-NonRepair.is c.if-n-q-2.false
