use Rattle.primitives.proofs.Laws.{runs_are, hashes_yes, hashes_no, small}
use Rattle.terms.proofs.Rungs.{clash}
use mathlib.Core.Path.{sym, ◌∙◌}
use native.Mathlib.Omega.{arith}
use Rattle.primitives.proofs.hashes_fit.Goals as goal

pub returns-then-not-runs_fit : goal.returns-then-not-runs_fit
returns-then-not-runs_fit c = hashes_no _ _ _ _ _ _ (λ h. clash (sym h.0 ∙ sym c.runs_fit.ensures ∙ c.if-not-runs_fit.true))

pub returns-then-not-runs_fit-2 : goal.returns-then-not-runs_fit-2
returns-then-not-runs_fit-2 c = hashes_no _ _ _ _ _ _ (λ h. clash (sym h.1 ∙ sym c.runs_fit-2.ensures ∙ c.if-not-runs_fit-2.true))

pub returns-then-h-gt16 : goal.returns-then-h-gt16
returns-then-h-gt16 c = hashes_no _ _ _ _ _ _ (λ h. omega arith)

pub overflow_mul-result : goal.overflow_mul-result
overflow_mul-result c = let r = runs_are _ _ _ (sym c.runs_fit.ensures ∙ c.if-not-runs_fit.false) in
    let a = c.args in
    omega (arith, small a.count a.h r.high (omega arith))

pub returns : goal.returns
returns c = hashes_yes _ _ _ _ _ _
    (sym c.runs_fit.ensures ∙ c.if-not-runs_fit.false)
    (sym c.runs_fit-2.ensures ∙ c.if-not-runs_fit-2.false)
    (omega arith)
