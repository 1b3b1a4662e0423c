use Rattle.primitives.proofs.Laws.{encode_yes, encode_no}
use Rattle.terms.proofs.Rungs.{clash}
use mathlib.Core.Path.{sym, ◌∙◌}
use native.Mathlib.Omega.{arith}
use Rattle.primitives.proofs.encode_fits.Goals as goal

pub returns-then-m-n : goal.returns-then-m-n
returns-then-m-n c = encode_no _ _ _ _ _ (λ h. omega arith)

pub returns-then-not-runs_fit : goal.returns-then-not-runs_fit
returns-then-not-runs_fit c = encode_no _ _ _ _ _ (λ h. clash (sym h.1 ∙ sym c.runs_fit.ensures ∙ c.if-not-runs_fit.true))

pub returns : goal.returns
returns c = c.runs_fit-2.ensures ∙ encode_yes _ _ _ _ _ (omega arith) (sym c.runs_fit.ensures ∙ c.if-not-runs_fit.false)
