use Rattle.primitives.proofs.Laws.{decode_yes, decode_no, runs_are}
use Rattle.terms.proofs.Rungs.{clash}
use mathlib.Core.Path.{sym, ◌∙◌}
use native.Mathlib.Omega.{arith}
use Rattle.primitives.proofs.decode_fits.Goals as goal

pub returns-then-nodes-m : goal.returns-then-nodes-m
returns-then-nodes-m c = decode_no _ _ _ _ _ (λ h. omega arith)

pub returns-then-not-runs_fit : goal.returns-then-not-runs_fit
returns-then-not-runs_fit c = decode_no _ _ _ _ _ (λ h. clash (sym h.1 ∙ sym c.runs_fit.ensures ∙ c.if-not-runs_fit.true))

pub are_named-requires : goal.are_named-requires
are_named-requires c = (runs_are _ _ _ (sym c.runs_fit.ensures ∙ c.if-not-runs_fit.false)).f_high

pub returns : goal.returns
returns c = c.are_named.ensures ∙ decode_yes _ _ _ _ _ (omega arith) (sym c.runs_fit.ensures ∙ c.if-not-runs_fit.false)
