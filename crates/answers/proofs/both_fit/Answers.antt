use Rattle.answers.specs.Answers.{both_fit}
use Rattle.standing.proofs.Rules as rules
use borrow.Author.Tests.{eq-eqb, ne_eqb}
use mathlib.Core.Path.{refl}
use Rattle.answers.proofs.both_fit.Goals as goal

pub returns-then-session-ne-SESSION : goal.returns-then-session-ne-SESSION
unfolding both_fit
returns-then-session-ne-SESSION c = rules.and_fails _ (ne_eqb _ _ c.if-session-ne-SESSION.true)

pub returns : goal.returns
unfolding both_fit
returns c = rules.and_last (eq-eqb _ _ c.if-session-ne-SESSION.false) refl
