use Rattle.terms.proofs.Stamps.{stamp_at_number}
use mathlib.Core.Path.{ap, ◌∙◌}
use Rattle.terms.specs.Stamp.{stamp_number}
use Rattle.rounds.proofs.Laws as laws
use Rattle.rounds.proofs.under.Goals as goal

pub returns-in-None : goal.returns-in-None
returns-in-None c = laws.under_free _ _ c.in-None.is

pub returns-in-Some : goal.returns-in-Some
returns-in-Some c = laws.under_is _ _ c.stamp_at.result _ _ c.in-Some.is (ap stamp_number c.stamp_at.ensures ∙ stamp_at_number _ c.args.at c.requires) c.less.ensures
