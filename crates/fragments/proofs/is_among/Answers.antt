use mathlib.Core.Path.{◌∙◌}
use Rattle.fragments.proofs.Laws.{among_any}
use Rattle.fragments.proofs.is_among.Goals as goal

pub returns : goal.returns
returns c = c.contains.ensures.value ∙ among_any c.args.x c.args.qs.now
