use mathlib.Core.Path.{ap, ◌∙◌}
use Rattle.sha256.specs.Sha256.{added_of, compress_of}
use Rattle.sha256.proofs.compress.Goals as goal

pub returns : goal.returns
unfolding compress_of
returns c = c.added.ensures ∙ ap (added_of c.args.h) c.rounds-r.ensures
