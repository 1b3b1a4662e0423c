use Rattle.sha256.specs.Sha256.{added_of}
use Rattle.sha256.proofs.added.Goals as goal

pub returns : goal.returns
unfolding added_of
returns c = cc
