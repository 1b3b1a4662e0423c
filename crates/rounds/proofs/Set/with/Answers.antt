use Rattle.std.proofs.Common.{refl}
use Rattle.rounds.specs.Rounds.{add_of}
use Rattle.rounds.proofs.Set.with.Goals as goal

pub returns : goal.returns
unfolding add_of
returns c = refl
