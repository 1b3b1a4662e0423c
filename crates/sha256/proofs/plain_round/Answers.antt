use Rattle.sha256.specs.Sha256.{round_of, T1, T2}
use Rattle.sha256.proofs.plain_round.Goals as goal

pub returns : goal.returns
unfolding round_of T1 T2
returns c = cc
