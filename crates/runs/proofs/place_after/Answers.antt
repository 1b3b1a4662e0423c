use Rattle.runs.proofs.Cuts.{place_is}
use Rattle.runs.proofs.place_after.Goals as goal

pub returns : goal.returns
returns c = place_is _ _ _ _ c.cut_at.ensures c.unwrap_or.ensures
