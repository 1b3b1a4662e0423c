use Rattle.answers.proofs.Laws as laws
use Rattle.answers.proofs.write_counts.Goals as goal

pub returns : goal.returns
returns c = laws.counts_put _ _ _ _ _ c.requires c.put_num.ensures c.put_num-2.ensures
