use Rattle.answers.proofs.Laws as laws
use Rattle.answers.proofs.write_ending.Goals as goal

pub returns : goal.returns
returns c = laws.ending_put _ _ _ _ _ c.requires c.put_stamp.ensures c.put_num.ensures
