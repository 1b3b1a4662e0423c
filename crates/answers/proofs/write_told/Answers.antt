use Rattle.answers.proofs.Laws as laws
use Rattle.answers.proofs.write_told.Goals as goal

pub returns : goal.returns
returns c = laws.told_put _ _ _ _ _ _ _ c.requires c.put_word.ensures c.put_word-2.ensures c.put_word-3.ensures
