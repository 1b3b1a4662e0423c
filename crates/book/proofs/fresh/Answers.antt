use Rattle.book.proofs.Laws as laws
use Rattle.book.proofs.fresh.Goals as goal

pub returns : goal.returns
returns c = laws.fresh_is _ _ _ _ _ _ _ _ _ c.put_num.ensures c.put_num-2.ensures c.put_num-3.ensures c.put_num-4.ensures c.put_num-5.ensures
    c.put_num-6.ensures
