use Rattle.recover.proofs.Laws as laws
use Rattle.recover.proofs.write_slot.Goals as goal

pub returns : goal.returns
returns c = let a = c.args in
    laws.write_is a.desk.now _ _ a.fragment.now a.slots a.a a.k c.requires.0 c.requires.2 c.requires.3 c.requires.1 c.copy.ensures c.within.ensures
