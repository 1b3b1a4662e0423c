use Rattle.std.proofs.Common.{rules}
use Rattle.packing.proofs.Laws as laws
use Rattle.packing.proofs.write_asks.Goals as goal

pub returns : goal.returns
returns c = laws.asks_put c.args.s _ _ _ _ _ (search rules) c.put_num.ensures c.write_round.ensures c.put_word.ensures
