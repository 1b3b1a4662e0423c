use Rattle.sha256.proofs.Laws as laws
use borrow.Author.Rules.{rules}
use Rattle.sha256.proofs.maj.Goals as goal

pub returns : goal.returns
returns c = laws.majority 32 c.args.x c.args.y c.args.z (search rules) (search rules) (search rules)
