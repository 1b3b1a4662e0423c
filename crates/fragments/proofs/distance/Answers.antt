use Rattle.fragments.proofs.Parts.{distance_own, distance_other}
use Rattle.fragments.proofs.distance.Goals as goal

pub returns-then-p-q : goal.returns-then-p-q
returns-then-p-q c = distance_own c.args.x c.args.p c.args.q c.if-p-q.true

pub returns-else-p-q : goal.returns-else-p-q
returns-else-p-q c = distance_other c.args.x c.args.p c.args.q c.if-p-q.false
