use Rattle.crosscheck.proofs.Stretches.{head_first, head_later}
use Rattle.crosscheck.proofs.head_in.Goals as goal

pub returns-then-y-eq0 : goal.returns-then-y-eq0
returns-then-y-eq0 c = head_first _ c.if-y-eq0.true

pub returns-else-y-eq0 : goal.returns-else-y-eq0
returns-else-y-eq0 c = head_later _ c.if-y-eq0.false
