-- The step is the run's call, and tells whether the book changed.
use Rattle.std.proofs.Common.{arith}
use Rattle.keeper_step.proofs.Laws as laws
use Rattle.keeper_step.proofs.step_with.Goals as goal

pub returns : goal.returns
returns c =
    laws.steps_as _ _ _ _ _ _ _ _ _ _ _ _ _ c.in_ok-ran.was c.waits_for.ensures c.serve_run.ensures
    (laws.told c.args.book.now _ _ _ _ _ c.copy.ensures c.same-same.ensures (omega arith) (omega arith) (omega arith))
