-- A run without a write request leaves the book, by the laws of the run's call.
use Rattle.std.proofs.lemmas.Result.{err_from_is_err_and}
use Rattle.keeper_step.proofs.Laws as laws
use Rattle.keeper_step.proofs.look.Goals as goal

pub returns-in_err-looked : goal.returns-in_err-looked
returns-in_err-looked c =
    let p = err_from_is_err_and c.from_residual.result c.from_residual.ensures.1 in
    rw (p.1, p.2) (laws.looks_refused _ _ _ _ _ _ _ _ _ _ _ c.requires c.in_err-looked.was c.serve_run.ensures)

pub returns : goal.returns
returns c = laws.looks_as _ _ _ _ _ _ _ _ _ _ _ _ c.requires c.in_ok-looked.was c.waits_for.ensures c.serve_run.ensures
