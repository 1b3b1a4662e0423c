use mathlib.Core.Path.{refl}
use Rattle.answers.specs.Answers.{ending_after}
use Rattle.pasis.specs.Client.{session_after}
use Rattle.std.proofs.lemmas.Result.{err_from_is_err_and}
use Rattle.pasis.proofs.Laws as laws
use Rattle.pasis.proofs.client.keep_took.Goals as goal

pub returns-in_err-accepted : goal.returns-in_err-accepted
unfolding session_after ending_after
returns-in_err-accepted c =
    let p = err_from_is_err_and c.from_residual.result c.from_residual.ensures.1 in
    rw (p.1, p.2, c.in_err-accepted.was) (refl, refl, refl)

pub returns : goal.returns
returns c = rw c.in_ok-accepted.was (refl, laws.goes_after _ _ _ _ c.write_session.ensures, c.put_ending.ensures)
