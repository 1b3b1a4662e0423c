use Rattle.session.proofs.Known.{known_owed}
use lib.ListN.{length}
use mathlib.Core.Path.{ap}
use Rattle.std.proofs.lemmas.Result.{err_from_is_err_and}
use Rattle.session.specs.Reply.{check_number}
use Rattle.session.proofs.Checks.{check_passed}
use Rattle.session.proofs.Oweds as laws
use Rattle.session.proofs.Session.owed.Goals as goal

pub returns-in_err-owed_check : goal.returns-in_err-owed_check
returns-in_err-owed_check c =
    let p = err_from_is_err_and c.from_residual.result c.from_residual.ensures.1 in
    let a = c.args in
    rw (p.1, p.2) (record { is = laws.owed_refused a.p a.self _ _ _ _ c.owed_check.ensures _ c.in_err-owed_check.was })

pub returns : goal.returns
returns c =
    let a = c.args in
    record { is = laws.owed_written a.p a.self _ _ _ _ _ (check_passed _ _ c.owed_check.ensures (ap check_number c.in_ok-owed_check.was)) c.write_request.ensures }

pub invariant_of-accepted : goal.invariant_of-accepted
invariant_of-accepted c =
    let a = c.args in
    record {
      within = (known_owed a.p a.self a.node a.desk.now (length a.request.now) (check_passed _ _ c.owed_check.ensures (ap check_number c.in_ok-owed_check.was))).plan_is_ok;
    }
