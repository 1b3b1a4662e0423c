use Rattle.session.proofs.Known as known
use mathlib.Core.Path.{◌∙◌, ap}
use lib.ListN.{length}
use Rattle.standing.specs.declared.Operation.TheVariants.{Write}
use Rattle.session.specs.Reply.{reply_ladder, taken_number}
use Rattle.session.proofs.Checks.{check_passed}
use Rattle.session.proofs.Readers.{header_read}
use Rattle.session.proofs.Writers as laws
use Rattle.session.proofs.Session.write_with.Goals as goal

pub returns-in-Err : goal.returns-in-Err
returns-in-Err c = let a = c.args in
    record { is = laws.write_refused a.p a.self a.reply.now a.desk.now a.item.now _ c.check-c.ensures.0 _ c.in-Err.is }

pub returns-in-Ok : goal.returns-in-Ok
returns-in-Ok c = let a = c.args in
    record {
      is = c.accept_write.ensures ∙ laws.write_taken a.p a.self a.reply.now a.desk.now a.item.now
          (check_passed (reply_ladder Write a.p a.self a.reply.now a.desk.now (length a.item.now)) _ c.check-c.ensures.0 (ap taken_number c.in-Ok.is));
    }

pub invariant_of-f : goal.invariant_of-f
invariant_of-f c =
    let a = c.args in
    record { within = (known.known_reply Write a.p a.self a.reply.now a.desk.now (length a.item.now) (check_passed _ _ c.check-c.ensures.0 (ap taken_number c.in-Ok.is))).plan_is_ok }

pub invariant_of-f-in-Ok : goal.invariant_of-f-in-Ok
invariant_of-f-in-Ok c =
    let a = c.args in
    let q = known.known_reply Write a.p a.self a.reply.now a.desk.now (length a.item.now) (check_passed _ _ c.check-c.ensures.0 (ap taken_number c.in-Ok.is)) in
    record { read = header_read _ _ c.check-c.ensures.1 _ c.in-Ok.is; good = known.good Write _ a.self _ a.desk.now _ q }
