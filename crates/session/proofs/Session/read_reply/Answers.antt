use lib.ListN.{length}
use Rattle.standing.specs.declared.Operation.TheVariants.{Read}
use Rattle.session.specs.Reply.{reply_ladder}
use Rattle.session.proofs.Known as known
use Rattle.session.proofs.Readers as laws
use Rattle.session.proofs.Session.read_reply.Goals as goal

pub accept-requires : goal.accept-requires
accept-requires c =
    let past : let a = c.args in known.Known (reply_ladder Read a.p a.self a.reply.now a.desk.now (length a.item.now)) a.p a.self a.desk.now = let a = c.args in
    laws.check_passes Read a.p a.self a.reply.now a.desk.now (length a.item.now) c.check.result c.check.ensures.0 _ c.in-Ok.is in
    let a = c.args in
    let q = past in (q.desk_is, known.item_is Read _ a.self _ a.desk.now _ q)

pub returns-in-Err : goal.returns-in-Err
returns-in-Err c = let a = c.args in
    record { is = laws.refused_early a.p a.self a.reply.now a.desk.now a.item.now c.check.result c.check.ensures.0 _ c.in-Err.is }

pub returns-in-Err-check_record : goal.returns-in-Err-check_record
returns-in-Err-check_record c = let a = c.args in
    record {
      is = laws.refused_late a.p a.self a.reply.now a.desk.now a.item.now c.check.result c.check.ensures.0 c.check_record.result
          c.check_record.ensures _ c.in-Ok.is _ c.in-Err-check_record.is;
    }

pub returns-in-Ok-check_record : goal.returns-in-Ok-check_record
returns-in-Ok-check_record c = let a = c.args in
    record {
      is = laws.accepts a.p a.self a.reply.now a.desk.now a.item.now c.check.result c.check.ensures.0 c.check_record.result
          c.check_record.ensures _ c.in-Ok.is _ c.in-Ok-check_record.is c.accept.ensures;
    }

pub invariant_of-f : goal.invariant_of-f
invariant_of-f c =
    let a = c.args in
    record { within = (laws.check_passes Read a.p a.self a.reply.now a.desk.now (length a.item.now) c.check.result c.check.ensures.0 _ c.in-Ok.is).plan_is_ok }

pub invariant_of-f-in-Ok : goal.invariant_of-f-in-Ok
invariant_of-f-in-Ok c =
    let a = c.args in
    let q = laws.check_passes Read a.p a.self a.reply.now a.desk.now (length a.item.now) c.check.result c.check.ensures.0 _ c.in-Ok.is in
    record { read = laws.header_read _ _ c.check.ensures.1 _ c.in-Ok.is; good = known.good Read _ a.self _ a.desk.now _ q }
