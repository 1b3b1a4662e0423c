use mathlib.Core.Path.{◌∙◌}
use native.Mathlib.Omega.{arith}
use Rattle.octets.proofs.Laws.{length_part, length_be}
use Rattle.terms.proofs.Plans.{plan_is}
use Rattle.record.proofs.Desks as laws
use Rattle.record.proofs.fill.Goals as goal

pub put_stamp-requires : goal.put_stamp-requires
put_stamp-requires c = let h = laws.room _ _ c.args.p.within c.requires.0 in
    omega arith

pub copy-requires : goal.copy-requires
copy-requires c = let s = c.requires in
    let h = laws.room _ _ c.args.p.within s.0 in
    (omega arith, omega arith)

pub spread-requires : goal.spread-requires
spread-requires c = let s = c.requires in
    let q = plan_is _ c.args.p.within in
    (omega arith, omega arith)

pub returns : goal.returns
returns c = let a = c.args in
    let h = laws.room _ _ c.args.p.within c.requires.0 in
    c.spread.ensures
    ∙ laws.fill_is a.p.plan a.desk.now _ _ _ _ _ h (length_be 40 _) (length_part _ _ _ (omega arith)) c.put_stamp.ensures c.copy.ensures
