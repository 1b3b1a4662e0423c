use Rattle.std.proofs.Common.{refl, arith, rules}
use Rattle.octets.proofs.Laws.{slot_room}
use Rattle.rounds.proofs.Laws as laws
use Rattle.rounds.proofs.closing.Goals as goal

pub members-set-requires : goal.members-set-requires
members-set-requires c = (laws.lead_room _ _ _ _ _ _ c.leading-lead.ensures c.in-Some.is, c.requires.2)

pub overflow_mul-a : goal.overflow_mul-a
overflow_mul-a c = let h = slot_room c.in-Some.a _ _ _ (laws.lead_room _ _ _ _ _ _ c.leading-lead.ensures c.in-Some.is) c.requires.0 in omega (arith, h, c.well_formed)

pub stamp_at-requires : goal.stamp_at-requires
stamp_at-requires c = let h = slot_room c.in-Some.a _ _ _ (laws.lead_room _ _ _ _ _ _ c.leading-lead.ensures c.in-Some.is) c.requires.0 in omega (arith, h)

pub returns-in-None : goal.returns-in-None
returns-in-None c = (laws.close_none _ _ _ _ _ _ _ c.leading-lead.ensures c.in-None.is c.zero_stamp.ensures, refl, omega arith)

pub returns-in-Some : goal.returns-in-Some
returns-in-Some c = (laws.close_some _ _ _ _ _ c.in-Some.a _ c.members-set.result _ _ c.leading-lead.ensures c.in-Some.is c.requires.3 (search rules) c.members-set.ensures.1 c.members-set.ensures.0 c.decide.ensures c.stamp_at.ensures, search rules, c.members-set.ensures.1)
