use mathlib.Core.Path.{◌∙◌}
use Rattle.terms.proofs.Places.{record_length_lem}
use Rattle.record.proofs.Desks as laws
use Rattle.record.proofs.spread.Goals as goal

pub heads-requires : goal.heads-requires
heads-requires c = rw c.slots_of-slots.ensures (record_length_lem c.args.p.plan, c.requires.0, c.requires.1)

pub returns : goal.returns
returns c = let a = c.args in
    c.heads.ensures ∙ rw c.slots_of-slots.ensures (laws.spread_is a.p.plan a.desk.now a.a a.p.plan.n)
