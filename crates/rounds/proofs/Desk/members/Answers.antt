use Rattle.std.proofs.Common.{◌∙◌, refl, sym, arith, true, false}
use Rattle.rounds.specs.Rounds.{set_of}
use Rattle.rounds.proofs.Laws as laws
use Rattle.rounds.proofs.Desk.members.Goals as goal
use Rattle.rounds.proofs.Desk.members.Goals.{then-joins, else-joins}

pub loop-i-init : goal.loop-i-init
unfolding set_of
loop-i-init c = record { few = omega arith; wide = refl; so_far = refl }

pub loop-i-preserved : goal.loop-i-preserved
loop-i-preserved c =
    let s = c.loop-i.set in
    let k = c.loop-i.invariant in
    elim c.if-joins.branch [
      | then-joins w ↦
          let t = laws.turn_is _ _ _ _ _ s _ true k.few k.wide (omega arith) k.so_far (sym w.if-joins.true ∙ c.joins.ensures) (w.set-is ∙ w.with-set.ensures) in
          record { few = t.0; wide = t.1; so_far = t.2 }
      | else-joins w ↦
          let t = laws.turn_is _ _ _ _ _ s _ false k.few k.wide (omega arith) k.so_far (sym w.if-joins.false ∙ c.joins.ensures) (w.set-is ∙ laws.add_off _ _) in
          record { few = t.0; wide = t.1; so_far = t.2 }
    ]
