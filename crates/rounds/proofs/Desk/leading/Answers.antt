use Rattle.std.proofs.Common.{◌≡◌, ◌∙◌, refl, rules, arith}
use Rattle.rounds.specs.declared.Heard.TheVariants.{Record}
use Rattle.rounds.specs.Rounds.{lead_of, mark_of}
use Rattle.rounds.proofs.Laws as laws
use Rattle.rounds.proofs.Desk.leading.Goals as goal
use Rattle.rounds.proofs.Desk.leading.Goals.{then-eq, else-eq}

pub loop-i-init : goal.loop-i-init
unfolding lead_of
loop-i-init c = refl

pub ahead-best-requires : goal.ahead-best-requires
ahead-best-requires c = (c.loop-i-test.true, laws.lead_in_all _ _ _ _ _ c.loop-i.best (omega arith) c.loop-i.invariant)

pub loop-i-preserved : goal.loop-i-preserved
loop-i-preserved c =
    elim c.if-eq.branch [
      | then-eq w ↦ let e : mark_of c.args.marks c.loop-i.i ≡ Record = search rules in w.best-is ∙ laws.lead_ahead _ _ _ _ _ c.loop-i.invariant _ e w.ahead-best.ensures
      | else-eq w ↦ let e : mark_of c.args.marks c.loop-i.i ≡ Record → ⊥ = search rules in w.best-is ∙ laws.lead_stays _ _ _ _ _ c.loop-i.invariant e
    ]
