use Rattle.std.proofs.Common.{◌≡◌, ◌∙◌, rules}
use Rattle.rounds.specs.declared.Heard.TheVariants.{Record}
use Rattle.rounds.specs.Rounds.{slot_stamp}
use Rattle.rounds.proofs.Laws as laws
use Rattle.rounds.proofs.Desk.fits.Goals as goal

pub returns-then-ne : goal.returns-then-ne
returns-then-ne c = let e : c.args.h ≡ Record → ⊥ = search rules in c.if-ne.true ∙ laws.fits_other _ _ _ _ _ e

pub returns-then-get-ge1 : goal.returns-then-get-ge1
unfolding slot_stamp
returns-then-get-ge1 c = let e : c.args.h ≡ Record = search rules in laws.fits_bound _ _ _ _ _ e _ c.get.ensures.0 c.if-get-ge1.true _ c.under.ensures

pub returns-else-get-ge1 : goal.returns-else-get-ge1
returns-else-get-ge1 c = let e : c.args.h ≡ Record = search rules in laws.fits_zero _ _ _ _ _ e _ c.get.ensures.0 c.if-get-ge1.false
