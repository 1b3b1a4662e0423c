-- For the functions below the call of a reader. Assumes nothing.
--   Acting             a close that can be acted on
use Rattle.std.specs.Prelude.{ℕ, ◌*◌, ◌≡◌, true, List, length, Some}
use Rattle.terms.specs.Terms.{plan_ok}
use Rattle.terms.specs.declared.Plan.{Plan}
use Rattle.terms.specs.declared.Verdict.TheVariants.{Complete, Repair}
use Rattle.rounds.specs.declared.Close.{Close}
use Rattle.recover.specs.Inside.{Usable}

-- a close that can be acted on: where it is to be decoded or repaired, it can be
pub record Acting (p : Plan) (c : Close) (d i : List ℕ) : Type 0 where
  pub plan : plan_ok p ≡ true
  pub item : length i ≡ p.m * p.f
  pub whole : (a : ℕ) → c.lead ≡ Some a → c.verdict ≡ Complete → Usable p c a d
  pub half : (a : ℕ) → c.lead ≡ Some a → c.verdict ≡ Repair → Usable p c a d
