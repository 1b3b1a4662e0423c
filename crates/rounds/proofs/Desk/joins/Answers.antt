use Rattle.std.proofs.Common.{◌≡◌, ◌∙◌, rules}
use Rattle.rounds.specs.declared.Heard.TheVariants.{Record}
use Rattle.rounds.proofs.Laws as laws
use Rattle.rounds.proofs.Desk.joins.Goals as goal

pub returns-then-eq : goal.returns-then-eq
returns-then-eq c = let e : c.args.h ≡ Record = search rules in c.same.ensures ∙ laws.joins_record _ _ _ _ _ e

pub returns-else-eq : goal.returns-else-eq
returns-else-eq c = let e : c.args.h ≡ Record → ⊥ = search rules in c.if-eq.false ∙ laws.joins_none _ _ _ _ _ e
