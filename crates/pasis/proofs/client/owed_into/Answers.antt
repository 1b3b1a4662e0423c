use mathlib.Core.Path.{refl}
use Rattle.answers.proofs.Laws as answers
use Rattle.std.proofs.lemmas.Result.{err_from_is_err_and}
use Rattle.pasis.proofs.Laws as laws
use Rattle.pasis.proofs.client.owed_into.Goals as goal

pub returns-in_err-lent : goal.returns-in_err-lent
returns-in_err-lent c =
    let p = err_from_is_err_and c.from_residual.result c.from_residual.ensures.1 in
    rw (p.1, p.2) (laws.owed_refused _ _ _ _ _ _ (laws.lent_is _ _ _ _ c.plan_of-p.ensures (laws.as_err _ _ _ c.lent.ensures c.in_err-lent.was)) (laws.not_zero _))

pub returns : goal.returns
returns c =
    laws.owed_served _ _ _ _ _ _ (laws.lent_is _ _ _ _ c.plan_of-p.ensures (laws.as_ok _ _ _ c.lent.ensures c.in_ok-lent.was)) _ _ _ _ _ refl c.plan_of-p.ensures c.session_of-s.ensures c.owed.ensures (answers.due_is c.owed.result)
