use mathlib.Core.Path.{refl, ap}
use Rattle.std.specs.Prelude.{Result}
use Rattle.terms.specs.declared.Refusal.{Refusal}
use Rattle.session.specs.declared.Answer.{Answer}
use Rattle.session.specs.Session.{said_of}
use Rattle.answers.specs.Answers.{answer_number}
use Rattle.std.proofs.lemmas.Result.{err_from_is_err_and}
use Rattle.pasis.proofs.Laws as laws
use Rattle.pasis.proofs.client.read_into.Goals as goal

pub returns-in_err-lent : goal.returns-in_err-lent
returns-in_err-lent c =
    let p = err_from_is_err_and c.from_residual.result c.from_residual.ensures.1 in
    rw (p.1, p.2) (laws.read_refused _ _ _ _ _ _ _ (laws.lent_both _ _ _ _ _ _ c.plan_of-p.ensures c.both_fit.ensures (laws.as_err _ _ _ c.lent.ensures c.in_err-lent.was)) (laws.not_zero _))

pub keep_took-requires : goal.keep_took-requires
keep_took-requires c = laws.both_lent _ _ _ _ _ _ c.plan_of-p.ensures c.both_fit.ensures (laws.as_ok _ _ _ c.lent.ensures c.in_ok-lent.was) refl

pub returns : goal.returns
returns c =
    laws.read_served _ _ _ _ _ _ _ (laws.lent_both _ _ _ _ _ _ c.plan_of-p.ensures c.both_fit.ensures (laws.as_ok _ _ _ c.lent.ensures c.in_ok-lent.was)) _ _ _ _ _ _ _ refl c.plan_of-p.ensures c.session_of-s.ensures
    (record {
      number = ap (λ (a : Result Answer Refusal). answer_number (said_of a)) c.keep_took.ensures.0;
      session = c.keep_took.ensures.1;
      ending = c.keep_took.ensures.2;
    }) _ c.read_reply-t.ensures
