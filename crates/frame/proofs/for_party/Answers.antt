use mathlib.Core.Logic.{⊎_elim, inl, inr}
use native.Mathlib.Omega.{arith}
use Rattle.frame.specs.declared.Party.TheVariants.{Node, Client}
use Rattle.frame.proofs.Frames as laws
use Rattle.frame.proofs.for_party.Goals as goal

pub returns-in_default : goal.returns-in_default
returns-in_default c = let none = c.in_default.in_default-own.rest.1 in
    laws.told_no _ Node _ c.in-Node.is
    (⊎_elim (λ e. none (inl e)) (⊎_elim (λ e. none (inr e)) (⊎_elim (λ e. omega arith) (⊎_elim (λ e. omega arith) (λ e. e)))))

pub returns-in_default-2 : goal.returns-in_default-2
returns-in_default-2 c = let none = c.in_default.in_default-own.rest.1 in
    laws.told_no _ Node _ c.in-Node.is
    (⊎_elim (λ e. none (inl e)) (⊎_elim (λ e. none (inr e)) (⊎_elim (λ e. omega arith) (⊎_elim (λ e. omega arith) (λ e. e)))))

pub returns-in-1 : goal.returns-in-1
returns-in-1 c = laws.told_is _ Node _ c.in-Node.is (⊎_elim (λ e. inl e) (λ e. inr (inl e)) c.in-1.is)

pub returns-in-1-2 : goal.returns-in-1-2
returns-in-1-2 c = laws.told_is _ Node _ c.in-Node.is (laws.side_by_side _ (omega arith) (omega arith))

pub returns-in-2 : goal.returns-in-2
returns-in-2 c = laws.told_is _ Client _ c.in-Client.is
    (⊎_elim (λ e. inl e) (⊎_elim (λ e. inr (inl e)) (λ e. inr (inr (inl e)))) c.in-2.is)

pub returns-in_default-kind : goal.returns-in_default-kind
returns-in_default-kind c = let none = c.in_default-kind.in_default-kind-own.rest.1 in
    laws.told_no _ Client _ c.in-Client.is
    (⊎_elim (λ e. none (inl e)) (⊎_elim (λ e. none (inr (inl e))) (⊎_elim (λ e. none (inr (inr e))) (λ e. e))))
