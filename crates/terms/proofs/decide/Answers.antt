use mathlib.Core.Path.{refl}
use Rattle.terms.proofs.Facts as laws
use Rattle.terms.proofs.decide.Goals as goal

pub returns-in-Complete : goal.returns-in-Complete
returns-in-Complete c = laws.decided_is _ _ _ _ _ _ _ c.classify-class.ensures c.in-Complete.is refl

pub returns-in-Incomplete : goal.returns-in-Incomplete
returns-in-Incomplete c = laws.decided_is _ _ _ _ _ _ _ c.classify-class.ensures c.in-Incomplete.is refl

pub returns-in-Repairable : goal.returns-in-Repairable
returns-in-Repairable c = laws.decided_is _ _ _ _ _ _ _ c.classify-class.ensures c.in-Unclassifiable.is c.in-Repairable.is

pub returns-in-NonRepair : goal.returns-in-NonRepair
returns-in-NonRepair c = laws.decided_is _ _ _ _ _ _ _ c.classify-class.ensures c.in-Unclassifiable.is c.in-NonRepair.is
