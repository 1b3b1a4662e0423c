use mathlib.Core.Path.{◌∙◌}
use native.Mathlib.Omega.{arith}
use Rattle.terms.proofs.Stamps as laws
use Rattle.terms.proofs.Timestamp.same.Goals as goal

pub returns : goal.returns
returns c =
    let s = c.args in
    c.eq.ensures
    ∙ laws.stamp_alike s.self s.other (record { w1 = omega arith; w2 = omega arith; w3 = omega arith }) (record { w1 = omega arith; w2 = omega arith; w3 = omega arith })
    (omega arith) (omega arith)
