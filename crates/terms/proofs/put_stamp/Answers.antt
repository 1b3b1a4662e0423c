use native.Mathlib.Omega.{arith}
use Rattle.terms.proofs.Stamps as laws
use Rattle.terms.proofs.put_stamp.Goals as goal

pub returns : goal.returns
returns c = let words = c.well_formed.1.1.0.1.1.1.0.1 in
    laws.stamp_put c.args.t _ _ _ _ _ _ _ (record { w1 = omega (arith, words); w2 = omega (arith, words); w3 = omega (arith, words) }) (omega arith) (omega arith)
    c.put_word.ensures c.put_word-2.ensures c.put_word-3.ensures c.put_word-4.ensures c.put_word-5.ensures
