use Rattle.primitives.proofs.Laws.{hash_yes, hash_no}
use native.Mathlib.Omega.{arith}
use Rattle.primitives.proofs.hash_fits.Goals as goal

pub returns-then-p-most : goal.returns-then-p-most
returns-then-p-most c = hash_no _ _ _ (omega arith)

pub returns-then-s-most : goal.returns-then-s-most
returns-then-s-most c = hash_no _ _ _ (omega arith)

pub returns : goal.returns
returns c = hash_yes _ _ _ (omega arith)
