use mathlib.Core.Path.{refl}
use Rattle.sha256.specs.Sha256.{K}
use Rattle.sha256.proofs.table.constants.Goals as goal

pub invariant_of-result : goal.invariant_of-result
invariant_of-result c = record { table = unfold K in refl }
