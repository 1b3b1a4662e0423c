-- `field::double` is the standard's xtime, word for word. Assumes nothing.
use mathlib.Core.Path.{refl}
use Rattle.field.specs.Field.{xtime}
use Rattle.field.proofs.double.Goals as goal

pub returns : goal.returns
returns c = unfold xtime in refl
