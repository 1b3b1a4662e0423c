use mathlib.Core.Path.{refl}
use native.Mathlib.Omega.{arith}
use Rattle.octets.specs.Bytes.{part}
use Rattle.record.specs.Record.{prefix_of}
use Rattle.record.proofs.prefixes.Goals as goal

pub returns : goal.returns
unfolding prefix_of part
returns c = (omega arith, λ k h. refl)
