use mathlib.Core.Path.{sym, ◌∙◌}
use Prim.Native.Nat.{◌<◌}
use native.Mathlib.Omega.{arith}
use lib.Seq.{get_or-take}
use Rattle.fragments.proofs.Lists.{to_tabulate}
use Rattle.fragments.proofs.Parts.{points_length, start_length, combined}
use Rattle.fragments.proofs.combine.Goals as goal

pub returns : goal.returns
returns c = let from = c.places-at in
    to_tabulate _ c.args.s.fragment _ (omega (arith, c.requires.1))
    (λ i h. c.combine.ensures i (omega (arith, c.requires.1))
    ∙ combined c.args.b c.args.src.now c.args.s c.args.x c.weights-w.result from.result i (omega arith) c.weights-w.ensures from.ensures)
