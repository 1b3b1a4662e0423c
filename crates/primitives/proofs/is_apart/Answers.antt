use Prim.Native.Nat.{◌+◌}
use Rattle.fragments.specs.Fragments.{among}
use mathlib.Core.Bool.{not}
use Rattle.primitives.proofs.Laws.{apart_yes, apart_no, tail}
use mathlib.Core.Path.{ap, ◌∙◌}
use native.Mathlib.Omega.{arith}
use Rattle.primitives.proofs.is_apart.Goals as goal

pub returns-then-p-gt15 : goal.returns-then-p-gt15
returns-then-p-gt15 c = apart_no _ _ _ _ (λ h. omega arith)

pub returns-then-p-f : goal.returns-then-p-f
returns-then-p-f c = apart_no _ _ _ _ (λ h. omega arith)

pub returns : goal.returns
returns c = ap not (c.is_among.ensures ∙ ap (among _) (tail c.args.nodes.now (c.args.k + 1))) ∙ apart_yes _ _ _ _ (omega arith) (omega arith)
