use Prim.Native.Nat.{ℕ}
use mathlib.Core.Path.{ap, ◌∙◌}
use mathlib.Core.List.{List, ◌++◌}
use Rattle.octets.specs.Bytes.{part, alike}
use Rattle.sha256.proofs.Laws.{whole}
use Rattle.sha256.proofs.matches.Goals as goal

pub returns : goal.returns
returns c = c.same.ensures ∙ ap (λ (s : List ℕ). alike s (part c.args.t.now c.args.at 32)) (whole (c.args.p.now ++ c.args.s.now) _ c.digest_after-d.ensures)
