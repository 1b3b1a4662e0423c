use Prim.Native.Nat.{ℕ, ◌*◌, ◌+◌}
use mathlib.Core.Path.{ap, ◌∙◌}
use mathlib.Core.List.{List}
use Rattle.octets.specs.Bytes.{part, alike}
use Rattle.record.proofs.Desks.{row_same}
use Rattle.crosscheck.proofs.together.Goals as goal

pub returns : goal.returns
returns c = let g = c.args.g in
    c.are_entries.ensures ∙ ap (λ (l : List ℕ). alike l (part g.desk.now (c.args.at + 32 * g.first) (32 * g.n))) (row_same _ _ g.n c.hash_all.ensures)
