use Prim.Native.Nat.{ℕ, ◌*◌, ◌+◌}
use mathlib.Core.Path.{ap, ◌∙◌}
use mathlib.Core.List.{List}
use Rattle.octets.specs.Bytes.{part, alike}
use Rattle.fragments.specs.Inside.{points_of}
use Rattle.fragments.proofs.Laws.{length_regenerated}
use Rattle.record.specs.Record.{fragment_hash}
use Rattle.crosscheck.specs.Inside.{made_of}
use Rattle.crosscheck.proofs.Entries.{more_one}
use Rattle.crosscheck.proofs.Stretches.{first_lent}
use Rattle.crosscheck.proofs.alone.Goals as goal

pub returns : goal.returns
returns c = let a = c.args in
    let g = a.g in
    let z = length_regenerated g.desk.now g.slots (points_of g.basis) g.first g.sources in
    c.entry_ok.ensures ∙ ap (λ (l : List ℕ). alike (fragment_hash a.p g.first l) (part g.desk.now (a.at + 32 * g.first) 32)) (first_lent _ _ a.scratch.now g.slots.fragment c.regenerate.ensures z)
    ∙ more_one (λ k. fragment_hash a.p k (made_of g k)) g.desk.now a.at g.first g.n c.requires.0
