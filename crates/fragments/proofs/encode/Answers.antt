-- `fragments::encode` meets its contract. Assumes nothing.
use mathlib.Core.Path.{refl, ◌∙◌}
use native.Mathlib.Omega.{arith}
use Rattle.terms.specs.Terms.{runs_of}
use Rattle.fragments.proofs.Laws.{points_length, points_within, points_encode, runs_room}
use Rattle.fragments.proofs.encode.Goals as goal

pub lay-requires : goal.lay-requires
lay-requires c = let a = c.args in
    let b = c.basis_of-b in
    rw c.runs_of-runs.ensures
    (rw b.ensures (points_within a.item.now (runs_of a.m a.to.fragment) a.m c.requires.1 (runs_room a.m a.to.fragment a.item.now c.requires.0)), refl, c.requires.2, c.requires.3)

pub returns : goal.returns
returns c = let a = c.args in
    c.lay.ensures
    ∙ rw (c.basis_of-b.ensures, c.runs_of-runs.ensures) (points_encode a.m a.item.now a.to a.to.n a.desk.now c.requires.1)
