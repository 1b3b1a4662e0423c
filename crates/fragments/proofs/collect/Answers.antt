use mathlib.Core.Path.{◌∙◌}
use native.Mathlib.Omega.{arith}
use Rattle.fragments.proofs.Laws.{points_length, points_within, points_collect}
use Rattle.fragments.proofs.collect.Goals as goal

pub returns : goal.returns
returns c = let a = c.args in
    c.decode.ensures ∙ points_collect a.desk.now a.s a.m a.item.now c.requires.0
