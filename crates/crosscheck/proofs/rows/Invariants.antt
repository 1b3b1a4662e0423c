use Rattle.fragments.specs.Inside.{points_of}
use Rattle.crosscheck.specs.Inside.{Rowed}
use Rattle.crosscheck.proofs.rows.Given as goal

abbrev pub invariant-loop-l : goal.invariant-loop-l
invariant-loop-l l = Rowed l.g.desk.now l.t (points_of l.g.basis) l.g.first l.l l.out
