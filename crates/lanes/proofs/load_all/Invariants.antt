use Prim.Native.Nat.{◌*◌}
use lib.ListN.{drop}
use Rattle.sha256.specs.Sha256.{words, ended}
use Rattle.lanes.specs.Lanes.{message_of}
use Rattle.lanes.specs.Inside.{AllLoaded}
use Rattle.lanes.proofs.load_all.Given as goal

abbrev pub invariant-loop-l : goal.invariant-loop-l
invariant-loop-l l = AllLoaded (λ i. words 16 (drop (64 * l.b) (ended l.before (message_of l.m.heads.now l.m.bodies.now l.m.batch i)))) l.l l.w
