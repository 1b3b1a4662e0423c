use mathlib.Core.Path.{◌≡◌}
use Prim.Native.Nat.{◌-◌}
use lib.ListN.{length}
use Rattle.runs.proofs.Runs as laws
use Rattle.runs.proofs.take_all.Given as goal

abbrev pub invariant-loop-at : goal.invariant-loop-at
invariant-loop-at l = laws.Going l.p.plan l.run l.initial.book l.initial.reply l.initial.numbers l.room l.at l.k l.out l.end l.book l.reply l.numbers × (length l.book ≡ length l.initial.book) × (length l.reply ≡ length l.initial.reply) × (length l.numbers ≡ length l.initial.numbers)

abbrev pub decreases-loop-at : goal.decreases-loop-at
decreases-loop-at l = length l.run - l.at
