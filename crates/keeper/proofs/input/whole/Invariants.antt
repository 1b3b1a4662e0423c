-- Whole requests end within what waits.
use Rattle.std.proofs.Common.{length, ◌≤◌}
use Rattle.keeper.proofs.input.whole.Given as goal

abbrev pub invariant-loop : goal.invariant-loop
invariant-loop l = l.at ≤ length l.waits
