-- The digits taken lie within the bytes.
use Rattle.std.proofs.Common.{◌≤◌}
use Rattle.replay.proofs.Bytes.of.Given as goal

abbrev pub invariant-loop-d : goal.invariant-loop-d
invariant-loop-d l = l.digits ≤ 8192
