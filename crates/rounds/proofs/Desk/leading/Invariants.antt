use Rattle.std.proofs.Common.{◌≡◌}
use Rattle.rounds.specs.Rounds.{lead_of}
use Rattle.rounds.proofs.Desk.leading.Given as goal

abbrev pub invariant-loop-i : goal.invariant-loop-i
invariant-loop-i l = l.best ≡ lead_of l.marks l.self.bytes.now l.self.slots l.i
