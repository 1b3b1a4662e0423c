use Rattle.std.proofs.Common.{◌≡◌, ◌≤◌, length}
use Rattle.rounds.specs.Rounds.{set_of, listed}
use Rattle.rounds.proofs.Desk.members.Given as goal

abbrev pub invariant-loop-i : goal.invariant-loop-i
invariant-loop-i l = record { few : l.set.size ≤ l.i; wide : length l.set.nodes ≡ 16; so_far : listed l.set ≡ set_of l.marks l.self.bytes.now l.self.slots l.a l.i }
