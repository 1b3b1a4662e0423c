use Rattle.std.proofs.Common.{◌≡◌, length, take}
use Rattle.packing.specs.SessionBytes.{marks_of}
use Rattle.packing.proofs.marks_of.Given as goal

abbrev pub invariant-loop-i : goal.invariant-loop-i
invariant-loop-i l = record { wide : length l.marks ≡ 16; so_far : take l.i l.marks ≡ marks_of (take l.i l.b) }
