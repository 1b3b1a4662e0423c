use Rattle.std.proofs.Common.{◌≡◌, length, take}
use Rattle.octets.specs.Bytes.{put}
use Rattle.packing.specs.SessionBytes.{mark_bytes}
use Rattle.packing.proofs.write_marks.Given as goal

abbrev pub invariant-loop-i : goal.invariant-loop-i
invariant-loop-i l = record { same : length l.x ≡ length l.initial.x; so_far : l.x ≡ put l.initial.x 221 (mark_bytes (take l.i l.h-items)) }
