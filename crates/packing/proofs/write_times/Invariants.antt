use Rattle.std.proofs.Common.{◌≡◌, length, take}
use Rattle.octets.specs.Bytes.{put}
use Rattle.packing.specs.SessionBytes.{times_bytes}
use Rattle.packing.proofs.write_times.Given as goal

abbrev pub invariant-loop-i : goal.invariant-loop-i
invariant-loop-i l = record { same : length l.x ≡ length l.initial.x; so_far : l.x ≡ put l.initial.x 53 (times_bytes (take l.i l.t-items)) }
