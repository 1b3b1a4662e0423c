-- The N records of an item, written at a time. Document 01, "Fragments", and "The client", writing: the cross checksum is the hashes of the
-- N fragments; the timestamp is the time and the hash of the cross checksum; the desk is filled with all N records.
--   cross_for stamp_for records_for   the cross checksum, the timestamp and the N records
-- Assumes nothing.
use Rattle.std.specs.Prelude.{ℕ, List}
use Rattle.terms.specs.Stamp.{stamp_at}
use Rattle.terms.specs.declared.Plan.{Plan}
use Rattle.terms.specs.declared.Timestamp.{Timestamp}
use Rattle.fragments.specs.Fragments.{fragment}
use Rattle.record.specs.Desk.{cross_made, desk_of, stamp_made}

unfoldable pub cross_for : Plan → List ℕ → List ℕ
cross_for p i = cross_made p (fragment p.m p.f i) p.n

unfoldable pub stamp_for : Plan → ℕ → List ℕ → Timestamp
stamp_for p t i = stamp_at (stamp_made t (cross_for p i)) 0

unfoldable pub records_for : Plan → ℕ → List ℕ → List ℕ
records_for p t i = desk_of (stamp_made t (cross_for p i)) (cross_for p i) (fragment p.m p.f i) p.n
