-- A desk of N slots, and the N records of an item. Document 01, "The client": records lie in a lent desk of exactly N·R bytes, node i in
-- slot i. "Fragments": the cross checksum is the N hashes of the fragments, in node order. "Writing" and "Reading": the desk is filled with
-- all N records, of one timestamp, one cross checksum and N fragments; writing takes the cross checksum that it made, repair the set's.
--   slot_of             slot k of a desk
--   fragment_in         the fragment that slot k of a desk holds
--   row                blocks one after the other
--   cross_made          the hashes of the fragments of nodes 0 to n - 1
--   desk_of             the records of nodes 0 to n - 1, one after the other
--   stamp_made          the timestamp of a time and a cross checksum
-- Assumes nothing.
use Rattle.std.specs.Prelude.{ℕ, zero, suc, List, [], ◌++◌}
use Rattle.octets.specs.Bytes.{part, be}
use Rattle.sha256.specs.Sha256.{sha256}
use Rattle.terms.specs.Terms.{record_length, slots_of, slot_at}
use Rattle.terms.specs.declared.Plan.{Plan}
use Rattle.record.specs.Record.{fragment_of, fragment_hash}

abbrev pub slot_of : Plan → List ℕ → ℕ → List ℕ
slot_of p desk k = part desk (slot_at (slots_of p) k) (record_length p)

abbrev pub fragment_in : Plan → List ℕ → ℕ → List ℕ
fragment_in p desk k = fragment_of p (slot_of p desk k)

-- block 0, block 1, .., n of them, one after the other
unfoldable pub row : (ℕ → List ℕ) → ℕ → List ℕ
row block zero = []
row block (suc k) = row block k ++ block k

unfoldable pub cross_made : Plan → (ℕ → List ℕ) → ℕ → List ℕ
cross_made p fragment n = row (λ k. fragment_hash p k (fragment k)) n

unfoldable pub desk_of : List ℕ → List ℕ → (ℕ → List ℕ) → ℕ → List ℕ
desk_of stamp cross fragment n = row (λ k. stamp ++ (cross ++ fragment k)) n

abbrev pub stamp_made : ℕ → List ℕ → List ℕ
stamp_made time cross = be 8 time ++ sha256 cross
