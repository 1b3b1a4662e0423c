-- The record. Document 01, "Records, books, frames": timestamp 40, cross checksum 32·N, fragment F; so R = 40+32·N+F. "Fragments": the
-- cross checksum is the N hashes of the fragments in node order; a timestamp is an 8 byte time, then the hash of the cross checksum.
--   stamp_of verifier_of cross_of fragment_of   the parts of a record; its time and its timestamp as numbers are `time` and `stamp` of terms
--   entry_of            entry number node of a cross checksum
--   prefix_of           what is hashed before the fragment of a node; today that is nothing
--   fragment_hash       the hash of a node's fragment
--   hashes_ok           6: the two hash checks of a record for a node
--   time_zero           5: the time is 0
-- Assumes nothing.
use Rattle.std.specs.Prelude.{ℕ, ◌*◌, Bool, List, [], ◌++◌, eqb}
use Rattle.octets.specs.Bytes.{part, alike}
use Rattle.sha256.specs.Sha256.{sha256}
use Rattle.terms.specs.Ladder.{◌and◌}
use Rattle.terms.specs.Stamp.{time}
use Rattle.terms.specs.Terms.{slots_of}
use Rattle.terms.specs.declared.Plan.{Plan}

abbrev pub stamp_of : List ℕ → List ℕ
stamp_of rec = part rec 0 40

abbrev pub verifier_of : List ℕ → List ℕ
verifier_of rec = part rec 8 32

abbrev pub cross_of : Plan → List ℕ → List ℕ
cross_of p rec = part rec 40 (32 * p.n)

abbrev pub fragment_of : Plan → List ℕ → List ℕ
fragment_of p rec = part rec (slots_of p).head p.f

abbrev pub entry_of : ℕ → List ℕ → List ℕ
entry_of node cross = part cross (32 * node) 32

unfoldable pub prefix_of : Plan → ℕ → List ℕ
prefix_of p node = []

unfoldable pub fragment_hash : Plan → ℕ → List ℕ → List ℕ
fragment_hash p node fragment = sha256 (prefix_of p node ++ fragment)

-- the hash of the cross checksum is the verifier, the hash of the fragment is entry number node
unfoldable pub hashes_ok : Plan → ℕ → List ℕ → Bool
hashes_ok p node rec =
    alike (sha256 (cross_of p rec)) (verifier_of rec) and alike (fragment_hash p node (fragment_of p rec)) (entry_of node (cross_of p rec))

unfoldable pub time_zero : List ℕ → Bool
time_zero rec = eqb (time rec) 0
