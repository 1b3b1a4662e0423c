-- The fragments of a candidate's set. Document 01, "The client": validation regenerates all N fragments and compares the cross checksum;
-- regenerating and decoding start from the m lowest-numbered of the set; repair fills the desk with all N records, with the set's
-- timestamp and cross checksum; after a repair round the item is read from the desk's first m slots.
-- d is the desk, qs are the sources, a is the slot of the set's lead.
--   lowest             the m lowest-numbered of a set
--   validates          the cross checksum in slot a is that of the N regenerated fragments
--   record_from         the record of node k: timestamp and cross checksum of slot a, and fragment k
--   refilled           the desk with the records of nodes 0 to n - 1 in their slots
--   trusted sound      validation
--   decoded collected repaired   the item from the set, and from the desk's first m slots; the desk with all N records of the set
-- Assumes nothing.
use Rattle.std.specs.Prelude.{ℕ, zero, suc, ◌+◌, ◌*◌, Bool, true, cond, List, ◌++◌, take}
use Rattle.octets.specs.Bytes.{part, put, alike}
use Rattle.terms.specs.declared.Plan.{Plan}
use Rattle.terms.specs.declared.Slots.{Slots}
use Rattle.terms.specs.declared.Clients.{Clients}
use Rattle.terms.specs.declared.Clients.TheVariants.{Crash, Byzantine}
use Rattle.terms.specs.Terms.{slots_of, runs_of, slot_at}
use Rattle.fragments.specs.Fragments.{among, regenerated, from, laid}
use Rattle.record.specs.Desk.{cross_made}
use Rattle.rounds.specs.Rounds.{Closed}

unfoldable pub validates : Plan → List ℕ → List ℕ → ℕ → Bool
validates p d qs a = alike (cross_made p (regenerated d (slots_of p) qs) p.n) (part d (slot_at (slots_of p) a + 40) (32 * p.n))

abbrev pub record_from : List ℕ → Slots → List ℕ → ℕ → ℕ → List ℕ
record_from d slots qs a k = part d (slot_at slots a) slots.head ++ regenerated d slots qs k

-- the slot of a source holds its record already and stays
unfoldable pub slot_filled : List ℕ → Slots → List ℕ → ℕ → ℕ → List ℕ
slot_filled d slots qs a k = cond (among k qs) d (put d (slot_at slots k) (record_from d slots qs a k))

unfoldable pub refilled : List ℕ → Slots → List ℕ → ℕ → ℕ → List ℕ
refilled d slots qs a zero = d
refilled d slots qs a (suc k) = slot_filled (refilled d slots qs a k) slots qs a k

-- ---- the set of a close
abbrev pub lowest : Plan → Closed → List ℕ
lowest p c = take p.m c.nodes

-- "under Byzantine clients, regenerate all N fragments and compare the cross checksum; under crash clients always yes"
abbrev pub trusted : Clients → Bool → Bool
trusted Crash b = true
trusted Byzantine b = b

unfoldable pub sound : Plan → Closed → ℕ → List ℕ → Bool
sound p c a d = trusted p.clients (validates p d (lowest p c) a)

-- decoded from the m lowest-numbered of the set; after a repair round from the desk's first m slots
unfoldable pub decoded : Plan → Closed → List ℕ → List ℕ → List ℕ
decoded p c d i = laid d (slots_of p) (lowest p c) (runs_of p.m p.f) p.m i

unfoldable pub collected : Plan → List ℕ → List ℕ → List ℕ
collected p d i = laid d (slots_of p) (from 0 p.m) (runs_of p.m p.f) p.m i

-- the desk with all N records of the set
unfoldable pub repaired : Plan → Closed → ℕ → List ℕ → List ℕ
repaired p c a d = refilled d (slots_of p) (lowest p c) a p.n
