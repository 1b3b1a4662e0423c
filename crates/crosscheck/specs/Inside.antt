-- Fragments that are regenerated and hashed side by side, stretch by stretch. Assumes nothing.
--   made_of             a fragment, regenerated from the sources of a group
--   entries_of          the entries of the cross checksum that a group should have
--   message_of_entry    what is hashed for an entry: what stands before a fragment in its row of 8 bytes, and the fragment
--   head_in             how much of a stretch stands before the fragment
--   batch_in            the stretches of a group: k bytes before each fragment, n bytes of it
--   Rowed              rows of 192 bytes that hold the fragments of the slots s, or strips of them
--   Fits               a stretch of the fragments of a group
--   Taken LastFrom     so many blocks of all of a group are hashed; where the last stretch begins
use Rattle.std.specs.Prelude.{ℕ, ◌+◌, ◌*◌, ◌/◌, ◌%◌, ◌≤◌, ◌<◌, ◌≡◌, cond, List, ◌++◌, eqb, length}
use Rattle.octets.specs.Bytes.{part}
use Rattle.sha256.specs.Sha256.{H0, after, ended}
use Rattle.lanes.specs.declared.Batch.{Batch}
use Rattle.lanes.specs.Lanes.{lane_of}
use Rattle.terms.specs.declared.Plan.{Plan}
use Rattle.terms.specs.declared.Slots.{Slots}
use Rattle.fragments.specs.Fragments.{regenerated}
use Rattle.fragments.specs.Inside.{points_of}
use Rattle.record.specs.Record.{fragment_hash}
use Rattle.record.specs.Desk.{row}
use Rattle.crosscheck.specs.declared.group.Group.{Group}
use Rattle.crosscheck.specs.declared.Stretch.{Stretch}

-- fragment i, made from the sources of a group
abbrev pub made_of : Group → ℕ → List ℕ
made_of g i = regenerated g.desk.now g.slots (points_of g.basis) i

abbrev pub entries_of : Plan → Group → List ℕ
entries_of p g = row (λ l. fragment_hash p (g.first + l) (made_of g (g.first + l))) g.n

abbrev pub message_of_entry : List ℕ → ℕ → Group → ℕ → List ℕ
message_of_entry heads size g i = part heads (16 * i) size ++ made_of g i

-- all of it stands in the first stretch
unfoldable pub head_in : Stretch → ℕ
head_in y = cond (eqb y.from 0) y.head 0

-- in rows of 8 and of 192 bytes
abbrev pub batch_in : Group → ℕ → ℕ → Batch
batch_in g k n = record { heads = record { first = 16 * g.first; stride = 16; size = k }; bodies = record { first = 0; stride = 192; size = n }; n = g.n }

pub record Rowed (d : List ℕ) (s : Slots) (qs : List ℕ) (i n : ℕ) (rows : List ℕ) : Type 0 where
  pub long : length rows ≡ 1536
  pub held : (l : ℕ) → l < n → part rows (192 * l) s.fragment ≡ regenerated d s qs (i + l)

pub record Fits (g : Group) (y : Stretch) : Type 0 where
  pub head : y.head ≤ 16
  pub inside : y.from + y.size ≤ y.head + g.slots.fragment
  pub short : y.size ≤ 192
  pub first : y.from ≡ 0 → y.head ≤ y.size
  pub later : (y.from ≡ 0 → ⊥) → y.head ≤ y.from
  pub whole : y.from % 64 ≡ 0
  pub blocks : y.blocks ≤ (y.size + 72) / 64

-- each lane of a group has taken in k blocks of what is hashed for its entry
pub record Taken (heads : List ℕ) (head : ℕ) (g : Group) (k : ℕ) (h : List ℕ) : Type 0 where
  pub long : length h ≡ 64
  pub done : (l : ℕ) → l < g.n → lane_of h l ≡ after H0 k (ended 0 (message_of_entry heads head g (g.first + l)))

-- the last stretch of so many bytes in all
pub record LastFrom (all from : ℕ) : Type 0 where
  pub whole : from % 192 ≡ 0
  pub some : from < all
  pub rest : all ≤ from + 192
