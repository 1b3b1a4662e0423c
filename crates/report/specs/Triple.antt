-- Triples, sets and what the figures leave open. CMU-PDL-03-105, sections 3 and 4. No bytes, no ask numbers, no slots, no marks: a data
-- value, a cross checksum and a hash are strings of numbers, a set is a list of its members, and storage-nodes are numbered from 0.
-- The figures' names are kept, in small letters with low lines; some have `_of` or `_at` at the end.
--   Triple, null          ⟨logical time, data value, cross checksum⟩; the null value, ⊥
--   Message               ⟨S, Response⟩: a triple from a storage-node, or to it
--   such_that each max        {X : test, X ∈ set}; {f X : X ∈ set}; the greatest
--   In Same               X ∈ set; two lists of one set
--   up_to strung         f 0, f 1, .., n of them; f 0 | f 1 | .., one string
--   Family                the member of the family, the hash and the erasure code
-- Assumes nothing.
use Rattle.std.specs.Prelude.{ℕ, zero, suc, ◌≡◌, ◌⊎◌, Bool, cond, List, [], ◌∷◌, ◌++◌}
use Rattle.terms.specs.Terms.{larger}

-- Figure 1: "Each member of the history is a ⟨logical time, data value, cross checksum⟩ triple". Section 3.3: "the hash of the cross
-- checksum is placed in the low order bits of the logical timestamp", so timestamps are compared as numbers.
pub record Triple : Type 0 where
  pub ts : ℕ
  pub D : List ℕ
  pub CC : List ℕ

-- section 4.1: "The zero time, 0, and the null value, ⊥, are well known values": here ⊥ is the empty string, which no fragment is
abbrev pub null : List ℕ
null = []

pub record Message : Type 0 where
  pub S : ℕ
  pub Response : Triple

-- ---- sets
unfoldable pub such_that : {A : Type 0} → (A → Bool) → List A → List A
such_that test [] = []
such_that test (x ∷ xs) = cond (test x) (x ∷ such_that test xs) (such_that test xs)

unfoldable pub each : {A B : Type 0} → (A → B) → List A → List B
each f [] = []
each f (x ∷ xs) = f x ∷ each f xs

abbrev pub In : {A : Type 0} → A → List A → Type 0
In X [] = ⊥
In X (Y ∷ set) = (X ≡ Y) ⊎ In X set

abbrev pub Same : {A : Type 0} → List A → List A → Type 0
Same {A} set other = (X : A) → (In X set → In X other) × (In X other → In X set)

-- 0 of the empty set
unfoldable pub max : List ℕ → ℕ
max [] = 0
max (x ∷ xs) = larger (max xs) x

unfoldable pub up_to : {A : Type 0} → (ℕ → A) → ℕ → List A
up_to f zero = []
up_to f (suc k) = up_to f k ++ (f k ∷ [])

-- the operator '|' is concatenation
unfoldable pub strung : (ℕ → List ℕ) → ℕ → List ℕ
strung f zero = []
strung f (suc k) = strung f k ++ f k

-- ---- what the figures leave open
pub record Family : Type 0 where
  -- N storage-nodes, of which up to t fail; the two classification thresholds, section 5.2
  pub N : ℕ
  pub t : ℕ
  pub complete_at : ℕ
  pub incomplete_at : ℕ
  -- the member: READ's argument Repair, and whether clients may be Byzantine
  pub Repair : Bool
  pub byzantine_clients : Bool
  -- line 13 of READ_TIMESTAMP: MAX in the report; (02, Q-2) the (b+1)-th greatest in its place
  pub greatest_of : List ℕ → ℕ
  -- HASH; CC[S]; the parts of a timestamp, and one made of its parts
  pub hash : List ℕ → List ℕ
  pub entry : List ℕ → ℕ → List ℕ
  pub Time : ℕ → ℕ
  pub Verifier : ℕ → List ℕ
  pub stamped : ℕ → List ℕ → ℕ
  -- the erasure code, section 3.1; D i stands for the data-fragment of storage-node i
  pub encode : List ℕ → ℕ → List ℕ
  pub generate_fragments : List Message → ℕ → List ℕ
  pub decode : List Message → List ℕ
