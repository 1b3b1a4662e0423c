-- What is true of the close of every read round. Document 01, "The client", reading: "the candidate is the greatest timestamp"; "its set is the
-- replies with this timestamp and the same cross checksum as the lowest-numbered of them".
--   Best               the candidate: the greatest timestamp heard, at the lowest-numbered node that bears it
--   Rising Members     its set: each node once, and exactly those that bear its timestamp and cross checksum
-- Assumes nothing.
use Prim.{Unit}
use Rattle.std.specs.Prelude.{ℕ, ◌≤◌, ◌<◌, ◌≡◌, true, List, [], ◌∷◌, length}
use Rattle.fragments.specs.Fragments.{All, among}
use Rattle.terms.specs.declared.Slots.{Slots}
use Rattle.rounds.specs.declared.Heard.{Heard}
use Rattle.rounds.specs.declared.Heard.TheVariants.{Record}
use Rattle.rounds.specs.Rounds.{mark_of, slot_stamp, joins_of}

-- what is known of the best among the first n nodes
pub record Best (ms : List Heard) (d : List ℕ) (slots : Slots) (n a : ℕ) : Type 0 where
  pub marked : mark_of ms a ≡ Record
  pub greatest : (i : ℕ) → i < n → mark_of ms i ≡ Record → slot_stamp d slots i ≤ slot_stamp d slots a
  pub lowest : (i : ℕ) → i < a → mark_of ms i ≡ Record → slot_stamp d slots i < slot_stamp d slots a

-- the numbers of a list rise
abbrev pub Rising : List ℕ → Type 0
Rising [] = Unit {0}
Rising (x ∷ l) = All (λ (y : ℕ). x < y) l × Rising l

-- what a set is known to be, of the first i nodes: it rises, so that it has each node once; each node of it bears the timestamp and the
-- cross checksum of node a, and each that does is one of it
pub record Members (d : List ℕ) (slots : Slots) (a i : ℕ) (ms : List Heard) (l : List ℕ) : Type 0 where
  pub few : length l ≤ i
  pub below : All (λ (y : ℕ). y < i) l
  pub rises : Rising l
  pub joined : All (λ (y : ℕ). joins_of d slots a y (mark_of ms y) ≡ true) l
  pub all : (y : ℕ) → y < i → joins_of d slots a y (mark_of ms y) ≡ true → among y l ≡ true
