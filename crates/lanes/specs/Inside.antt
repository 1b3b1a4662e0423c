-- What stands in the lanes between two steps. Sixteen words of the schedule are at hand: word i of lane l at 8 * i + l. Assumes nothing.
--   scatter with_lane   values written at every eighth place; a state written as that of lane l
--   rounds_at           n rounds of lane l, from round t on, by the words at hand
--   next_in             the word of the schedule that stands 16 after word i of lane l
--   Window             the words at hand of lane l are those of a block's schedule from word t on
--   Rolled             those of lane l are the next sixteen, and no other lane has changed; AllRolled: those of the first n lanes
--   Loaded             lane l has the words of a block, and no other lane has changed; AllLoaded: each of the first n lanes those of its own
--   rows_from batch_from the rows from row i on; n messages from message i on
--   Standing           the words at hand are those of round t
--   stored_into         the hash values of the first n lanes as bytes, laid into a buffer
--   Rounded Blocked    every lane of the first n whose words were those of a block has gone through t rounds of it, through all of it
use Rattle.std.specs.Prelude.{ℕ, zero, suc, ◌+◌, ◌-◌, ◌*◌, ◌/◌, ◌%◌, ◌^◌, ◌≤◌, ◌<◌, ◌≡◌, List, [], ◌∷◌, length, get_or, set}
use Rattle.octets.specs.Bytes.{put}
use Rattle.sha256.specs.declared.State.{State}
use Rattle.sha256.specs.Sha256.{K, σ0, σ1, round_of, rounds_of, schedule_of, compress_of, bytes_of}
use Rattle.lanes.specs.declared.Rows.{Rows}
use Rattle.lanes.specs.declared.Batch.{Batch}
use Rattle.lanes.specs.Lanes.{lane_of}

unfoldable pub scatter : List ℕ → ℕ → ℕ → List ℕ → List ℕ
scatter s l k [] = s
scatter s l k (v ∷ vs) = scatter (set s (l + 8 * k) v) l (suc k) vs

unfoldable pub with_lane : List ℕ → ℕ → State → List ℕ
with_lane s l r = scatter (set s l r.a) l 1 (r.b ∷ r.c ∷ r.d ∷ r.e ∷ r.f ∷ r.g ∷ r.h ∷ [])

unfoldable pub rounds_at : List ℕ → ℕ → ℕ → ℕ → State → State
rounds_at w l t zero s = s
rounds_at w l t (suc n) s = round_of (rounds_at w l t n s) (get_or K (t + n) 0) (get_or w (8 * ((t + n) % 16) + l) 0)

abbrev pub next_in : List ℕ → ℕ → ℕ → ℕ
next_in w i l =
    (σ1 (get_or w (8 * ((i + 14) % 16) + l) 0) + get_or w (8 * ((i + 9) % 16) + l) 0 + σ0 (get_or w (8 * ((i + 1) % 16) + l) 0) + get_or w (8 * i + l) 0) % 2 ^ 32

abbrev pub Window : List ℕ → ℕ → List ℕ → ℕ → Type 0
Window m t w l = (i : ℕ) → i < 16 → get_or w (8 * i + l) 0 ≡ get_or (schedule_of 48 m) (t + i) 0

-- lane l is in the second as in the first
abbrev pub Kept : ℕ → List ℕ → List ℕ → Type 0
Kept l old new = (i : ℕ) → get_or new (8 * i + l) 0 ≡ get_or old (8 * i + l) 0

-- whatever block the words of lane l are of, its next sixteen words
abbrev pub Onward : ℕ → List ℕ → List ℕ → Type 0
Onward l old new = (m : List ℕ) (t : ℕ) → length m ≡ 16 → t + 32 ≤ 64 → Window m t old l → Window m (t + 16) new l

pub record Rolled (l : ℕ) (old new : List ℕ) : Type 0 where
  pub long : length new ≡ 128
  pub onward : Onward l old new
  pub others : (j : ℕ) → j < 8 → (j ≡ l → ⊥) → Kept j old new

pub record AllRolled (n : ℕ) (old new : List ℕ) : Type 0 where
  pub long : length new ≡ 128
  pub onward : (l : ℕ) → l < n → Onward l old new
  pub left : (l : ℕ) → n ≤ l → l < 8 → Kept l old new

pub record Loaded (m : List ℕ) (l : ℕ) (old new : List ℕ) : Type 0 where
  pub long : length new ≡ 128
  pub same : (i : ℕ) → i < 16 → get_or new (8 * i + l) 0 ≡ get_or m i 0
  pub others : (j : ℕ) → j < 8 → (j ≡ l → ⊥) → Kept j old new

pub record AllLoaded (f : ℕ → List ℕ) (n : ℕ) (new : List ℕ) : Type 0 where
  pub long : length new ≡ 128
  pub done : (l : ℕ) → l < n → Window (f l) 0 new l

-- where the words at hand were those of the round before t, they are those of round t; before round 0 they are those of round 0
pub record Standing (t n : ℕ) (old new : List ℕ) : Type 0 where
  pub long : length new ≡ 128
  pub done : (l : ℕ) → l < n → (m : List ℕ) → length m ≡ 16 → Window m ((t - 1) / 16 * 16) old l → Window m (t / 16 * 16) new l

pub record Rounded (t n : ℕ) (s w s' w' : List ℕ) : Type 0 where
  pub long : length s' ≡ 64
  pub wide : length w' ≡ 128
  pub done : (l : ℕ) → l < n → (m : List ℕ) → length m ≡ 16 → Window m 0 w l → lane_of s' l ≡ rounds_of (schedule_of 48 m) t (lane_of s l)
  pub at_hand : (l : ℕ) → l < n → (m : List ℕ) → length m ≡ 16 → Window m 0 w l → Window m ((t - 1) / 16 * 16) w' l

pub record Blocked (n : ℕ) (h w h' w' : List ℕ) : Type 0 where
  pub long : length h' ≡ 64
  pub wide : length w' ≡ 128
  pub done : (l : ℕ) → l < n → (m : List ℕ) → length m ≡ 16 → Window m 0 w l → lane_of h' l ≡ compress_of (lane_of h l) m
  pub left : (l : ℕ) → n ≤ l → l < 8 → lane_of h' l ≡ lane_of h l

-- the rows from row i on, and n messages from message i on
abbrev pub rows_from : Rows → ℕ → Rows
rows_from r i = record { first = r.first + i * r.stride; stride = r.stride; size = r.size }

abbrev pub batch_from : Batch → ℕ → ℕ → Batch
batch_from x i n = record { heads = rows_from x.heads i; bodies = rows_from x.bodies i; n = n }

-- the hash values of the first n lanes as bytes, laid into a buffer at a place and a stride
unfoldable pub stored_into : List ℕ → ℕ → ℕ → ℕ → List ℕ → List ℕ
stored_into h at stride zero out = out
stored_into h at stride (suc n) out = put (stored_into h at stride n out) (at + n * stride) (bytes_of (lane_of h n))
