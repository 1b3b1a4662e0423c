-- Several messages, and their hashes side by side. Assumes nothing.
--   row_of        part i of some that have one size, at a first place and then at every stride
--   message_of    message i of a batch: a row of the bodies after a row of the heads
--   Lying        every row of a batch lies within what is lent for it
--   Spaced       a buffer has room for n hashes at a place and a stride
--   hashed_into   the hashes of the first n messages, laid into a buffer at a place and a stride
--   lane_of       the hash value of lane l: word i of it at l + 8 * i
--   EachLane     the first n lanes are as is said of them, the others as they were
use Rattle.std.specs.Prelude.{ℕ, zero, suc, ◌+◌, ◌*◌, ◌≤◌, ◌<◌, ◌≡◌, List, ◌++◌, length, get_or}
use Rattle.octets.specs.Bytes.{part, put}
use Rattle.sha256.specs.declared.State.{State}
use Rattle.sha256.specs.Sha256.{sha256}
use Rattle.lanes.specs.declared.Rows.{Rows}
use Rattle.lanes.specs.declared.Batch.{Batch}

abbrev pub row_of : List ℕ → Rows → ℕ → List ℕ
row_of s r i = part s (r.first + i * r.stride) r.size

abbrev pub message_of : List ℕ → List ℕ → Batch → ℕ → List ℕ
message_of heads bodies x i = row_of heads x.heads i ++ row_of bodies x.bodies i

abbrev pub Within : List ℕ → Rows → ℕ → Type 0
Within s r n = (i : ℕ) → i < n → r.first + i * r.stride + r.size ≤ length s

pub record Lying (heads bodies : List ℕ) (x : Batch) : Type 0 where
  pub of_heads : Within heads x.heads x.n
  pub of_bodies : Within bodies x.bodies x.n

abbrev pub Spaced : ℕ → ℕ → ℕ → List ℕ → Type 0
Spaced at stride n out = (i : ℕ) → i < n → at + i * stride + 32 ≤ length out

unfoldable pub hashed_into : List ℕ → List ℕ → Batch → ℕ → ℕ → ℕ → List ℕ → List ℕ
hashed_into heads bodies x at stride zero out = out
hashed_into heads bodies x at stride (suc n) out = put (hashed_into heads bodies x at stride n out) (at + n * stride) (sha256 (message_of heads bodies x n))

unfoldable pub lane_of : List ℕ → ℕ → State
lane_of s l =
    record { a = get_or s l 0; b = get_or s (l + 8) 0; c = get_or s (l + 16) 0; d = get_or s (l + 24) 0; e = get_or s (l + 32) 0; f = get_or s (l + 40) 0; g = get_or s (l + 48) 0; h = get_or s (l + 56) 0 }

pub record EachLane (f : ℕ → State) (n : ℕ) (old new : List ℕ) : Type 0 where
  pub long : length new ≡ 64
  pub done : (l : ℕ) → l < n → lane_of new l ≡ f l
  pub left : (l : ℕ) → n ≤ l → l < 8 → lane_of new l ≡ lane_of old l
