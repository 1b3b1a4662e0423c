-- Laws of batches: rows as slices, and the hashes of a batch in one buffer. Assumes nothing.
use mathlib.Core.Path.{◌≡◌, refl, ap, ap₂, sym, ◌∙◌}
use Prim.Native.Nat.{ℕ, suc, zero, ◌+◌, ◌-◌, ◌*◌, ◌/◌, ◌≤◌, ◌<◌}
use mathlib.Core.List.{List, ◌++◌}
use native.Mathlib.Numerals.{add-one}
use native.Mathlib.Nat.{add-mul}
use native.Mathlib.Omega.{arith}
use lib.ListN.{length, take, drop, length-append}
use Rattle.octets.specs.Bytes.{part, put}
use Rattle.octets.proofs.Laws.{length_put, length_part, part_all}
use Rattle.sha256.specs.declared.State.{State}
use Rattle.sha256.specs.Sha256.{H0, pad, ended, after, bytes_of, sha256}
use Rattle.sha256.proofs.Laws.{pad_length, sha256_length, ended_none}
use Rattle.lanes.specs.declared.Rows.{Rows}
use Rattle.lanes.specs.declared.Batch.{Batch}
use Rattle.lanes.specs.Lanes.{row_of, message_of, Within, Lying, Spaced, hashed_into, lane_of, EachLane}
use Rattle.lanes.specs.Inside.{rows_from, batch_from, stored_into}

-- a row as it is lent
pub row_lent : (s : List ℕ) (r : Rows) (i c : ℕ) → c ≡ r.first + i * r.stride → take (c + r.size - c) (drop c s) ≡ row_of s r i
unfolding part
row_lent s r i c e = let d : c + r.size - c ≡ r.size = omega arith in ap₂ (λ (n a : ℕ). take n (drop a s)) d e

pub message_lent : (heads bodies : List ℕ) (x : Batch) (i c a : ℕ) → c ≡ x.heads.first + i * x.heads.stride → a ≡ x.bodies.first + i * x.bodies.stride
    → take (c + x.heads.size - c) (drop c heads) ++ take (a + x.bodies.size - a) (drop a bodies) ≡ message_of heads bodies x i
message_lent heads bodies x i c a d e = ap₂ (λ (p q : List ℕ). p ++ q) (row_lent heads x.heads i c d) (row_lent bodies x.bodies i a e)

-- a row, and a message, of those from row i on
from_row : (s : List ℕ) (r : Rows) (i l : ℕ) → row_of s (rows_from r i) l ≡ row_of s r (i + l)
from_row s r i l =
    let e : r.first + i * r.stride + l * r.stride ≡ r.first + (i + l) * r.stride = omega (arith, add-mul i l r.stride) in
    ap (λ (a : ℕ). part s a r.size) e

from_message : (heads bodies : List ℕ) (x : Batch) (i n l : ℕ) → message_of heads bodies (batch_from x i n) l ≡ message_of heads bodies x (i + l)
from_message heads bodies x i n l = ap₂ (λ (p q : List ℕ). p ++ q) (from_row heads x.heads i l) (from_row bodies x.bodies i l)

from_within : (s : List ℕ) (r : Rows) (i n k : ℕ) → i + k ≤ n → Within s r n → Within s (rows_from r i) k
from_within s r i n k h u l b =
    let e : (i + l) * r.stride ≡ i * r.stride + l * r.stride = add-mul i l r.stride in
    let q : r.first + (i + l) * r.stride + r.size ≤ length s = u (i + l) (omega arith) in
    omega arith

pub from_lying : (heads bodies : List ℕ) (x : Batch) (i k : ℕ) → i + k ≤ x.n → Lying heads bodies x → Lying heads bodies (batch_from x i k)
from_lying heads bodies x i k h u =
    record { of_heads = from_within heads x.heads i x.n k h u.of_heads; of_bodies = from_within bodies x.bodies i x.n k h u.of_bodies }

-- the batch that is made of rows from row i on
pub from_made : (x : Batch) (i k : ℕ) (p q : Rows) → p ≡ rows_from x.heads i → q ≡ rows_from x.bodies i → record { heads = p; bodies = q; n = k } ≡ batch_from x i k
from_made x i k p q d e = λ j. record { heads = d j; bodies = e j; n = k }

pub from_spaced : (at stride i n k : ℕ) (out : List ℕ) → i + k ≤ n → Spaced at stride n out → Spaced (at + i * stride) stride k out
from_spaced at stride i n k out h u l b =
    let e : (i + l) * stride ≡ i * stride + l * stride = add-mul i l stride in
    let q : at + (i + l) * stride + 32 ≤ length out = u (i + l) (omega arith) in
    omega arith

-- ---- the hashes laid into a buffer

pub hashed_none : (heads bodies : List ℕ) (x : Batch) (at stride : ℕ) (out : List ℕ) → out ≡ hashed_into heads bodies x at stride 0 out
unfolding hashed_into
hashed_none heads bodies x at stride out = refl

pub hashed_length : (heads bodies : List ℕ) (x : Batch) (at stride n : ℕ) (out : List ℕ) → Spaced at stride n out → length (hashed_into heads bodies x at stride n out) ≡ length out
unfolding hashed_into
hashed_length heads bodies x at stride zero out u = refl
hashed_length heads bodies x at stride (suc n) out u =
    let z : length (hashed_into heads bodies x at stride n out) ≡ length out = hashed_length heads bodies x at stride n out (λ i h. u i (omega arith)) in
    let m : List ℕ = message_of heads bodies x n in
    let s : length (sha256 m) ≡ 32 = sha256_length m in
    let b : at + n * stride + 32 ≤ length out = u n (omega arith) in
    length_put (hashed_into heads bodies x at stride n out) (at + n * stride) (sha256 m) (omega arith) ∙ z

-- those of the batch from message i on are laid behind the first i
pub hashed_on : (heads bodies : List ℕ) (x : Batch) (at stride i n k : ℕ) (out : List ℕ)
    → hashed_into heads bodies (batch_from x i n) (at + i * stride) stride k (hashed_into heads bodies x at stride i out) ≡ hashed_into heads bodies x at stride (i + k) out
unfolding hashed_into
hashed_on heads bodies x at stride i n zero out = let e : i ≡ i + 0 = omega arith in ap (λ (k : ℕ). hashed_into heads bodies x at stride k out) e
hashed_on heads bodies x at stride i n (suc k) out =
    let e : at + i * stride + k * stride ≡ at + (i + k) * stride = omega (arith, add-mul i k stride) in
    let d : suc (i + k) ≡ i + suc k = omega arith in
    (λ j. put (hashed_on heads bodies x at stride i n k out j) (e j) (sha256 (from_message heads bodies x i n k j)))
    ∙ ap (λ (y : ℕ). hashed_into heads bodies x at stride y out) d

-- one of them alone
pub hashed_one : (heads bodies : List ℕ) (x : Batch) (to stride i k : ℕ) (out : List ℕ) → k ≡ 1
    → put out to (sha256 (message_of heads bodies x i)) ≡ hashed_into heads bodies (batch_from x i k) to stride k out
unfolding hashed_into
hashed_one heads bodies x to stride i k out e =
    let d : to ≡ to + 0 * stride = omega arith in
    let c : i ≡ i + 0 = omega arith in
    (λ j. put out (d j) (sha256 (message_of heads bodies x (c j))))
    ∙ (λ j. put out (to + 0 * stride) (sha256 (sym (from_message heads bodies x i k 0) j)))
    ∙ ap (λ (n : ℕ). hashed_into heads bodies (batch_from x i k) to stride n out) (sym e)

pub message_length : (heads bodies : List ℕ) (x : Batch) (i : ℕ) → Lying heads bodies x → i < x.n → length (message_of heads bodies x i) ≡ x.heads.size + x.bodies.size
message_length heads bodies x i u h =
    length-append (row_of heads x.heads i) (row_of bodies x.bodies i)
    ∙ ap₂ (λ (a b : ℕ). a + b) (length_part heads _ _ (u.of_heads i h)) (length_part bodies _ _ (u.of_bodies i h))

-- ---- the hashes of lanes that went through all blocks of their messages

pub hash_of : (m : List ℕ) (n : ℕ) (s h : State) → length m ≡ n → h ≡ H0 → s ≡ after h ((n + 72) / 64) (ended 0 m) → bytes_of s ≡ sha256 m
unfolding sha256
hash_of m n s h z y e =
    let q : length (pad m) ≡ (length m + 72) / 64 * 64 = pad_length m in
    let d : (n + 72) / 64 ≡ length (pad m) / 64 = omega arith in
    ap bytes_of (e ∙ (λ j. after (y j) (d j) (ended_none m j)))

-- all 32 bytes of a hash value
pub all_bytes : (s : State) (d : List ℕ) → d ≡ bytes_of s → part d 0 32 ≡ bytes_of s
all_bytes s d e = ap (λ (x : List ℕ). part x 0 32) e ∙ part_all (bytes_of s)

pub stored_none : (h : List ℕ) (at stride : ℕ) (out : List ℕ) → out ≡ stored_into h at stride 0 out
unfolding stored_into
stored_none h at stride out = refl

pub stored_next : (h : List ℕ) (at stride n : ℕ) (out₀ out new : List ℕ) → out ≡ stored_into h at stride n out₀ → new ≡ put out (at + n * stride) (bytes_of (lane_of h n))
    → new ≡ stored_into h at stride (n + 1) out₀
unfolding stored_into
stored_next h at stride n out₀ out new q r =
    r ∙ ap (λ (y : List ℕ). put y (at + n * stride) (bytes_of (lane_of h n))) q ∙ ap (λ (k : ℕ). stored_into h at stride k out₀) (sym (add-one n))

pub stored_hashes : (heads bodies : List ℕ) (x : Batch) (h s : List ℕ) (old : List ℕ) (at stride n : ℕ) (out : List ℕ) → Lying heads bodies x → n ≤ x.n
    → EachLane (λ l. H0) x.n old h → EachLane (λ l. after (lane_of h l) ((x.heads.size + x.bodies.size + 72) / 64) (ended 0 (message_of heads bodies x l))) x.n h s
    → stored_into s at stride n out ≡ hashed_into heads bodies x at stride n out
unfolding stored_into hashed_into
stored_hashes heads bodies x h s old at stride zero out u b y e = refl
stored_hashes heads bodies x h s old at stride (suc n) out u b y e =
    ap₂ (λ (o d : List ℕ). put o (at + n * stride) d) (stored_hashes heads bodies x h s old at stride n out u (omega arith) y e)
    (hash_of (message_of heads bodies x n) _ _ _ (message_length heads bodies x n u (omega arith)) (y.done n (omega arith)) (e.done n (omega arith)))
