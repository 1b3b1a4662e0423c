-- Laws of a desk that is filled in place: its loop, and what stands in each slot. Assumes nothing.
use mathlib.Core.Path.{◌≡◌, refl, sym, ap, ◌∙◌}
use mathlib.Core.List.{List, [], ◌++◌, append_assoc, append-nil}
use mathlib.Core.Bool.{Bool, true, false}
use Prim.Native.Nat.{ℕ, zero, suc, ◌+◌, ◌-◌, ◌*◌, ◌^◌, ◌≤◌, ◌<◌}
use native.Mathlib.Nat.{zero-mul, suc-mul, add-zero, add-suc}
use native.Mathlib.Numerals.{add-one}
use native.Mathlib.Omega.{arith}
use borrow.Author.Tests.{ltb-true, ltb-false}
use lib.Dec.{ltb}
use lib.ListN.{length, take, drop, length-append, take-append-drop}
use lib.Seq.{drop-drop, drop-append-add, drop-length, take_at}
use Rattle.octets.specs.Bytes.{part, put, num, be}
use Rattle.octets.proofs.Laws.{length_part, length_put, put_nil, put_then, part_put_same, part_put_before, part_put_after, part_middle, length_be, part_left, part_past, part_last, slot_fits}
use Rattle.octets.proofs.Meaning.{part_add, alike_refl, num_be}
use Rattle.sha256.specs.Sha256.{sha256}
use Rattle.sha256.proofs.Laws.{sha256_length, whole}
use Rattle.lanes.specs.declared.Batch.{Batch}
use Rattle.lanes.specs.Lanes.{Lying, hashed_into}
use Rattle.terms.specs.Terms.{plan_ok, record_length, slots_of, slot_at, fragment_at}
use Rattle.terms.specs.declared.Slots.{Slots}
use Rattle.terms.specs.declared.Plan.{Plan}
use Rattle.terms.specs.Stamp.{stamp_number, stamp_at}
use Rattle.terms.specs.declared.Timestamp.{Timestamp}
use Rattle.terms.proofs.Plans.{plan_is}
use Rattle.terms.proofs.Places.{record_length_lem, slots_are}
use Rattle.terms.proofs.Stamps.{Words, stamp_hash}
use Rattle.record.specs.Record.{stamp_of, verifier_of, cross_of, fragment_of, entry_of, prefix_of, fragment_hash, hashes_ok}
use Rattle.record.specs.Desk.{slot_of, fragment_in, row, cross_made, desk_of, stamp_made}
use Rattle.record.proofs.Records.{taken, fragment_at_lem, cross_at, start_of}

-- ---- blocks of r bytes, one after the other
pub length_row : (block : ℕ → List ℕ) (r k : ℕ) → ((j : ℕ) → j < k → length (block j) ≡ r) → length (row block k) ≡ k * r
unfolding row
length_row block r zero h = sym (zero-mul r)
length_row block r (suc k) h =
    let ih = length_row block r k (λ j i. h j (omega arith)) in
    let l = h k (omega arith) in
    simp (length-append, suc-mul) (omega arith)

-- n more of them
pub row_add : (block : ℕ → List ℕ) (k n : ℕ) → row block (k + n) ≡ row block k ++ row (λ j. block (k + j)) n
unfolding row
row_add block k zero = ap (row block) (add-zero k) ∙ sym (append-nil (row block k))
row_add block k (suc n) = ap (row block) (add-suc k n) ∙ ap (λ (l : List ℕ). l ++ block (k + n)) (row_add block k n) ∙ append_assoc (row block k) (row (λ j. block (k + j)) n) (block (k + n))

-- block k stands at k * r
pub part_row : (block : ℕ → List ℕ) (r k n : ℕ) → ((j : ℕ) → j < n → length (block j) ≡ r) → k < n → part (row block n) (k * r) r ≡ block k
unfolding row
part_row block r k zero h i = absurd (omega arith)
part_row block r k (suc n) h i = go (ltb k n) refl (λ z. part_row block r k n (λ j y. h j (omega arith)) z)
  where
    l : length (row block n) ≡ n * r
    l = length_row block r n (λ j y. h j (omega arith))

    go : (t : Bool) → ltb k n ≡ t → (k < n → part (row block n) (k * r) r ≡ block k) → part (row block n ++ block n) (k * r) r ≡ block k
    go true e ih = let z = ltb-true k n e in part_left (row block n) (block n) (k * r) r (omega (arith, slot_fits k n r z, l)) ∙ ih z
    go false e ih =
        let z : k ≡ n = omega (arith, ltb-false k n e) in
        rw z (part_last (row block n) (block n) (n * r) r l (h n (omega arith)))

-- blocks that are the same one by one
pub row_same : (a b : ℕ → List ℕ) (n : ℕ) → ((k : ℕ) → k < n → a k ≡ b k) → row a n ≡ row b n
unfolding row
row_same a b zero h = refl
row_same a b (suc n) h = let ih = row_same a b n (λ k i. h k (omega arith)) in λ j. ih j ++ h n (omega arith) j

-- fragments that are the same one by one
module _ (a b : ℕ → List ℕ) (n : ℕ) (h : (k : ℕ) → k < n → a k ≡ b k) where
  pub cross_same : (p : Plan) → cross_made p a n ≡ cross_made p b n
  unfolding cross_made
  cross_same p = row_same (λ k. fragment_hash p k (a k)) (λ k. fragment_hash p k (b k)) n (λ k i. ap (fragment_hash p k) (h k i))

  pub desk_same : (s c : List ℕ) → desk_of s c a n ≡ desk_of s c b n
  unfolding desk_of
  desk_same s c = row_same (λ k. s ++ (c ++ a k)) (λ k. s ++ (c ++ b k)) n (λ k i. ap (λ (l : List ℕ). s ++ (c ++ l)) (h k i))

-- the fragment of slot k
abbrev pub rest_of : List ℕ → Slots → ℕ → List ℕ
rest_of d s k = part d (fragment_at s k) s.fragment

-- ---- slots filled one after the other: d is what is done, and then the rest as it was
module _ (d₀ head : List ℕ) (s : Slots) (ld : length d₀ ≡ s.n * s.size) (lh : length head ≡ s.head) (hr : s.size ≡ s.head + s.fragment) where
  length_heads : (k : ℕ) → k ≤ s.n → length (desk_of head [] (rest_of d₀ s) k) ≡ slot_at s k
  unfolding desk_of
  length_heads k i =
      length_row _ s.size k (λ j y. let l = length_part d₀ (fragment_at s j) s.fragment (omega (arith, slot_fits j s.n s.size (omega arith))) in simp length-append (omega arith))

  pub start : d₀ ≡ desk_of head [] (rest_of d₀ s) 0 ++ drop (slot_at s 0) d₀
  unfolding desk_of row
  start = rw zero-mul

  pub turn : (k : ℕ) (d : List ℕ) → k < s.n → d ≡ desk_of head [] (rest_of d₀ s) k ++ drop (slot_at s k) d₀
      → put d (slot_at s k) head ≡ desk_of head [] (rest_of d₀ s) (k + 1) ++ drop (slot_at s (k + 1)) d₀
  unfolding put desk_of row part
  turn k d i e =
      let at : ℕ = slot_at s k in
      let X : List ℕ = desk_of head [] (rest_of d₀ s) k in
      let Y : List ℕ = drop at d₀ in
      let lx : length X ≡ at = length_heads k (omega arith) in
      let y : at + s.head ≡ fragment_at s k = omega arith in
      let a : drop (at + length head) (X ++ Y) ≡ drop (fragment_at s k) d₀ =
      ap (λ (j : ℕ). drop (j + length head) (X ++ Y)) (sym lx) ∙ drop-append-add X Y (length head) ∙ ap (λ (j : ℕ). drop j Y) lh ∙ drop-drop s.head at d₀
      ∙ ap (λ (j : ℕ). drop j d₀) y in
      let z : fragment_at s k + s.fragment ≡ suc k * s.size = omega (arith, suc-mul k s.size) in
      let b : drop (fragment_at s k) d₀ ≡ take s.fragment (drop (fragment_at s k) d₀) ++ drop (suc k * s.size) d₀ =
      sym (take-append-drop s.fragment (drop (fragment_at s k) d₀))
      ∙ ap (λ (l : List ℕ). take s.fragment (drop (fragment_at s k) d₀) ++ l) (drop-drop s.fragment (fragment_at s k) d₀ ∙ ap (λ (j : ℕ). drop j d₀) z) in
      rw (e, take_at X Y at lx, a, b, add-one) (simp append_assoc)

  pub done : (k : ℕ) (d : List ℕ) → k ≡ s.n → d ≡ desk_of head [] (rest_of d₀ s) k ++ drop (slot_at s k) d₀ → d ≡ desk_of head [] (rest_of d₀ s) s.n
  done k d z e = e ∙ rw (z, ← ld, drop-length d₀) (append-nil (desk_of head [] (rest_of d₀ s) s.n))

-- the head of slot a stays while it is put into slot k
pub head_stays : (d head : List ℕ) (a k : ℕ) (s : Slots) → length d ≡ s.n * s.size → length head ≡ s.head → s.size ≡ s.head + s.fragment → k < s.n
    → part d (slot_at s a) s.head ≡ head → part (put d (slot_at s k) head) (slot_at s a) s.head ≡ head
head_stays d head a k s ld lh hr kn e = go (ltb a k) (ltb k a) refl refl
  where
    fk : slot_at s k + s.size ≤ length d
    fk = omega (arith, slot_fits k s.n s.size kn)

    go : (t u : Bool) → ltb a k ≡ t → ltb k a ≡ u → part (put d (slot_at s k) head) (slot_at s a) s.head ≡ head
    go true t u v = part_put_before d (slot_at s k) head (slot_at s a) s.head (omega (arith, slot_fits a k s.size (ltb-true a k u))) (omega (arith, fk)) ∙ e
    go false true u v = part_put_after d (slot_at s k) head (slot_at s a) s.head (omega (arith, slot_fits k a s.size (ltb-true k a v))) (omega (arith, fk)) ∙ e
    go false false u v =
        let z : a ≡ k = omega (arith, ltb-false a k u, ltb-false k a v) in
        rw z (part_put_same d (slot_at s k) head s.head lh (omega (arith, fk)))

-- ---- entries of a cross checksum, one after the other
module _ (p : Plan) (fragment : ℕ → List ℕ) where
  pub length_cross : (k : ℕ) → length (cross_made p fragment k) ≡ 32 * k
  unfolding cross_made fragment_hash
  length_cross k = length_row _ 32 k (λ j y. sha256_length (prefix_of p j ++ fragment j)) ∙ omega arith

  pub cross_start : (out : List ℕ) (at : ℕ) → out ≡ put out at (cross_made p fragment 0)
  unfolding cross_made row
  cross_start out at = sym (put_nil out at)

  pub cross_turn : (out out₀ : List ℕ) (at k : ℕ) → at ≤ length out₀ → out ≡ put out₀ at (cross_made p fragment k)
      → put out (at + 32 * k) (fragment_hash p k (fragment k)) ≡ put out₀ at (cross_made p fragment (k + 1))
  unfolding cross_made row
  cross_turn out out₀ at k h e =
      rw (e, put_then out₀ at (at + 32 * k) (cross_made p fragment k) (fragment_hash p k (fragment k)) (ap (λ (j : ℕ). at + j) (length_cross k)) h, add-one)

-- the hash of what stands before a fragment and the fragment
pub hashed : (p : Plan) (node : ℕ) (before fragment : List ℕ) → before ≡ prefix_of p node → sha256 (before ++ fragment) ≡ fragment_hash p node fragment
unfolding fragment_hash
hashed p node before fragment e = rw e

-- a head is a timestamp and a cross checksum
split : (s c : List ℕ) (fragment : ℕ → List ℕ) (n : ℕ) → desk_of (s ++ c) [] fragment n ≡ desk_of s c fragment n
unfolding desk_of
split s c fragment n = λ i. row (λ k. append_assoc s c (fragment k) i) n

-- a timestamp whose words were read from the hash of a cross checksum that was lent
pub stamp_is : (t : Timestamp) (s d : List ℕ) (at n : ℕ) → Words t.verifier → t.verifier.0 < 256 ^ 8
    → be 8 t.verifier.0 ≡ part d 0 8 → be 8 t.verifier.1 ≡ part d 8 8
    → be 8 t.verifier.2 ≡ part d 16 8 → be 8 t.verifier.3 ≡ part d 24 8 → d ≡ sha256 (take (at + 32 * n - at) (drop at s))
    → be 40 (stamp_number t) ≡ stamp_made t.time.0 (part s at (32 * n))
stamp_is t s d at n w w0 e0 e1 e2 e3 e =
    stamp_hash t d w w0 e0 e1 e2 e3
    ∙ ap (λ (l : List ℕ). be 8 t.time.0 ++ l) (whole (part s at (32 * n)) d (e ∙ ap sha256 (taken s at (at + 32 * n - at) (32 * n) (omega arith))))

-- its time, and the same timestamp, as those 40 bytes give it
pub time_made : (time : ℕ) (cross : List ℕ) → time < 256 ^ 8 → num (part (stamp_made time cross) 0 8) ≡ time
time_made time cross h =
    ap num (part_middle (stamp_made time cross) [] (be 8 time) (sha256 cross) 0 8 refl refl (length_be 8 time)) ∙ num_be 8 time h

pub stamp_made_lem : (t : Timestamp) (s d : List ℕ) (at n : ℕ) → t.time.0 < 256 ^ 8
    → t.verifier.0 ≡ num (part d 0 8) → t.verifier.1 ≡ num (part d 8 8)
    → t.verifier.2 ≡ num (part d 16 8) → t.verifier.3 ≡ num (part d 24 8) → d ≡ sha256 (take (at + 32 * n - at) (drop at s))
    → t ≡ stamp_at (stamp_made t.time.0 (part s at (32 * n))) 0
unfolding stamp_at
stamp_made_lem t s d at n h e0 e1 e2 e3 e =
    let q = sym (time_made t.time.0 (part s at (32 * n)) h) in
    λ i. record { time = record { 0 = q i }; verifier = record { 0 = (e0 ∙ word 0) i; 1 = (e1 ∙ word 8) i; 2 = (e2 ∙ word 16) i; 3 = (e3 ∙ word 24) i } }
  where
    word : (k : ℕ) → num (part d k 8) ≡ num (part (stamp_made t.time.0 (part s at (32 * n))) (8 + k) 8)
    word k =
        let z : d ≡ sha256 (part s at (32 * n)) = e ∙ ap sha256 (taken s at (at + 32 * n - at) (32 * n) (omega arith)) in
        ap num (ap (λ (l : List ℕ). part l k 8) z ∙ sym (part_past (be 8 t.time.0) (sha256 (part s at (32 * n))) 8 k 8 (length_be 8 t.time.0)))

-- ---- by plan
module _ (p : Plan) (d : List ℕ) where
  pub sources : (n : ℕ) → length d ≡ n * record_length p → (k : ℕ) → k < n → fragment_at (slots_of p) k + p.f ≤ length d
  sources n ld k h = omega (arith, slot_fits k n (record_length p) h, record_length_lem p)

  pub fragment_in_lem : (k : ℕ) → part d (fragment_at (slots_of p) k) p.f ≡ fragment_in p d k
  fragment_in_lem k =
      let z : fragment_at (slots_of p) k ≡ slot_at (slots_of p) k + (slots_of p).head = omega arith in
      ap (λ (q : ℕ). part d q p.f) z ∙ sym (fragment_at_lem p d (slot_at (slots_of p) k))

  pub spread_is : (a n : ℕ) → desk_of (part d (slot_at (slots_of p) a) (slots_of p).head) [] (rest_of d (slots_of p)) n
      ≡ desk_of (stamp_of (slot_of p d a)) (cross_of p (slot_of p d a)) (fragment_in p d) n
  spread_is a n =
      let at : ℕ = slot_at (slots_of p) a in
      let e : part d at (slots_of p).head ≡ stamp_of (slot_of p d a) ++ cross_of p (slot_of p d a) =
      part_add d at 40 (32 * p.n) ∙ (λ i. sym (start_of p d at 40 (omega (arith, record_length_lem p))) i ++ sym (cross_at p d at) i) in
      (λ i. desk_of (e i) [] (λ k. fragment_in_lem k i) n) ∙ split (stamp_of (slot_of p d a)) (cross_of p (slot_of p d a)) (fragment_in p d) n

-- the fragments of a desk, lent one by one by the numbers of the plan's slots
module _ (p : Plan) (d : List ℕ) (s : Slots) (ok : plan_ok p ≡ true) (ld : length d ≡ p.n * record_length p) (es : s ≡ slots_of p) where
  entry_fits : (k : ℕ) → k < s.n → fragment_at s k + s.fragment ≤ length d
  entry_fits k h =
      let q = slots_are p s ok es in
      rw es (sources p d p.n ld k (omega (arith, q.n_is)))

-- the fragments of a desk as a batch of messages, each after its prefix, and all of it lies in what is lent
abbrev pub fragments_in : ℕ → Slots → Batch
fragments_in z s = record { heads = record { first = 0; stride = 16; size = z }; bodies = record { first = s.head; stride = s.size; size = s.fragment }; n = s.n }

pub fragments_lie : (p : Plan) (heads d : List ℕ) (z : ℕ) (s : Slots) → plan_ok p ≡ true → length d ≡ p.n * record_length p → s ≡ slots_of p → length heads ≡ 256 → z ≤ 16
    → Lying heads d (fragments_in z s)
fragments_lie p heads d z s ok ld es h b =
    let q = slots_are p s ok es in
    record { of_heads = λ i l. omega (arith, q.n_is, q.n_high); of_bodies = λ i l. entry_fits p d s ok ld es i l }

-- their hashes, laid into a buffer, are the cross checksum
pub crossed : (p : Plan) (heads d : List ℕ) (z : ℕ) (s : Slots) → s ≡ slots_of p → ((k : ℕ) → k < 16 → part heads (16 * k) z ≡ prefix_of p k)
    → (out : List ℕ) (at n : ℕ) → n ≤ 16 → at ≤ length out → hashed_into heads d (fragments_in z s) at 32 n out ≡ put out at (cross_made p (fragment_in p d) n)
unfolding hashed_into
crossed p heads d z s es f out at zero b h = cross_start p (fragment_in p d) out at
crossed p heads d z s es f out at (suc n) b h =
    let e : at + n * 32 ≡ at + 32 * n = omega arith in
    let a : 0 + n * 16 ≡ 16 * n = omega arith in
    let m : part d (fragment_at s n) s.fragment ≡ fragment_in p d n = ap (λ (t : Slots). part d (fragment_at t n) t.fragment) es ∙ fragment_in_lem p d n in
    (λ i. put (hashed_into heads d (fragments_in z s) at 32 n out) (e i) (sha256 (part heads (a i) z ++ m i)))
    ∙ ap (put (hashed_into heads d (fragments_in z s) at 32 n out) (at + 32 * n)) (hashed p n (part heads (16 * n) z) (fragment_in p d n) (f n (omega arith)))
    ∙ cross_turn p (fragment_in p d) (hashed_into heads d (fragments_in z s) at 32 n out) out at n h (crossed p heads d z s es f out at n (omega arith) h)
    ∙ ap (λ (k : ℕ). put out at (cross_made p (fragment_in p d) k)) (add-one n)

pub room : (p : Plan) (l : ℕ) → plan_ok p ≡ true → l ≡ p.n * record_length p → (slots_of p).head ≤ l
room p l k ld = let q = plan_is p k in omega (arith, slot_fits 0 p.n (record_length p) q.n_low, record_length_lem p)

-- timestamp and cross checksum written into slot 0, and then spread
pub fill_is : (p : Plan) (d d₁ d₂ s c : List ℕ) (n : ℕ) → (slots_of p).head ≤ length d → length s ≡ 40 → length c ≡ 32 * p.n
    → d₁ ≡ put d 0 s → d₂ ≡ put d₁ 40 c
    → desk_of (stamp_of (slot_of p d₂ 0)) (cross_of p (slot_of p d₂ 0)) (fragment_in p d₂) n ≡ desk_of s c (fragment_in p d) n
fill_is p d d₁ d₂ s c n h ls lc e₁ e₂ = λ i. desk_of (stamped i) (crossed i) (λ k. kept k i) n
  where
    l₁ : length d₁ ≡ length d
    l₁ = ap length e₁ ∙ length_put d 0 s (omega arith)

    stamped : stamp_of (slot_of p d₂ 0) ≡ s
    stamped =
        start_of p d₂ (0 * record_length p) 40 (omega (arith, record_length_lem p)) ∙ ap (λ (x : ℕ). part d₂ x 40) (zero-mul (record_length p))
        ∙ rw (e₂, part_put_before d₁ 40 c 0 40 (omega arith) (omega (arith, l₁)), e₁) (part_put_same d 0 s 40 ls (omega arith))

    crossed : cross_of p (slot_of p d₂ 0) ≡ c
    crossed =
        cross_at p d₂ (0 * record_length p) ∙ ap (λ (x : ℕ). part d₂ (x + 40) (32 * p.n)) (zero-mul (record_length p))
        ∙ rw e₂ (part_put_same d₁ 40 c (32 * p.n) lc (omega (arith, l₁)))

    kept : (k : ℕ) → fragment_in p d₂ k ≡ fragment_in p d k
    kept k =
        let q : ℕ = slot_at (slots_of p) k + (slots_of p).head in
        fragment_at_lem p d₂ (k * record_length p)
        ∙ rw (e₂, part_put_after d₁ 40 c q p.f (omega arith) (omega (arith, l₁)), e₁, part_put_after d 0 s q p.f (omega arith) (omega arith))
        (sym (fragment_at_lem p d (k * record_length p)))

-- ---- what stands in the slots, and that it passes the checks
-- slot k is timestamp, cross checksum and fragment k
pub slot_is : (p : Plan) (s c : List ℕ) (fragment : ℕ → List ℕ) (k : ℕ) → length s ≡ 40 → length c ≡ 32 * p.n
    → ((j : ℕ) → j < p.n → length (fragment j) ≡ p.f) → k < p.n → slot_of p (desk_of s c fragment p.n) k ≡ s ++ (c ++ fragment k)
unfolding desk_of
slot_is p s c fragment k ls lc lf h =
    part_row (λ j. s ++ (c ++ fragment j)) (record_length p) k p.n (λ j y. let l = lf j y in simp length-append (omega (arith, record_length_lem p))) h

-- N records have N·R bytes
pub length_desk : (p : Plan) (s c : List ℕ) (fragment : ℕ → List ℕ) → length s ≡ 40 → length c ≡ 32 * p.n
    → ((j : ℕ) → j < p.n → length (fragment j) ≡ p.f) → length (desk_of s c fragment p.n) ≡ p.n * record_length p
unfolding desk_of
length_desk p s c fragment ls lc lf =
    length_row (λ j. s ++ (c ++ fragment j)) (record_length p) p.n (λ j y. let l = lf j y in simp length-append (omega (arith, record_length_lem p)))

-- entry k of a cross checksum is the hash of fragment k
pub entry_of_lem : (p : Plan) (fragment : ℕ → List ℕ) (k n : ℕ) → k < n → entry_of k (cross_made p fragment n) ≡ fragment_hash p k (fragment k)
unfolding cross_made fragment_hash
entry_of_lem p fragment k n h =
    let z : 32 * k ≡ k * 32 = omega arith in
    rw z (part_row (λ j. sha256 (prefix_of p j ++ fragment j)) 32 k n (λ j y. sha256_length (prefix_of p j ++ fragment j)) h)

-- a record of a timestamp and a cross checksum that were made for these fragments passes both hash checks at its node
pub made_ok : (p : Plan) (time : ℕ) (fragment : ℕ → List ℕ) (k : ℕ) → k < p.n → length (fragment k) ≡ p.f
    → hashes_ok p k (stamp_made time (cross_made p fragment p.n) ++ (cross_made p fragment p.n ++ fragment k)) ≡ true
unfolding hashes_ok
made_ok p time fragment k h lf =
    let c : List ℕ = cross_made p fragment p.n in
    let rec : List ℕ = stamp_made time c ++ (c ++ fragment k) in
    let lc : length c ≡ 32 * p.n = length_cross p fragment p.n in
    let lv = sha256_length c in
    let v : verifier_of rec ≡ sha256 c =
    part_middle rec (be 8 time) (sha256 c) (c ++ fragment k) 8 32 (append_assoc (be 8 time) (sha256 c) (c ++ fragment k)) (length_be 8 time) lv in
    let x : cross_of p rec ≡ c = part_middle rec (stamp_made time c) c (fragment k) 40 (32 * p.n) refl (simp (length-append, length_be) (omega arith)) lc in
    let f : fragment_of p rec ≡ fragment k =
    ap (λ (l : List ℕ). part l (slots_of p).head p.f) (sym (append_assoc (stamp_made time c) c (fragment k)))
    ∙ part_last (stamp_made time c ++ c) (fragment k) (slots_of p).head p.f (simp (length-append, length_be) (omega arith)) lf in
    rw (x, v, f, entry_of_lem p fragment k p.n h, alike_refl (sha256 c)) (alike_refl (fragment_hash p k (fragment k)))
