-- Fragments hashed side by side, stretch by stretch. Assumes nothing.
use mathlib.Core.Path.{◌≡◌, refl, sym, ap, ap₂, ◌∙◌, subst}
use mathlib.Core.List.{List, [], ◌++◌}
use Prim.Native.Nat.{ℕ, ◌+◌, ◌-◌, ◌*◌, ◌/◌, ◌%◌, ◌≤◌, ◌<◌}
use native.Mathlib.Omega.{arith}
use native.Mathlib.Decide.{ℕ_discrete}
use borrow.Author.Tests.{eq-eqb, ne_eqb}
use lib.ListN.{length, take, drop, length-append}
use lib.Seq.{take_at}
use Rattle.octets.specs.Bytes.{part, put}
use Rattle.octets.proofs.Laws.{length_part, length_put, put_lent, part_put_same, part_put_before, part_first, part_past}
use Rattle.octets.proofs.Meaning.{part_add}
use Rattle.terms.specs.declared.Plan.{Plan}
use Rattle.terms.specs.declared.Slots.{Slots}
use Rattle.fragments.specs.Fragments.{regenerated, Sources}
use Rattle.fragments.specs.Inside.{strip_of, points_of}
use Rattle.fragments.proofs.Laws.{length_regenerated, strip_sources, regenerated_strip}
use Rattle.sha256.specs.declared.State.{State}
use Rattle.sha256.specs.Sha256.{H0, after, ended, bytes_of}
use Rattle.sha256.proofs.Stretches.{after_stretch}
use Rattle.lanes.specs.declared.Batch.{Batch}
use Rattle.lanes.specs.Lanes.{message_of, Lying, lane_of, EachLane}
use Rattle.lanes.proofs.Laws.{each_as}
use Rattle.lanes.proofs.Batches.{hash_of}
use Rattle.record.specs.Record.{prefix_of, fragment_hash}
use Rattle.record.proofs.Desks.{hashed}
use Rattle.crosscheck.specs.declared.group.Group.{Group}
use Rattle.crosscheck.specs.declared.Stretch.{Stretch}
use Rattle.crosscheck.specs.Inside.{head_in, made_of, message_of_entry, batch_in, Rowed, Fits, Taken, LastFrom}

-- ---- what is lent
-- the first f bytes of a buffer, lent, and given back as g
pub first_lent : (v g old : List ℕ) (f : ℕ) → v ≡ g → length g ≡ f → take f (v ++ drop f old) ≡ g
first_lent v g old f e l = ap (λ (x : List ℕ). take f (x ++ drop f old)) e ∙ take_at g (drop f old) f l

-- ---- rows
-- one more, regenerated into what was lent of them
pub rows_more : (d : List ℕ) (s : Slots) (qs : List ℕ) (i n k : ℕ) (out new : List ℕ) → n < 8 → s.fragment ≤ 192 → k ≡ s.fragment → Sources d s qs
    → new ≡ regenerated d s qs (i + n) → Rowed d s qs i n out → Rowed d s qs i (n + 1) (take (192 * n) out ++ (new ++ drop k (drop (192 * n) out)))
rows_more d s qs i n k out new h b a r e u = rw (put_lent out (192 * n) k new (z ∙ sym a)) laid
  where
    z : length new ≡ s.fragment
    z = ap length e ∙ length_regenerated d s qs (i + n) r

    go : (l : ℕ) → l < n + 1 → Dec (l ≡ n) → part (put out (192 * n) new) (192 * l) s.fragment ≡ regenerated d s qs (i + l)
    go l k (yes q) =
        let o : length out ≡ 1536 = u.long in
        rw q (part_put_same out (192 * n) new s.fragment z (omega arith) ∙ e)
    go l k (no q) =
        let o : length out ≡ 1536 = u.long in
        part_put_before out (192 * n) new (192 * l) s.fragment (omega arith) (omega arith) ∙ u.held l (omega arith)

    laid : Rowed d s qs i (n + 1) (put out (192 * n) new)
    laid =
        let o : length out ≡ 1536 = u.long in
        let y : length new ≡ s.fragment = z in
        record { long = length_put out (192 * n) new (omega arith) ∙ o; held = λ l k. go l k (ℕ_discrete l n) }

-- ---- a stretch
pub head_first : (y : Stretch) → y.from ≡ 0 → y.head ≡ head_in y
unfolding head_in
head_first y e = rw (eq-eqb y.from 0 e)

pub head_later : (y : Stretch) → (y.from ≡ 0 → ⊥) → 0 ≡ head_in y
unfolding head_in
head_later y e = rw (ne_eqb y.from 0 e)

-- how much of a stretch stands before the fragment, as numbers
pub record Split (y : Stretch) (k : ℕ) : Type 0 where
  pub small : k ≤ y.head
  pub inner : k ≤ y.size
  pub past : y.head ≤ y.from + k

pub split : (g : Group) (y : Stretch) (k : ℕ) → Fits g y → k ≡ head_in y → Split y k
split g y k f e = go (ℕ_discrete y.from 0)
  where
    go : Dec (y.from ≡ 0) → Split y k
    go (yes z) =
        let q : k ≡ y.head = e ∙ sym (head_first y z) in
        let b : y.head ≤ y.size = f.first z in
        record { small = omega arith; inner = omega arith; past = omega arith }
    go (no z) =
        let q : k ≡ 0 = e ∙ sym (head_later y z) in
        let b : y.head ≤ y.from = f.later z in
        record { small = omega arith; inner = omega arith; past = omega arith }

part_none : (l : List ℕ) (at : ℕ) → part l at 0 ≡ []
unfolding part
part_none l at = refl

-- a part of two lists: from the start on, over the end of the first; or of the second alone
over_both : (x y : List ℕ) (n k : ℕ) → length x ≡ n → n ≤ k → x ++ part y 0 (k - n) ≡ part (x ++ y) 0 k
over_both x y n k e h =
    let a : k ≡ n + (k - n) = omega arith in
    let b : 0 + n ≡ n + 0 = omega arith in
    sym (ap (part (x ++ y) 0) a ∙ part_add (x ++ y) 0 n (k - n) ∙ ap₂ (λ (u v : List ℕ). u ++ v) (part_first x y n e) (ap (λ (i : ℕ). part (x ++ y) i (k - n)) b ∙ part_past x y n 0 (k - n) e))

past_first : (x y : List ℕ) (n from k : ℕ) → length x ≡ n → n ≤ from → part y (from - n) k ≡ part (x ++ y) from k
past_first x y n from k e h =
    let a : n + (from - n) ≡ from = omega arith in
    sym (part_past x y n (from - n) k e) ∙ ap (λ (i : ℕ). part (x ++ y) i k) a

-- what stands before the fragment, and a strip of it, are a stretch of the message
pub stretch_is : (heads : List ℕ) (g : Group) (y : Stretch) (k i : ℕ) → Fits g y → k ≡ head_in y → i < 16 → length heads ≡ 256
    → part heads (16 * i) k ++ regenerated g.desk.now (strip_of g.slots (y.from + k - y.head) (y.size - k)) (points_of g.basis) i ≡ part (message_of_entry heads y.head g i) y.from y.size
stretch_is heads g y k i f e h z = go (ℕ_discrete y.from 0)
  where
    whole : List ℕ
    whole = made_of g i

    before : length (part heads (16 * i) y.head) ≡ y.head
    before = length_part heads (16 * i) y.head (omega (arith, f.head))

    strip : regenerated g.desk.now (strip_of g.slots (y.from + k - y.head) (y.size - k)) (points_of g.basis) i ≡ part whole (y.from + k - y.head) (y.size - k)
    strip = let q = split g y k f e in regenerated_strip g.desk.now g.slots (points_of g.basis) i (y.from + k - y.head) (y.size - k) (omega (arith, q.small, q.inner, q.past, f.inside))

    go : Dec (y.from ≡ 0) → part heads (16 * i) k ++ regenerated g.desk.now (strip_of g.slots (y.from + k - y.head) (y.size - k)) (points_of g.basis) i ≡ part (message_of_entry heads y.head g i) y.from y.size
    go (yes a) =
        let q : k ≡ y.head = e ∙ sym (head_first y a) in
        let o : y.from + k - y.head ≡ 0 = omega arith in
        let n : y.size - k ≡ y.size - y.head = omega arith in
        ap₂ (λ (u v : List ℕ). u ++ v) (ap (part heads (16 * i)) q) (strip ∙ ap₂ (part whole) o n)
        ∙ over_both (part heads (16 * i) y.head) whole y.head y.size before (f.first a)
        ∙ ap (λ (j : ℕ). part (message_of_entry heads y.head g i) j y.size) (sym a)
    go (no a) =
        let q : k ≡ 0 = e ∙ sym (head_later y a) in
        let o : y.from + k - y.head ≡ y.from - y.head = omega arith in
        let n : y.size - k ≡ y.size = omega arith in
        ap₂ (λ (u v : List ℕ). u ++ v) (ap (part heads (16 * i)) q ∙ part_none heads (16 * i)) (strip ∙ ap₂ (part whole) o n)
        ∙ past_first (part heads (16 * i) y.head) whole y.head y.from y.size before (f.later a)

-- ---- the stretches of a group, side by side
-- the strip t of the fragments, and the batch x of the stretches
module _ (t : Slots) (g : Group) (y : Stretch) (k : ℕ) (f : Fits g y) (e : k ≡ head_in y) (et : t ≡ strip_of g.slots (y.from + k - y.head) (y.size - k)) where
  pub strip_short : t.fragment ≤ 192
  strip_short = rw et (omega (arith, f.short))

  pub strip_lies : Sources g.desk.now t (points_of g.basis)
  strip_lies =
      let q = split g y k f e in
      rw et (strip_sources g.desk.now g.slots (points_of g.basis) (y.from + k - y.head) (y.size - k) (omega (arith, q.small, q.inner, q.past, f.inside)) g.sources)

  module _ (x : Batch) (ex : x ≡ batch_in g k t.fragment) where
    pub sizes : x.heads.size + x.bodies.size ≡ y.size
    sizes = rw (ex, et) (omega (arith, (split g y k f e).inner))

    pub lanes_are : x.n ≡ g.n
    lanes_are = ap (λ (b : Batch). b.n) ex

    module _ (heads rows : List ℕ) (z : length heads ≡ 256) (r : Rowed g.desk.now t (points_of g.basis) g.first g.n rows) where
      pub stretches_lie : Lying heads rows x
      stretches_lie =
          rw ex (record {
            of_heads = λ i h. omega (arith, g.hashable.below, f.head, (split g y k f e).small);
            of_bodies = λ i h. omega (arith, g.hashable.few, strip_short, r.long);
          })

      stretch_of : (l : ℕ) → l < g.n → message_of heads rows x l ≡ part (message_of_entry heads y.head g (g.first + l)) y.from y.size
      stretch_of l h =
          let a : 16 * g.first + l * 16 ≡ 16 * (g.first + l) = omega arith in
          let b : 0 + l * 192 ≡ 192 * l = omega arith in
          ap (λ (b : Batch). message_of heads rows b l) ex
          ∙ ap₂ (λ (u v : List ℕ). u ++ v) (ap (λ (i : ℕ). part heads i k) a) (ap (λ (i : ℕ). part rows i t.fragment) b ∙ r.held l h ∙ ap (λ (v : Slots). regenerated g.desk.now v (points_of g.basis) (g.first + l)) et)
          ∙ stretch_is heads g y k (g.first + l) f e (omega (arith, g.hashable.below)) z

      pub taken_in : (old new : List ℕ) → EachLane (λ l. after (lane_of old l) y.blocks (ended y.from (message_of heads rows x l))) x.n old new
          → EachLane (λ l. after (lane_of old l) y.blocks (ended y.from (part (message_of_entry heads y.head g (g.first + l)) y.from y.size))) g.n old new
      taken_in old new u =
          each_as _ _ g.n old new (λ l h. ap (λ (m : List ℕ). after (lane_of old l) y.blocks (ended y.from m)) (stretch_of l h))
          (subst (λ (n : ℕ). EachLane (λ l. after (lane_of old l) y.blocks (ended y.from (message_of heads rows x l))) n old new) lanes_are u)

-- ---- stretch after stretch
module _ (g : Group) (head : ℕ) (b : head ≤ 16) where
  pub fits_whole : (from : ℕ) → from % 192 ≡ 0 → from + 192 < head + g.slots.fragment → Fits g (record { head = head; from = from; size = 192; blocks = 3 })
  fits_whole from z h =
      record {
        head = b;
        inside = omega arith;
        short = omega arith;
        first = λ e. omega arith;
        later = λ e. omega arith;
        whole = omega arith;
        blocks = omega arith;
      }

  pub fits_last : (from n : ℕ) → LastFrom (head + g.slots.fragment) from → n ≡ head + g.slots.fragment - from → Fits g (record { head = head; from = from; size = n; blocks = (n + 72) / 64 })
  fits_last from n l e =
      record {
        head = b;
        inside = omega (arith, l.some);
        short = omega (arith, l.rest);
        first = λ q. omega arith;
        later = λ q. omega (arith, l.whole);
        whole = omega (arith, l.whole);
        blocks = omega arith;
      }

module _ (heads : List ℕ) (g : Group) (head : ℕ) (z : length heads ≡ 256) where
  message_long : (i : ℕ) → i < 16 → head ≤ 16 → length (message_of_entry heads head g i) ≡ head + g.slots.fragment
  message_long i h b =
      length-append (part heads (16 * i) head) (made_of g i)
      ∙ ap₂ (λ (x y : ℕ). x + y) (length_part heads (16 * i) head (omega arith)) (length_regenerated g.desk.now g.slots (points_of g.basis) i g.sources)

  pub taken_none : (old h : List ℕ) → EachLane (λ l. H0) g.n old h → Taken heads head g 0 h
  unfolding after
  taken_none old h u = record { long = u.long; done = u.done }

  -- a stretch more: of whole blocks, or the last
  pub taken_more : (y : Stretch) (k : ℕ) (old new : List ℕ) → Fits g y → y.head ≡ head → k ≡ y.from / 64 + y.blocks
      → (y.size < 64 * y.blocks → y.from + y.size ≡ head + g.slots.fragment)
      → Taken heads head g (y.from / 64) old
      → EachLane (λ l. after (lane_of old l) y.blocks (ended y.from (part (message_of_entry heads y.head g (g.first + l)) y.from y.size))) g.n old new
      → Taken heads head g k new
  taken_more y k old new f e q w t u = record { long = u.long; done = λ l h. more l h }
    where
      more : (l : ℕ) → l < g.n → lane_of new l ≡ after H0 k (ended 0 (message_of_entry heads head g (g.first + l)))
      more l h =
          let m : List ℕ = message_of_entry heads head g (g.first + l) in
          let n : length (message_of_entry heads head g (g.first + l)) ≡ head + g.slots.fragment = message_long (g.first + l) (omega (arith, g.hashable.below)) (omega (arith, f.head)) in
          u.done l h
          ∙ ap (λ (k : ℕ). after (lane_of old l) y.blocks (ended y.from (part (message_of_entry heads k g (g.first + l)) y.from y.size))) e
          ∙ ap (λ (x : State). after x y.blocks (ended y.from (part m y.from y.size))) (t.done l h)
          ∙ after_stretch H0 m y.from y.size y.blocks f.whole (omega (arith, f.inside)) (λ b. w b ∙ sym n)
          ∙ ap (λ (x : ℕ). after H0 x (ended 0 m)) (sym q)

  pub all_taken : (p : Plan) (k : ℕ) (h : List ℕ) → head ≤ 16 → g.first + g.n ≤ 16 → k ≡ (head + g.slots.fragment + 72) / 64 → ((i : ℕ) → i < 16 → part heads (16 * i) head ≡ prefix_of p i)
      → Taken heads head g k h → (l : ℕ) → l < g.n → bytes_of (lane_of h l) ≡ fragment_hash p (g.first + l) (made_of g (g.first + l))
  all_taken p k h b c e q t l i =
      hash_of (message_of_entry heads head g (g.first + l)) (head + g.slots.fragment) (lane_of h l) H0 (message_long (g.first + l) (omega arith) b) refl
      (t.done l i ∙ ap (λ (x : ℕ). after H0 x (ended 0 (message_of_entry heads head g (g.first + l)))) e)
      ∙ hashed p (g.first + l) (part heads (16 * (g.first + l)) head) (made_of g (g.first + l)) (q (g.first + l) (omega arith))
