-- The desk after it was filled in place. Slots are written one after the other, each from the desk so far; a source's slot is never
-- written, and a record is made of sources alone: so each record is the one of the desk as it was.
--   each_source          what holds of each that is among a list holds of all of it
--   slot_stays           a record put into one slot leaves every other slot
--   length_filled        the desk keeps its length
--   filled_slot          slot k is as it was where k is a source, and else record k of the desk as it was
--   filled_record        where the sources' heads are alike, slot k is record k of the desk as it was, for every k
-- Assumes nothing.
use mathlib.Core.Path.{◌≡◌, refl, sym, ap, ap₂, ◌∙◌}
use mathlib.Core.Bool.{Bool, true, false, cond}
use mathlib.Core.List.{List, [], ◌∷◌, ◌++◌}
use Prim.Native.Nat.{ℕ, zero, suc, ◌+◌, ◌*◌, ◌≤◌, ◌<◌}
use native.Mathlib.Decide.{ℕ_discrete}
use native.Mathlib.Omega.{arith}
use borrow.Author.Tests.{ltb-true, ltb-false, eq-eqb}
use lib.Dec.{eqb, ltb}
use lib.ListN.{length, get_or, length-append}
use Rattle.octets.specs.Bytes.{part, put}
use Rattle.octets.proofs.Laws.{length_part, length_put, part_part, part_put_same, part_put_before, part_put_after, slot_room, slot_fits}
use Rattle.octets.proofs.Meaning.{get_d_part, part_add}
use Rattle.terms.specs.declared.Slots.{Slots}
use Rattle.terms.specs.Terms.{slot_at, fragment_at}
use Rattle.fragments.specs.Fragments.{All, among, tabulate, value, regenerated, Sources}
use Rattle.fragments.proofs.Lists.{tabulate_ext, all_at}
use Rattle.fragments.proofs.Interp.{all_map, value_ext}
use Rattle.fragments.proofs.Laws.{among_all, length_regenerated}
use Rattle.recover.specs.Recover.{record_from, slot_filled, refilled}

-- ---- lists
pub each_source : (P : ℕ → Type 0) (qs : List ℕ) → ((q : ℕ) → among q qs ≡ true → P q) → All P qs
unfolding among
each_source P [] g = tt
each_source P (q ∷ qs) g = (g q (rw (eq-eqb q q refl)), each_source P qs (λ k s. g k (later k (eqb q k) s)))
  where
    later : (k : ℕ) (t : Bool) → among k qs ≡ true → cond t true (among k qs) ≡ true
    later k true s = refl
    later k false s = s

-- ---- slots
-- what lies in slot k, from its byte at on, is not touched by a record put into slot j
pub slot_stays : (d x : List ℕ) (r j k : ℕ) → length x ≡ r → j * r + r ≤ length d → (k ≡ j → ⊥) → (at n : ℕ) → at + n ≤ r
    → part (put d (j * r) x) (k * r + at) n ≡ part d (k * r + at) n
slot_stays d x r j k lx fits ne at n u = side (ltb k j) refl
  where
    side : (t : Bool) → ltb k j ≡ t → part (put d (j * r) x) (k * r + at) n ≡ part d (k * r + at) n
    side true w =
        let q = slot_fits k j r (ltb-true k j w) in
        part_put_before d (j * r) x (k * r + at) n (omega arith) (omega arith)
    side false w =
        let v : j ≤ k = ltb-false k j w in
        let y : j < k = omega arith in
        let q = slot_fits j k r y in
        part_put_after d (j * r) x (k * r + at) n (omega arith) (omega arith)

-- slots that are equal have equal parts
slot_part : (d e : List ℕ) (r k at n y : ℕ) → y ≡ k * r + at → part e (k * r) r ≡ part d (k * r) r → at + n ≤ r → part e y n ≡ part d y n
slot_part d e r k at n y w s u =
    rw w (sym (part_part e (k * r) r at n u) ∙ ap (λ (l : List ℕ). part l at n) s ∙ part_part d (k * r) r at n u)

module _ (d : List ℕ) (slots : Slots) (qs : List ℕ) (a n : ℕ) (sz : slots.size ≡ slots.head + slots.fragment) (room : n * slots.size ≤ length d)
    (below : All (λ (q : ℕ). q < n) qs) (lead : among a qs ≡ true) where
  source_low : (k : ℕ) → among k qs ≡ true → k < n
  source_low k s = among_all (λ (q : ℕ). q < n) k qs (all_at (λ (q : ℕ). q < n) qs below) s

  within : Sources d slots qs
  within k l = let y = slot_room (get_or qs k 0) n slots.size (length d) (all_at (λ (q : ℕ). q < n) qs below k l) room in omega (arith, y)

  record_long : (k : ℕ) → length (record_from d slots qs a k) ≡ slots.size
  record_long k =
      let y = slot_room a n slots.size (length d) (source_low a lead) room in
      length-append (part d (slot_at slots a) slots.head) (regenerated d slots qs k)
      ∙ ap₂ ◌+◌ (length_part d (slot_at slots a) slots.head (omega (arith, y))) (length_regenerated d slots qs k within) ∙ sym sz

  -- a record is made of the sources' slots alone
  module _ (e : List ℕ) (kept : (q : ℕ) → among q qs ≡ true → part e (slot_at slots q) slots.size ≡ part d (slot_at slots q) slots.size) where
    same_fragment : (k : ℕ) → regenerated e slots qs k ≡ regenerated d slots qs k
    same_fragment k = unfold regenerated in go (among k qs) refl
      where
        byte : (i : ℕ) → i < slots.fragment → (q : ℕ) → part e (slot_at slots q) slots.size ≡ part d (slot_at slots q) slots.size → get_or e (fragment_at slots q + i) 0 ≡ get_or d (fragment_at slots q + i) 0
        byte i u q s =
            let z : fragment_at slots q + i ≡ slot_at slots q + (slots.head + i) = omega arith in
            rw z (sym (get_d_part e (slot_at slots q) slots.size (slots.head + i) (omega arith)) ∙ ap (λ (l : List ℕ). get_or l (slots.head + i) 0) s ∙ get_d_part d (slot_at slots q) slots.size (slots.head + i) (omega arith))

        go : (t : Bool) → among k qs ≡ t
            → cond t (part e (fragment_at slots k) slots.fragment) (tabulate slots.fragment (λ i. value qs (λ p. get_or e (fragment_at slots p + i) 0) k))
            ≡ cond t (part d (fragment_at slots k) slots.fragment) (tabulate slots.fragment (λ i. value qs (λ p. get_or d (fragment_at slots p + i) 0) k))
        go true s = slot_part d e slots.size k slots.head slots.fragment (fragment_at slots k) (omega arith) (kept k s) (omega arith)
        go false s =
            tabulate_ext slots.fragment (λ i. value qs (λ p. get_or e (fragment_at slots p + i) 0) k) (λ i. value qs (λ p. get_or d (fragment_at slots p + i) 0) k)
            (λ i u. value_ext qs (λ p. get_or e (fragment_at slots p + i) 0) (λ p. get_or d (fragment_at slots p + i) 0) k
            (all_map (λ q z. byte i u q z) qs (each_source (λ (q : ℕ). part e (slot_at slots q) slots.size ≡ part d (slot_at slots q) slots.size) qs kept)))

    same_record : (k : ℕ) → record_from e slots qs a k ≡ record_from d slots qs a k
    same_record k = ap₂ ◌++◌ (slot_part d e slots.size a 0 slots.head (slot_at slots a) (omega arith) (kept a lead) (omega arith)) (same_fragment k)

  -- slot k as it is to be
  abbrev made : ℕ → List ℕ
  made k = cond (among k qs) (part d (slot_at slots k) slots.size) (record_from d slots qs a k)

  -- the desk with j slots done: those below j as they are to be, the others as they were
  record Upto (e : List ℕ) (j : ℕ) : Type 0 where
    long : length e ≡ length d
    slots_done : (k : ℕ) → k < j → part e (slot_at slots k) slots.size ≡ made k
    slots_left : (k : ℕ) → j ≤ k → k < n → part e (slot_at slots k) slots.size ≡ part d (slot_at slots k) slots.size

  kept_so_far : (e : List ℕ) (j : ℕ) → Upto e j → (k : ℕ) → among k qs ≡ true → part e (slot_at slots k) slots.size ≡ part d (slot_at slots k) slots.size
  kept_so_far e j u k s = side (ltb k j) refl
    where
      side : (t : Bool) → ltb k j ≡ t → part e (slot_at slots k) slots.size ≡ part d (slot_at slots k) slots.size
      side true w = u.slots_done k (ltb-true k j w) ∙ rw s
      side false w = u.slots_left k (ltb-false k j w) (source_low k s)

  step : (e : List ℕ) (j : ℕ) → j < n → Upto e j → (t : Bool) → among j qs ≡ t → Upto (cond t e (put e (slot_at slots j) (record_from e slots qs a j))) (suc j)
  step e j jn u true s =
      record {
        long = u.long;
        slots_done = λ k l. at k l (ℕ_discrete k j);
        slots_left = λ k l kn. u.slots_left k (omega arith) kn;
      }
    where
      at : (k : ℕ) → k < suc j → Dec (k ≡ j) → part e (slot_at slots k) slots.size ≡ made k
      at k l (yes q) = rw (q, s) (u.slots_left j (omega arith) jn)
      at k l (no q) = u.slots_done k (omega arith)
  step e j jn u false s =
      record {
        long = length_put e (slot_at slots j) x (omega (arith, u.long, lx, fits)) ∙ u.long;
        slots_done = λ k l. at k l (ℕ_discrete k j);
        slots_left = λ k l kn. other k (λ q. omega arith) ∙ u.slots_left k (omega arith) kn;
      }
    where
      x : List ℕ
      x = record_from e slots qs a j

      ex : x ≡ record_from d slots qs a j
      ex = same_record e (kept_so_far e j u) j

      lx : length x ≡ slots.size
      lx = ap length ex ∙ record_long j

      fits : slot_at slots j + slots.size ≤ length e
      fits = let y = slot_room j n slots.size (length d) jn room in omega (arith, y, u.long)

      other : (k : ℕ) → (k ≡ j → ⊥) → part (put e (slot_at slots j) x) (slot_at slots k) slots.size ≡ part e (slot_at slots k) slots.size
      other k ne =
          let z : slot_at slots k ≡ slot_at slots k + 0 = omega arith in
          ap (λ (y : ℕ). part (put e (slot_at slots j) x) y slots.size) z ∙ slot_stays e x slots.size j k lx fits ne 0 slots.size (omega arith) ∙ ap (λ (y : ℕ). part e y slots.size) (sym z)

      at : (k : ℕ) → k < suc j → Dec (k ≡ j) → part (put e (slot_at slots j) x) (slot_at slots k) slots.size ≡ made k
      at k l (yes q) = rw (q, s) (part_put_same e (slot_at slots j) x slots.size lx (omega (arith, fits)) ∙ ex)
      at k l (no q) = other k q ∙ u.slots_done k (omega arith)

  upto : (j : ℕ) → j ≤ n → Upto (refilled d slots qs a j) j
  unfolding refilled slot_filled
  upto zero l = record { long = refl; slots_done = λ k u. absurd (omega arith); slots_left = λ k u kn. refl }
  upto (suc j) l = step (refilled d slots qs a j) j l (upto j (omega arith)) (among j qs) refl

  pub length_filled : length (refilled d slots qs a n) ≡ length d
  length_filled = (upto n (omega arith)).long

  pub filled_slot : (k : ℕ) → k < n
      → part (refilled d slots qs a n) (slot_at slots k) slots.size ≡ cond (among k qs) (part d (slot_at slots k) slots.size) (record_from d slots qs a k)
  filled_slot k l = (upto n (omega arith)).slots_done k l

  -- a source's slot is its record already, where its head is the lead's
  pub filled_record : All (λ (q : ℕ). part d (slot_at slots q) slots.head ≡ part d (slot_at slots a) slots.head) qs → (k : ℕ) → k < n
      → part (refilled d slots qs a n) (slot_at slots k) slots.size ≡ record_from d slots qs a k
  filled_record heads k l = filled_slot k l ∙ go (among k qs) refl
    where
      own : among k qs ≡ true → part d (slot_at slots k) slots.size ≡ record_from d slots qs a k
      own s =
          let z : slot_at slots k + slots.head ≡ fragment_at slots k = omega arith in
          ap (part d (slot_at slots k)) sz ∙ part_add d (slot_at slots k) slots.head slots.fragment
          ∙ ap₂ ◌++◌ (among_all (λ (q : ℕ). part d (slot_at slots q) slots.head ≡ part d (slot_at slots a) slots.head) k qs (all_at (λ (q : ℕ). part d (slot_at slots q) slots.head ≡ part d (slot_at slots a) slots.head) qs heads) s)
          (ap (λ (y : ℕ). part d y slots.fragment) z ∙ unfold regenerated in rw s)

      go : (t : Bool) → among k qs ≡ t → cond t (part d (slot_at slots k) slots.size) (record_from d slots qs a k) ≡ record_from d slots qs a k
      go true s = own s
      go false s = refl
