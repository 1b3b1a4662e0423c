-- Marks and desk as a response set: its size is the number of nodes heard (size_is), its greatest timestamp is the candidate's (max_is), and
-- those that bear it are the candidate's set, where one timestamp is one cross checksum (candidate_set_is). Assumes nothing.
use Prim.Native.Nat.{ℕ, zero, suc, ◌+◌, ◌*◌, ◌≤◌, ◌<◌}
use mathlib.Core.Path.{◌≡◌, refl, sym, ap, ap₂, ◌∙◌, subst}
use mathlib.Core.Bool.{Bool, true, false, cond}
use mathlib.Core.List.{List, [], ◌∷◌, ◌++◌, append-nil}
use mathlib.Core.Logic.{inl, inr}
use native.Mathlib.Nat.{add-zero}
use native.Mathlib.Decide.{ℕ_discrete}
use native.Mathlib.Omega.{arith}
use borrow.Author.Tests.{ne_eqb, eqb-true, eqb-false}
use lib.Dec.{ltb, eqb}
use lib.ListN.{length, take, drop, length-append}
use Rattle.octets.specs.Bytes.{part, num, be, alike, Octets}
use Rattle.octets.proofs.Laws.{part_part, slot_room}
use Rattle.octets.proofs.Meaning.{part_add, be_part, is_alike, not_alike}
use Rattle.terms.proofs.Rungs.{clash}
use Rattle.terms.specs.Stamp.{stamp}
use Rattle.terms.specs.Terms.{larger, record_length, slots_of}
use Rattle.terms.specs.declared.Plan.{Plan}
use Rattle.record.specs.Record.{cross_of}
use Rattle.record.specs.Desk.{slot_of}
use Rattle.terms.proofs.Places.{record_length_lem}
use Rattle.record.proofs.Records.{stamp_at_lem, cross_at}
use Rattle.rounds.specs.declared.Heard.{Heard}
use Rattle.rounds.specs.declared.Heard.TheVariants.{Unheard, First, Record}
use Rattle.std.proofs.Common.{Option, None, Some}
use Rattle.rounds.specs.Rounds.{bit_of, heard_count, mark_of, slot_stamp, ahead_of, step_of, lead_of, joins_of, set_of, every, is_unheard}
use Rattle.report.specs.Triple.{Message, such_that, each, max, In}
use Rattle.report.specs.Figure3.{of_first_triple}
use Rattle.report.specs.Ours.{bearing, response_of, responses}
use Rattle.report.proofs.Lists.{larger_low, larger_high, max_snoc, those_append, each_append, in_append}

-- ---- its size
count_more : (ms : List Heard) (i : ℕ) → heard_count (take (suc i) ms) ≡ heard_count (take i ms) + bit_of (mark_of ms i)
unfolding heard_count
count_more [] zero = refl
count_more [] (suc i) = refl
count_more (m ∷ ms) zero = omega arith
count_more (m ∷ ms) (suc i) = ap (λ (n : ℕ). bit_of m + n) (count_more ms i) ∙ omega arith

count_none : (ms : List Heard) → every is_unheard ms ≡ true → heard_count ms ≡ 0
unfolding heard_count every
count_none [] e = refl
count_none (m ∷ ms) e = go m e (count_none ms)
  where
    go : (h : Heard) → cond (is_unheard h) (every is_unheard ms) false ≡ true → (every is_unheard ms ≡ true → heard_count ms ≡ 0) → bit_of h + heard_count ms ≡ 0
    go Unheard q ih = let e = ih q in omega arith
    go First q ih = absurd (clash (sym q))
    go Record q ih = absurd (clash (sym q))

count_rest : (n : ℕ) (ms : List Heard) → every is_unheard (drop n ms) ≡ true → heard_count (take n ms) ≡ heard_count ms
unfolding heard_count
count_rest zero ms e = sym (count_none ms e)
count_rest (suc n) [] e = refl
count_rest (suc n) (m ∷ ms) e = ap (λ (k : ℕ). bit_of m + k) (count_rest n ms e)

module _ (p : Plan) (ms : List Heard) (d : List ℕ) where
  length_one : (i : ℕ) (h : Heard) → length (response_of p d i h) ≡ bit_of h
  unfolding response_of
  length_one i Unheard = refl
  length_one i First = refl
  length_one i Record = refl

  length_responses : (n : ℕ) → length (responses p ms d n) ≡ heard_count (take n ms)
  unfolding responses heard_count
  length_responses zero = refl
  length_responses (suc n) =
      length-append (responses p ms d n) (response_of p d n (mark_of ms n))
      ∙ ap₂ (λ (a b : ℕ). a + b) (length_responses n) (length_one n (mark_of ms n)) ∙ sym (count_more ms n)

  pub size_is : every is_unheard (drop p.n ms) ≡ true → length (responses p ms d p.n) ≡ heard_count ms
  size_is e = length_responses p.n ∙ count_rest p.n ms e

  -- ---- its greatest timestamp
  abbrev stamps_of : List Message → List ℕ
  stamps_of l = each (λ (x : Message). x.Response.ts) l

  pub slot_stamp_lem : (i : ℕ) → stamp (slot_of p d i) ≡ slot_stamp d (slots_of p) i
  unfolding slot_stamp
  slot_stamp_lem i = stamp_at_lem p d (i * record_length p)

  abbrev lead_stamp : Option ℕ → ℕ
  lead_stamp None = 0
  lead_stamp (Some a) = slot_stamp d (slots_of p) a

  max_step : (n : ℕ) (l : Option ℕ) (xs : List Message) (h : Heard) → max (stamps_of xs) ≡ lead_stamp l
      → max (stamps_of (xs ++ response_of p d n h)) ≡ lead_stamp (step_of d (slots_of p) l n h)
  unfolding response_of step_of each ahead_of
  max_step n l xs Unheard e = ap (λ (k : List Message). max (stamps_of k)) (append-nil xs) ∙ e
  max_step n l xs First e =
      ap max (each_append (λ (x : Message). x.Response.ts) xs _) ∙ max_snoc (stamps_of xs) 0 ∙ larger_low (max (stamps_of xs)) 0 (omega arith) ∙ e
  max_step n l xs Record e =
      ap max (each_append (λ (x : Message). x.Response.ts) xs _) ∙ max_snoc (stamps_of xs) (stamp (slot_of p d n))
      ∙ ap₂ larger e (slot_stamp_lem n) ∙ ahead l
    where
      ahead : (b : Option ℕ) → larger (lead_stamp b) (slot_stamp d (slots_of p) n) ≡ lead_stamp (ahead_of d (slots_of p) b n)
      ahead None = larger_high 0 (slot_stamp d (slots_of p) n) (omega arith)
      ahead (Some b) = go (ltb (slot_stamp d (slots_of p) b) (slot_stamp d (slots_of p) n))
        where
          go : (t : Bool) → cond t (slot_stamp d (slots_of p) n) (slot_stamp d (slots_of p) b) ≡ lead_stamp (cond t (Some n) (Some b))
          go true = refl
          go false = refl

  pub max_is : (n : ℕ) → max (stamps_of (responses p ms d n)) ≡ lead_stamp (lead_of ms d (slots_of p) n)
  unfolding responses lead_of
  max_is zero = unfold each max in refl
  max_is (suc n) = max_step n (lead_of ms d (slots_of p) n) (responses p ms d n) (mark_of ms n) (max_is n)

  -- ---- all say the first triple
  abbrev NoRecord : ℕ → Type 0
  NoRecord n = (i : ℕ) → i < n → mark_of ms i ≡ Record → ⊥

  first_one : (n : ℕ) (h : Heard) → mark_of ms n ≡ h → (mark_of ms n ≡ Record → ⊥)
      → such_that (λ (x : Message). eqb x.Response.ts 0) (response_of p d n h) ≡ response_of p d n h
  unfolding response_of such_that
  first_one n Unheard e k = refl
  first_one n First e k = refl
  first_one n Record e k = absurd (k e)

  pub all_first : (n : ℕ) → NoRecord n → such_that (λ (x : Message). eqb x.Response.ts 0) (responses p ms d n) ≡ responses p ms d n
  unfolding responses
  all_first zero k = unfold such_that in refl
  all_first (suc n) k =
      those_append (λ (x : Message). eqb x.Response.ts 0) (responses p ms d n) (response_of p d n (mark_of ms n))
      ∙ ap₂ (λ (a b : List Message). a ++ b) (all_first n (λ i l. k i (omega arith))) (first_one n (mark_of ms n) refl (k n (omega arith)))

  -- the first of those that bear time 0 bears it
  pub heads_first : (l : List Message) → 1 ≤ length (such_that (λ (x : Message). eqb x.Response.ts 0) l)
      → of_first_triple (such_that (λ (x : Message). eqb x.Response.ts 0) l) ≡ true
  unfolding such_that of_first_triple
  heads_first [] h = absurd (omega arith)
  heads_first (x ∷ l) h = go (eqb x.Response.ts 0) refl h (heads_first l)
    where
      go : (t : Bool) → eqb x.Response.ts 0 ≡ t
          → 1 ≤ length (cond t (x ∷ such_that (λ (x : Message). eqb x.Response.ts 0) l) (such_that (λ (x : Message). eqb x.Response.ts 0) l))
          → (1 ≤ length (such_that (λ (x : Message). eqb x.Response.ts 0) l) → of_first_triple (such_that (λ (x : Message). eqb x.Response.ts 0) l) ≡ true)
          → of_first_triple (cond t (x ∷ such_that (λ (x : Message). eqb x.Response.ts 0) l) (such_that (λ (x : Message). eqb x.Response.ts 0) l)) ≡ true
      go true e k ih = e
      go false e k ih = ih k

  -- ---- the candidate's set
  in_one : (n : ℕ) (h : Heard) → h ≡ Record → In (bearing p d n) (response_of p d n h)
  unfolding response_of
  in_one n Unheard e = absurd (let z : ◌≡◌ {A = ℕ} 0 1 = cc in omega arith)
  in_one n First e = absurd (let z : ◌≡◌ {A = ℕ} 0 1 = cc in omega arith)
  in_one n Record e = inl refl

  -- a node that is marked record has its slot in the response set
  pub in_responses : (n i : ℕ) → i < n → mark_of ms i ≡ Record → In (bearing p d i) (responses p ms d n)
  unfolding responses
  in_responses zero i h e = absurd (omega arith)
  in_responses (suc n) i h e = go (ℕ_discrete i n) (λ l. in_responses n i l e)
    where
      go : Dec (i ≡ n) → (i < n → In (bearing p d i) (responses p ms d n)) → In (bearing p d i) (responses p ms d n ++ response_of p d n (mark_of ms n))
      go (yes q) more =
          in_append (bearing p d i) (responses p ms d n) (response_of p d n (mark_of ms n))
          (inr (subst (λ (k : ℕ). In (bearing p d k) (response_of p d n (mark_of ms n))) (sym q) (in_one n (mark_of ms n) (rw q at e))))
      go (no q) more = in_append (bearing p d i) (responses p ms d n) (response_of p d n (mark_of ms n)) (inl (more (omega arith)))

  module _ (ld : length d ≡ p.n * record_length p) (od : Octets d) where
    -- timestamp and cross checksum are alike exactly where the timestamps are, if one timestamp is one cross checksum
    joins : (i a : ℕ) → i < p.n → a < p.n
        → (slot_stamp d (slots_of p) i ≡ slot_stamp d (slots_of p) a → cross_of p (slot_of p d i) ≡ cross_of p (slot_of p d a))
        → eqb (slot_stamp d (slots_of p) i) (slot_stamp d (slots_of p) a)
        ≡ alike (part d (i * record_length p) (slots_of p).head) (part d (a * record_length p) (slots_of p).head)
    unfolding slot_stamp
    joins i a hi ha one = go (eqb (slot_stamp d (slots_of p) i) (slot_stamp d (slots_of p) a)) refl
      where
        fits : (k : ℕ) → k < p.n → k * record_length p + 40 ≤ length d
        fits k h = omega (arith, slot_room k p.n (record_length p) (length d) h (omega (arith, ld)), record_length_lem p)

        go : (t : Bool) → eqb (slot_stamp d (slots_of p) i) (slot_stamp d (slots_of p) a) ≡ t
            → t ≡ alike (part d (i * record_length p) (slots_of p).head) (part d (a * record_length p) (slots_of p).head)
        go true e =
            let z : num (part d (i * record_length p) 40) ≡ num (part d (a * record_length p) 40) = eqb-true _ _ e in
            let s : part d (i * record_length p) 40 ≡ part d (a * record_length p) 40 =
            sym (be_part d (i * record_length p) 40 (fits i hi) od) ∙ ap (be 40) z ∙ be_part d (a * record_length p) 40 (fits a ha) od in
            let c : part d (i * record_length p + 40) (32 * p.n) ≡ part d (a * record_length p + 40) (32 * p.n) =
            sym (cross_at p d (i * record_length p)) ∙ one z ∙ cross_at p d (a * record_length p) in
            sym (is_alike _ _ (part_add d (i * record_length p) 40 (32 * p.n) ∙ ap₂ (λ (x y : List ℕ). x ++ y) s c ∙ sym (part_add d (a * record_length p) 40 (32 * p.n))))
        go false e = sym (not_alike _ _ (λ q. eqb-false _ _ e (ap num (sym (start i) ∙ ap (λ (l : List ℕ). part l 0 40) q ∙ start a))))
          where
            start : (k : ℕ) → part (part d (k * record_length p) (slots_of p).head) 0 40 ≡ part d (k * record_length p) 40
            start k = part_part d (k * record_length p) (slots_of p).head 0 40 (omega arith) ∙ ap (λ (j : ℕ). part d j 40) (add-zero (k * record_length p))

    module _ (a m : ℕ) (ha : a < p.n) (em : m ≡ slot_stamp d (slots_of p) a) (low : 1 ≤ m)
        (one : (i : ℕ) → i < p.n → mark_of ms i ≡ Record → slot_stamp d (slots_of p) i ≡ slot_stamp d (slots_of p) a
        → cross_of p (slot_of p d i) ≡ cross_of p (slot_of p d a)) where
      abbrev bears : List Message → List Message
      bears l = such_that (λ (x : Message). eqb x.Response.ts m) l

      set_step : (n : ℕ) (qs : List ℕ) (h : Heard) → mark_of ms n ≡ h → n < p.n → bears (responses p ms d n) ≡ each (bearing p d) qs
          → bears (responses p ms d n ++ response_of p d n h)
          ≡ each (bearing p d) (cond (joins_of d (slots_of p) a n h) (qs ++ (n ∷ [])) qs)
      unfolding response_of joins_of such_that each
      set_step n qs Unheard e hn ih = ap bears (append-nil (responses p ms d n)) ∙ ih
      set_step n qs First e hn ih =
          those_append (λ (x : Message). eqb x.Response.ts m) (responses p ms d n) _
          ∙ rw (ne_eqb 0 m (λ z. omega arith)) (append-nil (bears (responses p ms d n)) ∙ ih)
      set_step n qs Record e hn ih =
          those_append (λ (x : Message). eqb x.Response.ts m) (responses p ms d n) _
          ∙ ap (λ (b : Bool). bears (responses p ms d n) ++ cond b (bearing p d n ∷ []) []) test
          ∙ go (alike (part d (n * record_length p) (slots_of p).head) (part d (a * record_length p) (slots_of p).head))
        where
          test : eqb (stamp (slot_of p d n)) m ≡ alike (part d (n * record_length p) (slots_of p).head) (part d (a * record_length p) (slots_of p).head)
          test = ap₂ eqb (slot_stamp_lem n) em ∙ joins n a hn ha (one n hn e)

          go : (t : Bool) → bears (responses p ms d n) ++ cond t (bearing p d n ∷ []) [] ≡ each (bearing p d) (cond t (qs ++ (n ∷ [])) qs)
          go true = ap (λ (l : List Message). l ++ (bearing p d n ∷ [])) ih ∙ sym (each_append (bearing p d) qs (n ∷ []))
          go false = append-nil (bears (responses p ms d n)) ∙ ih

      pub candidate_set_is : (n : ℕ) → n ≤ p.n → bears (responses p ms d n) ≡ each (bearing p d) (set_of ms d (slots_of p) a n)
      unfolding responses set_of
      candidate_set_is zero h = unfold such_that each in refl
      candidate_set_is (suc n) h =
          set_step n (set_of ms d (slots_of p) a n) (mark_of ms n) refl (omega arith) (candidate_set_is n (omega arith))
