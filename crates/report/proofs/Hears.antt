-- One turn of DO_READ's loop. Its tests are the client's: VALIDATE is the hash checks of refusal 6 (valid_record), the bound's test that of
-- refusal 12 (in_time_is), and S is in the set exactly where refusal 11 finds the node heard (heard_has, unheard_has). What fails one of them
-- is left out (heard_hears, hash_hears, late_hears); what passes all is put in (puts), and the response set of the marks after it is that set
-- (record_after, first_after). Assumes nothing.
use Prim.{Unit, tt}
use Prim.Native.Nat.{ℕ, zero, suc, ◌*◌, ◌≤◌, ◌<◌}
use mathlib.Core.Path.{◌≡◌, refl, sym, ap, ◌∙◌, subst}
use mathlib.Core.Bool.{Bool, true, false, cond}
use mathlib.Core.List.{List, [], ◌∷◌, ◌++◌, append-nil}
use native.Mathlib.Decide.{ℕ_discrete}
use native.Mathlib.Omega.{arith}
use borrow.Author.Tests.{lt-ltb, le-ltb, leb-true, eq-eqb, ne_eqb}
use lib.Dec.{ltb, leb, eqb}
use lib.ListN.{length, set}
use Rattle.octets.specs.Bytes.{put, alike, Octets}
use Rattle.terms.specs.Stamp.{stamp, time, then, stamp_number}
use Rattle.terms.specs.Terms.{record_length}
use Rattle.terms.specs.declared.Plan.{Plan}
use Rattle.terms.proofs.Rungs.{both, clash}
use Rattle.terms.proofs.Picks.{either}
use Rattle.terms.proofs.Small.{strict}
use Rattle.record.specs.Record.{hashes_ok}
use Rattle.record.specs.Desk.{slot_of}
use Rattle.rounds.specs.declared.Heard.{Heard}
use Rattle.rounds.specs.declared.Heard.TheVariants.{Unheard, First, Record}
use Rattle.std.proofs.Common.{Option, None, Some}
use Rattle.terms.specs.declared.Timestamp.{Timestamp}
use Rattle.rounds.specs.Rounds.{bit_of, mark_of, under_of}
use Rattle.rounds.proofs.Laws.{mark_set, mark_other}
use Rattle.standing.specs.Standing.{bound_ok}
use Rattle.report.specs.Triple.{Message}
use Rattle.report.specs.Figure1.{initial}
use Rattle.report.specs.Figure3.{Command, validate, in_time, has, with_it, receives}
use Rattle.report.specs.Ours.{family, triple_of, response_of, responses, command_of}
use Rattle.report.proofs.Triples.{stamp_low, validate_is}
use Rattle.client.proofs.Slots.{slot_own, slot_other}

-- ---- the four tests
module _ (p : Plan) (command : Command) (R : List Message) (x : Message) where
  pub puts : validate (family p) x ≡ true → in_time command x.Response.ts ≡ true → has x.S R ≡ false → receives (family p) command R x ≡ with_it x R
  unfolding receives
  puts v t h = rw (v, t, h)

  -- heard already
  pub heard_hears : has x.S R ≡ true → receives (family p) command R x ≡ R
  unfolding receives
  heard_hears h = rw h (go (validate (family p) x) (in_time command x.Response.ts))
    where
      go : (a b : Bool) → cond a (cond b R R) R ≡ R
      go true true = refl
      go true false = refl
      go false b = refl

  -- not valid
  pub hash_hears : validate (family p) x ≡ false → receives (family p) command R x ≡ R
  unfolding receives
  hash_hears v = rw v

  -- not below the bound
  pub late_hears : in_time command x.Response.ts ≡ false → receives (family p) command R x ≡ R
  unfolding receives
  late_hears t = rw t (go (validate (family p) x))
    where
      go : (a : Bool) → cond a R R ≡ R
      go true = refl
      go false = refl

-- what a reply says: its node, and its record or the first triple
abbrev pub said_by : Plan → ℕ → List ℕ → Message
said_by p k rec = record { S = k; Response = triple_of p rec }

abbrev pub said_first : ℕ → Message
said_first k = record { S = k; Response = initial }

-- VALIDATE of a record is the two hash checks, of the first triple it is TRUE
module _ (p : Plan) (k : ℕ) where
  pub valid_record : (rec : List ℕ) → 40 ≤ length rec → Octets rec → 1 ≤ time rec → validate (family p) (said_by p k rec) ≡ hashes_ok p k rec
  unfolding validate
  valid_record rec l o t =
      let z = stamp_low rec t in
      rw (ne_eqb (stamp rec) 0 (λ e. omega (arith, e, z))) (validate_is p k rec l o)

  pub valid_first : validate (family p) (said_first k) ≡ true
  unfolding validate alike
  valid_first = refl

-- below the bound, as the client's check 12 has it
pub in_time_is : (b : Option Timestamp) (ts : ℕ) → in_time (command_of b) ts ≡ under_of b ts
unfolding in_time under_of
in_time_is None ts = refl
in_time_is (Some u) ts = refl

then_low : (x y : ℕ) → 1 ≤ x → 1 ≤ then x y
unfolding then
then_low x y h = omega arith

-- the first triple is below every bound of a session in its ranges
pub first_in_time : (b : Option Timestamp) (round : ℕ) → bound_ok b round ≡ true → in_time (command_of b) 0 ≡ true
unfolding in_time stamp_number
first_in_time None round e = refl
first_in_time (Some u) round e =
    let t : 1 ≤ u.time.0 = leb-true 1 u.time.0 (both (ltb 1 round) (leb 1 u.time.0) e).1 in
    let v = u.verifier in
    lt-ltb 0 _ (then_low _ v.3 (then_low _ v.2 (then_low _ v.1 (then_low u.time.0 v.0 t))))

-- ---- the response set after a mark
module _ (p : Plan) (ms : List Heard) (d : List ℕ) where
  -- a node that is unheard has no response
  has_append : (k : ℕ) (l m : List Message) → has k (l ++ m) ≡ cond (has k l) true (has k m)
  unfolding has
  has_append k [] m = refl
  has_append k (x ∷ l) m = go (eqb x.S k) (has_append k l m)
    where
      go : (t : Bool) → has k (l ++ m) ≡ cond (has k l) true (has k m) → cond t true (has k (l ++ m)) ≡ cond (cond t true (has k l)) true (has k m)
      go true e = refl
      go false e = e

  has_one : (k n : ℕ) (h : Heard) → mark_of ms n ≡ h → mark_of ms k ≡ Unheard → has k (response_of p d n h) ≡ false
  unfolding response_of has
  has_one k n Unheard m u = refl
  has_one k n First m u = rw (ne_eqb n k (λ e. not_both (sym m ∙ ap (mark_of ms) e ∙ u)))
    where
      not_both : First ≡ Unheard → ⊥
      not_both e = let z : ◌≡◌ {A = ℕ} 0 1 = cc in omega arith
  has_one k n Record m u = rw (ne_eqb n k (λ e. not_both (sym m ∙ ap (mark_of ms) e ∙ u)))
    where
      not_both : Record ≡ Unheard → ⊥
      not_both e = let z : ◌≡◌ {A = ℕ} 0 1 = cc in omega arith

  pub unheard_has : (k n : ℕ) → mark_of ms k ≡ Unheard → has k (responses p ms d n) ≡ false
  unfolding responses
  unheard_has k zero u = unfold has in refl
  unheard_has k (suc n) u =
      has_append k (responses p ms d n) (response_of p d n (mark_of ms n)) ∙ rw (unheard_has k n u) (has_one k n (mark_of ms n) refl u)

  -- a node that is heard has one
  one_has : (k : ℕ) (h : Heard) → eqb (bit_of h) 1 ≡ true → has k (response_of p d k h) ≡ true
  unfolding response_of has
  one_has k Unheard e = absurd (clash (sym e))
  one_has k First e = rw (eq-eqb k k refl)
  one_has k Record e = rw (eq-eqb k k refl)

  pub heard_has : (k n : ℕ) → k < n → eqb (bit_of (mark_of ms k)) 1 ≡ true → has k (responses p ms d n) ≡ true
  unfolding responses
  heard_has k zero h e = absurd (omega arith)
  heard_has k (suc n) h e = has_append k (responses p ms d n) (response_of p d n (mark_of ms n)) ∙ go (ℕ_discrete k n) (λ l. heard_has k n l e)
    where
      go : Dec (k ≡ n) → (k < n → has k (responses p ms d n) ≡ true) → cond (has k (responses p ms d n)) true (has k (response_of p d n (mark_of ms n))) ≡ true
      go (yes q) more =
          let w : has k (response_of p d n (mark_of ms n)) ≡ true = subst (λ (j : ℕ). has k (response_of p d j (mark_of ms j)) ≡ true) q (one_has k (mark_of ms k) e) in
          rw w (either (λ (b : Bool). b ≡ true) (has k (responses p ms d n)) refl refl)
      go (no q) more = rw (more (omega arith))

-- ---- the list of a set goes by node number
abbrev Below : ℕ → List Message → Type 0
Below n [] = Unit {0}
Below n (y ∷ ys) = (y.S < n) × Below n ys

below_more : (n m : ℕ) (A : List Message) → n ≤ m → Below n A → Below m A
below_more n m [] h b = tt
below_more n m (y ∷ A) h b = (omega (arith, b.0, h), below_more n m A h b.1)

below_append : (n : ℕ) (A B : List Message) → Below n A → Below n B → Below n (A ++ B)
below_append n [] B a b = b
below_append n (y ∷ A) B a b = (a.0, below_append n A B a.1 b)

-- one above all goes last; one above x stays behind it
last_with : (x : Message) (A : List Message) → Below x.S A → with_it x A ≡ A ++ (x ∷ [])
unfolding with_it
last_with x [] b = refl
last_with x (y ∷ A) b = rw (lt-ltb y.S x.S b.0) (ap (λ (l : List Message). y ∷ l) (last_with x A b.1))

snoc_with : (x y : Message) (A : List Message) → x.S < y.S → with_it x (A ++ (y ∷ [])) ≡ with_it x A ++ (y ∷ [])
unfolding with_it
snoc_with x y [] h = rw (le-ltb y.S x.S (omega arith))
snoc_with x y (z ∷ A) h = go (ltb z.S x.S) (snoc_with x y A h)
  where
    go : (t : Bool) → with_it x (A ++ (y ∷ [])) ≡ with_it x A ++ (y ∷ [])
        → cond t (z ∷ with_it x (A ++ (y ∷ []))) (x ∷ z ∷ (A ++ (y ∷ []))) ≡ cond t (z ∷ with_it x A) (x ∷ z ∷ A) ++ (y ∷ [])
    go true e = ap (λ (l : List Message). z ∷ l) e
    go false e = refl

module _ (p : Plan) (d : List ℕ) where
  one_below : (k : ℕ) (h : Heard) → Below (suc k) (response_of p d k h)
  unfolding response_of
  one_below k Unheard = tt
  one_below k First = (omega arith, tt)
  one_below k Record = (omega arith, tt)

  with_one : (x : Message) (A : List Message) (k : ℕ) (h : Heard) → x.S < k → with_it x (A ++ response_of p d k h) ≡ with_it x A ++ response_of p d k h
  unfolding response_of
  with_one x A k Unheard l = ap (with_it x) (append-nil A) ∙ sym (append-nil (with_it x A))
  with_one x A k First l = snoc_with x (said_first k) A l
  with_one x A k Record l = snoc_with x (said_by p k (slot_of p d k)) A l

  responses_below : (ms : List Heard) (n : ℕ) → Below n (responses p ms d n)
  unfolding responses
  responses_below ms zero = tt
  responses_below ms (suc n) =
      below_append (suc n) (responses p ms d n) (response_of p d n (mark_of ms n)) (below_more n (suc n) (responses p ms d n) (omega arith) (responses_below ms n))
      (one_below n (mark_of ms n))

-- a mark is set and a desk handed back, in which the other nodes are as they were
module _ (p : Plan) (ms ms₂ : List Heard) (d d₂ : List ℕ) (i : ℕ) (x : Message) (at : x.S ≡ i) (u : mark_of ms i ≡ Unheard)
    (own : response_of p d₂ i (mark_of ms₂ i) ≡ x ∷ [])
    (other : (k : ℕ) → k < p.n → (k ≡ i → ⊥) → response_of p d₂ k (mark_of ms₂ k) ≡ response_of p d k (mark_of ms k)) where
  before_it : (n : ℕ) → n ≤ i → n ≤ p.n → responses p ms₂ d₂ n ≡ responses p ms d n
  unfolding responses
  before_it zero h l = refl
  before_it (suc n) h l = λ j. before_it n (omega arith) (omega arith) j ++ other n (omega arith) (λ e. omega arith) j

  pub after_is : (n : ℕ) → i < n → n ≤ p.n → responses p ms₂ d₂ n ≡ with_it x (responses p ms d n)
  unfolding responses
  after_is zero h l = absurd (omega arith)
  after_is (suc n) h l = go (ℕ_discrete i n) (λ k. after_is n k (omega arith))
    where
      none : i ≡ n → response_of p d n (mark_of ms n) ≡ []
      none q = ap (λ (k : ℕ). response_of p d k (mark_of ms k)) (sym q) ∙ ap (response_of p d i) u ∙ unfold response_of in refl

      go : Dec (i ≡ n) → (i < n → responses p ms₂ d₂ n ≡ with_it x (responses p ms d n))
          → responses p ms₂ d₂ n ++ response_of p d₂ n (mark_of ms₂ n) ≡ with_it x (responses p ms d n ++ response_of p d n (mark_of ms n))
      go (yes q) more =
          (λ j. before_it n (omega (arith, q)) (omega arith) j ++ (ap (λ (k : ℕ). response_of p d₂ k (mark_of ms₂ k)) (sym q) ∙ own) j)
          ∙ sym (last_with x (responses p ms d n) (subst (λ (k : ℕ). Below k (responses p ms d n)) (sym (at ∙ q)) (responses_below p d ms n)))
          ∙ ap (with_it x) (sym (ap (λ (l : List Message). responses p ms d n ++ l) (none q) ∙ append-nil (responses p ms d n)))
      go (no q) more =
          let lower : i < n = strict i n (omega arith) q in
          (λ j. more lower j ++ other n (omega arith) (λ e. q (sym e)) j)
          ∙ sym (with_one p d x (responses p ms d n) n (mark_of ms n) (omega (arith, at, lower)))

-- the response of a node goes by its slot
response_slot : (p : Plan) (d d₂ : List ℕ) (k : ℕ) (h : Heard) → slot_of p d₂ k ≡ slot_of p d k → response_of p d₂ k h ≡ response_of p d k h
unfolding response_of
response_slot p d d₂ k Unheard e = refl
response_slot p d d₂ k First e = refl
response_slot p d d₂ k Record e = ap (λ (x : List ℕ). said_by p k x ∷ []) e

module _ (p : Plan) (ms : List Heard) (d : List ℕ) (i : ℕ) (hi : i < p.n) (inside : i < length ms) (u : mark_of ms i ≡ Unheard) where
  pub first_after : responses p (set ms i First) d p.n ≡ with_it (said_first i) (responses p ms d p.n)
  unfolding response_of
  first_after =
      after_is p ms (set ms i First) d d i (said_first i) refl u
      (ap (response_of p d i) (mark_set ms i First inside))
      (λ k hk q. ap (response_of p d k) (mark_other ms i k First q)) p.n hi (omega arith)

  pub record_after : (rec : List ℕ) → length d ≡ p.n * record_length p → length rec ≡ record_length p
      → responses p (set ms i Record) (put d (i * record_length p) rec) p.n ≡ with_it (said_by p i rec) (responses p ms d p.n)
  unfolding response_of
  record_after rec ld lr =
      after_is p ms (set ms i Record) d (put d (i * record_length p) rec) i (said_by p i rec) refl u
      (ap (response_of p (put d (i * record_length p) rec) i) (mark_set ms i Record inside)
      ∙ ap (λ (x : List ℕ). said_by p i x ∷ []) (slot_own d rec (record_length p) p.n i ld lr hi))
      (λ k hk q. ap (response_of p (put d (i * record_length p) rec) k) (mark_other ms i k Record q)
      ∙ response_slot p d (put d (i * record_length p) rec) k (mark_of ms k) (slot_other d rec (record_length p) p.n i ld lr hi k q)) p.n hi (omega arith)
