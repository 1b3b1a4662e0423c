-- What the lengths of a call give, and how a call answers. Assumes nothing.
use Prim.Native.Nat.{ℕ, zero, suc, ◌+◌, ◌-◌, ◌*◌, ◌^◌, ◌<◌, ◌≤◌}
use mathlib.Core.Path.{◌≡◌, refl, sym, ◌∙◌}
use mathlib.Core.List.{List, [], ◌∷◌}
use mathlib.Core.Bool.{Bool, true, false, not}
use native.Mathlib.Nat.{mul-le-mul, not-suc-le-zero}
use native.Mathlib.Numerals.{add-one}
use native.Mathlib.Omega.{arith}
use lib.ListN.{length, get_or, take, drop, drop_of_length-le, length-drop}
use lib.Seq.{drop-cons, take-length}
use lib.Dec.{eqb}
use borrow.Author.Tests.{lt-ltb, ltb-true, le-leb, leb-true, eq-eqb, eqb-true}
use Rattle.octets.proofs.Laws.{slot_fits}
use Rattle.terms.specs.Ladder.{all}
use Rattle.terms.specs.Terms.{fragment_at, runs_of}
use Rattle.terms.proofs.Rungs.{both}
use Rattle.terms.proofs.Plans.{not_ok}
use Rattle.fragments.specs.Fragments.{among, Sources}
use Rattle.primitives.specs.Calls.{Told, hash_fits, runs_fit, hashes_fit, encode_fits, apart, named, decode_fits}

module _ (fits : Bool) (new before : List ℕ) where
  pub done : fits ≡ true → {after : List ℕ} → after ≡ new → Told fits new 0 before after
  done e h = rw e (record { number = refl; bytes = h })

  pub refused : fits ≡ false → Told fits new 2 before before
  refused e = rw e (record { number = refl; bytes = refl })

  -- two outcomes that the contract allows are equal
  pub told_unique : (r r' : ℕ) (after after' : List ℕ) → Told fits new r before after → Told fits new r' before after' → (r ≡ r') × (after ≡ after')
  told_unique r r' after after' t t' = (t.number ∙ sym t'.number, t.bytes ∙ sym t'.bytes)

-- a list of rules: the last, one that holds, and what it gives
last : (b : Bool) → all (b ∷ []) ≡ b
unfolding all
last true = refl
last false = refl

on : {a : Bool} (bs : List Bool) → a ≡ true → all (a ∷ bs) ≡ all bs
unfolding all
on bs e = rw e

rest : (a : Bool) (bs : List Bool) → all (a ∷ bs) ≡ true → (a ≡ true) × (all bs ≡ true)
unfolding all
rest a bs e = both a (all bs) e

-- ---- hashes
module _ (p s out : ℕ) where
  pub hash_is : hash_fits p s out ≡ true → (p + s < 2 ^ 61) × (out ≡ 32)
  unfolding hash_fits
  hash_is e =
      let a = rest _ _ e in
      (ltb-true _ _ a.0, eqb-true _ _ (sym (last _) ∙ a.1))

  pub hash_yes : p + s < 2 ^ 61 → eqb out 32 ≡ hash_fits p s out
  unfolding hash_fits
  hash_yes h = sym (on _ (lt-ltb _ _ h) ∙ last _)

  pub hash_no : 2 ^ 61 ≤ p + s → false ≡ hash_fits p s out
  hash_no h = not_ok _ (λ e. let a = hash_is e in omega arith)

-- ---- runs
pub record RunsAre (count F bytes : ℕ) : Type 0 where
  pub low : 1 ≤ count
  pub high : count ≤ 16
  pub f_low : 1 ≤ F
  pub f_high : F ≤ 1024
  pub length_is : bytes ≡ count * F

module _ (count F bytes : ℕ) where
  pub runs_are : runs_fit count F bytes ≡ true → RunsAre count F bytes
  unfolding runs_fit
  runs_are e =
      let e1 = rest _ _ e in
      let e2 = rest _ _ e1.1 in
      let e3 = rest _ _ e2.1 in
      let e4 = rest _ _ e3.1 in
      record {
        low = leb-true _ _ e1.0;
        high = leb-true _ _ e2.0;
        f_low = leb-true _ _ e3.0;
        f_high = leb-true _ _ e4.0;
        length_is = eqb-true _ _ (sym (last _) ∙ e4.1);
      }

  pub runs_no : (RunsAre count F bytes → ⊥) → false ≡ runs_fit count F bytes
  runs_no h = not_ok _ (λ e. h (runs_are e))

  pub runs_yes : 1 ≤ count → count ≤ 16 → 1 ≤ F → F ≤ 1024 → eqb bytes (count * F) ≡ runs_fit count F bytes
  unfolding runs_fit
  runs_yes a b c d = sym (on _ (le-leb _ _ a) ∙ on _ (le-leb _ _ b) ∙ on _ (le-leb _ _ c) ∙ on _ (le-leb _ _ d) ∙ last _)

-- ---- messages side by side
module _ (count H F heads s out : ℕ) where
  pub hashes_are : hashes_fit count H F heads s out ≡ true → RunsAre count F s × RunsAre count 32 out × (H ≤ 16) × (heads ≡ count * H)
  unfolding hashes_fit
  hashes_are e =
      let e1 = rest _ _ e in
      let e2 = rest _ _ e1.1 in
      let e3 = rest _ _ e2.1 in
      (runs_are _ _ _ e1.0, runs_are _ _ _ e2.0, leb-true _ _ e3.0, eqb-true _ _ (sym (last _) ∙ e3.1))

  pub hashes_no : ((runs_fit count F s ≡ true) × (runs_fit count 32 out ≡ true) × (H ≤ 16) → ⊥) → false ≡ hashes_fit count H F heads s out
  unfolding hashes_fit
  hashes_no h =
      not_ok _ (λ e. let e1 = rest _ _ e in let e2 = rest _ _ e1.1 in let e3 = rest _ _ e2.1 in h (e1.0, e2.0, leb-true _ _ e3.0))

  pub hashes_yes : runs_fit count F s ≡ true → runs_fit count 32 out ≡ true → H ≤ 16 → eqb heads (count * H) ≡ hashes_fit count H F heads s out
  unfolding hashes_fit
  hashes_yes a b c = sym (on _ a ∙ on _ b ∙ on _ (le-leb _ _ c) ∙ last _)

-- a row among count of its size
pub row_fits : (i count size bytes : ℕ) → i < count → bytes ≡ count * size → 0 + i * size + size ≤ bytes
row_fits i count size bytes h e = omega (arith, slot_fits i count size h)

-- ---- encoding
module _ (n m F item desk : ℕ) where
  pub encode_is : encode_fits n m F item desk ≡ true → (m ≤ n) × RunsAre m F item × RunsAre n F desk
  unfolding encode_fits
  encode_is e =
      let e1 = rest _ _ e in
      let e2 = rest _ _ e1.1 in
      (leb-true _ _ e1.0, runs_are _ _ _ e2.0, runs_are _ _ _ (sym (last _) ∙ e2.1))

  pub encode_no : ((m ≤ n) × (runs_fit m F item ≡ true) → ⊥) → false ≡ encode_fits n m F item desk
  unfolding encode_fits
  encode_no h = not_ok _ (λ e. let e1 = rest _ _ e in h (leb-true _ _ e1.0, (rest _ _ e1.1).0))

  pub encode_yes : m ≤ n → runs_fit m F item ≡ true → runs_fit n F desk ≡ encode_fits n m F item desk
  unfolding encode_fits
  encode_yes a b = sym (on _ (le-leb _ _ a) ∙ on _ b ∙ last _)

  pub encode_room : encode_fits n m F item desk ≡ true → (k : ℕ) → k < n → fragment_at (runs_of n F) k + F ≤ desk
  encode_room e k h = let r = (encode_is e).2 in omega (arith, slot_fits k n F h, r.length_is)

-- ---- decoding
-- no product of a fragment's number, or of the number of fragments, with F leaves a machine number
pub small : (a F : ℕ) → a ≤ 16 → F ≤ 1024 → a * F ≤ 16384
small a F h l = mul-le-mul h l

-- the part &l[k ..]
pub tail : (l : List ℕ) (k : ℕ) → take (length l - k) (drop k l) ≡ drop k l
tail l k = rw (← length-drop k l) (take-length (drop k l))

module _ (F desk p : ℕ) (ps : List ℕ) where
  pub apart_is : apart F desk p ps ≡ true → (p < 16) × (p * F + F ≤ desk)
  unfolding apart
  apart_is e =
      let e1 = rest _ _ e in
      (ltb-true _ _ e1.0, leb-true _ _ (rest _ _ e1.1).0)

  pub apart_no : ((p < 16) × (p * F + F ≤ desk) → ⊥) → false ≡ apart F desk p ps
  apart_no h = not_ok _ (λ e. h (apart_is e))

  pub apart_yes : p < 16 → p * F + F ≤ desk → not (among p ps) ≡ apart F desk p ps
  unfolding apart
  apart_yes a b = sym (on _ (lt-ltb _ _ a) ∙ on _ (le-leb _ _ b) ∙ last _)

module _ (F desk : ℕ) (nodes : List ℕ) (k : ℕ) where
  pub named_on : k < length nodes → apart F desk (get_or nodes k 0) (drop (k + 1) nodes) ≡ true
      → named F desk (drop k nodes) ≡ named F desk (drop (k + 1) nodes)
  unfolding named
  named_on h e = let e1 = rw add-one at e in rw (add-one, drop-cons nodes k 0 h, e1)

  pub named_stop : k < length nodes → apart F desk (get_or nodes k 0) (drop (k + 1) nodes) ≡ false → named F desk (drop k nodes) ≡ false
  unfolding named
  named_stop h e = let e1 = rw add-one at e in rw (drop-cons nodes k 0 h, e1)

  pub named_end : length nodes ≤ k → named F desk (drop k nodes) ≡ true
  unfolding named
  named_end h = rw (drop_of_length-le nodes h)

pub named_within : (F : ℕ) (desk nodes : List ℕ) → named F (length desk) nodes ≡ true → Sources desk (runs_of 16 F) nodes
unfolding named
named_within F desk [] e k h = absurd (not-suc-le-zero h)
named_within F desk (p ∷ ps) e zero h =
    let a = apart_is F (length desk) p ps (both _ (named F (length desk) ps) e).0 in omega arith
named_within F desk (p ∷ ps) e (suc k) h =
    named_within F desk ps (both (apart F (length desk) p ps) _ e).1 k (omega arith)

module _ (m F : ℕ) (nodes : List ℕ) (desk item : ℕ) where
  pub decode_is : decode_fits m F nodes desk item ≡ true → RunsAre m F item × (named F desk nodes ≡ true) × (length nodes ≡ m)
  unfolding decode_fits
  decode_is e =
      let e1 = rest _ _ e in
      let e2 = rest _ _ e1.1 in
      (runs_are _ _ _ e2.0, sym (last _) ∙ e2.1, eqb-true _ _ e1.0)

  pub decode_no : ((length nodes ≡ m) × (runs_fit m F item ≡ true) → ⊥) → false ≡ decode_fits m F nodes desk item
  unfolding decode_fits
  decode_no h = not_ok _ (λ e. let e1 = rest _ _ e in h (eqb-true _ _ e1.0, (rest _ _ e1.1).0))

  pub decode_yes : length nodes ≡ m → runs_fit m F item ≡ true → named F desk nodes ≡ decode_fits m F nodes desk item
  unfolding decode_fits
  decode_yes a b = sym (on _ (eq-eqb _ _ a) ∙ on _ b ∙ last _)
