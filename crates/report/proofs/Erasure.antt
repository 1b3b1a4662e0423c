-- The erasure code of the figures is ours: what is generated from a candidate set is what is regenerated from the slots (generated_is), what
-- is decoded is what is laid into the item (laid_is, decode_is), and N fragments decode to the first m (requests_decode). Assumes nothing.
use Prim.Native.Nat.{ℕ, zero, suc, ◌+◌, ◌*◌, ◌≤◌, ◌<◌}
use mathlib.Core.Path.{◌≡◌, refl, sym, ap, ◌∙◌}
use mathlib.Core.Bool.{Bool, true, false, cond}
use mathlib.Core.List.{List, [], ◌∷◌, ◌++◌}
use native.Mathlib.Nat.{zero-mul, suc-mul, zero-add}
use native.Mathlib.Decide.{ℕ_discrete}
use native.Mathlib.Omega.{arith}
use borrow.Author.Tests.{eq-eqb, ne_eqb, eqb-true}
use lib.Dec.{eqb}
use lib.ListN.{length, get_or, length-append}
use Rattle.octets.specs.Bytes.{part, over}
use Rattle.octets.proofs.Meaning.{over_more, get_d_part, over_whole}
use Rattle.terms.proofs.Rungs.{clash}
use Rattle.terms.specs.Terms.{slots_of, fragment_at, runs_of}
use Rattle.terms.specs.declared.Plan.{Plan}
use Rattle.terms.specs.declared.Slots.{Slots}
use Rattle.fragments.specs.Fragments.{among, tabulate, value, regenerated, laid}
use Rattle.fragments.proofs.Lists.{tabulate_ext}
use Rattle.fragments.proofs.Interp.{all_map, value_ext}
use Rattle.record.specs.Desk.{fragment_in}
use Rattle.record.proofs.Desks.{fragment_in_lem}
use Rattle.recover.proofs.Filled.{each_source}
use Rattle.report.specs.Triple.{Message, each, up_to, strung}
use Rattle.report.specs.Figure3.{of_first_triple}
use Rattle.report.specs.Ours.{numbers, fragment_from, generated_by, generated, decoded_from, bearing}
use Rattle.report.proofs.Lists.{each_append, take_listed, strung_same}

-- ---- from the slots
module _ (p : Plan) (d : List ℕ) where
  numbers_of : (qs : List ℕ) → numbers (each (bearing p d) qs) ≡ qs
  unfolding each
  numbers_of [] = refl
  numbers_of (q ∷ qs) = ap (λ (l : List ℕ). q ∷ l) (numbers_of qs)

  fragment_from_lem : (qs : List ℕ) (k : ℕ) → among k qs ≡ true → fragment_from (each (bearing p d) qs) k ≡ fragment_in p d k
  unfolding fragment_from among each
  fragment_from_lem [] k e = absurd (clash (sym e))
  fragment_from_lem (q ∷ qs) k e = go (eqb q k) refl e (fragment_from_lem qs k)
    where
      go : (t : Bool) → eqb q k ≡ t → cond t true (among k qs) ≡ true → (among k qs ≡ true → fragment_from (each (bearing p d) qs) k ≡ fragment_in p d k)
          → cond t (fragment_in p d q) (fragment_from (each (bearing p d) qs) k) ≡ fragment_in p d k
      go true h m ih = ap (fragment_in p d) (eqb-true q k h)
      go false h m ih = ih m

  pub generated_is : (qs : List ℕ) (k : ℕ)
      → generated_by p.f (each (bearing p d) qs) k ≡ regenerated d (slots_of p) qs k
  unfolding generated_by regenerated
  generated_is qs k = rw (numbers_of qs) (go (among k qs) refl)
    where
      byte : (i : ℕ) → i < p.f → (q : ℕ) → among q qs ≡ true
          → get_or (fragment_from (each (bearing p d) qs) q) i 0 ≡ get_or d (fragment_at (slots_of p) q + i) 0
      byte i hi q m =
          ap (λ (l : List ℕ). get_or l i 0) (fragment_from_lem qs q m ∙ sym (fragment_in_lem p d q)) ∙ get_d_part d (fragment_at (slots_of p) q) p.f i hi

      go : (t : Bool) → among k qs ≡ t
          → cond t (fragment_from (each (bearing p d) qs) k) (tabulate p.f (λ i. value qs (λ q. get_or (fragment_from (each (bearing p d) qs) q) i 0) k))
          ≡ cond t (part d (fragment_at (slots_of p) k) p.f)
          (tabulate p.f (λ i. value qs (λ q. get_or d (fragment_at (slots_of p) q + i) 0) k))
      go true e = fragment_from_lem qs k e ∙ sym (fragment_in_lem p d k)
      go false e =
          tabulate_ext p.f (λ i. value qs (λ q. get_or (fragment_from (each (bearing p d) qs) q) i 0) k)
          (λ i. value qs (λ q. get_or d (fragment_at (slots_of p) q + i) 0) k)
          (λ i hi. value_ext qs (λ q. get_or (fragment_from (each (bearing p d) qs) q) i 0) (λ q. get_or d (fragment_at (slots_of p) q + i) 0) k
          (all_map (λ q m. byte i hi q m) qs (each_source (λ (q : ℕ). among q qs ≡ true) qs (λ q e. e))))

-- ---- runs laid one after the other are the runs strung together
length_strung : (g : ℕ → List ℕ) (f n : ℕ) → ((k : ℕ) → length (g k) ≡ f) → length (strung g n) ≡ n * f
unfolding strung
length_strung g f zero h = sym (zero-mul f)
length_strung g f (suc n) h = length-append (strung g n) (g n) ∙ omega (arith, length_strung g f n h, h n, suc-mul n f)

module _ (d : List ℕ) (slots : Slots) (qs : List ℕ) (size : (k : ℕ) → length (regenerated d slots qs k) ≡ slots.fragment) where
  laid_over : (m n : ℕ) (i : List ℕ) → laid d slots qs (runs_of m slots.fragment) n i ≡ over (strung (regenerated d slots qs) n) i
  unfolding laid strung
  laid_over m zero i = unfold over in refl
  laid_over m (suc n) i =
      let f : ℕ = slots.fragment in
      let z : 0 + n * f ≡ n * f = zero-add (n * f) in
      rw (z, laid_over m n i)
      (over_more i (strung (regenerated d slots qs) n) (regenerated d slots qs n) (n * f) (length_strung (regenerated d slots qs) f n size))

  pub laid_is : (m : ℕ) (i : List ℕ) → length i ≡ m * slots.fragment → laid d slots qs (runs_of m slots.fragment) m i ≡ strung (regenerated d slots qs) m
  laid_is m i l =
      laid_over m m i ∙ over_whole (strung (regenerated d slots qs) m) i (l ∙ sym (length_strung (regenerated d slots qs) slots.fragment m size))

-- ---- N requests of one timestamp
module _ (D : ℕ → List ℕ) (T : ℕ) (C : List ℕ) where
  abbrev pub request : ℕ → Message
  request i = record { S = i; Response = record { ts = T; D = D i; CC = C } }

  among_append : (k : ℕ) (l m : List ℕ) → among k (l ++ m) ≡ cond (among k l) true (among k m)
  unfolding among
  among_append k [] m = refl
  among_append k (x ∷ l) m = go (eqb x k) (among_append k l m)
    where
      go : (t : Bool) → among k (l ++ m) ≡ cond (among k l) true (among k m) → cond t true (among k (l ++ m)) ≡ cond (cond t true (among k l)) true (among k m)
      go true e = refl
      go false e = e

  from_append : (k : ℕ) (l m : List Message) → fragment_from (l ++ m) k ≡ cond (among k (numbers l)) (fragment_from l k) (fragment_from m k)
  unfolding fragment_from among each
  from_append k [] m = refl
  from_append k (x ∷ l) m = go (eqb x.S k) (from_append k l m)
    where
      go : (t : Bool) → fragment_from (l ++ m) k ≡ cond (among k (numbers l)) (fragment_from l k) (fragment_from m k)
          → cond t x.Response.D (fragment_from (l ++ m) k)
          ≡ cond (cond t true (among k (numbers l))) (cond t x.Response.D (fragment_from l k)) (fragment_from m k)
      go true e = refl
      go false e = e

  none_from : (n k : ℕ) → n ≤ k → among k (numbers (up_to request n)) ≡ false
  unfolding up_to
  none_from zero k h = unfold each among in refl
  none_from (suc n) k h =
      ap (among k) (each_append (λ (x : Message). x.S) (up_to request n) (request n ∷ [])) ∙ among_append k (numbers (up_to request n)) _
      ∙ rw (none_from n k (omega arith)) (last n k (omega arith))
    where
      last : (n k : ℕ) → (n ≡ k → ⊥) → among k (numbers (request n ∷ [])) ≡ false
      last n k q = unfold each among in rw (ne_eqb n k q)

  record Has (n k : ℕ) : Type 0 where
    is_there : among k (numbers (up_to request n)) ≡ true
    fragment : fragment_from (up_to request n) k ≡ D k

  one_there : (n k : ℕ) → k < n → Has n k
  unfolding up_to
  one_there zero k h = absurd (omega arith)
  one_there (suc n) k h = go (ℕ_discrete k n) (λ l. one_there n k l)
    where
      a : among k (numbers (up_to request n ++ (request n ∷ []))) ≡ cond (among k (numbers (up_to request n))) true (among k (numbers (request n ∷ [])))
      a = ap (among k) (each_append (λ (x : Message). x.S) (up_to request n) (request n ∷ [])) ∙ among_append k (numbers (up_to request n)) _

      b : fragment_from (up_to request n ++ (request n ∷ [])) k ≡ cond (among k (numbers (up_to request n))) (fragment_from (up_to request n) k) (fragment_from (request n ∷ []) k)
      b = from_append k (up_to request n) (request n ∷ [])

      go : Dec (k ≡ n) → (k < n → Has n k) → Has (suc n) k
      go (no q) more =
          let u = more (omega arith) in
          record { is_there = a ∙ rw u.is_there; fragment = b ∙ rw u.is_there u.fragment }
      go (yes q) more =
          let u = none_from n k (omega arith) in
          record { is_there = a ∙ rw u (own q); fragment = b ∙ rw u (mine q) }
        where
          own : k ≡ n → among k (numbers (request n ∷ [])) ≡ true
          own q = unfold each among in rw (eq-eqb n k (sym q))

          mine : k ≡ n → fragment_from (request n ∷ []) k ≡ D k
          mine q = unfold fragment_from in rw (eq-eqb n k (sym q)) (ap D (sym q))

  not_first_append : (l m : List Message) → of_first_triple l ≡ false → of_first_triple m ≡ false → of_first_triple (l ++ m) ≡ false
  unfolding of_first_triple
  not_first_append [] m e g = g
  not_first_append (x ∷ l) m e g = e

  not_first : 1 ≤ T → (n : ℕ) → of_first_triple (up_to request n) ≡ false
  unfolding up_to of_first_triple
  not_first h zero = refl
  not_first h (suc n) = not_first_append (up_to request n) (request n ∷ []) (not_first h n) (ne_eqb T 0 (λ z. omega arith))

  pub requests_decode : (p : Plan) → 1 ≤ T → p.m ≤ p.n → decoded_from p (up_to request p.n) ≡ strung D p.m
  unfolding decoded_from generated_by
  requests_decode p h l =
      rw (not_first h p.n)
      (strung_same (generated p (up_to request p.n)) D p.m
      (λ k hk. rw (take_listed request p.m p.n l) (let u = one_there p.m k hk in rw u.is_there u.fragment)))
