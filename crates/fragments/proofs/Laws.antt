-- One law for each hard need of the functions. Assumes nothing.
use mathlib.Core.Path.{◌≡◌, refl, sym, ap, ap₂, ◌∙◌}
use mathlib.Core.Bool.{Bool, true, false, cond, ◌||◌}
use mathlib.Core.List.{List, [], ◌∷◌, ◌++◌}
use Prim.Native.Nat.{ℕ, zero, suc, ◌+◌, ◌-◌, ◌*◌, ◌≤◌, ◌<◌}
use native.Mathlib.Nat.{le_of_suc-le-suc, not-suc-le-zero, add-zero, add-suc, suc-add}
use native.Mathlib.Decide.{ℕ_discrete}
use native.Mathlib.Numerals.{add-one}
use native.Mathlib.Omega.{arith}
use borrow.Author.Tests.{eq-eqb, ne_eqb, eqb-true, ltb-true, ltb-false}
use lib.Dec.{eqb, ltb}
use lib.ListN.{length, get_or, take, drop, length-drop}
use lib.Seq.{length-take-le}
use Rattle.std.specs.List.{list_any}
use Rattle.octets.specs.Bytes.{part, put}
use Rattle.octets.proofs.Laws.{length_part, part_part, put_lent, slot_fits}
use Rattle.octets.proofs.Meaning.{put_whole, get_d_part}
use Rattle.terms.specs.declared.Slots.{Slots}
use Rattle.terms.specs.Terms.{fragment_at, runs_of}
use Rattle.fragments.specs.Fragments.{among, from, value, tabulate, fragment, regenerated, Sources, Room, laid, encoded, All}
use Rattle.fragments.specs.Inside.{strip_of}
use Rattle.fragments.proofs.Lists.{length_tabulate, get_d_tabulate, tabulate_ext, to_tabulate, all_at}
use Rattle.fragments.proofs.Interp.{all, value_ext}

-- ---- among
pub among_any : (x : ℕ) (qs : List ℕ) → list_any (λ y. eqb y x) qs ≡ among x qs
unfolding among
among_any x [] = refl
among_any x (q ∷ qs) = go (eqb q x) (among_any x qs)
  where
    go : (b : Bool) → list_any (λ y. eqb y x) qs ≡ among x qs → (b || list_any (λ y. eqb y x) qs) ≡ cond b true (among x qs)
    go true h = refl
    go false h = h

-- what holds of every point of qs holds of one among them
pub among_all : (P : ℕ → Type 0) (x : ℕ) (qs : List ℕ) → ((k : ℕ) → k < length qs → P (get_or qs k 0)) → among x qs ≡ true → P x
unfolding among
among_all P x [] h t = let z : ◌≡◌ {A = ℕ} 0 1 = cc in absurd (omega arith)
among_all P x (q ∷ qs) h t = go (eqb q x) refl t (λ u. among_all P x qs (λ k l. h (suc k) (omega arith)) u)
  where
    go : (b : Bool) → eqb q x ≡ b → cond b true (among x qs) ≡ true → (among x qs ≡ true → P x) → P x
    go true e u more = let f : q ≡ x = eqb-true q x e in rw (← f) (h 0 (omega arith))
    go false e u more = more u

pub all_among : (P : ℕ → Type 0) (x : ℕ) (qs : List ℕ) → All P qs → among x qs ≡ true → P x
all_among P x qs h t = among_all P x qs (all_at P qs h) t

-- a source that is asked for lies within the buffer
pub source_fits : (src : List ℕ) (s : Slots) (qs : List ℕ) (x : ℕ) (r : Bool) → Sources src s qs → r ≡ among x qs → r ≡ true
    → fragment_at s x + s.fragment ≤ length src
source_fits src s qs x r h e t = among_all (λ (p : ℕ). fragment_at s p + s.fragment ≤ length src) x qs h (sym e ∙ t)

-- ---- a fragment regenerated
pub length_regenerated : (src : List ℕ) (s : Slots) (qs : List ℕ) (x : ℕ) → Sources src s qs → length (regenerated src s qs x) ≡ s.fragment
unfolding regenerated
length_regenerated src s qs x h = go (among x qs) refl
  where
    go : (b : Bool) → among x qs ≡ b
        → length (cond b (part src (fragment_at s x) s.fragment) (tabulate s.fragment (λ i. value qs (λ p. get_or src (fragment_at s p + i) 0) x))) ≡ s.fragment
    go true e = length_part src (fragment_at s x) s.fragment (among_all (λ (p : ℕ). fragment_at s p + s.fragment ≤ length src) x qs h e)
    go false e = length_tabulate s.fragment (λ i. value qs (λ p. get_or src (fragment_at s p + i) 0) x)

pub itself : (src : List ℕ) (s : Slots) (qs : List ℕ) (x : ℕ) → true ≡ among x qs → part src (fragment_at s x) s.fragment ≡ regenerated src s qs x
unfolding regenerated
itself src s qs x e = rw (← e)

pub copied : (src : List ℕ) (s : Slots) (qs : List ℕ) (x : ℕ) (out : List ℕ) → true ≡ among x qs → Sources src s qs → length out ≡ s.fragment
    → put out 0 (part src (fragment_at s x) s.fragment) ≡ regenerated src s qs x
copied src s qs x out e h l = ap (put out 0) (itself src s qs x e) ∙ put_whole out (regenerated src s qs x) (l ∙ sym (length_regenerated src s qs x h))

pub computed : (src : List ℕ) (s : Slots) (qs : List ℕ) (x : ℕ) (v : List ℕ) → false ≡ among x qs
    → v ≡ tabulate s.fragment (λ i. value qs (λ p. get_or src (fragment_at s p + i) 0) x) → v ≡ regenerated src s qs x
unfolding regenerated
computed src s qs x v e r = r ∙ rw (← e)

-- ---- a strip of a fragment
pub strip_sources : (src : List ℕ) (s : Slots) (qs : List ℕ) (o n : ℕ) → o + n ≤ s.fragment → Sources src s qs → Sources src (strip_of s o n) qs
strip_sources src s qs o n h u k l = let b : fragment_at s (get_or qs k 0) + s.fragment ≤ length src = u k l in omega arith

strip_at : (s : Slots) (o n k i : ℕ) → fragment_at s k + (o + i) ≡ fragment_at (strip_of s o n) k + i
strip_at s o n k i = omega arith

-- the strip of a regenerated fragment is regenerated from the strips of its sources
pub regenerated_strip : (src : List ℕ) (s : Slots) (qs : List ℕ) (x o n : ℕ) → o + n ≤ s.fragment → regenerated src (strip_of s o n) qs x ≡ part (regenerated src s qs x) o n
unfolding regenerated
regenerated_strip src s qs x o n h = go (among x qs)
  where
    whole : ℕ → ℕ
    whole i = value qs (λ p. get_or src (fragment_at s p + i) 0) x

    strip : ℕ → ℕ
    strip i = value qs (λ p. get_or src (fragment_at (strip_of s o n) p + i) 0) x

    shifted : (i : ℕ) → whole (o + i) ≡ strip i
    shifted i = value_ext qs (λ p. get_or src (fragment_at s p + (o + i)) 0) (λ p. get_or src (fragment_at (strip_of s o n) p + i) 0) x
        (all (λ p. ap (λ (a : ℕ). get_or src a 0) (strip_at s o n p i)) qs)

    go : (b : Bool) → cond b (part src (fragment_at (strip_of s o n) x) n) (tabulate n strip) ≡ part (cond b (part src (fragment_at s x) s.fragment) (tabulate s.fragment whole)) o n
    go true =
        let e : fragment_at (strip_of s o n) x ≡ fragment_at s x + o = omega arith in
        ap (λ (a : ℕ). part src a n) e ∙ sym (part_part src (fragment_at s x) s.fragment o n h)
    go false =
        let l : length (tabulate s.fragment whole) ≡ s.fragment = length_tabulate s.fragment whole in
        sym (to_tabulate (part (tabulate s.fragment whole) o n) n strip (length_part (tabulate s.fragment whole) o n (omega arith))
        (λ i k. get_d_part (tabulate s.fragment whole) o n i k ∙ get_d_tabulate s.fragment whole (o + i) (omega arith) ∙ shifted i))

-- ---- laying fragments one after the other
-- a fragment that was regenerated into the part &out[at .. at + f]
pub laid_more : (src : List ℕ) (s : Slots) (qs : List ℕ) (to : Slots) (k n : ℕ) (out₀ out new : List ℕ) → Sources src s qs → s.fragment ≡ to.fragment
    → n ≡ to.fragment → out ≡ laid src s qs to k out₀ → new ≡ regenerated src s qs k
    → take (fragment_at to k) out ++ (new ++ drop n (drop (fragment_at to k) out)) ≡ laid src s qs to (k + 1) out₀
unfolding laid
laid_more src s qs to k n out₀ out new h f z e r =
    let l : length new ≡ n = ap length r ∙ length_regenerated src s qs k h ∙ f ∙ sym z in
    put_lent out (fragment_at to k) n new l ∙ rw (r, e, add-one)

-- the part &l[at .. at + f]
pub part_length : (at f : ℕ) (l : List ℕ) → at + f ≤ length l → length (take (at + f - at) (drop at l)) ≡ f
part_length at f l h = length-take-le (at + f - at) (drop at l) (simp length-drop (omega arith)) ∙ omega arith

pub laid_none : (src : List ℕ) (s : Slots) (qs : List ℕ) (to : Slots) (out : List ℕ) → out ≡ laid src s qs to 0 out
unfolding laid
laid_none src s qs to out = refl

-- ---- the points 0 to m - 1
pub length_from : (a n : ℕ) → length (from a n) ≡ n
unfolding from
length_from a zero = refl
length_from a (suc n) = ap suc (length_from (suc a) n)

pub get_d_from : (a n k : ℕ) → k < n → get_or (from a n) k 0 ≡ a + k
unfolding from
get_d_from a zero k h = absurd (not-suc-le-zero h)
get_d_from a (suc n) zero h = sym (add-zero a)
get_d_from a (suc n) (suc k) h = get_d_from (suc a) n k (le_of_suc-le-suc h) ∙ suc-add a k ∙ sym (add-suc a k)

take_from : (a m n : ℕ) → m ≤ n → take m (from a n) ≡ from a m
unfolding from
take_from a zero n h = refl
take_from a (suc m) zero h = absurd (not-suc-le-zero h)
take_from a (suc m) (suc n) h = ap (λ (l : List ℕ). a ∷ l) (take_from (suc a) m n (le_of_suc-le-suc h))

abbrev points : List ℕ
points = 0 ∷ 1 ∷ 2 ∷ 3 ∷ 4 ∷ 5 ∷ 6 ∷ 7 ∷ 8 ∷ 9 ∷ 10 ∷ 11 ∷ 12 ∷ 13 ∷ 14 ∷ 15 ∷ []

points_are : (m : ℕ) → m ≤ 16 → take m points ≡ from 0 m
points_are m h = unfold from in take_from 0 m 16 h

among_in : (k a n : ℕ) → a ≤ k → k < a + n → among k (from a n) ≡ true
unfolding among from
among_in k a zero l h = absurd (omega arith)
among_in k a (suc n) l h = go (ℕ_discrete a k) (λ d. among_in k (suc a) n (omega arith) (omega arith))
  where
    go : Dec (a ≡ k) → (a < k → among k (from (suc a) n) ≡ true) → cond (eqb a k) true (among k (from (suc a) n)) ≡ true
    go (yes e) more = rw (eq-eqb a k e)
    go (no e) more = rw (ne_eqb a k e) (more (omega arith))

among_out : (k a n : ℕ) → a + n ≤ k → among k (from a n) ≡ false
unfolding among from
among_out k a zero h = refl
among_out k a (suc n) h = let d : a ≡ k → ⊥ = λ e. omega arith in rw (ne_eqb a k d) (among_out k (suc a) n (omega arith))

pub among_from : (k m : ℕ) → among k (from 0 m) ≡ ltb k m
among_from k m = go (ltb k m) refl
  where
    go : (b : Bool) → ltb k m ≡ b → among k (from 0 m) ≡ b
    go true e = let h = ltb-true k m e in among_in k 0 m (omega arith) (omega arith)
    go false e = let h = ltb-false k m e in among_out k 0 m (omega arith)

-- a fragment of an item is the one regenerated from the item's own runs
pub fragment_is : (m F : ℕ) (item : List ℕ) (k : ℕ) → fragment m F item k ≡ regenerated item (runs_of m F) (from 0 m) k
unfolding fragment regenerated
fragment_is m F item k =
    let z : k * F ≡ 0 + k * F = omega arith in
    ap₂ (λ (b : Bool) (l : List ℕ). cond b l (tabulate F (λ i. value (from 0 m) (λ j. get_or item (j * F + i) 0) k))) (sym (among_from k m)) (ap (λ (n : ℕ). part item n F) z)
    ∙ ap (λ (l : List ℕ). cond (among k (from 0 m)) (part item (0 + k * F) F) l)
    (tabulate_ext F (λ i. value (from 0 m) (λ j. get_or item (j * F + i) 0) k) (λ i. value (from 0 m) (λ j. get_or item (0 + j * F + i) 0) k)
    (λ i h. value_ext (from 0 m) (λ j. get_or item (j * F + i) 0) (λ j. get_or item (0 + j * F + i) 0) k
    (all (λ j. ap (λ (n : ℕ). get_or item n 0) (plus (j * F) i)) (from 0 m))))
  where
    plus : (x i : ℕ) → x + i ≡ 0 + x + i
    plus x i = omega arith

pub encoded_is : (m : ℕ) (item : List ℕ) (to : Slots) (n : ℕ) (desk : List ℕ)
    → laid item (runs_of m to.fragment) (from 0 m) to n desk ≡ encoded m item to n desk
unfolding laid encoded
encoded_is m item to zero desk = refl
encoded_is m item to (suc k) desk =
    ap₂ (λ (d r : List ℕ). put d (fragment_at to k) r) (encoded_is m item to k desk) (sym (fragment_is m to.fragment item k))

pub points_length : (m : ℕ) → m ≤ 16 → m ≡ length (take m points)
points_length m h = sym (ap length (points_are m h) ∙ length_from 0 m)

-- an item has room for its runs
pub runs_room : (m F : ℕ) (item : List ℕ) → length item ≡ m * F → Room (runs_of m F) m item
runs_room m F item l k h = omega (arith, slot_fits k m F h)

-- the first m slots are sources within the buffer, and so are an item's runs
pub points_within : (src : List ℕ) (s : Slots) (m : ℕ) → m ≤ 16 → Room s m src → Sources src s (take m points)
points_within src s m h fit = rw (points_are m h) within
  where
    within : Sources src s (from 0 m)
    within k l =
        let hk : k < m = omega (arith, length_from 0 m) in
        let e : get_or (from 0 m) k 0 ≡ k = get_d_from 0 m k hk ∙ omega arith in
        rw e (fit k hk)

pub points_encode : (m : ℕ) (item : List ℕ) (to : Slots) (n : ℕ) (desk : List ℕ) → m ≤ 16
    → laid item (runs_of m to.fragment) (take m points) to n desk ≡ encoded m item to n desk
points_encode m item to n desk h = rw (points_are m h) (encoded_is m item to n desk)

pub points_collect : (desk : List ℕ) (s : Slots) (m : ℕ) (item : List ℕ) → m ≤ 16
    → laid desk s (take m points) (runs_of m s.fragment) m item ≡ laid desk s (from 0 m) (runs_of m s.fragment) m item
points_collect desk s m item h = rw (points_are m h)
