-- What the k-th greatest of some replies is: the greatest number such that at least k of them are that or more (kth_is), the one such number
-- (kth_one), whatever their order (kth_same); and entry k of them in falling order (kth_falling). The first is the greatest (first-is).
-- Assumes nothing.
use Prim.{Unit, tt}
use Prim.Native.Nat.{ℕ, zero, suc, ◌+◌, ◌≤◌, ◌<◌}
use mathlib.Core.Path.{◌≡◌, refl, ap, ◌∙◌}
use mathlib.Core.Bool.{Bool, true, false, cond}
use mathlib.Core.List.{List, [], ◌∷◌}
use mathlib.Core.Logic.{◌⊎◌, inl, inr}
use native.Mathlib.Omega.{arith}
use borrow.Author.Tests.{leb-true, leb-false, le-leb, lt-leb, eq-eqb}
use lib.Dec.{leb, ltb, eqb}
use lib.ListN.{length, get_or}
use Rattle.terms.specs.Terms.{larger}
use Rattle.terms.proofs.Small.{larger_is}
use Rattle.fragments.specs.Fragments.{All, among}
use Rattle.fragments.proofs.Laws.{all_among}
use Rattle.clock.specs.Clock.{or_more, greatest_with, kth_greatest, IsKth, into_falling, falling}

-- ---- how many are v or more
abbrev one_if : Bool → ℕ
one_if t = cond t 1 0

one_most : (t : Bool) → one_if t ≤ 1
one_most true = omega arith
one_most false = omega arith

one_falls : (v w x : ℕ) → v ≤ w → one_if (leb w x) ≤ one_if (leb v x)
one_falls v w x h = go (leb w x) refl
  where
    go : (t : Bool) → leb w x ≡ t → one_if t ≤ one_if (leb v x)
    go true e = let k = leb-true w x e in rw (le-leb v x (omega arith)) (omega arith)
    go false e = omega arith

pub more_falls : (v w : ℕ) (l : List ℕ) → v ≤ w → or_more w l ≤ or_more v l
unfolding or_more
more_falls v w [] h = omega arith
more_falls v w (x ∷ l) h = omega (arith, one_falls v w x h, more_falls v w l h)

pub more_all : (l : List ℕ) → or_more 0 l ≡ length l
unfolding or_more
more_all [] = refl
more_all (x ∷ l) = rw (le-leb 0 x (omega arith)) (omega (arith, more_all l))

none_above : (x w : ℕ) (l : List ℕ) → x < w → All (λ (y : ℕ). y ≤ x) l → or_more w l ≡ 0
unfolding or_more
none_above x w [] h a = refl
none_above x w (y ∷ l) h a = rw (lt-leb w y (omega (arith, a.0))) (omega (arith, none_above x w l h a.1))

-- ---- the least reply that is w or more: as many are that or more as are w or more
record Least (w : ℕ) (l : List ℕ) : Type 0 where
  x : ℕ
  same : or_more x l ≡ or_more w l
  above : w ≤ x
  is : (among x l ≡ true) ⊎ (or_more w l ≡ 0)

among_more : (x y : ℕ) (l : List ℕ) → among x l ≡ true → among x (y ∷ l) ≡ true
unfolding among
among_more x y l e = go (eqb y x)
  where
    go : (t : Bool) → cond t true (among x l) ≡ true
    go true = refl
    go false = e

among_first : (y : ℕ) (l : List ℕ) → among y (y ∷ l) ≡ true
unfolding among
among_first y l = rw (eq-eqb y y refl)

module _ (w y : ℕ) (l : List ℕ) (k : Least w l) where
  -- a reply below w changes nothing
  below : leb w y ≡ false → Least w (y ∷ l)
  unfolding or_more
  below e =
      let h = leb-false w y e in
      record { x = k.x; same = rw (e, lt-leb k.x y (omega (arith, k.above))) (omega (arith, k.same)); above = k.above; is = still k.is }
    where
      still : (among k.x l ≡ true) ⊎ (or_more w l ≡ 0) → (among k.x (y ∷ l) ≡ true) ⊎ (one_if (leb w y) + or_more w l ≡ 0)
      still (inl a) = inl (among_more k.x y l a)
      still (inr a) = inr (rw e (omega arith))

  module _ (e : leb w y ≡ true) where
    low : w ≤ y
    low = leb-true w y e

    -- it is the least one where none before it is, or where the one before it is greater
    itself : or_more y l ≡ or_more w l → Least w (y ∷ l)
    unfolding or_more
    itself s = record { x = y; same = rw (e, le-leb y y (omega arith), s) refl; above = low; is = inl (among_first y l) }

    stays : leb k.x y ≡ true → among k.x l ≡ true → Least w (y ∷ l)
    unfolding or_more
    stays f a = record { x = k.x; same = rw (e, f, k.same) refl; above = k.above; is = inl (among_more k.x y l a) }

    not_below : Least w (y ∷ l)
    not_below = go k.is (leb k.x y) refl
      where
        go : (among k.x l ≡ true) ⊎ (or_more w l ≡ 0) → (t : Bool) → leb k.x y ≡ t → Least w (y ∷ l)
        go (inr z) t f = itself (omega (arith, more_falls w y l low))
        go (inl a) true f = stays f a
        go (inl a) false f = let g = leb-false k.x y f in itself (omega (arith, more_falls w y l low, more_falls y k.x l (omega arith), k.same))

least : (w : ℕ) (l : List ℕ) → Least w l
unfolding or_more
least w [] = record { x = w; same = refl; above = omega arith; is = inr refl }
least w (y ∷ l) = go (leb w y) refl (least w l)
  where
    go : (t : Bool) → leb w y ≡ t → Least w l → Least w (y ∷ l)
    go false e k = below w y l k e
    go true e k = not_below w y l k e

-- ---- the greatest with enough at or above it
module _ (k : ℕ) (r : List ℕ) where
  abbrev chosen : ℕ → ℕ → ℕ
  chosen b v = cond (leb k (or_more v r)) (larger b v) b

  chosen_enough : (b v : ℕ) → k ≤ or_more b r → k ≤ or_more (chosen b v) r
  chosen_enough b v h = go (leb k (or_more v r)) (ltb b v) refl
    where
      go : (t u : Bool) → leb k (or_more v r) ≡ t → k ≤ or_more (cond t (cond u v b) b) r
      go true true e = leb-true k (or_more v r) e
      go true false e = h
      go false u e = h

  chosen_low : (b v : ℕ) → b ≤ chosen b v
  chosen_low b v = go (leb k (or_more v r))
    where
      go : (t : Bool) → b ≤ cond t (larger b v) b
      go true = omega (arith, larger_is b v)
      go false = omega arith

  chosen_takes : (b v : ℕ) → k ≤ or_more v r → v ≤ chosen b v
  chosen_takes b v h = rw (le-leb k (or_more v r) h) (omega (arith, larger_is b v))

  with_enough : (b : ℕ) (l : List ℕ) → k ≤ or_more b r → k ≤ or_more (greatest_with k r b l) r
  unfolding greatest_with
  with_enough b [] h = h
  with_enough b (v ∷ l) h = with_enough (chosen b v) l (chosen_enough b v h)

  with_low : (b : ℕ) (l : List ℕ) → b ≤ greatest_with k r b l
  unfolding greatest_with
  with_low b [] = omega arith
  with_low b (v ∷ l) = omega (arith, chosen_low b v, with_low (chosen b v) l)

  with_each : (b : ℕ) (l : List ℕ) → All (λ (v : ℕ). k ≤ or_more v r → v ≤ greatest_with k r b l) l
  unfolding greatest_with
  with_each b [] = tt
  with_each b (v ∷ l) = ((λ h. omega (arith, chosen_takes b v h, with_low (chosen b v) l)), with_each (chosen b v) l)

-- "the greatest v such that at least k of the replies are v or more"
pub kth_is : (k : ℕ) (l : List ℕ) → 1 ≤ k → k ≤ length l → IsKth k l (kth_greatest k l)
kth_is k l h j =
    record {
      enough = with_enough k l 0 l (omega (arith, more_all l));
      greatest = λ w g. go w g (least w l);
    }
  where
    go : (w : ℕ) → k ≤ or_more w l → Least w l → w ≤ kth_greatest k l
    go w g z = side z.is
      where
        side : (among z.x l ≡ true) ⊎ (or_more w l ≡ 0) → w ≤ kth_greatest k l
        side (inl a) =
            omega (arith, z.above, all_among (λ (v : ℕ). k ≤ or_more v l → v ≤ kth_greatest k l) z.x l (with_each k l 0 l) a (omega (arith, z.same)))
        side (inr e) = absurd (omega arith)

pub kth_one : (k : ℕ) (l : List ℕ) (v w : ℕ) → IsKth k l v → IsKth k l w → v ≡ w
kth_one k l v w a b = omega (arith, a.greatest w b.enough, b.greatest v a.enough)

-- whatever their order
pub kth_same : (k : ℕ) (l m : List ℕ) → ((v : ℕ) → or_more v l ≡ or_more v m) → 1 ≤ k → k ≤ length l → kth_greatest k l ≡ kth_greatest k m
kth_same k l m e h j =
    let a = kth_is k m h (omega (arith, more_all l, more_all m, e 0)) in
    kth_one k l (kth_greatest k l) (kth_greatest k m) (kth_is k l h j)
    (record { enough = omega (arith, e (kth_greatest k m), a.enough); greatest = λ w g. a.greatest w (omega (arith, e w)) })

-- ---- in falling order
abbrev Falls : List ℕ → Type 0
Falls [] = Unit {0}
Falls (x ∷ l) = All (λ (y : ℕ). y ≤ x) l × Falls l

more_into : (v x : ℕ) (l : List ℕ) → or_more v (into_falling x l) ≡ one_if (leb v x) + or_more v l
unfolding or_more into_falling
more_into v x [] = refl
more_into v x (y ∷ l) = go (leb y x) (more_into v x l)
  where
    go : (t : Bool) → or_more v (into_falling x l) ≡ one_if (leb v x) + or_more v l
        → or_more v (cond t (x ∷ (y ∷ l)) (y ∷ into_falling x l)) ≡ one_if (leb v x) + (one_if (leb v y) + or_more v l)
    go true e = refl
    go false e = omega arith

pub more_falling : (v : ℕ) (l : List ℕ) → or_more v (falling l) ≡ or_more v l
unfolding or_more falling
more_falling v [] = refl
more_falling v (x ∷ l) = more_into v x (falling l) ∙ ap (λ (n : ℕ). one_if (leb v x) + n) (more_falling v l)

all_into : (P : ℕ → Type 0) (x : ℕ) (l : List ℕ) → P x → All P l → All P (into_falling x l)
unfolding into_falling
all_into P x [] h a = (h, tt)
all_into P x (y ∷ l) h a = go (leb y x) (all_into P x l h a.1)
  where
    go : (t : Bool) → All P (into_falling x l) → All P (cond t (x ∷ (y ∷ l)) (y ∷ into_falling x l))
    go true k = (h, a)
    go false k = (a.0, k)

all_lower : (x y : ℕ) (l : List ℕ) → y ≤ x → All (λ (z : ℕ). z ≤ y) l → All (λ (z : ℕ). z ≤ x) l
all_lower x y [] h a = tt
all_lower x y (z ∷ l) h a = (omega (arith, a.0), all_lower x y l h a.1)

falls_into : (x : ℕ) (l : List ℕ) → Falls l → Falls (into_falling x l)
unfolding into_falling
falls_into x [] f = (tt, tt)
falls_into x (y ∷ l) f = go (leb y x) refl (falls_into x l f.1)
  where
    go : (t : Bool) → leb y x ≡ t → Falls (into_falling x l) → Falls (cond t (x ∷ (y ∷ l)) (y ∷ into_falling x l))
    go true e k = let h = leb-true y x e in ((h, all_lower x y l h f.0), f)
    go false e k = let h = leb-false y x e in (all_into (λ (z : ℕ). z ≤ y) x l (omega arith) f.0, k)

falls_falling : (l : List ℕ) → Falls (falling l)
unfolding falling
falls_falling [] = tt
falls_falling (x ∷ l) = falls_into x (falling l) (falls_falling l)

all_at : (P : ℕ → Type 0) (l : List ℕ) (k : ℕ) → k < length l → All P l → P (get_or l k 0)
all_at P [] k h a = absurd (omega arith)
all_at P (x ∷ l) zero h a = a.0
all_at P (x ∷ l) (suc k) h a = all_at P l k (omega arith) a.1

entry_is : (l : List ℕ) (k : ℕ) → Falls l → k < length l → IsKth (k + 1) l (get_or l k 0)
unfolding or_more
entry_is [] k f h = absurd (omega arith)
entry_is (x ∷ l) zero f h =
    record { enough = rw (le-leb x x (omega arith)) (omega arith); greatest = λ w g. go w (leb w x) refl g }
  where
    go : (w : ℕ) (t : Bool) → leb w x ≡ t → 1 ≤ one_if (leb w x) + or_more w l → w ≤ x
    go w true e g = leb-true w x e
    go w false e g =
        let y : 1 ≤ 0 + or_more w l = rw e at g in
        absurd (omega (arith, none_above x w l (leb-false w x e) f.0))
entry_is (x ∷ l) (suc k) f h = more (entry_is l k f.1 (omega arith)) (all_at (λ (y : ℕ). y ≤ x) l k (omega arith) f.0)
  where
    more : IsKth (k + 1) l (get_or l k 0) → get_or l k 0 ≤ x → IsKth (suc k + 1) (x ∷ l) (get_or l k 0)
    more i le =
        record {
          enough = rw (le-leb (get_or l k 0) x le) (omega (arith, i.enough));
          greatest = λ w g. i.greatest w (omega (arith, one_most (leb w x)));
        }

-- entry k, counted from 1
pub kth_falling : (k : ℕ) (l : List ℕ) → k < length l → kth_greatest (k + 1) l ≡ get_or (falling l) k 0
kth_falling k l h =
    let e = entry_is (falling l) k (falls_falling l) (omega (arith, more_all l, more_all (falling l), more_falling 0 l)) in
    kth_one (k + 1) l (kth_greatest (k + 1) l) (get_or (falling l) k 0) (kth_is (k + 1) l (omega arith) (omega arith))
    (record {
      enough = omega (arith, e.enough, more_falling (get_or (falling l) k 0) l);
      greatest = λ w g. e.greatest w (omega (arith, more_falling w l));
    })
