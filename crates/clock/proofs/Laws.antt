-- Laws of the chain and of the loop over the time replies. Assumes nothing.
use Prim.Native.Nat.{ℕ, ◌+◌, ◌≤◌, ◌<◌}
use mathlib.Core.Path.{◌≡◌, refl, sym, ap, ◌∙◌}
use mathlib.Core.Bool.{Bool, true, false, cond, not, ◌&&◌}
use mathlib.Core.List.{List, [], ◌∷◌, ◌++◌}
use native.Mathlib.Numerals.{add-one}
use native.Mathlib.Omega.{arith}
use borrow.Author.Tests.{le-leb, lt-leb}
use lib.Dec.{leb, ltb, eqb}
use lib.ListN.{length, get_or, take}
use lib.Seq.{take-suc, take_all, length-take-le}
use Rattle.terms.specs.Terms.{larger}
use Rattle.terms.specs.Ladder.{◌and◌}
use Rattle.terms.proofs.Rungs.{both}
use Rattle.terms.specs.declared.Time.{Time}
use Rattle.rounds.specs.declared.Heard.{Heard}
use Rattle.rounds.specs.declared.Heard.TheVariants.{Unheard, First, Record}
use Rattle.std.specs.List.{filter, zip}
use Rattle.rounds.specs.Rounds.{is_unheard, bit_of, unheard}
use Rattle.clock.specs.Clock.{zero_time, times_heard, or_more, greatest_with}

-- ---- how many are v or more, as a chain counts them
module _ (v : ℕ) where
  abbrev pub counts : Heard × Time → Bool
  counts p = not (is_unheard p.0) && leb v p.1.0

  pub more_by : (ms : List Heard) (ts : List Time) → length (filter counts (zip ms ts)) ≡ or_more v (times_heard ms ts)
  unfolding times_heard or_more
  more_by [] ts = refl
  more_by (m ∷ ms) [] = refl
  more_by (m ∷ ms) (t ∷ ts) = go m (more_by ms ts)
    where
      one : (k : Heard) (b : Bool) → length (filter counts (zip ms ts)) ≡ or_more v (times_heard ms ts)
          → length (cond b ((k, t) ∷ filter counts (zip ms ts)) (filter counts (zip ms ts))) ≡ cond b 1 0 + or_more v (times_heard ms ts)
      one k true e = omega (arith, e)
      one k false e = omega (arith, e)

      go : (k : Heard) → length (filter counts (zip ms ts)) ≡ or_more v (times_heard ms ts)
          → length (filter counts (zip (k ∷ ms) (t ∷ ts))) ≡ or_more v (times_heard (k ∷ ms) (t ∷ ts))
      go Unheard e = unfold times_heard in e
      go First e = unfold times_heard in unfold or_more in one First (leb v t.0) e
      go Record e = unfold times_heard in unfold or_more in one Record (leb v t.0) e

-- ---- one list after another
pub heard_append : (ms : List Heard) (ts : List Time) (ns : List Heard) (us : List Time) → length ms ≡ length ts
    → times_heard (ms ++ ns) (ts ++ us) ≡ times_heard ms ts ++ times_heard ns us
unfolding times_heard
heard_append [] [] ns us e = refl
heard_append [] (t ∷ ts) ns us e = absurd (omega arith)
heard_append (m ∷ ms) [] ns us e = absurd (omega arith)
heard_append (m ∷ ms) (t ∷ ts) ns us e = go (eqb (bit_of m) 1) (heard_append ms ts ns us (omega arith))
  where
    go : (b : Bool) → times_heard (ms ++ ns) (ts ++ us) ≡ times_heard ms ts ++ times_heard ns us
        → cond b (t.0 ∷ times_heard (ms ++ ns) (ts ++ us)) (times_heard (ms ++ ns) (ts ++ us)) ≡ cond b (t.0 ∷ times_heard ms ts) (times_heard ms ts) ++ times_heard ns us
    go true h = ap (λ (l : List ℕ). t.0 ∷ l) h
    go false h = h

pub more_append : (v : ℕ) (l k : List ℕ) → or_more v (l ++ k) ≡ or_more v l + or_more v k
unfolding or_more
more_append v [] k = omega arith
more_append v (x ∷ l) k = ap (λ (n : ℕ). cond (leb v x) 1 0 + n) (more_append v l k) ∙ omega arith

pub with_append : (k : ℕ) (r : List ℕ) (b : ℕ) (l m : List ℕ) → greatest_with k r b (l ++ m) ≡ greatest_with k r (greatest_with k r b l) m
unfolding greatest_with
with_append k r b [] m = refl
with_append k r b (v ∷ l) m = with_append k r (cond (leb k (or_more v r)) (larger b v) b) l m

-- ---- a turn of the loop, at node i, and its end
module _ (ms : List Heard) (ts : List Time) (i : ℕ) (h : i < length ms) (k : i < length ts) where
  heard_turn : times_heard (take (i + 1) ms) (take (i + 1) ts)
      ≡ times_heard (take i ms) (take i ts) ++ times_heard (get_or ms i unheard ∷ []) (get_or ts i zero_time ∷ [])
  heard_turn =
      rw (add-one, take-suc ms i unheard h, take-suc ts i zero_time k)
      (heard_append (take i ms) (take i ts) _ _ (length-take-le i ms (omega arith) ∙ sym (length-take-le i ts (omega arith))))

  pub kth_turn : (r : List ℕ) (j b x : ℕ) → b ≡ greatest_with j r 0 (times_heard (take i ms) (take i ts))
      → x ≡ greatest_with j r b (times_heard (get_or ms i unheard ∷ []) (get_or ts i zero_time ∷ [])) → x ≡ greatest_with j r 0 (times_heard (take (i + 1) ms) (take (i + 1) ts))
  kth_turn r j b x e f =
      f ∙ ap (λ (y : ℕ). greatest_with j r y (times_heard (get_or ms i unheard ∷ []) (get_or ts i zero_time ∷ []))) e ∙ sym (with_append j r 0 _ _) ∙ ap (greatest_with j r 0) (sym heard_turn)

pub heard_all : (ms : List Heard) (ts : List Time) (i : ℕ) → length ms ≤ i → length ts ≤ i → times_heard (take i ms) (take i ts) ≡ times_heard ms ts
heard_all ms ts i h k = rw (take_all i ms h, take_all i ts k)

-- ---- a node against the best so far
module _ (k : ℕ) (r : List ℕ) (b : ℕ) (m : Heard) (t : Time) (x : Bool) (e : x ≡ (eqb (bit_of m) 1 and ltb b t.0)) where
  pub stays_below : x ≡ false → b ≡ greatest_with k r b (times_heard (m ∷ []) (t ∷ []))
  unfolding greatest_with times_heard
  stays_below f = go (eqb (bit_of m) 1) (sym e ∙ f)
    where
      low : (y : Bool) → ltb b t.0 ≡ false → b ≡ cond y (larger b t.0) b
      low true g = rw g
      low false g = refl

      go : (y : Bool) → (y and ltb b t.0) ≡ false → b ≡ greatest_with k r b (cond y (t.0 ∷ []) [])
      go true g = low (leb k (or_more t.0 r)) g
      go false g = refl

  module _ (y : x ≡ true) where
    rose : (eqb (bit_of m) 1 ≡ true) × (ltb b t.0 ≡ true)
    rose = both (eqb (bit_of m) 1) (ltb b t.0) (sym e ∙ y)

    pub stays_few : or_more t.0 r < k → b ≡ greatest_with k r b (times_heard (m ∷ []) (t ∷ []))
    unfolding greatest_with times_heard
    stays_few h = rw (rose.0, lt-leb k (or_more t.0 r) h)

    pub takes_place : k ≤ or_more t.0 r → t.0 ≡ greatest_with k r b (times_heard (m ∷ []) (t ∷ []))
    unfolding greatest_with times_heard
    takes_place h = rw (rose.0, le-leb k (or_more t.0 r) h, rose.1)
