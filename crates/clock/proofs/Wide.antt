-- Times that have 8 bytes each, and the k-th greatest of those that are heard, which then has 8 bytes too. Assumes nothing.
use Prim.{Unit, tt}
use Prim.Native.Nat.{ℕ, zero, suc, ◌^◌, ◌<◌}
use mathlib.Core.Bool.{Bool, true, false, cond}
use mathlib.Core.List.{List, [], ◌∷◌}
use lib.Dec.{leb, ltb, eqb, lit<}
use lib.ListN.{set}
use Rattle.fragments.specs.Fragments.{All}
use Rattle.terms.specs.declared.Time.{Time}
use Rattle.rounds.specs.declared.Heard.{Heard}
use Rattle.rounds.specs.Rounds.{bit_of}
use Rattle.clock.specs.Clock.{zero_times, times_heard, or_more, greatest_with, kth_greatest}

abbrev pub WideTimes : List Time → Type 0
WideTimes [] = Unit {0}
WideTimes (t ∷ ts) = (t.0 < 256 ^ 8) × WideTimes ts

pub wide_zeros : WideTimes zero_times
wide_zeros = let z : 0 < 256 ^ 8 = lit< tt in (z, (z, (z, (z, (z, (z, (z, (z, (z, (z, (z, (z, (z, (z, (z, (z, tt))))))))))))))))

pub wide_set : (ts : List Time) (i : ℕ) (t : Time) → t.0 < 256 ^ 8 → WideTimes ts → WideTimes (set ts i t)
wide_set [] i t h w = tt
wide_set (x ∷ ts) zero t h w = (h, w.1)
wide_set (x ∷ ts) (suc i) t h w = (w.0, wide_set ts i t h w.1)

wide_heard : (ms : List Heard) (ts : List Time) → WideTimes ts → All (λ (x : ℕ). x < 256 ^ 8) (times_heard ms ts)
unfolding times_heard
wide_heard [] ts w = tt
wide_heard (m ∷ ms) [] w = tt
wide_heard (m ∷ ms) (t ∷ ts) w = go (eqb (bit_of m) 1) (wide_heard ms ts w.1)
  where
    go : (b : Bool) → All (λ (x : ℕ). x < 256 ^ 8) (times_heard ms ts) → All (λ (x : ℕ). x < 256 ^ 8) (cond b (t.0 ∷ times_heard ms ts) (times_heard ms ts))
    go true h = (w.0, h)
    go false h = h

wide_greatest : (k : ℕ) (r : List ℕ) (b : ℕ) (l : List ℕ) → b < 256 ^ 8 → All (λ (x : ℕ). x < 256 ^ 8) l → greatest_with k r b l < 256 ^ 8
unfolding greatest_with
wide_greatest k r b [] h a = h
wide_greatest k r b (v ∷ l) h a = wide_greatest k r (cond (leb k (or_more v r)) (cond (ltb b v) v b) b) l (go (leb k (or_more v r)) (ltb b v)) a.1
  where
    go : (x y : Bool) → cond x (cond y v b) b < 256 ^ 8
    go true true = a.0
    go true false = h
    go false y = h

pub kth_wide : (k : ℕ) (ms : List Heard) (ts : List Time) → WideTimes ts → kth_greatest k (times_heard ms ts) < 256 ^ 8
kth_wide k ms ts w = wide_greatest k (times_heard ms ts) 0 (times_heard ms ts) (lit< tt) (wide_heard ms ts w)
