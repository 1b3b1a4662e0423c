-- The time replies as nodes are heard: one more for each (heard_one), as many as are heard (heard_all), none in a round that opens (heard_none).
-- Assumes nothing.
use Prim.Native.Nat.{ℕ, zero, suc, ◌+◌, ◌<◌}
use mathlib.Core.Path.{◌≡◌, refl, ap}
use mathlib.Core.Bool.{Bool, true, false, cond}
use mathlib.Core.List.{List, [], ◌∷◌}
use native.Mathlib.Omega.{arith}
use lib.Dec.{leb, eqb}
use lib.ListN.{length, set}
use Rattle.terms.specs.declared.Time.{Time}
use Rattle.rounds.specs.declared.Heard.{Heard}
use Rattle.rounds.specs.declared.Heard.TheVariants.{Unheard, First, Record}
use Rattle.rounds.specs.Rounds.{bit_of, heard_count, mark_of, unheards}
use Rattle.clock.specs.Clock.{zero_times, times_heard, or_more}

-- a node that was unheard, with its time
pub heard_one : (v : ℕ) (ms : List Heard) (ts : List Time) (i : ℕ) (t : Time) → i < length ms → length ms ≡ length ts → mark_of ms i ≡ Unheard
    → or_more v (times_heard (set ms i Record) (set ts i t)) ≡ cond (leb v t.0) 1 0 + or_more v (times_heard ms ts)
unfolding times_heard or_more
heard_one v [] ts i t h l e = absurd (omega arith)
heard_one v (m ∷ ms) [] i t h l e = absurd (omega arith)
heard_one v (m ∷ ms) (x ∷ ts) zero t h l e = rw (ap bit_of e)
heard_one v (m ∷ ms) (x ∷ ts) (suc i) t h l e = go (eqb (bit_of m) 1) (heard_one v ms ts i t (omega arith) (omega arith) e)
  where
    go : (b : Bool) → or_more v (times_heard (set ms i Record) (set ts i t)) ≡ cond (leb v t.0) 1 0 + or_more v (times_heard ms ts)
        → or_more v (cond b (x.0 ∷ times_heard (set ms i Record) (set ts i t)) (times_heard (set ms i Record) (set ts i t)))
        ≡ cond (leb v t.0) 1 0 + or_more v (cond b (x.0 ∷ times_heard ms ts) (times_heard ms ts))
    go true k = omega arith
    go false k = k

-- as many replies as nodes heard
pub heard_many : (ms : List Heard) (ts : List Time) → length ms ≡ length ts → length (times_heard ms ts) ≡ heard_count ms
unfolding times_heard heard_count
heard_many [] ts l = refl
heard_many (m ∷ ms) [] l = absurd (omega arith)
heard_many (m ∷ ms) (t ∷ ts) l = go m (heard_many ms ts (omega arith))
  where
    go : (h : Heard) → length (times_heard ms ts) ≡ heard_count ms
        → length (cond (eqb (bit_of h) 1) (t.0 ∷ times_heard ms ts) (times_heard ms ts)) ≡ bit_of h + heard_count ms
    go Unheard e = omega arith
    go First e = omega arith
    go Record e = omega arith

pub heard_none : times_heard unheards zero_times ≡ []
unfolding times_heard
heard_none = refl
