-- Laws of the lanes: a state written and read again, and loops over the lanes. Assumes nothing.
use mathlib.Core.Path.{◌≡◌, refl, ap, ◌∙◌}
use Prim.Native.Nat.{ℕ, suc, zero, ◌+◌, ◌*◌, ◌≤◌, ◌<◌}
use mathlib.Core.List.{List, [], ◌∷◌}
use native.Mathlib.Omega.{arith}
use native.Mathlib.Decide.{ℕ_discrete}
use lib.ListN.{length, get_or, set, length-set}
use lib.Seq.{get_or-set_same, get_or-set_other}
use Rattle.sha256.specs.declared.State.{State}
use Rattle.lanes.specs.Lanes.{lane_of, EachLane}
use Rattle.lanes.specs.Inside.{scatter, with_lane}

-- ---- values written at every eighth place

scatter_length : (vs s : List ℕ) (l k : ℕ) → length (scatter s l k vs) ≡ length s
unfolding scatter
scatter_length [] s l k = refl
scatter_length (v ∷ vs) s l k = scatter_length vs (set s (l + 8 * k) v) l (suc k) ∙ length-set s (l + 8 * k) v

-- a place of another lane
scatter_other : (vs s : List ℕ) (l k j p i : ℕ) → l < 8 → j < 8 → (j ≡ l → ⊥) → p ≡ j + 8 * i → get_or (scatter s l k vs) p 0 ≡ get_or s p 0
unfolding scatter
scatter_other [] s l k j p i hl hj q e = refl
scatter_other (v ∷ vs) s l k j p i hl hj q e =
    scatter_other vs (set s (l + 8 * k) v) l (suc k) j p i hl hj q e
    ∙ get_or-set_other s (l + 8 * k) p v 0 (λ z. q (apart z))
  where
    apart : p ≡ l + 8 * k → j ≡ l
    apart z = omega arith

-- a place before those that are written
scatter_before : (vs s : List ℕ) (l k p : ℕ) → p < l + 8 * k → get_or (scatter s l k vs) p 0 ≡ get_or s p 0
unfolding scatter
scatter_before [] s l k p h = refl
scatter_before (v ∷ vs) s l k p h =
    scatter_before vs (set s (l + 8 * k) v) l (suc k) p (omega arith)
    ∙ get_or-set_other s (l + 8 * k) p v 0 (λ e. off e)
  where
    off : p ≡ l + 8 * k → ⊥
    off e = omega arith

scatter_at : (vs s : List ℕ) (l k p i : ℕ) → l < 8 → 8 * (k + length vs) ≤ length s → i < length vs → p ≡ l + 8 * (k + i) → get_or (scatter s l k vs) p 0 ≡ get_or vs i 0
unfolding scatter
scatter_at [] s l k p i h b q e = absurd (omega arith)
scatter_at (v ∷ vs) s l k p zero h b q e =
    let d : p ≡ l + 8 * k = omega arith in
    scatter_before vs (set s (l + 8 * k) v) l (suc k) p (omega arith)
    ∙ ap (λ (x : ℕ). get_or (set s (l + 8 * k) v) x 0) d
    ∙ get_or-set_same s (l + 8 * k) v 0 (omega arith)
scatter_at (v ∷ vs) s l k p (suc i) h b q e =
    let z : length (set s (l + 8 * k) v) ≡ length s = length-set s (l + 8 * k) v in
    scatter_at vs (set s (l + 8 * k) v) l (suc k) p i h (omega arith) (omega arith) (omega arith)

-- ---- a lane written, and read again

lane_length : (s : List ℕ) (l : ℕ) (r : State) → length (with_lane s l r) ≡ length s
unfolding with_lane
lane_length s l r = scatter_length _ (set s l r.a) l 1 ∙ length-set s l r.a

lane_same : (s : List ℕ) (l : ℕ) (r : State) → length s ≡ 64 → l < 8 → lane_of (with_lane s l r) l ≡ r
unfolding with_lane lane_of
lane_same s l r z h =
    let vs : List ℕ = r.b ∷ r.c ∷ r.d ∷ r.e ∷ r.f ∷ r.g ∷ r.h ∷ [] in
    let y : length (set s l r.a) ≡ length s = length-set s l r.a in
    let first : get_or (scatter (set s l r.a) l 1 vs) l 0 ≡ r.a = scatter_before vs (set s l r.a) l 1 l (omega arith) ∙ get_or-set_same s l r.a 0 (omega arith) in
    let at : (p i : ℕ) → i < 7 → p ≡ l + 8 * (1 + i) → get_or (scatter (set s l r.a) l 1 vs) p 0 ≡ get_or vs i 0 = λ p i q e. scatter_at vs (set s l r.a) l 1 p i h (omega arith) q e in
    λ j. record { a = first j; b = at (l + 8) 0 (omega arith) (omega arith) j; c = at (l + 16) 1 (omega arith) (omega arith) j; d = at (l + 24) 2 (omega arith) (omega arith) j; e = at (l + 32) 3 (omega arith) (omega arith) j; f = at (l + 40) 4 (omega arith) (omega arith) j; g = at (l + 48) 5 (omega arith) (omega arith) j; h = at (l + 56) 6 (omega arith) (omega arith) j }

lane_other : (s : List ℕ) (l : ℕ) (r : State) (m : ℕ) → l < 8 → m < 8 → (m ≡ l → ⊥) → lane_of (with_lane s l r) m ≡ lane_of s m
unfolding with_lane lane_of
lane_other s l r m h hm q =
    let vs : List ℕ = r.b ∷ r.c ∷ r.d ∷ r.e ∷ r.f ∷ r.g ∷ r.h ∷ [] in
    let at : (p i : ℕ) → p ≡ m + 8 * i → get_or (scatter (set s l r.a) l 1 vs) p 0 ≡ get_or s p 0 = λ p i e. scatter_other vs (set s l r.a) l 1 m p i h hm q e ∙ get_or-set_other s l p r.a 0 (λ z. q (off p i e z)) in
    λ j. record { a = at m 0 (omega arith) j; b = at (m + 8) 1 (omega arith) j; c = at (m + 16) 2 (omega arith) j; d = at (m + 24) 3 (omega arith) j; e = at (m + 32) 4 (omega arith) j; f = at (m + 40) 5 (omega arith) j; g = at (m + 48) 6 (omega arith) j; h = at (m + 56) 7 (omega arith) j }
  where
    off : (p i : ℕ) → p ≡ m + 8 * i → p ≡ l → m ≡ l
    off p i e z = omega arith

-- ---- a loop over the lanes

pub each_next : (f : ℕ → State) (n : ℕ) (old s new : List ℕ) (r : State) → n < 8 → EachLane f n old s → r ≡ f n → new ≡ with_lane s n r → EachLane f (n + 1) old new
each_next f n old s new r h u e q =
    record {
      long = ap length q ∙ lane_length s n r ∙ u.long;
      done = λ l k. ap (λ (x : List ℕ). lane_of x l) q ∙ done l k (ℕ_discrete l n);
      left = λ l k b. ap (λ (x : List ℕ). lane_of x l) q ∙ lane_other s n r l h b (λ z. off l k z) ∙ u.left l (omega arith) b;
    }
  where
    off : (l : ℕ) → n + 1 ≤ l → l ≡ n → ⊥
    off l k z = omega arith

    done : (l : ℕ) → l < n + 1 → Dec (l ≡ n) → lane_of (with_lane s n r) l ≡ f l
    done l k (yes z) = rw z (lane_same s n r u.long h ∙ e)
    done l k (no z) = lane_other s n r l h (omega arith) z ∙ u.done l (omega arith)

-- the lane that comes next is still as it was
pub each_own : (f : ℕ → State) (n : ℕ) (old s : List ℕ) → n < 8 → EachLane f n old s → lane_of s n ≡ lane_of old n
each_own f n old s h u = u.left n (omega arith) h

-- said of the lanes in other words
pub each_as : (f g : ℕ → State) (n : ℕ) (old new : List ℕ) → ((l : ℕ) → l < n → f l ≡ g l) → EachLane f n old new → EachLane g n old new
each_as f g n old new e u = record { long = u.long; done = λ l h. u.done l h ∙ e l h; left = u.left }
