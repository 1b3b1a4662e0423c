-- A loop that writes a slice from its start: what has been written, and what stands as it was. Assumes nothing.
use mathlib.Core.Path.{◌≡◌, ◌∙◌}
use mathlib.Core.List.{List}
use Prim.Native.Nat.{ℕ, ◌+◌, ◌≤◌, ◌<◌}
use native.Mathlib.Omega.{arith}
use native.Mathlib.Decide.{ℕ_discrete}
use lib.ListN.{length, get_or, set, length-set}
use lib.Seq.{get_or-set_same, get_or-set_other}

-- the first i elements are as P asks, the others as they were
pub record Upto (P : ℕ → ℕ → Type 0) (i : ℕ) (old new : List ℕ) : Type 0 where
  pub same : length new ≡ length old
  pub done : (k : ℕ) → k < i → P k (get_or new k 0)
  pub left : (k : ℕ) → i ≤ k → get_or new k 0 ≡ get_or old k 0

pub upto_next : (P : ℕ → ℕ → Type 0) (i : ℕ) (old new : List ℕ) (v : ℕ) → Upto P i old new → i < length old → P i v → Upto P (i + 1) old (set new i v)
upto_next P i old new v u h e =
    record {
      same = length-set new i v ∙ u.same;
      done = λ k l. done k l (ℕ_discrete k i);
      left = λ k l. get_or-set_other new i k v 0 (λ q. off k l q) ∙ u.left k (omega arith);
    }
  where
    off : (k : ℕ) → i + 1 ≤ k → k ≡ i → ⊥
    off k l q = omega arith

    done : (k : ℕ) → k < i + 1 → Dec (k ≡ i) → P k (get_or (set new i v) k 0)
    done k l (yes q) = rw (q, get_or-set_same new i v 0 (omega (arith, u.same))) e
    done k l (no q) = rw (get_or-set_other new i k v 0 q) (u.done k (omega arith))
