-- Numbers and bytes that stand in many arguments: strictly below, the larger of two, and a list that a computed test shows to be bytes. Assumes nothing.
use Prim.{tt}
use Prim.Native.Nat.{ℕ, zero, suc, ◌+◌, ◌-◌, ◌≤◌, ◌<◌}
use mathlib.Core.Path.{◌≡◌, refl}
use mathlib.Core.Bool.{Bool, true, false, cond}
use mathlib.Core.List.{List, [], ◌∷◌}
use native.Mathlib.Omega.{arith}
use lib.Dec.{ltb, lit<}
use borrow.Author.Tests.{ltb-true, ltb-false}
use Rattle.octets.specs.Bytes.{Octets}
use Rattle.terms.specs.Terms.{larger}
use Rattle.terms.proofs.Rungs.{both}

pub strict : (a b : ℕ) → a ≤ b → (a ≡ b → ⊥) → a < b
strict a b h k = go (ltb a b) refl
  where
    go : (t : Bool) → ltb a b ≡ t → a < b
    go true e = ltb-true a b e
    go false e = absurd (k (let m : b ≤ a = ltb-false a b e in omega arith))

pub larger_is : (a b : ℕ) → larger a b ≡ a + (b - a)
larger_is a b = go (ltb a b) refl
  where
    go : (t : Bool) → ltb a b ≡ t → cond t b a ≡ a + (b - a)
    go true e = let h = ltb-true a b e in omega arith
    go false e = let h = ltb-false a b e in omega arith

unfoldable pub small : List ℕ → Bool
small [] = true
small (x ∷ l) = cond (ltb x 256) (small l) false

pub small_octets : (l : List ℕ) → small l ≡ true → Octets l
unfolding small
small_octets [] e i = lit< tt
small_octets (x ∷ l) e zero = ltb-true _ _ (both (ltb x 256) _ e).0
small_octets (x ∷ l) e (suc i) = small_octets l (both (ltb x 256) _ e).1 i
