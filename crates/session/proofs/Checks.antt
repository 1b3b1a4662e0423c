-- From what a check came to, to the outcome that its ladder decides. Assumes nothing.
use Prim.{tt}
use Prim.Native.Nat.{ℕ, ◌≤◌}
use mathlib.Core.Path.{◌≡◌, refl, sym, ap, ◌∙◌}
use mathlib.Core.Bool.{Bool, true, false, cond}
use mathlib.Core.List.{List, [], ◌∷◌}
use native.Mathlib.Omega.{arith}
use borrow.Author.Tests.{leb-true}
use lib.Dec.{leb}
use Rattle.terms.specs.Ladder.{Rung, first, ◌and◌, None}
use Rattle.terms.specs.Terms.{refusal_number}
use Rattle.terms.specs.declared.Refusal.{Refusal}
use Rattle.terms.proofs.Rungs.{both, refusal_low}
use Rattle.terms.proofs.Ladders.{by_ladder, is_passed, is_given}

-- no refusal of a ladder has the number 0
abbrev pub numbered : List Rung → Bool
numbered [] = true
numbered (x ∷ xs) = leb 1 x.number and numbered xs

-- a ladder that came to 0: none of it applies
pub none_applies : (l : List Rung) → numbered l ≡ true → first l (λ (k : ℕ). k) 0 ≡ 0 → None l
unfolding first
none_applies [] n e = tt
none_applies (x ∷ xs) n e = go x.applies refl e (λ m g. none_applies xs m g)
  where
    b : (leb 1 x.number ≡ true) × (numbered xs ≡ true)
    b = both (leb 1 x.number) (numbered xs) n

    go : (c : Bool) → x.applies ≡ c → cond c x.number (first xs (λ (k : ℕ). k) 0) ≡ 0
        → (numbered xs ≡ true → first xs (λ (k : ℕ). k) 0 ≡ 0 → None xs) → (x.applies ≡ false) × None xs
    go true f g ih = let h = leb-true 1 x.number b.0 in absurd (omega arith)
    go false f g ih = (f, ih b.1 g)

-- a part of what a ladder gives
pub first_map : {A B : Type 0} (f : A → B) (l : List Rung) (refuse : ℕ → A) (pass : A) → f (first l refuse pass) ≡ first l (λ (k : ℕ). f (refuse k)) (f pass)
first_map f l refuse pass =
    by_ladder (λ (x : _). f x ≡ first l (λ (k : ℕ). f (refuse k)) (f pass)) l refuse pass (λ k g. sym (is_given l (λ (k : ℕ). f (refuse k)) (f pass) k g))
    (λ n. sym (is_passed l (λ (k : ℕ). f (refuse k)) (f pass) n))

-- what holds of every refusal, and of the pass where the ladder is passed, holds of the outcome
pub outcome_all : {A : Type 0} (P : A → Type 0) (l : List Rung) (refuse : ℕ → A) (pass : A) → ((k : ℕ) → P (refuse k))
    → (first l (λ (k : ℕ). k) 0 ≡ 0 → P pass) → P (first l refuse pass)
outcome_all P l refuse pass h g = by_ladder P l refuse pass (λ k q. h k) (λ n. g (is_passed l (λ (k : ℕ). k) 0 n))

module _ {A : Type 0} (refuse : ℕ → A) (pass : A) where
  pub goes_on : (l : List Rung) → numbered l ≡ true → first l (λ (k : ℕ). k) 0 ≡ 0 → pass ≡ first l refuse pass
  goes_on l n e = sym (is_passed l refuse pass (none_applies l n e))

  pub stops : (l : List Rung) (k : ℕ) → 1 ≤ k → first l (λ (j : ℕ). j) 0 ≡ k → refuse k ≡ first l refuse pass
  unfolding first
  stops [] k h e = absurd (omega arith)
  stops (x ∷ xs) k h e = go x.applies e (λ g. stops xs k h g)
    where
      go : (c : Bool) → cond c x.number (first xs (λ (j : ℕ). j) 0) ≡ k → (first xs (λ (j : ℕ). j) 0 ≡ k → refuse k ≡ first xs refuse pass)
          → refuse k ≡ cond c (refuse x.number) (first xs refuse pass)
      go true g ih = ap refuse (sym g)
      go false g ih = ih g

-- the two arms of a match on what a ladder came to, by its number
module _ (l : List Rung) (x : ℕ) (e : x ≡ first l (λ (k : ℕ). k) 0) where
  pub check_passed : x ≡ 0 → first l (λ (k : ℕ). k) 0 ≡ 0
  check_passed t = sym e ∙ t

  pub check_failed : {A : Type 0} (refuse : ℕ → A) (pass : A) (r : Refusal) → x ≡ refusal_number r → refuse (refusal_number r) ≡ first l refuse pass
  check_failed refuse pass r t = stops refuse pass l (refusal_number r) (refusal_low r) (sym e ∙ t)
