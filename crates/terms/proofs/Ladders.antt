-- What a call comes to whose refusals stand in a ladder: one law for all calls. Assumes nothing.
use Prim.{tt}
use Prim.Native.Nat.{ℕ}
use mathlib.Core.Path.{◌≡◌, refl, ap, ◌∙◌}
use mathlib.Core.Bool.{Bool, true, false, cond}
use mathlib.Core.List.{List, [], ◌∷◌, ◌++◌}
use Rattle.terms.specs.Ladder.{Rung, on, first, None, Given}

-- What holds of each refusal where it is given, and of the pass where none applies, holds of the outcome.
pub by_ladder : {A : Type 0} (P : A → Type 0) (l : List Rung) (refuse : ℕ → A) (pass : A) → ((k : ℕ) → Given l k → P (refuse k)) → (None l → P pass)
    → P (first l refuse pass)
unfolding first
by_ladder P [] refuse pass g h = h tt
by_ladder {A} P (x ∷ l) refuse pass g h = go x.applies refl (by_ladder P l refuse pass)
  where
    later : x.applies ≡ false → (k : ℕ) → Given l k → Given (x ∷ l) k
    later e k q = record { before = x ∷ q.before; after = q.after; is = λ i. x ∷ q.is i; none = (e, q.none) }

    go : (c : Bool) → x.applies ≡ c → (((k : ℕ) → Given l k → P (refuse k)) → (None l → P pass) → P (first l refuse pass))
        → P (cond c (refuse x.number) (first l refuse pass))
    go true e ih =
        g x.number (record { before = []; after = l; is = λ i. (record { number = x.number; applies = e i }) ∷ l; none = tt })
    go false e ih = ih (λ k q. g k (later e k q)) (λ n. h (e, n))

-- And so it is: a refusal that is given is the outcome, and where none applies the pass is.
given_at : {A : Type 0} (b a : List Rung) (k : ℕ) (refuse : ℕ → A) (pass : A) → None b → first (b ++ (on k true ∷ a)) refuse pass ≡ refuse k
unfolding first
given_at [] a k refuse pass n = refl
given_at (x ∷ b) a k refuse pass n = rw n.0 (given_at b a k refuse pass n.1)

module _ {A : Type 0} (l : List Rung) (refuse : ℕ → A) (pass : A) where
  pub is_given : (k : ℕ) → Given l k → first l refuse pass ≡ refuse k
  is_given k g = ap (λ (x : List Rung). first x refuse pass) g.is ∙ given_at g.before g.after k refuse pass g.none

pub is_passed : {A : Type 0} (l : List Rung) (refuse : ℕ → A) (pass : A) → None l → first l refuse pass ≡ pass
unfolding first
is_passed [] refuse pass n = refl
is_passed (x ∷ l) refuse pass n = rw n.0 (is_passed l refuse pass n.1)
