-- Laws of the sets of the figures: MAX, those, each, strung, listed, In. Assumes nothing.
use Prim.Native.Nat.{ℕ, zero, suc, ◌+◌, ◌-◌, ◌≤◌, ◌<◌}
use mathlib.Core.Path.{◌≡◌, refl, sym, ap, ap₂, ◌∙◌}
use mathlib.Core.Bool.{Bool, true, false, cond}
use mathlib.Core.List.{List, [], ◌∷◌, ◌++◌}
use mathlib.Core.Logic.{◌⊎◌, inl, inr}
use native.Mathlib.Omega.{arith}
use borrow.Author.Tests.{leb-true, leb-false}
use lib.Dec.{leb}
use lib.ListN.{length, take, length-append}
use lib.Seq.{take-append-le, take_all}
use Rattle.terms.specs.Terms.{larger}
use Rattle.terms.proofs.Small.{larger_is}
use Rattle.record.specs.Desk.{row}
use Rattle.report.specs.Triple.{such_that, each, In, Same, max, up_to, strung}

-- ---- the greatest
pub larger_low : (a b : ℕ) → b ≤ a → larger a b ≡ a
larger_low a b h = larger_is a b ∙ omega arith

pub larger_high : (a b : ℕ) → a ≤ b → larger a b ≡ b
larger_high a b h = larger_is a b ∙ omega arith

larger_swap : (a b c : ℕ) → larger (larger a b) c ≡ larger (larger a c) b
larger_swap a b c =
    larger_is (larger a b) c ∙ ap (λ (x : ℕ). x + (c - x)) (larger_is a b) ∙ omega arith
    ∙ sym (larger_is (larger a c) b ∙ ap (λ (x : ℕ). x + (b - x)) (larger_is a c))

pub max_snoc : (l : List ℕ) (x : ℕ) → max (l ++ (x ∷ [])) ≡ larger (max l) x
unfolding max
max_snoc [] x = refl
max_snoc (y ∷ l) x = ap (λ (m : ℕ). larger m y) (max_snoc l x) ∙ larger_swap (max l) x y

-- ---- lists one after the other
module _ {A : Type 0} where
  pub those_append : (t : A → Bool) (l k : List A) → such_that t (l ++ k) ≡ such_that t l ++ such_that t k
  unfolding such_that
  those_append t [] k = refl
  those_append t (x ∷ l) k = go (t x) (those_append t l k)
    where
      go : (b : Bool) → such_that t (l ++ k) ≡ such_that t l ++ such_that t k
          → cond b (x ∷ such_that t (l ++ k)) (such_that t (l ++ k)) ≡ cond b (x ∷ such_that t l) (such_that t l) ++ such_that t k
      go true e = ap (λ (z : List A). x ∷ z) e
      go false e = e

module _ {A B : Type 0} where
  pub each_append : (f : A → B) (l k : List A) → each f (l ++ k) ≡ each f l ++ each f k
  unfolding each
  each_append f [] k = refl
  each_append f (x ∷ l) k = ap (λ (z : List B). f x ∷ z) (each_append f l k)

  pub length_each : (f : A → B) (l : List A) → length (each f l) ≡ length l
  unfolding each
  length_each f [] = refl
  length_each f (x ∷ l) = ap suc (length_each f l)

-- ---- one after the other
pub strung_row : (f : ℕ → List ℕ) (n : ℕ) → strung f n ≡ row f n
unfolding strung row
strung_row f zero = refl
strung_row f (suc n) = ap (λ (l : List ℕ). l ++ f n) (strung_row f n)

pub strung_same : (f g : ℕ → List ℕ) (n : ℕ) → ((k : ℕ) → k < n → f k ≡ g k) → strung f n ≡ strung g n
unfolding strung
strung_same f g zero h = refl
strung_same f g (suc n) h = ap₂ (λ (a b : List ℕ). a ++ b) (strung_same f g n (λ k i. h k (omega arith))) (h n (omega arith))

pub listed_same : {A : Type 0} (f g : ℕ → A) (n : ℕ) → ((k : ℕ) → k < n → f k ≡ g k) → up_to f n ≡ up_to g n
unfolding up_to
listed_same f g zero h = refl
listed_same {A} f g (suc n) h = ap₂ (λ (l : List A) (x : A). l ++ (x ∷ [])) (listed_same f g n (λ k i. h k (omega arith))) (h n (omega arith))

-- ---- the first of a list
module _ {A B : Type 0} where
  pub take_each : (n : ℕ) (f : A → B) (l : List A) → take n (each f l) ≡ each f (take n l)
  unfolding each
  take_each zero f l = refl
  take_each (suc n) f [] = refl
  take_each (suc n) f (x ∷ l) = ap (λ (z : List B). f x ∷ z) (take_each n f l)

module _ {A : Type 0} (f : ℕ → A) where
  pub length_listed : (n : ℕ) → length (up_to f n) ≡ n
  unfolding up_to
  length_listed zero = refl
  length_listed (suc n) = length-append (up_to f n) (f n ∷ []) ∙ omega (arith, length_listed n)

  pub take_listed : (m n : ℕ) → m ≤ n → take m (up_to f n) ≡ up_to f m
  unfolding up_to
  take_listed m zero h = let z : m ≡ 0 = omega arith in rw z
  take_listed m (suc n) h = go (leb m n) refl (λ l. take_listed m n l)
    where
      go : (t : Bool) → leb m n ≡ t → (m ≤ n → take m (up_to f n) ≡ up_to f m) → take m (up_to f n ++ (f n ∷ [])) ≡ up_to f m
      go true e ih =
          let l = leb-true m n e in
          take-append-le m (up_to f n) (f n ∷ []) (omega (arith, length_listed n)) ∙ ih l
      go false e ih =
          let l = leb-false m n e in
          let z : m ≡ suc n = omega arith in
          take_all m (up_to f n ++ (f n ∷ [])) (omega (arith, length-append (up_to f n) (f n ∷ []), length_listed n)) ∙ ap (up_to f) (sym z)

-- ---- members
module _ {A : Type 0} where
  pub in_append : (x : A) (l m : List A) → In x l ⊎ In x m → In x (l ++ m)
  in_append x [] m (inl h) = absurd h
  in_append x [] m (inr h) = h
  in_append x (y ∷ l) m (inl (inl e)) = inl e
  in_append x (y ∷ l) m (inl (inr h)) = inr (in_append x l m (inl h))
  in_append x (y ∷ l) m (inr h) = inr (in_append x l m (inr h))

  pub in_split : (x : A) (l m : List A) → In x (l ++ m) → In x l ⊎ In x m
  in_split x [] m h = inr h
  in_split x (y ∷ l) m (inl e) = inl (inl e)
  in_split x (y ∷ l) m (inr h) = go (in_split x l m h)
    where
      go : In x l ⊎ In x m → In x (y ∷ l) ⊎ In x m
      go (inl k) = inl (inr k)
      go (inr k) = inr k

  pub same_more : (x : A) (l m : List A) → Same l m → Same (x ∷ l) (x ∷ m)
  same_more x l m f y = (there, back)
    where
      there : In y (x ∷ l) → In y (x ∷ m)
      there (inl e) = inl e
      there (inr h) = inr ((f y).0 h)

      back : In y (x ∷ m) → In y (x ∷ l)
      back (inl e) = inl e
      back (inr h) = inr ((f y).1 h)

  pub same_trans : (l m k : List A) → Same l m → Same m k → Same l k
  same_trans l m k f g y = ((λ h. (g y).0 ((f y).0 h)), (λ h. (f y).1 ((g y).1 h)))
