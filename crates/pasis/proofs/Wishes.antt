-- From the call on a wish to the call on numbers and bytes. Assumes nothing.
--   number_is          the number of an answer, by the ladder of a wish
--   told_outside told_length told_answer   what the host is told: 1, 2, or the answer
use Prim.Native.Nat.{ℕ}
use mathlib.Core.Path.{◌≡◌, refl, sym, ap, subst, ◌∙◌}
use mathlib.Core.Bool.{Bool, true, false, cond, not}
use mathlib.Core.List.{List}
use native.Mathlib.Omega.{arith}
use borrow.Author.Tests.{eq-eqb, ne_eqb}
use lib.ListN.{length}
use Rattle.terms.specs.Ladder.{first}
use Rattle.terms.proofs.Ladders as ladders
use Rattle.terms.proofs.Rungs.{stop, go_on, passed}
use Rattle.wish.specs.declared.Wish.{Wish}
use Rattle.wish.specs.Wish.{Smallest, SaidSmallest, refused, counts, said_smallest, outside, unmet, wish_ladder, Says, SmallestCall}
use Rattle.packing.specs.PlanBytes.{wish_of}
use Rattle.answers.specs.Answers.{smallest_number, counts_after}
use Rattle.pasis.specs.Plans.{counts_told, smallest_bytes, SmallestServes}

pub number_says : (w : Wish) (a : SaidSmallest) → Says w a → smallest_number a ≡ first (wish_ladder w) (λ (k : ℕ). k) 0
number_says w (refused k) g = sym (ladders.is_given (wish_ladder w) (λ (j : ℕ). j) 0 k g)
number_says w (counts n q) h = sym (ladders.is_passed (wish_ladder w) (λ (j : ℕ). j) 0 h.0)

pub number_is : (w : Wish) (a : Smallest) → SmallestCall w a → smallest_number (said_smallest a) ≡ first (wish_ladder w) (λ (k : ℕ). k) 0
number_is w a c = number_says w (said_smallest a) c.is

-- 1 is the number of a wish outside its rules, and of no other
first_one : (o u : Bool) (k : ℕ) → k ≡ cond o 1 (cond u 20 0) → k ≡ 1 → o ≡ true
first_one true u k e h = refl
first_one false true k e h = absurd (omega arith)
first_one false false k e h = absurd (omega arith)

not_first : (o u : Bool) (k : ℕ) → k ≡ cond o 1 (cond u 20 0) → (k ≡ 1 → ⊥) → o ≡ false
not_first true u k e h = absurd (h e)
not_first false u k e h = refl

module _ (k t b m : ℕ) (w : Wish) (a : Smallest) (y : List ℕ) (r : ℕ) (e : w ≡ wish_of k t b m) (c : SmallestCall w a)
    (n : r ≡ smallest_number (said_smallest a)) where
  by_ladder : r ≡ cond (outside w) 1 (cond (unmet w) 20 0)
  unfolding first
  by_ladder = n ∙ number_is w a c

  called : (z : ℕ) (y₂ : List ℕ) → counts_told z y₂ ≡ smallest_bytes w (said_smallest a) y → SmallestServes k t b m y z y₂
  called z y₂ h =
      record {
        answer = a;
        call = subst (λ (v : Wish). SmallestCall v a) e c;
        is = h ∙ ap (λ (v : Wish). smallest_bytes v (said_smallest a) y) e;
      }

  pub told_outside : r ≡ 1 → SmallestServes k t b m y 1 y
  unfolding smallest_bytes
  told_outside h = called 1 y (stop 1 _ _ _ (first_one (outside w) (unmet w) r by_ladder h) refl)

  pub told_length : (r ≡ 1 → ⊥) → (length y ≡ 2 → ⊥) → SmallestServes k t b m y 2 y
  unfolding smallest_bytes
  told_length h l =
      called 2 y (go_on 1 _ _ _ (not_first (outside w) (unmet w) r by_ladder h) (stop 2 _ _ _ (ap not (ne_eqb (length y) 2 l)) refl))

  pub told_answer : (r ≡ 1 → ⊥) → length y ≡ 2 → (y₂ : List ℕ) → y₂ ≡ counts_after (said_smallest a) y → SmallestServes k t b m y r y₂
  unfolding smallest_bytes
  told_answer h l y₂ f =
      called r y₂
      (go_on 1 _ _ _ (not_first (outside w) (unmet w) r by_ladder h)
      (go_on 2 _ _ _ (ap not (eq-eqb (length y) 2 l)) (passed _ _ (λ i. counts_told (n i) (f i)))))
