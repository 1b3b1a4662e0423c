-- The smallest plan for a wish as a call for a host, on numbers and bytes: a member byte, t, b and m, and two bytes lent for N and Q. Document
-- 02, Q-1. A member byte above 1 is 1 (packing); other than two bytes lent is 2, after 1 and before 20. The call is that of `wish`: nothing is
-- said twice.
--   counts_lent             1 and 2, before 20
--   smallest_bytes          what the host is told of an answer
--   SmallestServes         the contract of pasis_smallest_plan
-- Assumes nothing.
use Rattle.std.specs.Prelude.{ℕ, ◌≡◌, not, List, [], ◌∷◌, length, eqb}
use Rattle.terms.specs.Ladder.{Rung, on, first}
use Rattle.wish.specs.declared.Wish.{Wish}
use Rattle.wish.specs.Wish.{Smallest, SaidSmallest, said_smallest, outside, SmallestCall}
use Rattle.packing.specs.PlanBytes.{wish_of}
use Rattle.answers.specs.Answers.{smallest_number, counts_after}

abbrev pub counts_lent : Wish → ℕ → List Rung
counts_lent w n = on 1 (outside w) ∷ on 2 (not (eqb n 2)) ∷ []

pub record CountsTold : Type 0 where
  pub number : ℕ
  pub counts : List ℕ

abbrev pub counts_told : ℕ → List ℕ → CountsTold
counts_told k y = record { number = k; counts = y }

unfoldable pub smallest_bytes : Wish → SaidSmallest → List ℕ → CountsTold
smallest_bytes w a y = first (counts_lent w (length y)) (λ (k : ℕ). counts_told k y) (counts_told (smallest_number a) (counts_after a y))

-- member byte, t, b, m, the bytes lent; then the number answered and the bytes as the call leaves them
pub record SmallestServes (k t b m : ℕ) (y : List ℕ) (r : ℕ) (y₂ : List ℕ) : Type 0 where
  pub answer : Smallest
  pub call : SmallestCall (wish_of k t b m) answer
  pub is : counts_told r y₂ ≡ smallest_bytes (wish_of k t b m) (said_smallest answer) y
