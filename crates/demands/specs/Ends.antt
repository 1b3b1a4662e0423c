-- How a call ends: refused, by the first refusal of its order that applies, or accepted, where none does. Document 01, "Refusal numbers".
--   Ends l R A     refused k, with what R says of k; or accepted, with what A says
--   Granted HostGranted   a wish is answered by its smallest N and Q; a host by the two as bytes
-- Assumes nothing.
use Rattle.std.specs.Prelude.{ℕ, List, [], ◌∷◌, ◌≡◌}
use Rattle.terms.specs.Ladder.{Rung, None, Given}
use Rattle.wish.specs.declared.Wish.{Wish}
use Rattle.wish.specs.Wish.{SaidSmallest, counts, SmallestFor}

pub data Ends (l : List Rung) (R : ℕ → Type 0) (A : Type 0) : Type 0 where
  refuses : (k : ℕ) → Given l k → R k → Ends l R A
  accepts : None l → A → Ends l R A

pub record Granted (w : Wish) (a : SaidSmallest) : Type 0 where
  pub n : ℕ
  pub q : ℕ
  pub is : a ≡ counts n q
  pub smallest : SmallestFor w n q

-- and a host by two bytes
pub record HostGranted (w : Wish) (y : List ℕ) : Type 0 where
  pub n : ℕ
  pub q : ℕ
  pub is : y ≡ n ∷ q ∷ []
  pub smallest : SmallestFor w n q
