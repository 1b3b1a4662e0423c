-- Numbers as a text writes them.
--   numeral_from x l   the number that the digits x and then the bytes l write, if they do
--   numeral_of l       the number that the bytes l write: one digit or more, and at most 999,999,999
-- Assumes nothing.
use Rattle.std.specs.Prelude.{ℕ, ◌+◌, ◌-◌, ◌*◌, Bool, true, false, List, [], ◌∷◌, Option, Some, None, ltb}

abbrev pub pick : Bool → Option ℕ → Option ℕ → Option ℕ
pick true x y = x
pick false x y = y

unfoldable pub numeral_from : ℕ → List ℕ → Option ℕ
numeral_from x [] = Some x
numeral_from x (d ∷ l) =
    pick (ltb d 48) None (pick (ltb 57 d) None (pick (ltb 99999999 x) None (numeral_from (x * 10 + (d - 48)) l)))

unfoldable pub numeral_of : List ℕ → Option ℕ
numeral_of [] = None
numeral_of (d ∷ l) = numeral_from 0 (d ∷ l)
