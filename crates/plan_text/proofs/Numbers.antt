-- Laws of a number in a text: how its digits are read, the first to the last.
--   none start     no byte writes no number; the reading starts with 0
--   low high big   a byte that is no digit, or a digit too many, ends it
--   on done        a digit goes on; the end gives the number
-- Assumes nothing.
use Rattle.std.proofs.Common.{◌≡◌, ℕ, ◌+◌, ◌-◌, ◌*◌, ◌≤◌, ◌<◌, List, [], ◌∷◌, length, get_or, drop, Some, None, refl, sym, ◌∙◌, ap, arith, add-one}
use Rattle.std.proofs.Math.Seq.{drop-cons}
use borrow.Author.Tests.{lt-ltb, le-ltb}
use lib.ListN.{drop_of_length-le}
use Rattle.plan_text.specs.Text.{numeral_from, numeral_of}

pub none : (s : List ℕ) → length s ≡ 0 → None ≡ numeral_of s
unfolding numeral_of
none [] h = refl
none (d ∷ l) h = absurd (omega arith)

pub start : (s : List ℕ) → 0 < length s → numeral_of s ≡ numeral_from 0 s
unfolding numeral_of
start [] h = absurd (omega arith)
start (d ∷ l) h = refl

-- one byte
low_byte : (x d : ℕ) (l : List ℕ) → d < 48 → numeral_from x (d ∷ l) ≡ None
unfolding numeral_from
low_byte x d l h = rw (lt-ltb d 48 h)

high_byte : (x d : ℕ) (l : List ℕ) → 57 < d → numeral_from x (d ∷ l) ≡ None
unfolding numeral_from
high_byte x d l h = rw (le-ltb d 48 (omega arith), lt-ltb 57 d h)

big_byte : (x d : ℕ) (l : List ℕ) → 48 ≤ d → d ≤ 57 → 99999999 < x → numeral_from x (d ∷ l) ≡ None
unfolding numeral_from
big_byte x d l h k b = rw (le-ltb d 48 h, le-ltb 57 d k, lt-ltb 99999999 x b)

goes_on : (x d : ℕ) (l : List ℕ) → 48 ≤ d → d ≤ 57 → x ≤ 99999999 → numeral_from x (d ∷ l) ≡ numeral_from (x * 10 + (d - 48)) l
unfolding numeral_from
goes_on x d l h k b = rw (le-ltb d 48 h, le-ltb 57 d k, le-ltb 99999999 x b)

-- at a place i, where x was read
module _ (s : List ℕ) (x i : ℕ) (here : numeral_of s ≡ numeral_from x (drop i s)) where
  at_byte : i < length s → numeral_of s ≡ numeral_from x (get_or s i 0 ∷ drop (i + 1) s)
  at_byte h = here ∙ ap (numeral_from x) (drop-cons s i 0 h ∙ ap (λ (j : ℕ). get_or s i 0 ∷ drop j s) (sym (add-one i)))

  pub low : i < length s → get_or s i 0 < 48 → None ≡ numeral_of s
  low h b = sym (at_byte h ∙ low_byte x (get_or s i 0) (drop (i + 1) s) b)

  pub high : i < length s → 57 < get_or s i 0 → None ≡ numeral_of s
  high h b = sym (at_byte h ∙ high_byte x (get_or s i 0) (drop (i + 1) s) b)

  pub big : i < length s → 48 ≤ get_or s i 0 → get_or s i 0 ≤ 57 → 99999999 < x → None ≡ numeral_of s
  big h a b z = sym (at_byte h ∙ big_byte x (get_or s i 0) (drop (i + 1) s) a b z)

  pub on : i < length s → 48 ≤ get_or s i 0 → get_or s i 0 ≤ 57 → x ≤ 99999999
      → numeral_of s ≡ numeral_from (x * 10 + (get_or s i 0 - 48)) (drop (i + 1) s)
  on h a b z = at_byte h ∙ goes_on x (get_or s i 0) (drop (i + 1) s) a b z

  pub done : length s ≤ i → Some x ≡ numeral_of s
  unfolding numeral_from
  done h = sym (here ∙ ap (numeral_from x) (drop_of_length-le s h))
