-- Bytes at a place of a list. Document 01, "Records, books, frames": all numbers are big-endian.
--   part l at n    the n elements of l from index at
--   put l at s     l with s at index at, everything else as it was
--   over new old   new, and past its end what old has there: "bytes past it stay"
--   num l          the bytes of l as a number; be n x the n lowest bytes of x
--   alike a b      whether a and b are equal, false where their lengths differ
--   Octets l       every element is a byte
-- Assumes nothing.
use Rattle.std.specs.Prelude.{ℕ, zero, suc, ◌+◌, ◌*◌, ◌/◌, ◌%◌, ◌<◌, List, [], ◌∷◌, ◌++◌, length, take, drop, get_or, eqb, Bool, true, false, cond}

unfoldable pub part : List ℕ → ℕ → ℕ → List ℕ
part l at n = take n (drop at l)

unfoldable pub put : List ℕ → ℕ → List ℕ → List ℕ
put l at s = take at l ++ (s ++ drop (at + length s) l)

unfoldable pub over : List ℕ → List ℕ → List ℕ
over new old = new ++ drop (length new) old

-- the number of some bytes, after those that give a
unfoldable pub num_from : ℕ → List ℕ → ℕ
num_from a [] = a
num_from a (x ∷ l) = num_from (a * 256 + x) l

unfoldable pub num : List ℕ → ℕ
num l = num_from 0 l

-- the n lowest bytes of x, the highest first, before s
unfoldable pub be_onto : ℕ → ℕ → List ℕ → List ℕ
be_onto zero x s = s
be_onto (suc n) x s = be_onto n (x / 256) (x % 256 ∷ s)

unfoldable pub be : ℕ → ℕ → List ℕ
be n x = be_onto n x []

unfoldable pub alike : List ℕ → List ℕ → Bool
alike [] [] = true
alike [] (y ∷ ys) = false
alike (x ∷ xs) [] = false
alike (x ∷ xs) (y ∷ ys) = cond (eqb x y) (alike xs ys) false

-- what a lent slice of bytes is known to be
abbrev pub Octets : List ℕ → Type 0
Octets b = (i : ℕ) → get_or b i 0 < 256
