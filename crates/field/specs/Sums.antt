-- Sums over the field, and what a row of weights makes of strips of bytes. Assumes nothing.
--   sum_from g k n           g k + g (k + 1) + .., n terms
--   weighted ws at src i    byte i of the sum of the strips that lie at the places at of src, each times its weight
use Rattle.std.specs.Prelude.{List, ℕ, zero, suc, ◌+◌, ◌≤◌, ◌<◌, length, get_or}
use Rattle.std.specs.Int.Bits.{bit_xor}
use Rattle.field.specs.Field.{mul}

unfoldable pub sum_from : (ℕ → ℕ) → ℕ → ℕ → ℕ
sum_from g k zero = 0
sum_from g k (suc n) = bit_xor (g k) (sum_from g (suc k) n)

unfoldable pub weighted : List ℕ → List ℕ → List ℕ → ℕ → ℕ
weighted ws at src i = sum_from (λ k. mul (get_or ws k 0) (get_or src (get_or at k 0 + i) 0)) 0 (length ws)

-- each strip of n bytes lies within the buffer
abbrev pub Within : ℕ → List ℕ → List ℕ → Type 0
Within n at src = (k : ℕ) → k < length at → get_or at k 0 + n ≤ length src
