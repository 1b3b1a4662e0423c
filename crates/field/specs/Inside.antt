-- What only the functions below `combine` need: weights bit by bit. Assumes nothing.
use Rattle.std.specs.Prelude.{cond, List, ◌≡◌, ℕ, ◌+◌, ◌-◌, ◌*◌, ◌/◌, ◌%◌, ◌^◌, ◌≤◌, ◌<◌, ltb, length, get_or}
use Rattle.std.specs.Int.Bits.{bit_xor}
use Rattle.field.specs.declared.sums.Factor.{Factor}
use Rattle.field.specs.declared.sums.Factor.TheVariants.{Zero, One, Two, Four}
use Rattle.field.specs.Sums.{sum_from}

-- what a pass multiplies by
abbrev pub number : Factor → ℕ
number Zero = 0
number One = 1
number Two = 2
number Four = 4

-- bit b of weight k
unfoldable pub bit_of : ℕ → List ℕ → ℕ → ℕ
bit_of b ws k = get_or ws k 0 / 2 ^ b % 2

-- r is the first place from `from` on whose weight has bit b, or where there is none the number of weights
pub record Next (b : ℕ) (ws : List ℕ) (from r : ℕ) : Type 0 where
  pub within : r ≤ length ws
  pub past : from ≤ length ws → from ≤ r
  pub between : (k : ℕ) → from ≤ k → k < r → bit_of b ws k ≡ 0
  pub here : r < length ws → bit_of b ws r ≡ 1
  pub none : length ws ≤ from → r ≡ length ws

-- byte i of the sum of the sources from the k-th on whose weight has bit b
unfoldable pub with_bit : ℕ → List ℕ → List ℕ → List ℕ → ℕ → ℕ → ℕ
with_bit b ws at src i k = sum_from (λ j. get_or src (get_or at j 0 + i) 0 * bit_of b ws j) k (length ws - k)

-- byte k of source i and, where there is one, source j
unfoldable pub pair : List ℕ → List ℕ → ℕ → ℕ → ℕ → ℕ
pair at src k i j = bit_xor (get_or src (get_or at i 0 + k) 0) (cond (ltb j (length at)) (get_or src (get_or at j 0 + k) 0) 0)
