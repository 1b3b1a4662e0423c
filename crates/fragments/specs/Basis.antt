-- A weight in two parts, of which one is made once for all values. Assumes nothing.
use Rattle.std.specs.Prelude.{◌≡◌, List, [], ◌∷◌, cond, ℕ, ◌≤◌, ◌<◌, eqb, length, get_or, take}
use Rattle.std.specs.Int.Bits.{bit_xor}
use Rattle.octets.specs.Bytes.{Octets}
use Rattle.field.specs.Field.{mul, inv}

-- x + q, and 1 where p is q; and the product of these over the points qs
unfoldable pub distance_of : ℕ → ℕ → ℕ → ℕ
distance_of x p q = cond (eqb p q) 1 (bit_xor x q)

unfoldable pub distances_of : List ℕ → ℕ → ℕ → ℕ
distances_of [] x p = 1
distances_of (q ∷ qs) x p = mul (distance_of x p q) (distances_of qs x p)

-- 16 bytes side by side
pub record Row (row : List ℕ) : Type 0 where
  pub wide : length row ≡ 16
  pub bytes : Octets row

-- the scales ws are those of the first m points ps
pub record Ready (ps ws : List ℕ) (m : ℕ) : Type 0 where
  pub few : m ≤ 16
  pub points : Row ps
  pub scales : Row ws
  pub right : (k : ℕ) → k < 16 → get_or ws k 0 ≡ inv (distances_of (take m ps) (get_or ps k 0) (get_or ps k 0))
