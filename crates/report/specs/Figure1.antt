-- Figure 1 of CMU-PDL-03-105: pseudo-code for storage-node S. History is a set of triples; a line's number stands beside it.
--   initialize receive_time_request validate receive_write_request receive_read_latest receive_read_previous
-- What is sent is the result. Assumes nothing.
use Rattle.std.specs.Prelude.{ℕ, Bool, true, false, cond, not, List, [], ◌∷◌, ltb, eqb}
use Rattle.octets.specs.Bytes.{alike}
use Rattle.terms.specs.Ladder.{◌or◌}
use Rattle.report.specs.Triple.{Triple, null, such_that, each, max, Family}

abbrev pub initial : Triple
initial = record { ts = 0; D = null; CC = null }

-- History.ts
abbrev pub stamps : List Triple → List ℕ
stamps History = each (λ (X : Triple). X.ts) History

abbrev pub initialize : List Triple
initialize = initial ∷ []  -- 3

unfoldable pub receive_time_request : List Triple → ℕ
receive_time_request History = max (stamps History)  -- 1

unfoldable pub validate : Family → ℕ → Triple → Bool
validate f S X =
    cond (not (alike (f.hash X.CC) (f.Verifier X.ts)) or not (alike (f.hash X.D) (f.entry X.CC S)))  -- 1
    false  -- 2
    true  -- 5

-- History ∪ X, as a list
abbrev pub with_it : Triple → List Triple → List Triple
with_it X History = X ∷ History

-- the History after the request, and whether WRITE_RESPONSE is sent
pub record Written : Type 0 where
  pub History : List Triple
  pub sent : Bool

unfoldable pub receive_write_request : Family → ℕ → List Triple → Triple → Written
receive_write_request f S History X =
    cond (validate f S X)  -- 1
    (record { History = with_it X History; sent = true })  -- 3, 4
    (record { History = History; sent = false })  -- 5

-- (X : X.ts = MAX[History.ts], X ∈ History); "Note, Latest is a singleton"
unfoldable pub Latest : List Triple → List Triple
Latest History = such_that (λ (X : Triple). eqb X.ts (max (stamps History))) History

unfoldable pub receive_read_latest : List Triple → List Triple
receive_read_latest History = Latest History  -- 2, 3

unfoldable pub pre_history : List Triple → ℕ → List Triple
pre_history History ts = such_that (λ (X : Triple). ltb X.ts ts) History  -- 1

unfoldable pub receive_read_previous : List Triple → ℕ → List Triple
receive_read_previous History ts = Latest (pre_history History ts)  -- 3, 4
