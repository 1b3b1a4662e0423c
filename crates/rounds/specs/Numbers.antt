-- How many nodes. A choice of nodes is a test of node numbers: the nodes that lie, those that are honest, those that executed a write.
--   number_of           how many of the first n nodes a test holds of
-- Assumes nothing.
use Rattle.std.specs.Prelude.{ℕ, zero, suc, ◌+◌, Bool, cond}

-- of the nodes 0 to n-1
unfoldable pub number_of : (ℕ → Bool) → ℕ → ℕ
number_of test zero = 0
number_of test (suc n) = cond (test n) 1 0 + number_of test n
