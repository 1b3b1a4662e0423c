-- For the functions that decode and repair. Assumes nothing.
--   Usable             a close whose set can be decoded
use Rattle.std.specs.Prelude.{ℕ, ◌*◌, ◌≤◌, ◌<◌, ◌≡◌, true, List, length, get_or}
use Rattle.terms.specs.declared.Plan.{Plan}
use Rattle.terms.specs.Terms.{plan_ok, record_length}
use Rattle.rounds.specs.declared.Close.{Close}

-- a close of this plan whose set can be decoded: node a leads it, it has m nodes, and they and the desk are this plan's
pub record Usable (p : Plan) (c : Close) (a : ℕ) (d : List ℕ) : Type 0 where
  pub plan : plan_ok p ≡ true
  pub desk : length d ≡ p.n * record_length p
  pub lead : a < p.n
  pub nodes : length c.set.nodes ≡ 16
  pub size : p.m ≤ c.set.size
  pub below : (k : ℕ) → k < p.m → get_or c.set.nodes k 0 < p.n
