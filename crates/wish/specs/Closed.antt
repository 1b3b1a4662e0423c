-- The smallest N and Q by closed forms: what the code computes, and theorems say that they are the smallest (closed_forms, answer_is). No contract
-- of a public call names them. Document 02, Q-1: "For repairable members that N is the larger of 2t+2b+1 and m+2t+b."
--   nodes_by quorum_by        the four closed forms; nodes_for quorum_for, of a wish
--   answer_for               the answer of every wish
-- Assumes nothing.
use Rattle.std.specs.Prelude.{ℕ, ◌+◌, ◌-◌, ◌*◌, cond, ltb}
use Rattle.terms.specs.Terms.{larger}
use Rattle.terms.specs.declared.Member.{Member}
use Rattle.terms.specs.declared.Member.TheVariants.{Repairable, NonRepair}
use Rattle.wish.specs.declared.Wish.{Wish}
use Rattle.wish.specs.Wish.{outside, SaidSmallest, refused, counts}

abbrev pub nodes_by : Member → (t b m : ℕ) → ℕ
nodes_by Repairable t b m = larger (2 * t + 2 * b + 1) (m + 2 * t + b)
nodes_by NonRepair t b m = larger (3 * t + 3 * b + 1) (m + 2 * t + b)

abbrev pub quorum_by : Member → (t b m : ℕ) → ℕ
quorum_by Repairable t b m = larger (t + b + 1) (m + t)
quorum_by NonRepair t b m = larger (t + b + 1) (m - b)

abbrev pub nodes_for : Wish → ℕ
nodes_for w = nodes_by w.member w.t w.b w.m

abbrev pub quorum_for : Wish → ℕ
quorum_for w = quorum_by w.member w.t w.b w.m

-- the answer of every wish
unfoldable pub answer_for : Wish → SaidSmallest
answer_for w = cond (outside w) (refused 1) (cond (ltb 16 (nodes_for w)) (refused 20) (counts (nodes_for w) (quorum_for w)))
