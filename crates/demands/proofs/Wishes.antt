-- DOCUMENT 02, Q-1: THE SMALLEST PLAN FOR A WISH. "For repairable members that N is the larger of 2t+2b+1 and m+2t+b"; likewise the three other
-- closed forms; and the answer of every wish by them. That the answer is unique stands in Unique, when it is refused in Refusals. Assumes nothing.
--   repairable_forms non_repair_forms   the smallest N and Q
--   every_answer                        what the call answers
--   document_plan                       an instance: document 01's first plan is the smallest for its t, b and m
use Prim.Native.Nat.{ℕ, ◌+◌, ◌-◌, ◌*◌}
use mathlib.Core.Path.{◌≡◌, refl}
use native.Mathlib.Omega.{arith}
use Rattle.terms.specs.declared.Member.TheVariants.{Repairable, NonRepair}
use Rattle.wish.specs.declared.Wish.{Wish}
use Rattle.wish.specs.Wish.{Smallest, SmallestFor, said_smallest, SmallestCall}
use Rattle.terms.specs.Terms.{larger}
use Rattle.wish.specs.Closed.{answer_for}
use Rattle.wish.proofs.Laws.{smallest, closed_forms}
use Rattle.wish.proofs.Calls.{answer_is}
use Rattle.demands.specs.Edges.{wish_for}

pub repairable_forms : (t b m n q : ℕ) → SmallestFor (wish_for Repairable t b m) n q
    → (n ≡ larger (2 * t + 2 * b + 1) (m + 2 * t + b)) × (q ≡ larger (t + b + 1) (m + t))
repairable_forms t b m n q s = closed_forms (wish_for Repairable t b m) n q s

pub non_repair_forms : (t b m n q : ℕ) → SmallestFor (wish_for NonRepair t b m) n q
    → (n ≡ larger (3 * t + 3 * b + 1) (m + 2 * t + b)) × (q ≡ larger (t + b + 1) (m - b))
non_repair_forms t b m n q s = closed_forms (wish_for NonRepair t b m) n q s

pub every_answer : (w : Wish) (a : Smallest) → SmallestCall w a → said_smallest a ≡ answer_for w
every_answer w a c = answer_is w a c

-- ---- the hypothesis can be met
pub document_plan : SmallestFor (wish_for Repairable 1 1 2) 5 3
document_plan = smallest (wish_for Repairable 1 1 2) refl (omega arith)
