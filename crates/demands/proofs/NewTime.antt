-- DOCUMENT 02, Q-2: ONE BAD MACHINE USED UP THE CLOCK. "Take the (b+1)-th greatest of the N-t time replies, equal values counted each, and add 1."
--   kth_greatest_lem in_falling_order   what the k-th greatest is: in words, and as entry k of the replies in falling order
--   clock_edges                     the document's replies, and both sides of each edge
--   near_honest clock_honest        with at most b lying nodes the new time is at most one above some honest reply; and an honest reply spends the clock
--   complete_is_passed              a write that Q honest nodes executed before they answer is passed
--   figure_2_itself                 demand 2 reads with this time against the report: where b is 0 it is Figure 2 as printed
-- A write is one of ours, over any replies from an accepted opening on (ToWrite, ToSpent); its replies are READ_TIMESTAMP's response set, the N-t time
-- replies that it counted, one a node. That such a write acts as Figure 2 with this line 13 is write_as_the_report of Demand2, that the order of the
-- replies does not matter times_in_any_order of Demand3, that clock spent is given exactly then Refusals and the contract. Assumes nothing.
use Prim.Native.Nat.{ℕ, ◌+◌, ◌≤◌, ◌<◌}
use mathlib.Core.Path.{◌≡◌, refl}
use mathlib.Core.Bool.{Bool, true}
use mathlib.Core.List.{List, [], ◌∷◌}
use lib.ListN.{length, get_or}
use Rattle.terms.specs.Stamp.{top}
use Rattle.terms.specs.declared.Plan.{Plan}
use Rattle.clock.specs.Clock.{or_more, greatest_with, kth_greatest, IsKth, falling}
use Rattle.clock.proofs.Kth as kth
use Rattle.report.specs.Triple.{In}
use Rattle.report.specs.Figure2.{Clock}
use Rattle.report.specs.Ours.{family, reported}
use Rattle.rounds.specs.Numbers.{number_of}
use Rattle.report.specs.NewTime.{ToWrite, new_time_of, time_replies, ToSpent, spent_replies, NearHonest, AnswersAfter}
use Rattle.report.proofs.NewTime as new_time

-- ---- the rule, for any replies and any k of them
-- the greatest number v such that at least k of the replies are v or more; there is no other such number
pub kth_greatest_lem : (k : ℕ) (replies : List ℕ) → 1 ≤ k → k ≤ length replies
    → IsKth k replies (kth_greatest k replies) × ((v : ℕ) → IsKth k replies v → v ≡ kth_greatest k replies)
kth_greatest_lem k replies h l = (kth.kth_is k replies h l, λ v i. kth.kth_one k replies v (kth_greatest k replies) i (kth.kth_is k replies h l))

-- entry k of them in falling order, the first is entry 1
pub in_falling_order : (k : ℕ) (replies : List ℕ) → k < length replies → kth_greatest (k + 1) replies ≡ get_or (falling replies) k 0
in_falling_order = kth.kth_falling

-- b = 1: "Replies 2^64-1, 9, 9, 4 … now give 10", one above 9; 7, 9, 9, 4; all of them 2^64-1, b+1 of them, b of them; ties on either side of the edge;
-- b = 0: the greatest
pub clock_edges : (kth_greatest 2 (top ∷ 9 ∷ 9 ∷ 4 ∷ []) ≡ 9) × (kth_greatest 2 (7 ∷ 9 ∷ 9 ∷ 4 ∷ []) ≡ 9)
    × (kth_greatest 2 (top ∷ top ∷ top ∷ top ∷ []) ≡ top) × (kth_greatest 2 (4 ∷ top ∷ 9 ∷ top ∷ []) ≡ top) × (kth_greatest 2 (4 ∷ top ∷ 9 ∷ 4 ∷ []) ≡ 9)
    × (kth_greatest 2 (9 ∷ 4 ∷ 4 ∷ 4 ∷ []) ≡ 4) × (kth_greatest 2 (4 ∷ 9 ∷ 9 ∷ 9 ∷ []) ≡ 9) × (kth_greatest 1 (7 ∷ top ∷ 9 ∷ 4 ∷ []) ≡ top)
unfolding greatest_with or_more
clock_edges = (refl, refl, refl, refl, refl, refl, refl, refl)

-- ---- the nodes that answered
-- "with at most b lying nodes the new time is at most one above some honest reply": whichever nodes lie, and whatever they tell
pub near_honest : (p : Plan) (w : ToWrite p) (lies : ℕ → Bool) → number_of lies p.n ≤ p.b → NearHonest lies (time_replies w) (new_time_of w)
near_honest = new_time.near_an_honest_reply

-- so that where the clock is spent, an honest node has answered 2^64-1: at most one above it is 2^64
pub clock_honest : (p : Plan) (w : ToSpent p) (lies : ℕ → Bool) → number_of lies p.n ≤ p.b → NearHonest lies (spent_replies w) (top + 1)
clock_honest = new_time.spent_by_an_honest_reply

-- "A complete write is still passed: at least b+1 honest repliers hold it." Q nodes or more executed a write of this time, each before it answers; each time
-- reply that is of one of them is what our node told then (AnswersAfter). What the other nodes tell is any.
pub complete_is_passed : (p : Plan) (w : ToWrite p) (executed : ℕ → Bool) (written : ℕ) → p.q ≤ number_of executed p.n
    → ((x : Clock) → In x (time_replies w) → executed x.S ≡ true → AnswersAfter p written x) → written < new_time_of w
complete_is_passed = new_time.passes_what_is_complete

-- ---- against the report
-- "Demand 2 reads with this time, against the report": the member of the family that a plan is has Q-2's rule in line 13 of READ_TIMESTAMP; where b is 0 that
-- is the report's MAX, and all that is said of our writer is said of Figure 2 to the letter
pub figure_2_itself : (p : Plan) → p.b ≡ 0 → family p ≡ reported p
figure_2_itself = new_time.figure_2_itself
