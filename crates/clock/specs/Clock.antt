-- The clock of a writer. Document 02, Q-2: "Take the (b+1)-th greatest of the N-t time replies, equal values counted each, and add 1." The rule is
-- over any list of replies and any k.
--   zero_time zero_times   the times before any reply
--   times_heard           the time replies: the times of the nodes that are heard, by node number; what other entries hold does not count
--   or_more               how many of the replies are v or more
--   kth_greatest          the k-th greatest of the replies
--   IsKth                the same as a fact: v is the greatest number such that at least k of the replies are v or more
--   falling              the replies in falling order, of which it is entry k
-- That these three say one thing is proved in proofs/Kth.antt. Assumes nothing.
use Rattle.std.specs.Prelude.{ℕ, ◌+◌, ◌≤◌, cond, List, [], ◌∷◌, replicate, leb, eqb}
use Rattle.terms.specs.Terms.{larger}
use Rattle.terms.specs.declared.Time.{Time}
use Rattle.rounds.specs.declared.Heard.{Heard}
use Rattle.rounds.specs.Rounds.{bit_of}

-- ---- the replies
abbrev pub zero_time : Time
zero_time = record { 0 = 0 }

abbrev pub zero_times : List Time
zero_times = replicate 16 zero_time

unfoldable pub times_heard : List Heard → List Time → List ℕ
times_heard [] ts = []
times_heard (m ∷ ms) [] = []
times_heard (m ∷ ms) (t ∷ ts) = cond (eqb (bit_of m) 1) (t.0 ∷ times_heard ms ts) (times_heard ms ts)

-- ---- the k-th greatest
-- "equal values counted each"
unfoldable pub or_more : ℕ → List ℕ → ℕ
or_more v [] = 0
or_more v (x ∷ l) = cond (leb v x) 1 0 + or_more v l

-- the greatest of a number and those v of a list such that at least k of the replies are v or more
unfoldable pub greatest_with : ℕ → List ℕ → ℕ → List ℕ → ℕ
greatest_with k replies best [] = best
greatest_with k replies best (v ∷ l) = greatest_with k replies (cond (leb k (or_more v replies)) (larger best v) best) l

-- the greatest reply v such that at least k of the replies are v or more; 0 where there are fewer than k
abbrev pub kth_greatest : ℕ → List ℕ → ℕ
kth_greatest k replies = greatest_with k replies 0 replies

-- ---- said of any number, and of the replies in order
pub record IsKth (k : ℕ) (replies : List ℕ) (v : ℕ) : Type 0 where
  pub enough : k ≤ or_more v replies
  pub greatest : (w : ℕ) → k ≤ or_more w replies → w ≤ v

unfoldable pub into_falling : ℕ → List ℕ → List ℕ
into_falling x [] = x ∷ []
into_falling x (y ∷ l) = cond (leb y x) (x ∷ (y ∷ l)) (y ∷ into_falling x l)

unfoldable pub falling : List ℕ → List ℕ
falling [] = []
falling (x ∷ l) = into_falling x (falling l)
