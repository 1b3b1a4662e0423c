-- The answer of the call: what its refusals and the closed forms come to is allowed by the contract, and nothing else is. Assumes nothing.
--   came came_says     what they come to
--   said_is said_one call_one   every answer that the contract allows is that; so two are equal
--   answer_is          it is the answer by the closed forms; exactly_20, 20 exactly when no N and Q are accepted
use mathlib.Core.Path.{◌≡◌, refl, sym, ap, subst, ◌∙◌}
use mathlib.Core.Bool.{Bool, true, false, cond}
use Prim.Native.Nat.{ℕ, ◌≤◌}
use native.Mathlib.Omega.{arith}
use lib.Dec.{ltb}
use Rattle.terms.specs.Ladder.{first}
use Rattle.terms.proofs.Ladders.{by_ladder, is_given, is_passed}
use Rattle.terms.proofs.Rungs.{refusal_one, stop, go_on}
use Rattle.wish.specs.declared.Wish.{Wish}
use Rattle.std.proofs.Common.{Ok, Err}
use Rattle.wish.specs.Wish.{Smallest, RejectedFor, outside, unmet, wish_ladder, SaidSmallest, refused, counts, said_smallest, Says, SmallestCall}
use Rattle.wish.specs.Closed.{nodes_for, quorum_for, answer_for}
use Rattle.wish.proofs.Laws.{unmet_by_nodes, met_within, none_met, none_met_back, smallest, closed_forms}

abbrev pub came : Wish → SaidSmallest
came w = first (wish_ladder w) refused (counts (nodes_for w) (quorum_for w))

pub came_says : (w : Wish) → Says w (came w)
came_says w =
    by_ladder (Says w) (wish_ladder w) refused (counts (nodes_for w) (quorum_for w)) (λ k g. g)
    (λ n. (n, smallest w n.0 (met_within w n.1.0).nodes))

-- in the paper's terms: a refusal that is given is the outcome, and N and Q that are the smallest are the closed forms
said_is : (w : Wish) (x : SaidSmallest) → Says w x → x ≡ came w
said_is w (refused k) g = sym (is_given (wish_ladder w) refused (counts (nodes_for w) (quorum_for w)) k g)
said_is w (counts n q) h =
    let e = closed_forms w n q h.1 in
    (λ i. counts (e.0 i) (e.1 i)) ∙ sym (is_passed (wish_ladder w) refused (counts (nodes_for w) (quorum_for w)) h.0)

pub said_one : (w : Wish) (x y : SaidSmallest) → Says w x → Says w y → x ≡ y
said_one w x y g h = said_is w x g ∙ sym (said_is w y h)

-- the answer is told by its terms
same : (a b : Smallest) → said_smallest a ≡ said_smallest b → a ≡ b
same (Err r) (Err s) e = ap Err (refusal_one r s cc)
same (Err r) (Ok c) e = absurd (let z : ◌≡◌ {A = ℕ} 0 1 = cc in omega arith)
same (Ok c) (Err r) e = absurd (let z : ◌≡◌ {A = ℕ} 0 1 = cc in omega arith)
same (Ok c) (Ok d) e =
    let f : c.n ≡ d.n = cc in
    let g : c.q ≡ d.q = cc in
    λ i. Ok (record { n = f i; q = g i })

pub call_one : (w : Wish) (a b : Smallest) → SmallestCall w a → SmallestCall w b → a ≡ b
call_one w a b c d = same a b (said_one w (said_smallest a) (said_smallest b) c.is d.is)

-- ---- the answer by the closed forms
-- EVERY ANSWER IS THAT OF THE CLOSED FORMS
pub answer_is : (w : Wish) (a : Smallest) → SmallestCall w a → said_smallest a ≡ answer_for w
unfolding answer_for first
answer_is w a c = said_is w (said_smallest a) c.is ∙ go (outside w) refl
  where
    go : (o : Bool) → outside w ≡ o
        → cond o (refused 1) (cond (unmet w) (refused 20) (counts (nodes_for w) (quorum_for w)))
        ≡ cond o (refused 1) (cond (ltb 16 (nodes_for w)) (refused 20) (counts (nodes_for w) (quorum_for w)))
    go true e = refl
    go false e = ap (λ (u : Bool). cond u (refused 20) (counts (nodes_for w) (quorum_for w))) (sym (unmet_by_nodes w e))

-- ---- 20, in document 02's words
of_20 : (w : Wish) → Says w (refused 20) → (outside w ≡ false) × ((n q : ℕ) → RejectedFor w n q)
unfolding first
of_20 w g = go (outside w) (unmet w) refl refl (is_given (wish_ladder w) (λ (j : ℕ). j) 0 20 g)
  where
    go : (o u : Bool) → outside w ≡ o → unmet w ≡ u → ◌≡◌ {A = ℕ} (cond o 1 (cond u 20 0)) 20 → (outside w ≡ false) × ((n q : ℕ) → RejectedFor w n q)
    go true u e f h = absurd (omega arith)
    go false true e f h = (e, none_met w f)
    go false false e f h = absurd (omega arith)

pub exactly_20 : (w : Wish) (a : Smallest) → SmallestCall w a
    → (said_smallest a ≡ refused 20 → (outside w ≡ false) × ((n q : ℕ) → RejectedFor w n q))
    × ((outside w ≡ false) × ((n q : ℕ) → n ≤ 16 → q ≤ 16 → RejectedFor w n q) → said_smallest a ≡ refused 20)
exactly_20 w a c = (
  (λ e. of_20 w (subst (Says w) e c.is)),
  (λ h. said_is w (said_smallest a) c.is ∙ sym (go_on 1 _ refused _ h.0 (stop 20 _ refused _ (none_met_back w h.1) refl))),
)
