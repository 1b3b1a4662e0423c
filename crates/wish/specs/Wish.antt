-- The smallest plan for a wish. Document 02, Q-1: "Site staff know t, b, m and the member. Give them the smallest N, and with it the smallest Q,
-- that document 01 accepts."
--   Counts counts_of      the counts of a plan: N, t, b, Q, m and the member
--   plan_with Every       their plan with F, W and the clients; what holds of it for every F and W in range and both client models
--   counts_for            those of a wish, with N and Q
--   AcceptedFor RejectedFor    document 01 accepts N and Q for a wish, whatever F and W in range and the clients are; it does so with none
--   SmallestFor          N is the smallest that is accepted, and Q the smallest with it
--   outside unmet        the conditions of the refusals; wish_ladder, their order: 1, 20
--   Smallest              what the code answers
--   SaidSmallest Says    an answer, and when it is the one; SmallestCall, the contract of the call
-- Assumes nothing.
use Rattle.std.specs.Prelude.{ℕ, zero, suc, ◌≤◌, ◌<◌, ◌≡◌, Bool, true, false, not, List, [], ◌∷◌, ltb, eqb, Result, Ok, Err}
use Rattle.terms.specs.Ladder.{Rung, on, None, Given, ◌or◌}
use Rattle.terms.specs.Terms.{plan_ok, counts_ok, refusal_number}
use Rattle.terms.specs.declared.Plan.{Plan}
use Rattle.terms.specs.declared.Member.{Member}
use Rattle.terms.specs.declared.Clients.{Clients}
use Rattle.terms.specs.declared.Refusal.{Refusal}
use Rattle.wish.specs.declared.Wish.{Wish}
use Rattle.wish.specs.declared.Counts as answer

-- ---- the counts of a plan; F, W and the clients are free
pub record Counts : Type 0 where
  pub member : Member
  pub n : ℕ
  pub t : ℕ
  pub b : ℕ
  pub q : ℕ
  pub m : ℕ

abbrev pub counts_of : Member → (n t b q m : ℕ) → Counts
counts_of k n t b q m = record { member = k; n = n; t = t; b = b; q = q; m = m }

abbrev pub plan_with : Counts → (F W : ℕ) → Clients → Plan
plan_with s F W c = record { n = s.n; t = s.t; b = s.b; q = s.q; m = s.m; f = F; member = s.member; clients = c; w = W }

abbrev pub Every : Counts → (Plan → Type 0) → Type 0
Every s P = (F W : ℕ) (c : Clients) → 1 ≤ F → F ≤ 1024 → 1 ≤ W → W ≤ 65535 → P (plan_with s F W c)

-- ---- what document 01 accepts for a wish
abbrev pub counts_for : Wish → (n q : ℕ) → Counts
counts_for w n q = counts_of w.member n w.t w.b q w.m

abbrev pub AcceptedFor : Wish → (n q : ℕ) → Type 0
AcceptedFor w n q = Every (counts_for w n q) (λ (p : Plan). plan_ok p ≡ true)

abbrev pub RejectedFor : Wish → (n q : ℕ) → Type 0
RejectedFor w n q = (F W : ℕ) (c : Clients) → plan_ok (plan_with (counts_for w n q) F W c) ≡ false

-- "the smallest N, and with it the smallest Q": no smaller N is accepted with any Q, and no smaller Q with this N
pub record SmallestFor (w : Wish) (n q : ℕ) : Type 0 where
  pub accepted : AcceptedFor w n q
  pub nodes : (n₂ q₂ : ℕ) → n₂ < n → RejectedFor w n₂ q₂
  pub quorum : (q₂ : ℕ) → q₂ < q → RejectedFor w n q₂

-- ---- the refusals
-- "1 when b is above t or m is 0"
abbrev pub outside : Wish → Bool
outside w = ltb w.t w.b or eqb w.m 0

-- one of the numbers up to k
unfoldable pub some_up_to : ℕ → (ℕ → Bool) → Bool
some_up_to zero f = f 0
some_up_to (suc k) f = f (suc k) or some_up_to k f

-- "then 20 exactly when no N and Q up to 16 are accepted": by the rules on them, since F, W and the clients are free
unfoldable pub unmet : Wish → Bool
unmet w = not (some_up_to 16 (λ (n : ℕ). some_up_to 16 (λ (q : ℕ). counts_ok w.member n w.t w.b q w.m)))

abbrev pub wish_ladder : Wish → List Rung
wish_ladder w = on 1 (outside w) ∷ on 20 (unmet w) ∷ []

-- ---- the call
-- the answer in the paper's terms: a refusal's number, or N and Q
pub data SaidSmallest : Type 0 where
  refused : ℕ → SaidSmallest
  counts : (n q : ℕ) → SaidSmallest

abbrev pub Smallest : Type 0
Smallest = Result answer.Counts Refusal

abbrev pub said_smallest : Smallest → SaidSmallest
said_smallest (Err r) = refused (refusal_number r)
said_smallest (Ok c) = counts c.n c.q

-- a refusal is the first of the ladder that applies; N and Q are given where none does, and are the smallest
abbrev pub Says : Wish → SaidSmallest → Type 0
Says w (refused k) = Given (wish_ladder w) k
Says w (counts n q) = None (wish_ladder w) × SmallestFor w n q

pub record SmallestCall (w : Wish) (a : Smallest) : Type 0 where
  pub is : Says w (said_smallest a)
