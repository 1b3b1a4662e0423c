-- The smallest N and Q of a wish: that the closed forms are accepted and nothing smaller is; when no N and Q are; that they are unique.
--   accepts rejects      the rules on the counts decide for every F and W in range and both client models
--   fits least           the closed forms are accepted; what is accepted is not below them
--   met unmet_when unmet_by_nodes none_met   "no N and Q up to 16 are accepted", by the closed form of N, and of all N and Q
--   smallest closed_forms   the closed forms are the smallest, and the smallest are the closed forms
-- Assumes nothing.
use mathlib.Core.Path.{◌≡◌, refl, sym, ap, subst, ◌∙◌}
use mathlib.Core.Bool.{Bool, true, false, cond, not}
use Prim.Native.Nat.{ℕ, zero, suc, ◌+◌, ◌-◌, ◌*◌, ◌≤◌, ◌<◌}
use native.Mathlib.Omega.{arith}
use lib.Dec.{ltb, eqb}
use borrow.Author.Tests.{le-leb, ltb-true, ltb-false, eqb-true, eqb-false}
use Rattle.terms.specs.Ladder.{all}
use Rattle.terms.specs.Terms.{plan_ok, counts_ok, limits_ok}
use Rattle.terms.specs.declared.Plan.{Plan}
use Rattle.terms.specs.declared.Member.{Member}
use Rattle.terms.specs.declared.Member.TheVariants.{Repairable, NonRepair}
use Rattle.terms.specs.declared.Clients.{Clients}
use Rattle.terms.specs.declared.Clients.TheVariants.{Crash}
use Rattle.terms.proofs.Rungs.{clash}
use Rattle.terms.proofs.Picks.{itself}
use Rattle.terms.proofs.Small.{larger_is}
use Rattle.terms.proofs.Plans.{CountsAre, counts_are, counts_back, SmallCounts, counts_small, column_common, not_ok}
use Rattle.wish.specs.declared.Wish.{Wish}
use Rattle.wish.specs.Wish.{Counts, plan_with, Every, counts_for, AcceptedFor, RejectedFor, SmallestFor, outside, unmet, some_up_to}
use Rattle.wish.specs.Closed.{nodes_by, quorum_by, nodes_for, quorum_for}

-- ---- F, W and the clients are free
abbrev pub rules_ok : Counts → Bool
rules_ok s = counts_ok s.member s.n s.t s.b s.q s.m

pub in_range : (s : Counts) → Every s (λ (p : Plan). plan_ok p ≡ rules_ok s)
unfolding plan_ok limits_ok all
in_range s F W c f₁ f₂ w₁ w₂ = rw (le-leb 1 F f₁, le-leb F 1024 f₂, le-leb 1 W w₁, le-leb W 65535 w₂) (sym (itself (rules_ok s)))

pub accepts : (s : Counts) → rules_ok s ≡ true → Every s (λ (p : Plan). plan_ok p ≡ true)
accepts s e F W c f₁ f₂ w₁ w₂ = in_range s F W c f₁ f₂ w₁ w₂ ∙ e

pub rejects : (s : Counts) → (rules_ok s ≡ true → ⊥) → (F W : ℕ) (c : Clients) → plan_ok (plan_with s F W c) ≡ false
unfolding plan_ok
rejects s h F W c = rw (sym (not_ok (rules_ok s) h))

abbrev accepted : Wish → (n q : ℕ) → Bool
accepted w n q = rules_ok (counts_for w n q)

-- so a plan with F 1, W 1 and crash clients decides
at_one : (w : Wish) (n q : ℕ) → plan_ok (plan_with (counts_for w n q) 1 1 Crash) ≡ accepted w n q
at_one w n q = in_range (counts_for w n q) 1 1 Crash (omega arith) (omega arith) (omega arith) (omega arith)

accepted_is : (w : Wish) (n q : ℕ) → AcceptedFor w n q → accepted w n q ≡ true
accepted_is w n q a = sym (at_one w n q) ∙ a 1 1 Crash (omega arith) (omega arith) (omega arith) (omega arith)

-- accepted and rejected exclude each other
both_ways : (w : Wish) (n q : ℕ) → accepted w n q ≡ true → RejectedFor w n q → ⊥
both_ways w n q a r = clash (sym (at_one w n q ∙ a) ∙ r 1 1 Crash)

-- what is accepted has the document's facts, and small numbers
module _ (w : Wish) (n q : ℕ) (e : accepted w n q ≡ true) where
  counts_of : CountsAre w.member n w.t w.b q w.m
  counts_of = counts_are w.member n w.t w.b q w.m e

  small_of : SmallCounts w.t q w.m
  small_of = counts_small w.member n w.t w.b q w.m counts_of.n_high counts_of.column

pub small_counts : (w : Wish) (n q : ℕ) → SmallestFor w n q → (n ≤ 16) × (q ≤ 16)
small_counts w n q s = let e = accepted_is w n q s.accepted in ((counts_of w n q e).n_high, (small_of w n q e).q_small)

-- ---- the closed forms are accepted, and nothing below them
pub fits : (k : Member) (t b m : ℕ) → b ≤ t → 1 ≤ m → nodes_by k t b m ≤ 16 → counts_ok k (nodes_by k t b m) t b (quorum_by k t b m) m ≡ true
fits Repairable t b m s one high =
    let n = larger_is (2 * t + 2 * b + 1) (m + 2 * t + b) in
    let q = larger_is (t + b + 1) (m + t) in
    counts_back Repairable _ t b _ m (record { n_low = omega arith; n_high = high; b_t = s; column = (omega arith, omega arith, one, omega arith) })
fits NonRepair t b m s one high =
    let n = larger_is (3 * t + 3 * b + 1) (m + 2 * t + b) in
    let q = larger_is (t + b + 1) (m - b) in
    counts_back NonRepair _ t b _ m (record { n_low = omega arith; n_high = high; b_t = s; column = (omega arith, omega arith, one, omega arith) })

pub least : (k : Member) (n t b q m : ℕ) → counts_ok k n t b q m ≡ true → (nodes_by k t b m ≤ n) × (quorum_by k t b m ≤ q)
least Repairable n t b q m e =
    let c = (counts_are Repairable n t b q m e).column in
    let f = larger_is (2 * t + 2 * b + 1) (m + 2 * t + b) in
    let g = larger_is (t + b + 1) (m + t) in
    (omega arith, omega arith)
least NonRepair n t b q m e =
    let c = (counts_are NonRepair n t b q m e).column in
    let f = larger_is (3 * t + 3 * b + 1) (m + 2 * t + b) in
    let g = larger_is (t + b + 1) (m - b) in
    (omega arith, omega arith)

-- ---- "no N and Q up to 16 are accepted"
some_of : (k : ℕ) (f : ℕ → Bool) (i : ℕ) → i ≤ k → f i ≡ true → some_up_to k f ≡ true
unfolding some_up_to
some_of zero f i h e = ap f (omega arith) ∙ e
some_of (suc k) f i h e = go (f (suc k)) refl (λ l. some_of k f i l e)
  where
    below : (t : Bool) → eqb i (suc k) ≡ t → f (suc k) ≡ false → i ≤ k
    below true q z = absurd (clash (sym e ∙ ap f (eqb-true i (suc k) q) ∙ z))
    below false q z = let l = eqb-false i (suc k) q in omega arith

    go : (t : Bool) → f (suc k) ≡ t → (i ≤ k → some_up_to k f ≡ true) → cond t true (some_up_to k f) ≡ true
    go true z ih = refl
    go false z ih = ih (below (eqb i (suc k)) refl z)

record Some (k : ℕ) (f : ℕ → Bool) : Type 0 where
  number : ℕ
  low : number ≤ k
  is : f number ≡ true

some_is : (k : ℕ) (f : ℕ → Bool) → some_up_to k f ≡ true → Some k f
unfolding some_up_to
some_is zero f e = record { number = 0; low = omega arith; is = e }
some_is (suc k) f e = go (f (suc k)) refl e (some_is k f)
  where
    go : (t : Bool) → f (suc k) ≡ t → cond t true (some_up_to k f) ≡ true → (some_up_to k f ≡ true → Some k f) → Some (suc k) f
    go true z h ih = record { number = suc k; low = omega arith; is = z }
    go false z h ih = let s = ih h in record { number = s.number; low = omega arith; is = s.is }

-- the rules on t and m, where 1 does not apply
pub record Sensible (w : Wish) : Type 0 where
  pub b_t : w.b ≤ w.t
  pub one : 1 ≤ w.m

pub sensible : (w : Wish) → outside w ≡ false → Sensible w
sensible w e = go (ltb w.t w.b) refl e
  where
    go : (t : Bool) → ltb w.t w.b ≡ t → cond t true (eqb w.m 0) ≡ false → Sensible w
    go true z h = absurd (clash h)
    go false z h = let n = eqb-false w.m 0 h in record { b_t = ltb-false w.t w.b z; one = omega arith }

abbrev some_quorum : Wish → ℕ → Bool
some_quorum w n = some_up_to 16 (accepted w n)

pub unmet_when : (w : Wish) → ((n q : ℕ) → accepted w n q ≡ true → ⊥) → unmet w ≡ true
unfolding unmet
unmet_when w h =
    ap not (sym (not_ok (some_up_to 16 (some_quorum w)) (λ e.
    let n = some_is 16 (some_quorum w) e in
    let q = some_is 16 (accepted w n.number) n.is in
    h n.number q.number q.is)))

pub met : (w : Wish) (n q : ℕ) → accepted w n q ≡ true → unmet w ≡ false
unfolding unmet
met w n q e = ap not (some_of 16 (some_quorum w) n (counts_of w n q e).n_high (some_of 16 (accepted w n) q (small_of w n q e).q_small e))

-- 20, of all N and Q
pub none_met : (w : Wish) → unmet w ≡ true → (n q : ℕ) → RejectedFor w n q
none_met w e n q = rejects (counts_for w n q) (λ a. clash (sym e ∙ met w n q a))

pub none_met_back : (w : Wish) → ((n q : ℕ) → n ≤ 16 → q ≤ 16 → RejectedFor w n q) → unmet w ≡ true
none_met_back w h = unmet_when w (λ n q a. both_ways w n q a (h n q (counts_of w n q a).n_high (small_of w n q a).q_small))

-- what is accepted: its numbers are small, and the closed form of N is not above 16
pub record Within (w : Wish) : Type 0 where
  pub t_small : w.t ≤ 16
  pub b_small : w.b ≤ 16
  pub m_small : w.m ≤ 16
  pub nodes : nodes_for w ≤ 16

pub within : (w : Wish) (n q : ℕ) → accepted w n q ≡ true → Within w
within w n q e =
    let l = least w.member n w.t w.b q w.m e in
    let h = (counts_of w n q e).n_high in
    let k = (counts_of w n q e).b_t in
    let t = (small_of w n q e).t_small in
    record { t_small = t; b_small = omega arith; m_small = (small_of w n q e).m_small; nodes = omega arith }

pub unmet_if : (w : Wish) → (Within w → ⊥) → true ≡ unmet w
unmet_if w h = sym (unmet_when w (λ n q a. h (within w n q a)))

-- 20 by the closed form of N
pub unmet_by_nodes : (w : Wish) → outside w ≡ false → ltb 16 (nodes_for w) ≡ unmet w
unmet_by_nodes w e = go (ltb 16 (nodes_for w)) refl
  where
    go : (c : Bool) → ltb 16 (nodes_for w) ≡ c → c ≡ unmet w
    go true z = unmet_if w (λ h. let l = ltb-true 16 (nodes_for w) z in let g = h.nodes in omega arith)
    go false z =
        let s = sensible w e in
        sym (met w (nodes_for w) (quorum_for w) (fits w.member w.t w.b w.m s.b_t s.one (ltb-false 16 (nodes_for w) z)))

pub met_within : (w : Wish) → unmet w ≡ false → Within w
unfolding unmet
met_within w e = go (some_up_to 16 (some_quorum w)) refl e
  where
    go : (t : Bool) → some_up_to 16 (some_quorum w) ≡ t → not t ≡ false → Within w
    go true z h =
        let n = some_is 16 (some_quorum w) z in
        let q = some_is 16 (accepted w n.number) n.is in
        within w n.number q.number q.is
    go false z h = absurd (clash h)

-- ---- the smallest
pub smallest : (w : Wish) → outside w ≡ false → nodes_for w ≤ 16 → SmallestFor w (nodes_for w) (quorum_for w)
smallest w e high =
    let s = sensible w e in
    record {
      accepted = accepts (counts_for w (nodes_for w) (quorum_for w)) (fits w.member w.t w.b w.m s.b_t s.one high);
      nodes = λ n q l. rejects (counts_for w n q) (λ a. let h = (least w.member n w.t w.b q w.m a).0 in omega arith);
      quorum = λ q l. rejects (counts_for w (nodes_for w) q) (λ a. let h = (least w.member (nodes_for w) w.t w.b q w.m a).1 in omega arith);
    }

not_above : (a b : ℕ) → a ≤ b → (a < b → ⊥) → b ≡ a
not_above a b l h = go (ltb a b) refl
  where
    go : (t : Bool) → ltb a b ≡ t → b ≡ a
    go true e = absurd (h (ltb-true a b e))
    go false e = let g = ltb-false a b e in omega arith

-- THE SMALLEST N AND Q ARE THE CLOSED FORMS
pub closed_forms : (w : Wish) (n q : ℕ) → SmallestFor w n q → (n ≡ nodes_for w) × (q ≡ quorum_for w)
closed_forms w n q s = (nodes, quorum)
  where
    e : accepted w n q ≡ true
    e = accepted_is w n q s.accepted

    c : CountsAre w.member n w.t w.b q w.m
    c = counts_of w n q e

    l : (nodes_for w ≤ n) × (quorum_for w ≤ q)
    l = least w.member n w.t w.b q w.m e

    fit : accepted w (nodes_for w) (quorum_for w) ≡ true
    fit =
        fits w.member w.t w.b w.m c.b_t (column_common w.member n w.t w.b q w.m c.column).1
        (within w n q e).nodes

    nodes : n ≡ nodes_for w
    nodes = not_above (nodes_for w) n l.0 (λ h. both_ways w (nodes_for w) (quorum_for w) fit (s.nodes (nodes_for w) (quorum_for w) h))

    quorum : q ≡ quorum_for w
    quorum =
        not_above (quorum_for w) q l.1
        (λ h. both_ways w n (quorum_for w) (subst (λ (x : ℕ). accepted w x (quorum_for w) ≡ true) (sym nodes) fit) (s.quorum (quorum_for w) h))
