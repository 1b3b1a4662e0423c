-- What an accepted plan is. Assumes nothing.
use mathlib.Core.Path.{◌≡◌, refl, sym, ◌∙◌}
use mathlib.Core.Bool.{Bool, true, false, cond, not}
use Prim.Native.Nat.{ℕ, ◌+◌, ◌-◌, ◌*◌, ◌≤◌, ◌<◌}
use native.Mathlib.Omega.{arith}
use lib.Dec.{leb}
use borrow.Author.Tests.{not-true, not-false, le-leb, lt-leb, leb-true, leb-false}
use Rattle.terms.specs.Ladder.{all}
use Rattle.terms.specs.Terms.{plan_ok, counts_ok, limits_ok, column_of}
use Rattle.terms.specs.declared.Plan.{Plan}
use Rattle.terms.specs.declared.Member.{Member}
use Rattle.terms.specs.declared.Member.TheVariants.{Repairable, NonRepair}
use Rattle.terms.proofs.Rungs.{both, clash}
use Rattle.terms.proofs.Picks.{itself}

-- what the table says, without subtraction
abbrev pub Column : Member → (n t b q m : ℕ) → Type 0
Column Repairable n t b q m = (t + b + 1 ≤ q) × (q + t + b ≤ n) × (1 ≤ m) × (m + t ≤ q)
Column NonRepair n t b q m = (t + b + 1 ≤ q) × (q + 2 * t + 2 * b ≤ n) × (1 ≤ m) × (m ≤ q + b)

pub column_is : (k : Member) (n t b q m : ℕ) → all (column_of k n t b q m) ≡ true → Column k n t b q m
unfolding column_of all
column_is Repairable n t b q m e =
    let a = both (leb (t + b + 1) q) _ e in
    let d = both (leb q (n - t - b)) _ a.1 in
    let g = both (leb 1 m) _ d.1 in
    let h = both (leb m (q - t)) _ g.1 in
    let a1 : t + b + 1 ≤ q = leb-true _ _ a.0 in
    let d1 : q ≤ n - t - b = leb-true _ _ d.0 in
    let g1 : 1 ≤ m = leb-true _ _ g.0 in
    let h1 : m ≤ q - t = leb-true _ _ h.0 in
    (omega arith, omega arith, omega arith, omega arith)
column_is NonRepair n t b q m e =
    let a = both (leb (t + b + 1) q) _ e in
    let d = both (leb q (n - 2 * t - 2 * b)) _ a.1 in
    let g = both (leb 1 m) _ d.1 in
    let h = both (leb m (q + b)) _ g.1 in
    let a1 : t + b + 1 ≤ q = leb-true _ _ a.0 in
    let d1 : q ≤ n - 2 * t - 2 * b = leb-true _ _ d.0 in
    let g1 : 1 ≤ m = leb-true _ _ g.0 in
    let h1 : m ≤ q + b = leb-true _ _ h.0 in
    (omega arith, omega arith, omega arith, omega arith)

pub column_back : (k : Member) (n t b q m : ℕ) → Column k n t b q m → all (column_of k n t b q m) ≡ true
unfolding column_of all
column_back Repairable n t b q m h =
    rw (le-leb (t + b + 1) q (omega arith), le-leb q (n - t - b) (omega arith), le-leb 1 m (omega arith), le-leb m (q - t) (omega arith))
column_back NonRepair n t b q m h =
    rw (le-leb (t + b + 1) q (omega arith), le-leb q (n - 2 * t - 2 * b) (omega arith), le-leb 1 m (omega arith), le-leb m (q + b) (omega arith))

-- the document's facts of every accepted plan: on N, t, b, Q and m, and on F and W
pub record CountsAre (k : Member) (n t b q m : ℕ) : Type 0 where
  pub n_low : 1 ≤ n
  pub n_high : n ≤ 16
  pub b_t : b ≤ t
  pub column : Column k n t b q m

pub record PlanIs (p : Plan) : Type 0 where
  pub n_low : 1 ≤ p.n
  pub n_high : p.n ≤ 16
  pub b_t : p.b ≤ p.t
  pub f_low : 1 ≤ p.f
  pub f_high : p.f ≤ 1024
  pub w_low : 1 ≤ p.w
  pub w_high : p.w ≤ 65535
  pub column : Column p.member p.n p.t p.b p.q p.m

pub counts_are : (k : Member) (n t b q m : ℕ) → counts_ok k n t b q m ≡ true → CountsAre k n t b q m
unfolding counts_ok all
counts_are k n t b q m e =
    let e1 = both (leb 1 n) _ e in
    let e2 = both (leb n 16) _ e1.1 in
    let e3 = both (leb b t) _ e2.1 in
    let e4 = both (all (column_of k n t b q m)) _ e3.1 in
    record { n_low = leb-true _ _ e1.0; n_high = leb-true _ _ e2.0; b_t = leb-true _ _ e3.0; column = column_is _ _ _ _ _ _ e4.0 }

pub counts_back : (k : Member) (n t b q m : ℕ) → CountsAre k n t b q m → counts_ok k n t b q m ≡ true
unfolding counts_ok all
counts_back k n t b q m c =
    rw (le-leb 1 n c.n_low, le-leb n 16 c.n_high, le-leb b t c.b_t, column_back k n t b q m c.column)

pub plan_is : (p : Plan) → plan_ok p ≡ true → PlanIs p
unfolding plan_ok limits_ok all
plan_is p e =
    let e0 = both (counts_ok p.member p.n p.t p.b p.q p.m) _ e in
    let c = counts_are p.member p.n p.t p.b p.q p.m e0.0 in
    let e4 = both (leb 1 p.f) _ e0.1 in
    let e5 = both (leb p.f 1024) _ e4.1 in
    let e6 = both (leb 1 p.w) _ e5.1 in
    let e7 = both (leb p.w 65535) _ e6.1 in
    record {
      n_low = c.n_low;
      n_high = c.n_high;
      b_t = c.b_t;
      f_low = leb-true _ _ e4.0;
      f_high = leb-true _ _ e5.0;
      w_low = leb-true _ _ e6.0;
      w_high = leb-true _ _ e7.0;
      column = c.column;
    }

pub plan_back : (p : Plan) → PlanIs p → plan_ok p ≡ true
unfolding plan_ok limits_ok all
plan_back p q =
    rw (counts_back p.member p.n p.t p.b p.q p.m (record { n_low = q.n_low; n_high = q.n_high; b_t = q.b_t; column = q.column }), le-leb 1 p.f q.f_low, le-leb p.f 1024 q.f_high, le-leb 1 p.w q.w_low, le-leb p.w 65535 q.w_high)

pub not_ok : (t : Bool) → (t ≡ true → ⊥) → false ≡ t
not_ok true h = absurd (h refl)
not_ok false h = refl

-- bounds that both columns give
pub record SmallCounts (t q m : ℕ) : Type 0 where
  pub t_small : t ≤ 16
  pub q_small : q ≤ 16
  pub m_small : m ≤ 16

abbrev pub Small : Plan → Type 0
Small p = SmallCounts p.t p.q p.m

pub counts_small : (k : Member) (n t b q m : ℕ) → n ≤ 16 → Column k n t b q m → SmallCounts t q m
counts_small Repairable n t b q m h c = record { t_small = omega arith; q_small = omega arith; m_small = omega arith }
counts_small NonRepair n t b q m h c = record { t_small = omega arith; q_small = omega arith; m_small = omega arith }

pub small : (p : Plan) → plan_ok p ≡ true → Small p
small p e = let q = plan_is p e in counts_small p.member p.n p.t p.b p.q p.m q.n_high q.column

-- the last rule decides
pub counts_last : (k : Member) (n t b q m : ℕ) (r : Bool) → 1 ≤ n → n ≤ 16 → b ≤ t → r ≡ all (column_of k n t b q m) → r ≡ counts_ok k n t b q m
unfolding counts_ok all
counts_last k n t b q m r x y z h = rw (le-leb 1 n x, le-leb n 16 y, le-leb b t z) (h ∙ itself (all (column_of k n t b q m)))

pub limits_last : (p : Plan) → 1 ≤ p.f → p.f ≤ 1024 → 1 ≤ p.w → leb p.w 65535 ≡ limits_ok p
unfolding limits_ok all
limits_last p d e f = rw (le-leb 1 p.f d, le-leb p.f 1024 e, le-leb 1 p.w f) (itself (leb p.w 65535))

-- ---- the turns of the code
module _ (p : Plan) (x : Bool) (e : x ≡ counts_ok p.member p.n p.t p.b p.q p.m) where
  pub plan_counts : not x ≡ true → false ≡ plan_ok p
  unfolding plan_ok
  plan_counts t = rw (← e, not-true x t)

  pub plan_limits : (r : Bool) → not x ≡ false → r ≡ limits_ok p → r ≡ plan_ok p
  unfolding plan_ok
  plan_limits r t f = f ∙ rw (← e, not-false x t)

leb_same : (a b c d : ℕ) → (a ≤ b → c ≤ d) → (c ≤ d → a ≤ b) → leb a b ≡ cond (leb c d) true false
leb_same a b c d f g = go (leb c d) refl
  where
    go : (t : Bool) → leb c d ≡ t → leb a b ≡ cond t true false
    go true e = le-leb a b (g (leb-true c d e))
    go false e = sym (not_ok (leb a b) (λ k. clash (sym (le-leb c d (f (leb-true a b k))) ∙ e)))

pub column_common : (k : Member) (n t b q m : ℕ) → Column k n t b q m → (t + b + 1 ≤ q) × (1 ≤ m)
column_common Repairable n t b q m c = (c.0, c.2)
column_common NonRepair n t b q m c = (c.0, c.2)

module _ (k : Member) (n t b q m : ℕ) where
  pub table_no : ((t + b + 1 ≤ q) × (1 ≤ m) → ⊥) → false ≡ all (column_of k n t b q m)
  table_no h = not_ok _ (λ e. h (column_common k n t b q m (column_is k n t b q m e)))

  pub counts_no : (CountsAre k n t b q m → SmallCounts t q m → ⊥) → false ≡ counts_ok k n t b q m
  counts_no h = not_ok _ (λ e. let c = counts_are k n t b q m e in h c (counts_small k n t b q m c.n_high c.column))

  module _ (low : t + b + 1 ≤ q) (one : 1 ≤ m) where
    pub repairable_no : k ≡ Repairable → n < q + t + b → false ≡ all (column_of k n t b q m)
    unfolding column_of all
    repairable_no e h = rw (e, le-leb (t + b + 1) q low, lt-leb q (n - t - b) (omega arith))

    pub repairable_yes : k ≡ Repairable → q + t + b ≤ n → leb (m + t) q ≡ all (column_of k n t b q m)
    unfolding column_of all
    repairable_yes e h =
        rw (e, le-leb (t + b + 1) q low, le-leb q (n - t - b) (omega arith), le-leb 1 m one)
        (leb_same (m + t) q m (q - t) (λ k. omega arith) (λ k. omega arith))

    pub non_repair_no : k ≡ NonRepair → n < q + 2 * t + 2 * b → false ≡ all (column_of k n t b q m)
    unfolding column_of all
    non_repair_no e h = rw (e, le-leb (t + b + 1) q low, lt-leb q (n - 2 * t - 2 * b) (omega arith))

    pub non_repair_yes : k ≡ NonRepair → q + 2 * t + 2 * b ≤ n → leb m (q + b) ≡ all (column_of k n t b q m)
    unfolding column_of all
    non_repair_yes e h =
        rw (e, le-leb (t + b + 1) q low, le-leb q (n - 2 * t - 2 * b) (omega arith), le-leb 1 m one)
        (leb_same m (q + b) m (q + b) (λ k. k) (λ k. k))

pub limits_no : (p : Plan) → ((1 ≤ p.f) × (p.f ≤ 1024) × (1 ≤ p.w) → ⊥) → false ≡ limits_ok p
unfolding limits_ok all
limits_no p h =
    not_ok _ (λ e.
    let e4 = both (leb 1 p.f) _ e in
    let e5 = both (leb p.f 1024) _ e4.1 in
    let e6 = both (leb 1 p.w) _ e5.1 in
    h (leb-true _ _ e4.0, leb-true _ _ e5.0, leb-true _ _ e6.0))

-- a sum held against a number, and what is left of the number
pub leb_moved : (a w most : ℕ) → w ≤ most → leb a (most - w) ≡ leb (a + w) most
leb_moved a w most h = go (leb a (most - w)) refl
  where
    go : (t : Bool) → leb a (most - w) ≡ t → t ≡ leb (a + w) most
    go true e = let l = leb-true a (most - w) e in sym (le-leb (a + w) most (omega arith))
    go false e = let l = leb-false a (most - w) e in sym (lt-leb (a + w) most (omega arith))
