-- Facts of every accepted plan, each once: what the protocol's arguments stand on. Then what the two thresholds decide. Assumes nothing.
use mathlib.Core.Path.{◌≡◌, refl, sym, ◌∙◌}
use mathlib.Core.Bool.{Bool, true, false}
use Prim.Native.Nat.{ℕ, ◌+◌, ◌-◌, ◌≤◌, ◌<◌}
use native.Mathlib.Omega.{arith}
use lib.Dec.{leb}
use borrow.Author.Tests.{lt-ltb, le-ltb, lt-leb, le-leb, leb-true, leb-false}
use Rattle.terms.specs.Terms.{plan_ok, complete_at, incomplete_at, class_of, verdict_of, decided}
use Rattle.terms.specs.declared.Plan.{Plan}
use Rattle.terms.specs.declared.Member.{Member}
use Rattle.terms.specs.declared.Member.TheVariants.{Repairable, NonRepair}
use Rattle.terms.specs.declared.Class.{Class}
use Rattle.terms.specs.declared.Class.TheVariants as class
use Rattle.terms.proofs.Plans.{Column, plan_is}

-- ---- a plan's numbers
-- replies: N-t, what a round waits for
pub record Sizes (k : Member) (n t b q m : ℕ) : Type 0 where
  pub liars_short : b + 1 ≤ q - t
  pub low_high : q - t ≤ q + b
  -- "(It always has COMPLETE replies.)"
  pub high_replies : q + b ≤ n - t
  pub faults_short : t < n - t
  pub some_needed : 1 ≤ m
  pub high_decodes : m ≤ q + b
  pub needed_nodes : m ≤ n
  -- of N-t replies at most b lie: Q that do not are left
  pub honest_quorum : q ≤ n - t - b
  pub low_decodes : k ≡ Repairable → m ≤ q - t

sizes : (k : Member) (n t b q m : ℕ) → b ≤ t → Column k n t b q m → Sizes k n t b q m
sizes Repairable n t b q m h c =
    record {
      liars_short = omega arith;
      low_high = omega arith;
      high_replies = omega arith;
      faults_short = omega arith;
      some_needed = omega arith;
      high_decodes = omega arith;
      needed_nodes = omega arith;
      honest_quorum = omega arith;
      low_decodes = λ e. omega arith;
    }
sizes NonRepair n t b q m h c =
    record {
      liars_short = omega arith;
      low_high = omega arith;
      high_replies = omega arith;
      faults_short = omega arith;
      some_needed = omega arith;
      high_decodes = omega arith;
      needed_nodes = omega arith;
      honest_quorum = omega arith;
      low_decodes = λ e. let z : ◌≡◌ {A = ℕ} 0 1 = cc in absurd (omega arith);
    }

abbrev pub Facts : Plan → Type 0
Facts p = Sizes p.member p.n p.t p.b p.q p.m

pub facts : (p : Plan) → plan_ok p ≡ true → Facts p
facts p e = let q = plan_is p e in sizes p.member p.n p.t p.b p.q p.m q.b_t q.column

-- ---- the class of a set, by two thresholds
module _ (high low size : ℕ) where
  pub is_complete : high ≤ size → class.Complete ≡ class_of high low size
  unfolding class_of
  is_complete h = rw (le-leb high size h)

  pub is_incomplete : size < high → size < low → class.Incomplete ≡ class_of high low size
  unfolding class_of
  is_incomplete h k = rw (lt-leb high size h, lt-ltb size low k)

  pub is_unclassifiable : size < high → low ≤ size → class.Unclassifiable ≡ class_of high low size
  unfolding class_of
  is_unclassifiable h k = rw (lt-leb high size h, le-ltb size low k)

-- the first triple is the candidate only where all N-t replies say so: it always has COMPLETE replies
pub replies_complete : (p : Plan) → plan_ok p ≡ true → (size : ℕ) → p.n - p.t ≤ size → class_of (complete_at p) (incomplete_at p) size ≡ class.Complete
replies_complete p e size h = let f = facts p e in sym (is_complete (complete_at p) (incomplete_at p) size (omega arith))

-- ---- no size is unclassifiable exactly when t = 0
unclassifiable_is : (high low size : ℕ) → class_of high low size ≡ class.Unclassifiable → (size < high) × (low ≤ size)
unclassifiable_is high low size e = go (leb high size) (leb low size) refl refl
  where
    go : (s u : Bool) → leb high size ≡ s → leb low size ≡ u → (size < high) × (low ≤ size)
    go true u f g = let k = is_complete high low size (leb-true high size f) in let z : ◌≡◌ {A = ℕ} 0 1 = cc in absurd (omega arith)
    go false true f g = (leb-false high size f, leb-true low size g)
    go false false f g =
        let k = is_incomplete high low size (leb-false high size f) (leb-false low size g) in
        let z : ◌≡◌ {A = ℕ} 0 1 = cc in
        absurd (omega arith)

module _ (p : Plan) (ok : plan_ok p ≡ true) where
  pub none_unclassifiable : p.t ≡ 0 → (size : ℕ) → class_of (complete_at p) (incomplete_at p) size ≡ class.Unclassifiable → ⊥
  none_unclassifiable z size e =
      let f = facts p ok in
      let b = (plan_is p ok).b_t in
      let u = unclassifiable_is (complete_at p) (incomplete_at p) size e in
      omega arith

  pub unclassifiable_none : ((size : ℕ) → class_of (complete_at p) (incomplete_at p) size ≡ class.Unclassifiable → ⊥) → p.t ≡ 0
  unclassifiable_none h = go (leb 1 p.t) refl
    where
      go : (s : Bool) → leb 1 p.t ≡ s → p.t ≡ 0
      go true f =
          let t = leb-true 1 p.t f in
          let g = facts p ok in
          absurd (h (incomplete_at p) (sym (is_unclassifiable (complete_at p) (incomplete_at p) (incomplete_at p) (omega arith) (omega arith))))
      go false f = let t = leb-false 1 p.t f in omega arith

-- ---- the verdict, by a class that was found and a member that a match told
pub decided_is : (member k : Member) (high low size : ℕ) (x y : Class) → x ≡ class_of high low size → x ≡ y → member ≡ k → verdict_of k y ≡ decided member high low size
unfolding decided
decided_is member k high low size x y e f g = λ i. verdict_of (sym g i) ((sym f ∙ e) i)
