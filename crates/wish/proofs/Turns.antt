-- The turns of the code. Assumes nothing.
use mathlib.Core.Path.{◌≡◌, refl, sym, ap, subst, ◌∙◌}
use mathlib.Core.Bool.{Bool, true, false}
use Prim.Native.Nat.{ℕ, ◌≤◌}
use native.Mathlib.Omega.{arith}
use lib.Dec.{ltb}
use Rattle.terms.specs.declared.Refusal.TheVariants.{OutsidePlan, NoPlan}
use Rattle.terms.proofs.Rungs.{stop, go_on, passed}
use Rattle.wish.specs.declared.Wish.{Wish}
use Rattle.std.proofs.Common.{Ok, Err}
use Rattle.wish.specs.Wish.{Smallest, outside, unmet, refused, counts, said_smallest, Says, SmallestCall}
use Rattle.wish.specs.Closed.{nodes_for, quorum_for}
use Rattle.wish.proofs.Laws.{sensible, unmet_by_nodes, met_within}
use Rattle.wish.proofs.Calls.{came, came_says}

module _ (w : Wish) where
  -- ---- 20, no N and Q up to 16
  pub unmet_nodes : (n : ℕ) → n ≡ nodes_for w → outside w ≡ false → ltb 16 n ≡ unmet w
  unmet_nodes n h e = ap (λ (x : ℕ). ltb 16 x) h ∙ unmet_by_nodes w e

  pub small : outside w ≡ false → w.t ≤ 16 → w.m ≤ 16 → (w.t ≤ 16) × (w.b ≤ 16) × (w.m ≤ 16)
  small e t m = let s = (sensible w e).b_t in (t, omega arith, m)

  pub met_small : (x : Bool) → x ≡ unmet w → x ≡ false → (w.t ≤ 16) × (w.b ≤ 16) × (w.m ≤ 16)
  met_small x e f = let h = met_within w (sym e ∙ f) in (h.t_small, h.b_small, h.m_small)

  -- ---- the answers
  answers : (a : Smallest) → said_smallest a ≡ came w → SmallestCall w a
  answers a e = record { is = subst (Says w) (sym e) (came_says w) }

  pub says_outside : (x : Bool) → x ≡ outside w → x ≡ true → SmallestCall w (Err OutsidePlan)
  says_outside x e t = answers (Err OutsidePlan) (stop 1 _ refused _ (sym e ∙ t) refl)

  pub says_unmet : (x y : Bool) → x ≡ outside w → x ≡ false → y ≡ unmet w → y ≡ true → SmallestCall w (Err NoPlan)
  says_unmet x y e f d t = answers (Err NoPlan) (go_on 1 _ refused _ (sym e ∙ f) (stop 20 _ refused _ (sym d ∙ t) refl))

  pub says_counts : (x y : Bool) (n q : ℕ) → x ≡ outside w → x ≡ false → y ≡ unmet w → y ≡ false → n ≡ nodes_for w → q ≡ quorum_for w
      → SmallestCall w (Ok (record { n = n; q = q }))
  says_counts x y n q e f d g nodes quorum =
      answers (Ok (record { n = n; q = q }))
      (go_on 1 _ refused _ (sym e ∙ f) (go_on 20 _ refused _ (sym d ∙ g) (passed refused _ (λ i. counts (nodes i) (quorum i)))))
