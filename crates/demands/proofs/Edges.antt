-- Every case of the two tables of edges holds. Assumes nothing.
use Prim.{tt}
use Prim.Native.Nat.{ℕ}
use mathlib.Core.Path.{◌≡◌, refl, ◌∙◌}
use mathlib.Core.Bool.{Bool, true, false}
use mathlib.Core.List.{List, [], ◌∷◌}
use lib.Dec.{leb}
use Rattle.fragments.proofs.Examples.{product_57_83, product_57_13, column_00_80, column_57_57}
use Rattle.terms.specs.Ladder.{first, all}
use Rattle.terms.specs.Terms.{plan_ok, counts_ok, column_of, complete_at, incomplete_at, class_of, decided}
use Rattle.terms.specs.declared.Plan.{Plan}
use Rattle.terms.specs.declared.Member.{Member}
use Rattle.terms.specs.declared.Member.TheVariants.{Repairable, NonRepair}
use Rattle.terms.specs.declared.Class.TheVariants.{Unclassifiable}
use Rattle.terms.proofs.Facts.{none_unclassifiable}
use Rattle.node.specs.Node.{served}
use Rattle.node.specs.Fresh.{freshened}
use Rattle.session.specs.Opening.{open_with}
use Rattle.session.specs.Owed.{owed_to}
use Rattle.session.specs.Writer.{write_reply}
use Rattle.session.specs.Reader.{read_reply}
use Rattle.wish.specs.Wish.{Counts, counts_of, plan_with, Every, SaidSmallest}
use Rattle.wish.specs.Closed.{answer_for}
use Rattle.wish.proofs.Laws.{rules_ok, in_range, accepts}
use Rattle.wish.proofs.Calls.{answer_is}
use Rattle.demands.specs.Edges.{RefusedOne, CasesHold, first_plan, second_plan, table, WishCase, WishesHold, wish_table}

refused_one : (p : Plan) → plan_ok p ≡ false → RefusedOne p
unfolding served freshened open_with owed_to write_reply read_reply first
refused_one p e =
    record {
      outside = e;
      node = λ f b y. rw e;
      fresh = λ node b. rw e;
      opening = λ op b a. rw e;
      owed = λ s node d q. rw e;
      write = λ s f d i. rw e;
      read = λ s f d i. rw e;
    }

refuses : (s : Counts) → rules_ok s ≡ false → Every s RefusedOne
refuses s e F W c f₁ f₂ w₁ w₂ = refused_one (plan_with s F W c) (in_range s F W c f₁ f₂ w₁ w₂ ∙ e)

-- b above t, whatever the rest is
too_many : (a d : Bool) (rest : List Bool) → all (a ∷ d ∷ false ∷ rest) ≡ false
unfolding all
too_many false d rest = refl
too_many true false rest = refl
too_many true true rest = refl

exclude_all : (k : Member) (n t b q m : ℕ) → leb b t ≡ false → Every (counts_of k n t b q m) RefusedOne
exclude_all k n t b q m e = refuses (counts_of k n t b q m) (unfold counts_ok in rw e (too_many (leb 1 n) (leb n 16) _))

certain_all : (s : Counts) → rules_ok s ≡ true → s.t ≡ 0
    → Every s (λ (p : Plan). (size : ℕ) → class_of (complete_at p) (incomplete_at p) size ≡ Unclassifiable → ⊥)
certain_all s e z F W c f₁ f₂ w₁ w₂ = none_unclassifiable (plan_with s F W c) (accepts s e F W c f₁ f₂ w₁ w₂) z

-- EVERY STARRED CASE OF DOCUMENT 01'S TABLE HOLDS
pub edges : CasesHold table
unfolding counts_ok column_of all decided class_of
edges = (
  accepts first_plan refl,
  (
    refuses (counts_of Repairable 5 1 1 3 3) refl,
    (
      refuses (counts_of Repairable 4 1 1 3 2) refl,
      (
        refuses (counts_of Repairable 5 1 1 4 2) refl,
        (
          accepts second_plan refl,
          (
            refuses (counts_of NonRepair 7 1 1 3 5) refl,
            (
              refuses (counts_of NonRepair 6 1 1 3 4) refl,
              (
                accepts (counts_of Repairable 1 0 0 1 1) refl,
                (
                  accepts (counts_of NonRepair 1 0 0 1 1) refl,
                  (
                    certain_all (counts_of Repairable 1 0 0 1 1) refl refl,
                    (
                      certain_all (counts_of NonRepair 1 0 0 1 1) refl refl,
                      (
                        λ k n q m. exclude_all k n 1 2 q m refl,
                        (
                          λ F W c f₁ f₂ w₁ w₂. refl,
                          (
                            λ F W c f₁ f₂ w₁ w₂. refl,
                            (
                              λ F W c f₁ f₂ w₁ w₂. refl,
                              (
                                λ F W c f₁ f₂ w₁ w₂. refl,
                                (
                                  λ F W c f₁ f₂ w₁ w₂. refl,
                                  (
                                    product_57_83,
                                    (
                                      product_57_13,
                                      (
                                        column_00_80.0,
                                        (
                                          column_00_80.1,
                                          (
                                            column_00_80.2,
                                            (column_57_57, tt),
                                          ),
                                        ),
                                      ),
                                    ),
                                  ),
                                ),
                              ),
                            ),
                          ),
                        ),
                      ),
                    ),
                  ),
                ),
              ),
            ),
          ),
        ),
      ),
    ),
  ),
)

-- ---- wishes: every answer is that of the closed forms
abbrev answers_of : List WishCase → List SaidSmallest
answers_of [] = []
answers_of (c ∷ cs) = c.answer ∷ answers_of cs

abbrev forms_of : List WishCase → List SaidSmallest
forms_of [] = []
forms_of (c ∷ cs) = answer_for c.wish ∷ forms_of cs

by_forms : (cs : List WishCase) → forms_of cs ≡ answers_of cs → WishesHold cs
by_forms [] e = tt
by_forms (c ∷ cs) e =
    let h : answer_for c.wish ≡ c.answer = cc in
    let l : forms_of cs ≡ answers_of cs = cc in
    ((λ a d. answer_is c.wish a d ∙ h), by_forms cs l)

-- EVERY EDGE OF Q-1 HOLDS
pub wish_edges : WishesHold wish_table
unfolding answer_for
wish_edges = by_forms wish_table refl
