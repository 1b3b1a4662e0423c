-- The loop of READ_TIMESTAMP and of DO_WRITE: a response of a storage-node that is in the set is left out (kept_out), another is put in
-- (put_in); and the nodes of the set are those that a session has marked (Marked). Which refusals do not apply, by number (off). Assumes nothing.
use Prim.Native.Nat.{ℕ, suc, ◌<◌}
use mathlib.Core.Path.{◌≡◌, refl, sym, ap, ◌∙◌}
use mathlib.Core.Bool.{Bool, true, false, cond, not}
use mathlib.Core.List.{List, [], ◌∷◌}
use native.Mathlib.Decide.{ℕ_discrete}
use borrow.Author.Tests.{eq-eqb, ne_eqb, eqb-true, not-true}
use lib.Dec.{eqb}
use lib.ListN.{length, set}
use Rattle.terms.specs.Ladder.{Rung, None, rung}
use Rattle.terms.proofs.Down.{clear}
use Rattle.terms.proofs.Rungs.{both, clash}
use Rattle.rounds.specs.declared.Heard.TheVariants.{Unheard, Record}
use Rattle.rounds.specs.declared.Heard.{Heard}
use Rattle.rounds.specs.Rounds.{mark_of, heard_at, heard_count, unheards}
use Rattle.rounds.proofs.Laws.{mark_set, mark_other, count_set}
use Rattle.report.specs.Figure2.{in_set_of, gathered}
use Rattle.report.specs.WriteRun.{none_of}
use Rattle.client.proofs.Slots.{mark_none}

-- ---- refusals by their numbers
abbrev pub listed : ℕ → List ℕ → Bool
listed k [] = false
listed k (j ∷ ks) = cond (eqb j k) true (listed k ks)

pub off : (ks : List ℕ) (l : List Rung) → none_of ks l ≡ true → (k : ℕ) → listed k ks ≡ true → rung k l ≡ false
unfolding none_of
off [] l e k m = absurd (clash (sym m))
off (j ∷ ks) l e k m = go (eqb j k) refl m (off ks l (both (not (rung j l)) (none_of ks l) e).1 k)
  where
    go : (t : Bool) → eqb j k ≡ t → cond t true (listed k ks) ≡ true → (listed k ks ≡ true → rung k l ≡ false) → rung k l ≡ false
    go true q w more = ap (λ (x : ℕ). rung x l) (sym (eqb-true j k q)) ∙ not-true (rung j l) (both (not (rung j l)) (none_of ks l) e).0
    go false q w more = more w

pub all_off : (ks : List ℕ) (l : List Rung) → None l → none_of ks l ≡ true
unfolding none_of
all_off [] l n = refl
all_off (k ∷ ks) l n = rw (clear l n k) (all_off ks l n)

-- ---- the loop
module _ {A : Type 0} (from : A → ℕ) where
  pub put_in : (x : A) (before : List A) → in_set_of from (from x) (gathered from before) ≡ false → gathered from (x ∷ before) ≡ x ∷ gathered from before
  unfolding gathered
  put_in x before e = rw e

  pub kept_out : (x : A) (before : List A) → in_set_of from (from x) (gathered from before) ≡ true → gathered from (x ∷ before) ≡ gathered from before
  unfolding gathered
  kept_out x before e = rw e

  -- the set of some responses, and the marks of a round
  pub record Marked (ms : List Heard) (R : List A) : Type 0 where
    pub names : (k : ℕ) → in_set_of from k R ≡ heard_at ms k
    pub count : length R ≡ heard_count ms

  pub marked_none : Marked unheards (gathered from [])
  unfolding gathered in_set_of heard_count
  marked_none = record { names = λ k. rw (mark_none 16 k); count = refl }

  pub marked_more : (ms : List Heard) (R : List A) (x : A) (i : ℕ) → from x ≡ i → i < length ms → mark_of ms i ≡ Unheard → Marked ms R
      → Marked (set ms i Record) (x ∷ R)
  unfolding in_set_of
  marked_more ms R x i e l u m =
      record { names = λ k. go k (ℕ_discrete k i); count = ap suc m.count ∙ sym (count_set ms i Record l u refl) }
    where
      go : (k : ℕ) → Dec (k ≡ i) → cond (eqb (from x) k) true (in_set_of from k R) ≡ heard_at (set ms i Record) k
      go k (yes q) = rw (eq-eqb (from x) k (e ∙ sym q), q, mark_set ms i Record l)
      go k (no q) = rw (ne_eqb (from x) k (λ z. q (sym z ∙ e)), mark_other ms i k Record q) (m.names k)
