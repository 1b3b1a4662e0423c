-- Bytes that code no session are refusal 9 in 9's place: after 1 and 2, whatever else is wrong, and nothing is changed. owed_nine write_nine
-- read_nine. Assumes nothing.
use Prim.Native.Nat.{ℕ}
use mathlib.Core.Path.{◌≡◌, refl, sym, ap}
use mathlib.Core.Bool.{Bool, true, false, not}
use mathlib.Core.List.{List, [], ◌++◌}
use lib.ListN.{length}
use Rattle.terms.specs.Ladder.{Rung, first, ◌and◌}
use Rattle.terms.specs.Terms.{plan_ok}
use Rattle.terms.specs.declared.Plan.{Plan}
use Rattle.terms.proofs.Rungs as rungs
use Rattle.standing.specs.declared.Operation.{Operation}
use Rattle.standing.specs.declared.Operation.TheVariants.{Write, Read}
use Rattle.session.specs.Session.{refused}
use Rattle.standing.specs.Standing.{lengths_ok, same_operation, room_ok}
use Rattle.session.specs.Reply.{reply_ladder, record_ladder}
use Rattle.session.specs.Owed as owed
use Rattle.session.specs.Owed.{dues, owed_to}
use Rattle.session.specs.Writer.{Leaves, leaves, write_reply}
use Rattle.session.specs.Reader.{Outcome, outcome, read_reply}
use Rattle.packing.specs.PlanBytes.{plan_of}
use Rattle.packing.specs.SessionBytes.{session_shaped, session_of}
use Rattle.packing.proofs.Inverse.{no_session_lem}
use Rattle.answers.specs.Answers.{both_fit, ending_after, lent_ladder}
use Rattle.pasis.specs.Client.{session_fits, session_after, asked, asked_as, owed_bytes, took_bytes, took_as, with_item, write_bytes, read_bytes}

-- 1 and 2 of the lengths of session and ending do not apply
pub lent_none : {A : Type 0} (p : Plan) (fits : Bool) (refuse : ℕ → A) (pass : A) {z : A} → plan_ok p ≡ true → fits ≡ true → z ≡ pass
    → z ≡ first (lent_ladder p fits) refuse pass
lent_none p fits refuse pass k f e = rungs.go_on 1 _ refuse pass (ap not k) (rungs.go_on 2 _ refuse pass (ap not f) (rungs.passed refuse pass e))

and_false : (a b : Bool) → b ≡ false → (a and b) ≡ false
and_false true b e = e
and_false false b e = refl

module _ (x s : List ℕ) (none : session_shaped s ≡ false) (plan : plan_ok (plan_of x) ≡ true) where
  pub owed_nine : (n : ℕ) (d q : List ℕ) → session_fits (length s) ≡ true → room_ok (plan_of x) (length d) (length q) ≡ true → owed_bytes x s n d q ≡ asked 9 q
  unfolding owed_bytes owed_to
  owed_nine n d q f l =
      let e : dues (owed.refused 9) q ≡ owed_to (plan_of x) (session_of s) n d q =
      rungs.go_on 1 _ _ _ (ap not plan) (rungs.go_on 2 _ _ _ (ap not l) (rungs.stop 9 _ _ _ (ap not (no_session_lem (plan_of x) s d none)) refl)) in
      sym (lent_none (plan_of x) _ _ _ plan f (ap asked_as e))

  module _ (f d i e : List ℕ) (fits : both_fit (length s) (length e) ≡ true) (l : lengths_ok (plan_of x) (length d) (length i) ≡ true) where
    -- the ladder of a reply comes to 9, whatever rungs follow
    nine : {A : Type 0} (op : Operation) (more : List Rung) (refuse : ℕ → A) (pass : A)
        → refuse 9 ≡ first (reply_ladder op (plan_of x) (session_of s) f d (length i) ++ more) refuse pass
    nine op more refuse pass =
        rungs.go_on 1 _ _ _ (ap not plan) (rungs.go_on 2 _ _ _ (ap not l)
        (rungs.stop 9 _ _ _ (ap not (and_false (same_operation op (session_of s).operation) _ (no_session_lem (plan_of x) s d none))) refl))

    pub write_nine : write_bytes x s f d i e ≡ took_bytes 9 s d i e
    unfolding write_bytes write_reply session_after ending_after
    write_nine =
        sym (lent_none (plan_of x) _ _ _ plan fits (ap (λ (o : Leaves). took_as (with_item o i) s e) (nine Write [] (λ (k : ℕ). leaves (refused k) (session_of s) d) _)))

    pub read_nine : read_bytes x s f d i e ≡ took_bytes 9 s d i e
    unfolding read_bytes read_reply session_after ending_after
    read_nine =
        sym (lent_none (plan_of x) _ _ _ plan fits (ap (λ (o : Outcome). took_as o s e) (nine Read (record_ladder (plan_of x) (session_of s) f) (λ (k : ℕ). outcome (refused k) (session_of s) d i) _)))
