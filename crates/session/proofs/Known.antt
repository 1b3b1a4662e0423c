-- What is known once nothing refuses a call that takes a session: one record for all of them, with what the rungs 1, 2, 9 and 14 say of plan,
-- desk and session, and any other rung by its number. Assumes nothing.
--   Known                    the record, of a ladder
--   known_owed known_reply   of a request owed, of a reply
--   same item_is reply       what else is known of a reply: 9, 2, 4
use Prim.Native.Nat.{ℕ, ◌*◌}
use mathlib.Core.Path.{◌≡◌, refl}
use mathlib.Core.Bool.{true, false}
use mathlib.Core.List.{List}
use lib.ListN.{length}
use borrow.Author.Tests.{not-false}
use Rattle.terms.specs.Ladder.{Rung, first, rung, ◌and◌}
use Rattle.terms.specs.Terms.{plan_ok, record_length}
use Rattle.terms.specs.declared.Plan.{Plan}
use Rattle.terms.proofs.Rungs.{both}
use Rattle.terms.proofs.Down.{clear}
use Rattle.frame.specs.Frame.{good_reply}
use Rattle.frame.proofs.Frames.{ReplyIs, reply_is}
use Rattle.standing.specs.declared.Operation.{Operation}
use Rattle.session.specs.declared.Session.{Session}
use Rattle.standing.specs.Standing.{is_ended, lengths_ok, same_operation, room_ok}
use Rattle.session.specs.Ranges.{in_range}
use Rattle.session.specs.Reply.{reply_ladder}
use Rattle.session.specs.Owed.{owed_ladder}
use Rattle.session.proofs.Checks.{none_applies}
use Rattle.standing.proofs.Rules.{lengths_are, room_is}
use Rattle.session.proofs.Rules.{StandingIs}
use Rattle.session.proofs.Made.{OpenIs, in_range_facts}

pub record Known (l : List Rung) (p : Plan) (s : Session) (d : List ℕ) : Type 0 where
  pub past : (k : ℕ) → rung k l ≡ false
  pub plan_is_ok : plan_ok p ≡ true
  pub desk_is : length d ≡ p.n * record_length p
  pub going : is_ended s.round.stage ≡ false
  pub stands : StandingIs p s
  pub opens : OpenIs p s d

from : (l : List Rung) (p : Plan) (s : Session) (d : List ℕ) → ((k : ℕ) → rung k l ≡ false) → plan_ok p ≡ true → length d ≡ p.n * record_length p → in_range p s d ≡ true
    → is_ended s.round.stage ≡ false → Known l p s d
from l p s d past ok long range going =
    let r = in_range_facts p s d range going in
    record { past = past; plan_is_ok = ok; desk_is = long; going = going; stands = r.0; opens = r.1 }

pub known_owed : (p : Plan) (s : Session) (node : ℕ) (d : List ℕ) (request : ℕ) → first (owed_ladder p s node d request) (λ (k : ℕ). k) 0 ≡ 0
    → Known (owed_ladder p s node d request) p s d
known_owed p s node d request e =
    let past = clear (owed_ladder p s node d request) (none_applies (owed_ladder p s node d request) refl e) in
    from (owed_ladder p s node d request) p s d past (not-false (plan_ok p) (past 1)) (room_is p (length d) request (not-false (room_ok p (length d) request) (past 2))).desk_is
    (not-false (in_range p s d) (past 9)) (past 14)

module _ (op : Operation) (p : Plan) (s : Session) (f d : List ℕ) (item : ℕ) where
  pub known_reply : first (reply_ladder op p s f d item) (λ (k : ℕ). k) 0 ≡ 0 → Known (reply_ladder op p s f d item) p s d
  known_reply e =
      let past = clear (reply_ladder op p s f d item) (none_applies (reply_ladder op p s f d item) refl e) in
      let w = both (same_operation op s.operation) (in_range p s d) (not-false (same_operation op s.operation and in_range p s d) (past 9)) in
      from (reply_ladder op p s f d item) p s d past (not-false (plan_ok p) (past 1)) (lengths_are p (length d) item (not-false (lengths_ok p (length d) item) (past 2))).desk_is
      w.1 (past 14)

  module _ (q : Known (reply_ladder op p s f d item) p s d) where
    pub same : same_operation op s.operation ≡ true
    same = (both (same_operation op s.operation) (in_range p s d) (not-false (same_operation op s.operation and in_range p s d) (q.past 9))).0

    pub item_is : item ≡ p.m * p.f
    item_is = (lengths_are p (length d) item (not-false (lengths_ok p (length d) item) (q.past 2))).item_is

    pub good : good_reply p f ≡ true
    good = not-false (good_reply p f) (q.past 4)

    pub reply : ReplyIs p f
    reply = reply_is p f good
