-- Every session that the library makes is in its ranges, together with the desk that was handed back with it, and its round is 1 to W.
--   replies_keep       whatever a list of replies leaves of a session in its ranges is in them
--   every_session      so is what it leaves of an accepted opening
--   every_round        and its round is 1 to W
--   other_operation    so refusal 9 is met by such a session only in a call for the other operation
-- Assumes nothing.
use Prim.{tt}
use Rattle.std.specs.Prelude.{Ok}
use Prim.Native.Nat.{ℕ, ◌*◌, ◌≤◌}
use mathlib.Core.Path.{◌≡◌, refl}
use mathlib.Core.Bool.{Bool, true, false}
use mathlib.Core.List.{List, [], ◌∷◌}
use mathlib.Core.Logic.{inl, inr}
use lib.ListN.{length}
use Rattle.terms.specs.Ladder.{◌and◌}
use Rattle.terms.specs.Terms.{record_length}
use Rattle.terms.specs.declared.Ask.{Ask}
use Rattle.terms.specs.declared.Plan.{Plan}
use Rattle.standing.specs.declared.Operation.{Operation}
use Rattle.session.specs.declared.Session.{Session}
use Rattle.session.specs.declared.opening.Opened.{Opened}
use Rattle.session.specs.Opening.{OpenCall}
use Rattle.session.specs.Ranges.{in_range}
use Rattle.standing.specs.Standing.{same_operation}
use Rattle.session.proofs.Kept.{Kept, opened_kept, write_kept}
use Rattle.session.proofs.ReadKept.{read_kept, round_kept}
use Rattle.client.specs.Turns.{Turn, ReadTurn, EitherTurn, Calls}
use Rattle.client.specs.Sessions.{last_session, last_desk}

pub replies_keep : (p : Plan) (s : Session) (d : List ℕ) (cs : List Turn) → Kept p s d → Calls (EitherTurn p) s d cs → Kept p (last_session s cs) (last_desk d cs)
replies_keep p s d [] k h = k
replies_keep p s d (c ∷ cs) k h = replies_keep p c.took.session c.desk_left cs (one h.0) h.1
  where
    one : EitherTurn p s d c → Kept p c.took.session c.desk_left
    one (inl w) = write_kept p s c.reply d c.item w.0 k c.took c.desk_left w.1
    one (inr w) = read_kept p s c.reply d c.item k c.took c.desk_left c.item_left w.1

-- calls of a reader, or of a writer, are calls of either
pub either_way : (p : Plan) (s : Session) (d : List ℕ) (cs : List Turn) → Calls (ReadTurn p) s d cs → Calls (EitherTurn p) s d cs
either_way p s d [] h = tt
either_way p s d (c ∷ cs) h = (inr h.0, either_way p c.took.session c.desk_left cs h.1)

-- EVERY SESSION THAT THE LIBRARY MAKES IS IN ITS RANGES WITH THE DESK THAT IT HANDED BACK
module _ (op : Operation) (p : Plan) (a : Ask) (r : Opened) (opens : OpenCall op p a r) (accepted : r.answer ≡ (Ok tt))
    (d : List ℕ) (long : length d ≡ p.n * record_length p) (cs : List Turn) (h : Calls (EitherTurn p) r.session d cs) where
  pub every_session : Kept p (last_session r.session cs) (last_desk d cs)
  every_session = replies_keep p r.session d cs (opened_kept op p a r opens accepted d long) h

  -- NO ROUND IS ABOVE W
  pub every_round : (1 ≤ (last_session r.session cs).round.number) × ((last_session r.session cs).round.number ≤ p.w)
  every_round = round_kept p (last_session r.session cs) (last_desk d cs) every_session

-- with this plan and this desk, the condition of 9 is that the call is for the other operation
pub other_operation : (op : Operation) (p : Plan) (s : Session) (d : List ℕ) → Kept p s d
    → (same_operation op s.operation and in_range p s d) ≡ same_operation op s.operation
other_operation op p s d k = rw k.range (go (same_operation op s.operation))
  where
    go : (b : Bool) → (b and true) ≡ b
    go true = refl
    go false = refl
