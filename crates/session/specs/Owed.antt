-- The request frame owed to an unheard node. Document 01, "The client": a further call gives the request frame owed to an unheard node, as
-- often as wanted, into a buffer of at least R+15 bytes; bytes past it stay. "Refusal numbers": for a request owed 1, 2, 9, 14, 4, 11. The
-- session is not among the outcomes: it comes by value, and stays as it is.
--   owed_ladder         the order
--   request_of          the request of the round that is open
--   Due due_of          an answer in the document's terms: a refusal's number, or the length of the frame that was written
--   Dues dues          the answer and the request buffer as the call leaves them
--   owed_to OwedCall    the call and its contract
-- Assumes nothing.
use Rattle.terms.specs.declared.Refusal.{Refusal}
use Rattle.std.specs.Prelude.{ℕ, ◌≡◌, not, cond, List, [], ◌∷◌, length, ltb, Result, Ok, Err}
use Rattle.octets.specs.Bytes.{over}
use Rattle.terms.specs.Ladder.{Rung, on, first}
use Rattle.terms.specs.Terms.{plan_ok, refusal_number}
use Rattle.terms.specs.declared.Plan.{Plan}
use Rattle.frame.specs.Frame.{frame, write_request_kind, time_request_kind}
use Rattle.record.specs.Desk.{slot_of}
use Rattle.session.specs.declared.Session.{Session}
use Rattle.standing.specs.Standing.{is_read, is_storing, is_ended, room_ok, read_request}
use Rattle.session.specs.Session.{ask_now}
use Rattle.session.specs.Ranges.{in_range}
use Rattle.session.specs.Reply.{is_heard}

abbrev pub owed_ladder : Plan → Session → ℕ → List ℕ → ℕ → List Rung
owed_ladder p s node d request =
    on 1 (not (plan_ok p)) ∷
    on 2 (not (room_ok p (length d) request)) ∷
    on 9 (not (in_range p s d)) ∷
    on 14 (is_ended s.round.stage) ∷
    on 4 (not (ltb node p.n)) ∷
    on 11 (is_heard s node) ∷ []

-- a write or repair round sends the node's record, slot number node of the desk; a time round asks kind 1
unfoldable pub request_of : Plan → Session → ℕ → List ℕ → List ℕ
request_of p s node d =
    cond (is_storing s.round.stage) (frame write_request_kind node (ask_now s) (slot_of p d node))
    (cond (is_read s.operation) (read_request s.round.bound node (ask_now s)) (frame time_request_kind node (ask_now s) []))

pub data Due : Type 0 where
  refused : ℕ → Due
  written : (length : ℕ) → Due

abbrev pub due_of : Result ℕ Refusal → Due
due_of (Err r) = refused (refusal_number r)
due_of (Ok n) = written n

pub record Dues : Type 0 where
  pub due : Due
  pub request : List ℕ

abbrev pub dues : Due → List ℕ → Dues
dues x q = record { due = x; request = q }

unfoldable pub owed_to : Plan → Session → ℕ → List ℕ → List ℕ → Dues
owed_to p s node d q =
    first (owed_ladder p s node d (length q)) (λ (k : ℕ). dues (refused k) q)
    (dues (written (length (request_of p s node d))) (over (request_of p s node d) q))

-- the contract of the call: its inputs, then its outcome
pub record OwedCall (p : Plan) (s : Session) (node : ℕ) (d q : List ℕ) (r : Result ℕ Refusal) (q₂ : List ℕ) : Type 0 where
  pub is : dues (due_of r) q₂ ≡ owed_to p s node d q
