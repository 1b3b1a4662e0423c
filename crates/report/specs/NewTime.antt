-- The new time of a write against the nodes that answered. Document 02, Q-2: "A complete write is still passed: at least b+1 honest repliers hold it.
-- Prove that with at most b lying nodes the new time is at most one above some honest reply."
--   ToWrite ToSpent    a write, over any replies from an accepted opening on, that has come to its write round; one that ended clock spent
--   new_time_of time_replies spent_replies   the time that it stores; READ_TIMESTAMP's response set, the N-t time replies that it counted
--   NearHonest         one of some time replies is of a node that does not lie, and v is at most one above it
--   AnswersAfter       a time reply is our node's own, from a book in which it had executed a write of this time before
-- Assumes nothing.
use Prim.{tt}
use Rattle.std.specs.Prelude.{ℕ, ◌+◌, ◌≤◌, ◌≡◌, Bool, true, false, List, ◌∷◌, take, Ok}
use Rattle.octets.specs.Bytes.{Octets}
use Rattle.terms.specs.Stamp.{time}
use Rattle.terms.specs.declared.Ask.{Ask}
use Rattle.terms.specs.declared.Plan.{Plan}
use Rattle.frame.specs.Frame.{kind_of, body_of, write_request_kind, time_request_kind}
use Rattle.book.specs.Book.{good_book, node_of}
use Rattle.node.specs.Node.{NodeCall}
use Rattle.standing.specs.declared.Stage.TheVariants.{Storing}
use Rattle.standing.specs.declared.Operation.TheVariants.{Write}
use Rattle.session.specs.declared.opening.Opened.{Opened}
use Rattle.session.specs.Opening.{OpenCall}
use Rattle.session.specs.Session.{clock_spent}
use Rattle.store.specs.History.{Call, History, last_book}
use Rattle.client.specs.Sessions.{last_session}
use Rattle.client.specs.Turns.{Turn, WriteTurn, Calls, last_said}
use Rattle.report.specs.Triple.{In}
use Rattle.report.specs.Figure2.{Clock, clocks}
use Rattle.report.specs.WriteRun.{untimed, clock_of, timed_over}

-- the desk and the items lent are any
pub record ToWrite (p : Plan) : Type 0 where
  pub ask : Ask
  pub opened : Opened
  pub opens : OpenCall Write p ask opened
  pub accepted : opened.answer ≡ (Ok tt)
  pub desk : List ℕ
  pub turns : List Turn
  pub calls : Calls (WriteTurn p) opened.session desk turns
  pub stores : (last_session opened.session turns).round.stage ≡ Storing

abbrev pub new_time_of : {p : Plan} → ToWrite p → ℕ
new_time_of w = (last_session w.opened.session w.turns).stamp.time.0

abbrev pub time_replies : {p : Plan} → ToWrite p → List Clock
time_replies {p} w = clocks (timed_over p w.opened.session w.desk untimed w.turns).times

pub record ToSpent (p : Plan) : Type 0 where
  pub ask : Ask
  pub opened : Opened
  pub opens : OpenCall Write p ask opened
  pub accepted : opened.answer ≡ (Ok tt)
  pub desk : List ℕ
  pub first : Turn
  pub rest : List Turn
  pub calls : Calls (WriteTurn p) opened.session desk (first ∷ rest)
  pub says : last_said first rest ≡ clock_spent

abbrev pub spent_replies : {p : Plan} → ToSpent p → List Clock
spent_replies {p} w = clocks (timed_over p w.opened.session w.desk untimed (w.first ∷ w.rest)).times

pub record NearHonest (lies : ℕ → Bool) (replies : List Clock) (v : ℕ) : Type 0 where
  pub reply : Clock
  pub one : In reply replies
  pub honest : lies reply.S ≡ false
  pub near : v ≤ reply.Time + 1

-- node S answered a write request of this time on a good book of its own; then came whatever calls; then it answered a time request. A lent book is
-- bytes
pub record AnswersAfter (p : Plan) (written : ℕ) (x : Clock) : Type 0 where
  pub book : List ℕ
  pub good : good_book p book ≡ true
  pub own : node_of book ≡ x.S
  pub bytes : Octets book
  pub write : List ℕ
  pub is_write : kind_of write ≡ write_request_kind
  pub of : time (body_of write) ≡ written
  pub room : List ℕ
  pub size : ℕ
  pub book_left : List ℕ
  pub room_left : List ℕ
  pub executed : NodeCall p write book room (Ok size) book_left room_left
  pub later : List Call
  pub history : History book_left later
  pub last_bytes : Octets (last_book book_left later)
  pub request : List ℕ
  pub is_time : kind_of request ≡ time_request_kind
  pub buffer : List ℕ
  pub length : ℕ
  pub book_after : List ℕ
  pub buffer_left : List ℕ
  pub answered : NodeCall p request (last_book book_left later) buffer (Ok length) book_after buffer_left
  pub is : clock_of (take length buffer_left) ≡ x
