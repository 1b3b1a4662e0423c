-- The writer. Document 01, "The client", writing, with document 02, Q-2: a time round, ends at N-t replies; the new time is the (b+1)-th greatest
-- reply plus 1. The reply that ends the time round fills the desk with all N records; until then, and at "clock spent", the desk stays. A write
-- round runs to N-t replies bearing that timestamp. The item comes as a slice that cannot be written, so it is not among the outcomes.
--   timed_of            the session after a time reply
--   kth_reply new_time   the (b+1)-th greatest of the time replies; the time of the write, from it
--   Leaves leaves      the answer, the session and the desk as a call leaves them
--   time_turn time_end   the time round after a reply: open, clock spent, or the write round opens
--   write_turn          the write round after a reply: open, or done
--   accepted_write      a reply that nothing refuses
--   write_reply WriteReplyCall   the call and its contract
-- Assumes nothing.
use Rattle.std.specs.Prelude.{ℕ, ◌+◌, ◌≡◌, cond, List, length, set, eqb}
use Rattle.terms.specs.Ladder.{first}
use Rattle.terms.specs.Stamp.{time, top}
use Rattle.terms.specs.declared.Plan.{Plan}
use Rattle.frame.specs.Frame.{frame_node, body_of}
use Rattle.recover.specs.Records.{stamp_for, records_for}
use Rattle.rounds.specs.declared.Heard.TheVariants.{Record}
use Rattle.clock.specs.Clock.{times_heard, kth_greatest}
use Rattle.session.specs.declared.Session.{Session}
use Rattle.session.specs.declared.Took.{Took}
use Rattle.standing.specs.declared.Operation.TheVariants.{Write}
use Rattle.standing.specs.Standing.{is_storing}
use Rattle.session.specs.Session.{round_open, with_times, with_marks, marked_of, ended_of, storing_of, Said, refused, still_open, done, clock_spent, said_of}
use Rattle.session.specs.Reply.{reply_ladder}

-- ---- times
-- "In a time or write round a heard node is marked 'record'"; its time is kept as its own
abbrev pub timed_of : Session → ℕ → ℕ → Session
timed_of s i t = with_marks (with_times s (set s.times i (record { 0 = t }))) (set s.marks i Record)

-- Q-2: "Take the (b+1)-th greatest of the N-t time replies, equal values counted each,"
unfoldable pub kth_reply : Plan → Session → ℕ
kth_reply p s = kth_greatest (p.b + 1) (times_heard s.marks s.times)

-- "and add 1."
abbrev pub new_time : ℕ → ℕ
new_time kth = kth + 1

-- ---- the call
pub record Leaves : Type 0 where
  pub said : Said
  pub session : Session
  pub desk : List ℕ

abbrev pub leaves : Said → Session → List ℕ → Leaves
leaves a s d = record { said = a; session = s; desk = d }

-- Q-2: "'Clock spent' is given exactly when that (b+1)-th value is 2^64-1"; else the write round opens
unfoldable pub time_end : Plan → Session → List ℕ → List ℕ → Leaves
time_end p s d i =
    cond (eqb (kth_reply p s) top) (leaves clock_spent (ended_of s) d)
    (leaves still_open (storing_of s (stamp_for p (new_time (kth_reply p s)) i)) (records_for p (new_time (kth_reply p s)) i))

unfoldable pub time_turn : Plan → Session → List ℕ → List ℕ → Leaves
time_turn p s d i = cond (round_open p s) (leaves still_open s d) (time_end p s d i)

-- a write that is done used no read rounds
unfoldable pub write_turn : Plan → Session → List ℕ → Leaves
write_turn p s d = cond (round_open p s) (leaves still_open s d) (leaves (done s.stamp 0) (ended_of s) d)

unfoldable pub accepted_write : Plan → Session → List ℕ → List ℕ → List ℕ → Leaves
accepted_write p s f d i =
    cond (is_storing s.round.stage) (write_turn p (marked_of s (frame_node f) Record) d) (time_turn p (timed_of s (frame_node f) (time (body_of f))) d i)

-- one reply: the first refusal that applies hands back everything as it came; where none does, it is accepted
unfoldable pub write_reply : Plan → Session → List ℕ → List ℕ → List ℕ → Leaves
write_reply p s f d i = first (reply_ladder Write p s f d (length i)) (λ (k : ℕ). leaves (refused k) s d) (accepted_write p s f d i)

-- the contract of the call: its inputs, then its outcome
pub record WriteReplyCall (p : Plan) (s : Session) (f d i : List ℕ) (t : Took) (d₂ : List ℕ) : Type 0 where
  pub is : leaves (said_of t.answer) t.session d₂ ≡ write_reply p s f d i
