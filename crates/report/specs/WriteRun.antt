-- Whole runs of a write: calls one after another, each on the session and the desk that the one before it handed back; and what Figure 2 is given
-- from them.
--   none_of             none of some refusals of a ladder applies
--   Responses is_response timing timed_over   what was received in both rounds; which frames are responses (01); after a frame, after some calls
--   Wrote                what an answer says, and that Figure 2's WRITE says it
--   Sending EachWrites   what is sent in a write round; so of each call of a run
-- Assumes nothing.
use Prim.{Unit}
use Rattle.std.specs.Prelude.{ℕ, ◌<◌, ◌≡◌, Bool, true, cond, not, List, [], ◌∷◌, ◌⊎◌, length}
use Rattle.terms.specs.Ladder.{Rung, rung, ◌and◌}
use Rattle.terms.specs.Stamp.{time, stamp_number, top}
use Rattle.terms.specs.declared.Plan.{Plan}
use Rattle.frame.specs.Frame.{frame_node, body_of}
use Rattle.session.specs.declared.Session.{Session}
use Rattle.standing.specs.declared.Stage.TheVariants.{Storing}
use Rattle.standing.specs.declared.Operation.TheVariants.{Write}
use Rattle.standing.specs.Standing.{is_storing}
use Rattle.session.specs.Session.{Said, refused, still_open, done, never_written, aborted, rounds_spent, clock_spent, said_of}
use Rattle.session.specs.Reply.{reply_ladder}
use Rattle.report.specs.Triple.{null}
use Rattle.report.specs.Figure2.{enough, in_set_of, Clock, clocks, Times, acknowledged, ts_written, write}
use Rattle.report.specs.Ours.{family, sending}
use Rattle.client.specs.Turns.{Turn}

-- what POLL_FOR_RESPONSE gave, to READ_TIMESTAMP and to DO_WRITE, in each the last one first; and the item lent with the last time response that
-- was new
pub record Responses : Type 0 where
  pub times : List Clock
  pub stored : List ℕ
  pub Data : List ℕ

abbrev pub untimed : Responses
untimed = record { times = []; stored = []; Data = null }

-- of a ladder, none of the refusals of these numbers applies
unfoldable pub none_of : List ℕ → List Rung → Bool
none_of [] ladder = true
none_of (k ∷ ks) ladder = not (rung k ladder) and none_of ks ladder

-- (01) the frames that are responses to the open round: those of a call and a session that are in order (1, 2, 9, 14), of the right form (4), with the ask
-- number, the kind and the timestamp of this round (10). 11 is the loops' own test
abbrev pub is_response : List Rung → Bool
is_response ladder = none_of (1 ∷ 2 ∷ 9 ∷ 14 ∷ 4 ∷ 10 ∷ []) ladder

abbrev pub clock_of : List ℕ → Clock
clock_of f = record { S = frame_node f; Time = time (body_of f) }

-- after a frame, lent with an item
unfoldable pub timing : Plan → Session → List ℕ → List ℕ → List ℕ → Responses → Responses
timing p s f d item w =
    cond (is_response (reply_ladder Write p s f d (length item)))
    (cond (is_storing s.round.stage) (record { times = w.times; stored = frame_node f ∷ w.stored; Data = w.Data })
    (record {
      times = clock_of f ∷ w.times;
      stored = w.stored;
      Data = cond (in_set_of (λ (x : Clock). x.S) (frame_node f) (clocks w.times)) w.Data item;
    }))
    w

-- after the frames of some calls
abbrev pub timed_over : Plan → Session → List ℕ → Responses → List Turn → Responses
timed_over p s d w [] = w
timed_over p s d w (c ∷ cs) = timed_over p c.took.session c.desk_left (timing p s c.reply d c.item w) cs

-- done: WRITE's timestamp, and DO_WRITE has its N-t responses; open: READ_TIMESTAMP, or DO_WRITE after it, waits for its own; clock spent (01,
-- 02): READ_TIMESTAMP's line 13 comes to 2^64-1 and 1, which has no 8 bytes; a write has no other ending
abbrev pub Wrote : Plan → Said → Responses → Type 0
Wrote p (refused k) w = Unit {0}
Wrote p still_open w =
    (length (clocks w.times) < enough (family p))
    ⊎ ((length (clocks w.times) ≡ enough (family p)) × (length (acknowledged w.stored) < enough (family p)))
Wrote p (done t rounds) w = (stamp_number t ≡ ts_written (family p) w.Data w.times) × (length (acknowledged w.stored) ≡ enough (family p))
Wrote p (never_written rounds) w = ⊥
Wrote p (aborted rounds) w = ⊥
Wrote p (rounds_spent rounds) w = ⊥
Wrote p clock_spent w = ((family p).greatest_of (Times (clocks w.times)) ≡ top) × (length (clocks w.times) ≡ enough (family p))

-- in a write round: the time round had N-t responses, and the desk holds what DO_WRITE sends
pub record Sending (p : Plan) (s : Session) (d : List ℕ) (w : Responses) : Type 0 where
  pub times : length (clocks w.times) ≡ enough (family p)
  pub stamp : stamp_number s.stamp ≡ ts_written (family p) w.Data w.times
  pub sends : sending p d ≡ write (family p) w.Data w.times

abbrev pub EachWrites : Plan → Session → List ℕ → Responses → List Turn → Type 0
EachWrites p s d before [] = Unit {0}
EachWrites p s d before (c ∷ cs) =
    Wrote p (said_of c.took.answer) (timing p s c.reply d c.item before)
    × (c.took.session.round.stage ≡ Storing → Sending p c.took.session c.desk_left (timing p s c.reply d c.item before))
    × EachWrites p c.took.session c.desk_left (timing p s c.reply d c.item before) cs
