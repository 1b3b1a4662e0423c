-- The session. Document 01, "The client": a value handed in and handed back.
--   read_round          whether it is in a read round
--   ask_now             the ask number of the round that is open
--   awaits_kind         whether that round awaits replies of a kind
--   round_open          whether the round is open, and not over
--   session_with        a session by its fields
--   with_round with_times with_stamp with_marks   a session with one field set
--   marked_of ended_of next_of storing_of   the session after a node was heard, ended, in the next read round, in a write or repair round
--   Said said_of is_refused   an answer in the document's terms, and whether it is a refusal
-- Assumes nothing.
use Rattle.terms.specs.declared.Refusal.{Refusal}
use Rattle.std.specs.Prelude.{ℕ, Bool, true, false, List, set, ltb, Result, Ok, Err}
use Rattle.terms.specs.Terms.{refusal_number}
use Rattle.terms.specs.declared.Ask.{Ask}
use Rattle.terms.specs.declared.Plan.{Plan}
use Rattle.terms.specs.declared.Time.{Time}
use Rattle.terms.specs.declared.Timestamp.{Timestamp}
use Rattle.rounds.specs.declared.Heard.{Heard}
use Rattle.rounds.specs.Rounds.{unheards, heard_count}
use Rattle.session.specs.declared.Session.{Session}
use Rattle.standing.specs.declared.Round.{Round}
use Rattle.standing.specs.declared.Operation.{Operation}
use Rattle.standing.specs.declared.Stage.TheVariants.{Storing, Ended}
use Rattle.standing.specs.Standing.{read_in, ask_in, awaits_in, in_stage, next_round, replies}
use Rattle.session.specs.declared.Answer.{Answer}
use Rattle.session.specs.declared.Answer.TheVariants.{Open, Done, NeverWritten, Aborted, RoundsSpent, ClockSpent}

abbrev pub read_round : Session → Bool
read_round s = read_in s.operation s.round

abbrev pub ask_now : Session → ℕ
ask_now s = ask_in s.opening.0 s.round

abbrev pub awaits_kind : Session → ℕ → Bool
awaits_kind s k = awaits_in s.operation s.round k

-- a round of any kind "ends at N-t replies": it is open while fewer nodes are heard, and else it is over
abbrev pub round_open : Plan → Session → Bool
round_open p s = ltb (heard_count s.marks) (replies p)

-- a session by its fields
abbrev pub session_with : Operation → Round → Ask → List Time → Timestamp → List Heard → Session
session_with o r a t w m = record { operation = o; round = r; opening = a; times = t; stamp = w; marks = m }

-- with one field set
abbrev pub with_round : Session → Round → Session
with_round s r = session_with s.operation r s.opening s.times s.stamp s.marks

abbrev pub with_times : Session → List Time → Session
with_times s t = session_with s.operation s.round s.opening t s.stamp s.marks

abbrev pub with_stamp : Session → Timestamp → Session
with_stamp s t = session_with s.operation s.round s.opening s.times t s.marks

abbrev pub with_marks : Session → List Heard → Session
with_marks s m = session_with s.operation s.round s.opening s.times s.stamp m

abbrev pub marked_of : Session → ℕ → Heard → Session
marked_of s i h = with_marks s (set s.marks i h)

abbrev pub ended_of : Session → Session
ended_of s = with_round s (in_stage s.round Ended)

-- "the next round opens", below the candidate's timestamp
abbrev pub next_of : Session → Timestamp → Session
next_of s t = with_marks (with_round s (next_round s.round t)) unheards

-- a write or repair round, in which t is the timestamp being written
abbrev pub storing_of : Session → Timestamp → Session
storing_of s t = with_marks (with_stamp (with_round s (in_stage s.round Storing)) t) unheards

-- ---- an answer in the document's terms: a refusal's number, open, or an ending with its timestamp and rounds
pub data Said : Type 0 where
  refused : ℕ → Said
  still_open : Said
  done : (stamp : Timestamp) (rounds : ℕ) → Said
  never_written : (rounds : ℕ) → Said
  aborted : (rounds : ℕ) → Said
  rounds_spent : (rounds : ℕ) → Said
  clock_spent : Said

abbrev pub said_of : Result Answer Refusal → Said
said_of (Err r) = refused (refusal_number r)
said_of (Ok Open) = still_open
said_of (Ok (Done t n)) = done t n
said_of (Ok (NeverWritten n)) = never_written n
said_of (Ok (Aborted n)) = aborted n
said_of (Ok (RoundsSpent n)) = rounds_spent n
said_of (Ok ClockSpent) = clock_spent

abbrev pub is_refused : Said → Bool
is_refused (refused k) = true
is_refused still_open = false
is_refused (done stamp n) = false
is_refused (never_written n) = false
is_refused (aborted n) = false
is_refused (rounds_spent n) = false
is_refused clock_spent = false
