-- The reader. Document 01, "The client", reading, and Figure 3 of the report: an accepted reply is a mark, and a record in its slot; at
-- N-t replies the round closes, and the reader acts on the close.
--   Outcome outcome    the answer, the session, the desk and the item as a call leaves them
--   heard              an accepted reply of a read round: marked, then settled
--   failing            incomplete, or validation failed
--   acted              what a closed round comes to
--   settled stored     a read round and a repair round after a mark: still open, or closed and acted on
--   read_reply ReadReplyCall   the call and its contract
-- Assumes nothing.
use Rattle.std.specs.Prelude.{ℕ, ◌*◌, ◌≡◌, cond, List, length, leb, Option, None, Some}
use Rattle.octets.specs.Bytes.{put}
use Rattle.terms.specs.Ladder.{first}
use Rattle.terms.specs.Terms.{record_length, slots_of, thresholds_of}
use Rattle.terms.specs.declared.Plan.{Plan}
use Rattle.terms.specs.declared.Timestamp.{Timestamp}
use Rattle.terms.specs.declared.Verdict.{Verdict}
use Rattle.terms.specs.declared.Verdict.TheVariants.{Complete, Repair, Aborted, Incomplete}
use Rattle.frame.specs.Frame.{frame_node, body_of}
use Rattle.rounds.specs.declared.Heard.TheVariants.{First, Record}
use Rattle.rounds.specs.Rounds.{Closed, close_of}
use Rattle.recover.specs.Recover.{sound, decoded, collected, repaired}
use Rattle.session.specs.declared.Session.{Session}
use Rattle.session.specs.declared.Took.{Took}
use Rattle.standing.specs.Standing.{is_storing}
use Rattle.session.specs.Session.{round_open, marked_of, ended_of, next_of, storing_of, Said, refused, still_open, done, never_written, aborted, rounds_spent, said_of}
use Rattle.session.specs.Reply.{bears, read_ladder}

pub record Outcome : Type 0 where
  pub said : Said
  pub session : Session
  pub desk : List ℕ
  pub item : List ℕ

abbrev pub outcome : Said → Session → List ℕ → List ℕ → Outcome
outcome a s d i = record { said = a; session = s; desk = d; item = i }

-- "Incomplete, or validation failed: the desk stays; the next round opens, or after round W the end is rounds spent"
unfoldable pub failing : Plan → Session → Timestamp → List ℕ → List ℕ → Outcome
failing p s t d i = cond (leb p.w s.round.number) (outcome (rounds_spent s.round.number) (ended_of s) d i) (outcome still_open (next_of s t) d i)

unfoldable pub act_on : Verdict → Plan → Session → Closed → ℕ → List ℕ → List ℕ → Outcome
act_on Complete p s c a d i =
    cond (sound p c a d) (outcome (done c.stamp s.round.number) (ended_of s) d (decoded p c d i)) (failing p s c.stamp d i)
act_on Repair p s c a d i =
    cond (sound p c a d) (outcome still_open (storing_of s c.stamp) (repaired p c a d) i) (failing p s c.stamp d i)
act_on Aborted p s c a d i = outcome (aborted s.round.number) (ended_of s) d i
act_on Incomplete p s c a d i = failing p s c.stamp d i

-- "First triple: never written"
unfoldable pub act_for : Option ℕ → Plan → Session → Closed → List ℕ → List ℕ → Outcome
act_for None p s c d i = outcome (never_written s.round.number) (ended_of s) d i
act_for (Some a) p s c d i = act_on c.verdict p s c a d i

abbrev pub acted : Plan → Session → Closed → List ℕ → List ℕ → Outcome
acted p s c d i = act_for c.lead p s c d i

abbrev pub closed : Plan → Session → List ℕ → Closed
closed p s d = close_of s.marks d (slots_of p) p.member (thresholds_of p)

unfoldable pub settled : Plan → Session → List ℕ → List ℕ → Outcome
settled p s d i = cond (round_open p s) (outcome still_open s d i) (acted p s (closed p s d) d i)

-- "it holds one mark for each of 16 nodes: unheard, first triple, or record"; "A first triple leaves its slot"
unfoldable pub heard : Plan → Session → List ℕ → List ℕ → List ℕ → Outcome
heard p s f d i =
    cond (bears p f) (settled p (marked_of s (frame_node f) Record) (put d (frame_node f * record_length p) (body_of f)) i)
    (settled p (marked_of s (frame_node f) First) d i)

-- "after a repair round the item is read from the desk's first m slots"
unfoldable pub stored : Plan → Session → List ℕ → List ℕ → Outcome
stored p s d i =
    cond (round_open p s) (outcome still_open s d i) (outcome (done s.stamp s.round.number) (ended_of s) d (collected p d i))

-- "In a time or write round a heard node is marked 'record'"
unfoldable pub accepted : Plan → Session → List ℕ → List ℕ → List ℕ → Outcome
accepted p s f d i = cond (is_storing s.round.stage) (stored p (marked_of s (frame_node f) Record) d i) (heard p s f d i)

-- one reply: the first refusal that applies hands back everything as it came; where none does, it is accepted
unfoldable pub read_reply : Plan → Session → List ℕ → List ℕ → List ℕ → Outcome
read_reply p s f d i = first (read_ladder p s f d (length i)) (λ (k : ℕ). outcome (refused k) s d i) (accepted p s f d i)

-- the contract of the call: its inputs, then its outcome
pub record ReadReplyCall (p : Plan) (s : Session) (f d i : List ℕ) (t : Took) (d₂ i₂ : List ℕ) : Type 0 where
  pub is : outcome (said_of t.answer) t.session d₂ i₂ ≡ read_reply p s f d i
