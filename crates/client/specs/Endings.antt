-- When a reply call gives each of its answers. Document 01, "The client", "Endings", "Refusal numbers".
--   Exactly                one thing exactly when another
--   after_reply desk_after        the session and the desk after an accepted reply of a read round
--   Closes                 the reply is accepted in a read round, and is its N-t-th
--   Candidate size         node a bears the candidate; how many replies its set has
--   Fails                  incomplete, or validation failed
--   WhenNever WhenAborted WhenSpent WhenDone WhenOpen   the condition of each answer of a read
--   ReadGives              the condition of an answer: refused, open, or an ending
--   WriteDone WriteOpen WriteClock WriteGives           the same of a write
-- Assumes nothing.
use Rattle.std.specs.Prelude.{ℕ, ◌≤◌, ◌<◌, ◌*◌, ◌≡◌, Bool, true, false, cond, List, ◌⊎◌, length, Some}
use Rattle.octets.specs.Bytes.{put}
use Rattle.terms.specs.Ladder.{Rung, None, Given}
use Rattle.terms.specs.Stamp.{time, stamp_at, top}
use Rattle.terms.specs.Terms.{record_length, complete_at, incomplete_at, slots_of, slot_at}
use Rattle.terms.specs.declared.Plan.{Plan}
use Rattle.terms.specs.declared.Timestamp.{Timestamp}
use Rattle.terms.specs.declared.Member.TheVariants.{Repairable, NonRepair}
use Rattle.frame.specs.Frame.{frame_node, body_of}
use Rattle.rounds.specs.declared.Heard.{Heard}
use Rattle.rounds.specs.declared.Heard.TheVariants.{First, Record}
use Rattle.rounds.specs.Rounds.{heard_count, mark_of, lead_of, set_of}
use Rattle.session.specs.declared.Session.{Session}
use Rattle.standing.specs.declared.Operation.TheVariants.{Write}
use Rattle.standing.specs.Standing.{is_storing, replies}
use Rattle.session.specs.Session.{marked_of, Said, refused, still_open, done, never_written, aborted, rounds_spent, clock_spent}
use Rattle.session.specs.Reply.{bears, reply_ladder}
pub use Rattle.session.specs.Reply.{read_ladder}
use Rattle.recover.specs.Recover.{sound}
use Rattle.session.specs.Reader.{closed}
use Rattle.session.specs.Writer.{timed_of, kth_reply}

-- one thing exactly when another
abbrev pub Exactly : Type 0 → Type 0 → Type 0
Exactly A B = (A → B) × (B → A)

-- ---- a read
abbrev pub heard_as : Plan → List ℕ → Heard
heard_as p f = cond (bears p f) Record First

abbrev pub after_reply : Plan → Session → List ℕ → Session
after_reply p s f = marked_of s (frame_node f) (heard_as p f)

abbrev pub desk_after : Plan → List ℕ → List ℕ → List ℕ
desk_after p f d = cond (bears p f) (put d (frame_node f * record_length p) (body_of f)) d

-- "At N-t accepted replies"
pub record Closes (p : Plan) (s : Session) (f d : List ℕ) (item : ℕ) : Type 0 where
  pub accepted : None (read_ladder p s f d item)
  pub asks : is_storing s.round.stage ≡ false
  pub enough : replies p ≤ heard_count (after_reply p s f).marks

-- "the candidate is the greatest timestamp": that of node a, the lowest-numbered that bears it
abbrev pub Candidate : Plan → Session → List ℕ → List ℕ → ℕ → Type 0
Candidate p s f d a = lead_of (after_reply p s f).marks (desk_after p f d) (slots_of p) p.n ≡ Some a

-- "Its set is the replies with this timestamp and the same cross checksum as the lowest-numbered of them"
abbrev pub size : Plan → Session → List ℕ → List ℕ → ℕ → ℕ
size p s f d a = length (set_of (after_reply p s f).marks (desk_after p f d) (slots_of p) a p.n)

-- validation of that set
abbrev pub valid : Plan → Session → List ℕ → List ℕ → ℕ → Bool
valid p s f d a = sound p (closed p (after_reply p s f) (desk_after p f d)) a (desk_after p f d)

-- "Incomplete, or validation failed": only a complete set, and an unclassifiable one of a repairable member, is validated
abbrev pub Fails : Plan → ℕ → Bool → Type 0
Fails p n v = (n < incomplete_at p) ⊎ ((v ≡ false) × ((complete_at p ≤ n) ⊎ ((incomplete_at p ≤ n) × (p.member ≡ Repairable))))

-- "First triple: never written": no node is marked record
pub record WhenNever (p : Plan) (s : Session) (f d : List ℕ) (item rounds : ℕ) : Type 0 where
  pub closes : Closes p s f d item
  pub first : (k : ℕ) → k < p.n → mark_of (after_reply p s f).marks k ≡ Record → ⊥
  pub counted : rounds ≡ s.round.number

-- "Unclassifiable: non-repair ends aborted, unvalidated."
pub record WhenAborted (p : Plan) (s : Session) (f d : List ℕ) (item rounds : ℕ) : Type 0 where
  pub closes : Closes p s f d item
  pub node : ℕ
  pub candidate : Candidate p s f d node
  pub low : incomplete_at p ≤ size p s f d node
  pub high : size p s f d node < complete_at p
  pub member : p.member ≡ NonRepair
  pub counted : rounds ≡ s.round.number

-- "rounds spent (round W was incomplete or invalid)"
pub record WhenSpent (p : Plan) (s : Session) (f d : List ℕ) (item rounds : ℕ) : Type 0 where
  pub closes : Closes p s f d item
  pub node : ℕ
  pub candidate : Candidate p s f d node
  pub fails : Fails p (size p s f d node) (valid p s f d node)
  pub last : s.round.number ≡ p.w
  pub counted : rounds ≡ s.round.number

-- "Complete: validate, decode from the m lowest-numbered of the set, done."
pub record DoneByRead (p : Plan) (s : Session) (f d : List ℕ) (item : ℕ) (stamp : Timestamp) (rounds : ℕ) : Type 0 where
  pub closes : Closes p s f d item
  pub node : ℕ
  pub candidate : Candidate p s f d node
  pub full : complete_at p ≤ size p s f d node
  pub validated : valid p s f d node ≡ true
  pub of : stamp ≡ stamp_at (desk_after p f d) (slot_at (slots_of p) node)
  pub counted : rounds ≡ s.round.number

-- "runs a write round, then is done"; "A repair round is not counted."
pub record DoneByRepair (p : Plan) (s : Session) (f d : List ℕ) (item : ℕ) (stamp : Timestamp) (rounds : ℕ) : Type 0 where
  pub accepted : None (read_ladder p s f d item)
  pub stores : is_storing s.round.stage ≡ true
  pub enough : replies p ≤ heard_count (marked_of s (frame_node f) Record).marks
  pub of : stamp ≡ s.stamp
  pub counted : rounds ≡ s.round.number

-- the round is not full
pub record Waits (p : Plan) (s : Session) (f d : List ℕ) (item : ℕ) : Type 0 where
  pub accepted : None (read_ladder p s f d item)
  pub few : heard_count (cond (is_storing s.round.stage) (marked_of s (frame_node f) Record) (after_reply p s f)).marks < replies p

-- "Incomplete, or validation failed: … the next round opens"
pub record NextOpens (p : Plan) (s : Session) (f d : List ℕ) (item : ℕ) : Type 0 where
  pub closes : Closes p s f d item
  pub node : ℕ
  pub candidate : Candidate p s f d node
  pub fails : Fails p (size p s f d node) (valid p s f d node)
  pub more : s.round.number < p.w

-- "Repairable validates, fills the desk with all N records, runs a write round"
pub record RepairOpens (p : Plan) (s : Session) (f d : List ℕ) (item : ℕ) : Type 0 where
  pub closes : Closes p s f d item
  pub node : ℕ
  pub candidate : Candidate p s f d node
  pub low : incomplete_at p ≤ size p s f d node
  pub high : size p s f d node < complete_at p
  pub member : p.member ≡ Repairable
  pub validated : valid p s f d node ≡ true

abbrev pub WhenDone : Plan → Session → List ℕ → List ℕ → ℕ → Timestamp → ℕ → Type 0
WhenDone p s f d item stamp rounds = DoneByRead p s f d item stamp rounds ⊎ DoneByRepair p s f d item stamp rounds

abbrev pub WhenOpen : Plan → Session → List ℕ → List ℕ → ℕ → Type 0
WhenOpen p s f d item = Waits p s f d item ⊎ NextOpens p s f d item ⊎ RepairOpens p s f d item

abbrev pub ReadGives : Plan → Session → List ℕ → List ℕ → ℕ → Said → Type 0
ReadGives p s f d item (refused k) = Given (read_ladder p s f d item) k
ReadGives p s f d item still_open = WhenOpen p s f d item
ReadGives p s f d item (done stamp rounds) = WhenDone p s f d item stamp rounds
ReadGives p s f d item (never_written rounds) = WhenNever p s f d item rounds
ReadGives p s f d item (aborted rounds) = WhenAborted p s f d item rounds
ReadGives p s f d item (rounds_spent rounds) = WhenSpent p s f d item rounds
ReadGives p s f d item clock_spent = ⊥

-- ---- a write
abbrev pub write_ladder : Plan → Session → List ℕ → List ℕ → ℕ → List Rung
write_ladder p s f d item = reply_ladder Write p s f d item

-- the session after an accepted reply
abbrev pub wrote : Session → List ℕ → Session
wrote s f = cond (is_storing s.round.stage) (marked_of s (frame_node f) Record) (timed_of s (frame_node f) (time (body_of f)))

-- "A write round runs to N-t replies bearing that timestamp"; a write counts no read rounds
pub record WriteDone (p : Plan) (s : Session) (f d : List ℕ) (item : ℕ) (stamp : Timestamp) (rounds : ℕ) : Type 0 where
  pub accepted : None (write_ladder p s f d item)
  pub stores : is_storing s.round.stage ≡ true
  pub enough : replies p ≤ heard_count (wrote s f).marks
  pub of : stamp ≡ s.stamp
  pub counted : rounds ≡ 0

-- document 02, Q-2: "'Clock spent' is given exactly when that (b+1)-th value is 2^64-1"
pub record WriteClock (p : Plan) (s : Session) (f d : List ℕ) (item : ℕ) : Type 0 where
  pub accepted : None (write_ladder p s f d item)
  pub asks : is_storing s.round.stage ≡ false
  pub enough : replies p ≤ heard_count (wrote s f).marks
  pub spent : kth_reply p (wrote s f) ≡ top

-- the round is not full, or the time round has ended and the write round opens
pub record WriteOpen (p : Plan) (s : Session) (f d : List ℕ) (item : ℕ) : Type 0 where
  pub accepted : None (write_ladder p s f d item)
  pub goes : (heard_count (wrote s f).marks < replies p)
      ⊎ ((is_storing s.round.stage ≡ false) × (kth_reply p (wrote s f) ≡ top → ⊥))

abbrev pub WriteGives : Plan → Session → List ℕ → List ℕ → ℕ → Said → Type 0
WriteGives p s f d item (refused k) = Given (write_ladder p s f d item) k
WriteGives p s f d item still_open = WriteOpen p s f d item
WriteGives p s f d item (done stamp rounds) = WriteDone p s f d item stamp rounds
WriteGives p s f d item (never_written rounds) = ⊥
WriteGives p s f d item (aborted rounds) = ⊥
WriteGives p s f d item (rounds_spent rounds) = ⊥
WriteGives p s f d item clock_spent = WriteClock p s f d item
