-- Never below a timestamp: the client's share of document 02's Q-5, "Never an older sheet". Some nodes have executed a write of timestamp ts; of them a read asks
-- that one thing: asked without a bound, or below one above ts, they answer with a record of ts or a greater one. The read may open below such a
-- bound too (Q-13).
--   Above              a bound, in the 40 bytes of its request, is above ts; or there is none
--   AtLeast            a frame bears a record of timestamp ts or a greater one
--   Heeds              what a read takes of such a node
--   OpensAbove         a read round that opens, without a bound or below one above ts
--   NotBelow           an answer of the read: never "never written", never done with a lower timestamp
-- Assumes nothing.
use Prim.{Unit}
use Rattle.std.specs.Prelude.{ℕ, ◌≤◌, ◌<◌, ◌≡◌, Bool, true, List, Option, None, Some}
use Rattle.octets.specs.Bytes.{be}
use Rattle.terms.specs.Stamp.{stamp, stamp_number}
use Rattle.terms.specs.declared.Plan.{Plan}
use Rattle.frame.specs.Frame.{frame_node, body_of}
use Rattle.terms.specs.declared.Timestamp.{Timestamp}
use Rattle.session.specs.declared.Session.{Session}
use Rattle.session.specs.Session.{read_round, Said, refused, still_open, done, never_written, aborted, rounds_spent, clock_spent}
use Rattle.session.specs.Reply.{bears}
use Rattle.client.specs.Turns.{Turn, Takes}
use Rattle.client.specs.Round.{RoundOpens}

abbrev pub Above : ℕ → Option Timestamp → Type 0
Above ts None = Unit {0}
Above ts (Some u) = ts < stamp (be 40 (stamp_number u))

pub record AtLeast (p : Plan) (ts : ℕ) (f : List ℕ) : Type 0 where
  pub borne : bears p f ≡ true
  pub high : ts ≤ stamp (body_of f)

-- of a node that executed the write, in a read round with no bound or one above ts
abbrev pub Heeds : Plan → ℕ → (ℕ → Bool) → Session → List ℕ → Turn → Type 0
Heeds p ts executed s d t = Takes t → read_round s ≡ true → Above ts s.round.bound → executed (frame_node t.reply) ≡ true → AtLeast p ts t.reply

pub record OpensAbove (ts : ℕ) (s : Session) : Type 0 where
  pub opens : RoundOpens s
  pub above : Above ts s.round.bound

-- it may end aborted or with rounds spent; a read has no "clock spent"
abbrev pub NotBelow : ℕ → Said → Type 0
NotBelow ts (refused k) = Unit {0}
NotBelow ts still_open = Unit {0}
NotBelow ts (done stamp rounds) = ts ≤ stamp_number stamp
NotBelow ts (never_written rounds) = ⊥
NotBelow ts (aborted rounds) = Unit {0}
NotBelow ts (rounds_spent rounds) = Unit {0}
NotBelow ts clock_spent = ⊥
