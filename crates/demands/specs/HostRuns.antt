-- A host's calls one after another. Document 01, "The client": a session is a value handed in and handed back; a host holds it as 237 bytes,
-- and lends each call the bytes and the desk as the one before it left them.
--   HostTurn           a reply with what the call was lent, what it answered and what it left
--   HostReads HostWrites HostEither   what one call met: the contract of pasis_read_reply, of pasis_write_reply, of either
--   HostCalls          calls one after another
--   opened_of turn_of    an opening and a call as they are below: the session that the bytes are, the answer that number and ending are
--   below              the calls below. One that was lent an ending of a wrong length is answered 2 and changes nothing: it is none of them
--   host_session host_desk   what the last of some calls left
--   RunBelow           the whole run below
--   HostOwes           what the request owed to a node is, by its number and the buffer
-- Assumes nothing.
use Prim.{Unit, tt}
use Rattle.std.specs.Prelude.{ℕ, ◌≡◌, cond, List, [], ◌∷◌, ◌⊎◌, eqb, length, Ok}
use Rattle.octets.specs.Bytes.{Octets}
use Rattle.session.specs.declared.opening.Opened.{Opened}
use Rattle.standing.specs.declared.Operation.{Operation}
use Rattle.session.specs.declared.Session.{Session}
use Rattle.session.specs.Opening.{OpenCall}
use Rattle.session.specs.Owed.{Due}
use Rattle.client.specs.Turns.{Turn, Calls}
use Rattle.client.specs.Sessions.{last_session, last_desk}
use Rattle.packing.specs.PlanBytes.{plan_of}
use Rattle.packing.specs.SessionBytes.{session_of}
use Rattle.answers.specs.Answers.{due_number, answer_of}
use Rattle.pasis.specs.Client.{WriteServes, ReadServes}

pub record HostTurn : Type 0 where
  pub reply : List ℕ
  pub item : List ℕ
  pub ending : List ℕ
  pub number : ℕ
  pub session_left : List ℕ
  pub desk_left : List ℕ
  pub item_left : List ℕ
  pub ending_left : List ℕ

-- plan bytes, session bytes, desk; a frame is bytes
abbrev pub HostReads : List ℕ → List ℕ → List ℕ → HostTurn → Type 0
HostReads x s d t =
    Octets t.reply
    × ReadServes x s t.reply d t.item t.ending t.number t.session_left t.desk_left t.item_left t.ending_left

abbrev pub HostWrites : List ℕ → List ℕ → List ℕ → HostTurn → Type 0
HostWrites x s d t =
    Octets t.reply × WriteServes x s t.reply d t.item t.ending t.number t.session_left t.desk_left t.ending_left

abbrev pub HostEither : List ℕ → List ℕ → List ℕ → HostTurn → Type 0
HostEither x s d t = HostWrites x s d t ⊎ HostReads x s d t

abbrev pub HostCalls : (List ℕ → List ℕ → HostTurn → Type 0) → List ℕ → List ℕ → List HostTurn → Type 0
HostCalls C s d [] = Unit {0}
HostCalls C s d (t ∷ ts) = C s d t × HostCalls C t.session_left t.desk_left ts

-- ---- the calls below
abbrev pub opened_of : List ℕ → Opened
opened_of s = record { answer = (Ok tt); session = session_of s }

abbrev pub turn_of : HostTurn → Turn
turn_of t =
    record {
      reply = t.reply;
      item = t.item;
      took = record { answer = answer_of t.number t.ending_left; session = session_of t.session_left };
      desk_left = t.desk_left;
      item_left = t.item_left;
    }

unfoldable pub below : List HostTurn → List Turn
below [] = []
below (t ∷ ts) = cond (eqb (length t.ending) 42) (turn_of t ∷ below ts) (below ts)

-- the session bytes and the desk that the last of some calls left
abbrev pub host_session : List ℕ → List HostTurn → List ℕ
host_session s [] = s
host_session s (t ∷ ts) = host_session t.session_left ts

abbrev pub host_desk : List ℕ → List HostTurn → List ℕ
host_desk d [] = d
host_desk d (t ∷ ts) = host_desk t.desk_left ts

-- the opening was accepted below too, what followed is a run of calls below, and it ends with the session and the desk that the host holds; a is the
-- opening ask number
pub record RunBelow (B : Session → List ℕ → Turn → Type 0) (op : Operation) (x : List ℕ) (a : ℕ) (s d : List ℕ) (ts : List HostTurn) : Type 0 where
  pub opens : OpenCall op (plan_of x) (record { 0 = a }) (opened_of s)
  pub calls : Calls B (session_of s) d (below ts)
  pub session : last_session (session_of s) (below ts) ≡ session_of (host_session s ts)
  pub desk : last_desk d (below ts) ≡ host_desk d ts

-- what pasis_owed answers to such a host: a number, and the request buffer as it is left, are what O says of a due
pub record HostOwes (O : Due → List ℕ → List ℕ → Type 0) (r : ℕ) (q q₂ : List ℕ) : Type 0 where
  pub due : Due
  pub number : r ≡ due_number due
  pub owes : O due q q₂
