-- What the slots of a read round hold, over the calls of a read; a whole read that ends done, and one that comes to a set. Document 01, "The client",
-- reading: a record that is accepted goes into its node's slot; "Refusal numbers": 5, time 0; 6, a hash check fails.
--   EverySlot          every slot that is marked record holds such a record
--   Passed             a record that 5 and 6 do not refuse, for a node
--   SomeTurn Gave      what holds of one of some calls; the reply of a call is node k's, bears the record and is accepted
--   Held               a record that passed and that one of some calls brought
--   ReadDone           a read that ends done: its opening, its desk, its calls, and the item that the last of them left
--   SetCloses set_valid a read whose last call closes a read round on a set that can be decoded; whether that set validates
-- Assumes nothing.
use Prim.{tt}
use Rattle.std.specs.Prelude.{ℕ, ◌≤◌, ◌<◌, ◌≡◌, Bool, true, List, [], ◌∷◌, ◌⊎◌, length, Ok}
use Rattle.terms.specs.Stamp.{time, stamp_at}
use Rattle.terms.specs.Terms.{slots_of, slot_at}
use Rattle.terms.specs.declared.Ask.{Ask}
use Rattle.terms.specs.declared.Plan.{Plan}
use Rattle.terms.specs.declared.Timestamp.{Timestamp}
use Rattle.frame.specs.Frame.{frame_node, body_of}
use Rattle.record.specs.Record.{hashes_ok}
use Rattle.record.specs.Desk.{slot_of}
use Rattle.rounds.specs.declared.Heard.TheVariants.{Record}
use Rattle.rounds.specs.declared.Heard.{Heard}
use Rattle.rounds.specs.Rounds.{mark_of}
use Rattle.standing.specs.declared.Operation.TheVariants.{Read}
use Rattle.session.specs.declared.opening.Opened.{Opened}
use Rattle.session.specs.Opening.{OpenCall}
use Rattle.session.specs.Reply.{bears}
use Rattle.session.specs.Session.{done}
use Rattle.client.specs.Turns.{Turn, ReadTurn, Calls, Takes, last_said}
use Rattle.client.specs.Sessions.{last_session, last_desk, last_item}
use Rattle.client.specs.Endings.{desk_after, Closes, Candidate, size, valid}

-- P of a node and the record in its slot
abbrev pub EverySlot : (ℕ → List ℕ → Type 0) → Plan → List Heard → List ℕ → Type 0
EverySlot P p marks desk = (k : ℕ) → k < p.n → mark_of marks k ≡ Record → P k (slot_of p desk k)

pub record Passed (p : Plan) (k : ℕ) (rec : List ℕ) : Type 0 where
  pub timed : 1 ≤ time rec
  pub hashes : hashes_ok p k rec ≡ true

abbrev pub SomeTurn : (Turn → Type 0) → List Turn → Type 0
SomeTurn P [] = ⊥
SomeTurn P (t ∷ ts) = P t ⊎ SomeTurn P ts

pub record Gave (p : Plan) (k : ℕ) (rec : List ℕ) (t : Turn) : Type 0 where
  pub taken : Takes t
  pub bore : bears p t.reply ≡ true
  pub node : frame_node t.reply ≡ k
  pub is : body_of t.reply ≡ rec

pub record Held (p : Plan) (ts : List Turn) (k : ℕ) (rec : List ℕ) : Type 0 where
  pub passed : Passed p k rec
  pub came : SomeTurn (Gave p k rec) ts

-- from an accepted opening on; the last of the calls answers done with the timestamp t and leaves the item. The desk is any: that it is N·R bytes is
-- part of a reply's being accepted (2)
pub record ReadDone (p : Plan) (t : Timestamp) (item : List ℕ) : Type 0 where
  pub ask : Ask
  pub opened : Opened
  pub opens : OpenCall Read p ask opened
  pub accepted : opened.answer ≡ (Ok tt)
  pub desk : List ℕ
  pub first : Turn
  pub rest : List Turn
  pub calls : Calls (ReadTurn p) opened.session desk (first ∷ rest)
  pub rounds : ℕ
  pub says : last_said first rest ≡ done t rounds
  pub left : last_item first rest ≡ item

-- from an accepted opening on; the last call closes a read round on a set of m nodes or more, led by the node, of the timestamp t
pub record SetCloses (p : Plan) (t : Timestamp) : Type 0 where
  pub ask : Ask
  pub opened : Opened
  pub opens : OpenCall Read p ask opened
  pub accepted : opened.answer ≡ (Ok tt)
  pub desk : List ℕ
  pub before : List Turn
  pub calls : Calls (ReadTurn p) opened.session desk before
  pub last : Turn
  pub call : ReadTurn p (last_session opened.session before) (last_desk desk before) last
  pub closes : Closes p (last_session opened.session before) last.reply (last_desk desk before) (length last.item)
  pub node : ℕ
  pub candidate : Candidate p (last_session opened.session before) last.reply (last_desk desk before) node
  pub enough : p.m ≤ size p (last_session opened.session before) last.reply (last_desk desk before) node
  pub of : t ≡ stamp_at (desk_after p last.reply (last_desk desk before)) (slot_at (slots_of p) node)

-- whether that set validates
abbrev pub set_valid : (p : Plan) (t : Timestamp) → SetCloses p t → Bool
set_valid p t r = valid p (last_session r.opened.session r.before) r.last.reply (last_desk r.desk r.before) r.node
