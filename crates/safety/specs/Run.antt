-- A run: N nodes of which some are honest, a write, and operations of ours. Document 02, Q-5; document 01, "The node", "The client".
--   Served Life          an honest node: a fresh book, then calls of our node under one plan, never full, never set back
--   Nodes life_of Honest  the nodes of a run, and the two parts of each life; what holds of each honest node
--   Saving record_to stamp_in   a well-formed write: an item and a time of 1 or more; the record for a node and the timestamp that our writer makes of them
--   Ours Reading         an operation of ours: its accepted opening and its calls, each on the session and the desk that the one before handed back
--   Stands               the operation stood at this session and desk
--   Owes                 a frame is a request of the operation: the call for the request owed gave it, where the operation stood
-- Time between nodes is nowhere told: each has its own order, and one moment cuts all their lives in two, early and late, as any clock of all would.
-- Assumes nothing.
use Prim.{tt}
use Rattle.std.specs.Prelude.{ℕ, ◌*◌, ◌≤◌, ◌<◌, ◌≡◌, Bool, true, List, ◌++◌, length, take, Ok, Err}
use Rattle.octets.specs.Bytes.{Octets}
use Rattle.terms.specs.Stamp.{stamp_number, top}
use Rattle.terms.specs.declared.Ask.{Ask}
use Rattle.terms.specs.declared.Plan.{Plan}
use Rattle.terms.specs.declared.Refusal.TheVariants.{NoRoom}
use Rattle.record.specs.Desk.{slot_of}
use Rattle.node.specs.Fresh.{FreshCall}
use Rattle.recover.specs.Records.{records_for, stamp_for}
use Rattle.standing.specs.declared.Operation.{Operation}
use Rattle.standing.specs.declared.Operation.TheVariants.{Write, Read}
use Rattle.session.specs.declared.Session.{Session}
use Rattle.session.specs.declared.opening.Opened.{Opened}
use Rattle.session.specs.Opening.{OpenCall}
use Rattle.session.specs.Owed.{OwedCall}
use Rattle.store.specs.History.{Call, History, EachCall}
use Rattle.client.specs.Sessions.{last_session, last_desk}
use Rattle.client.specs.Turns.{Turn, ReadTurn, WriteTurn, Calls}

-- ---- a node
-- one plan; a request is bytes; never full: never refused 8
pub record Served (p : Plan) (c : Call) : Type 0 where
  pub plan : c.plan ≡ p
  pub bytes : Octets c.request
  pub roomy : c.answer ≡ Err NoRoom → ⊥

-- node i is honest: its book was made fresh, and each call was on the book that the one before it left (History), so that it was never set back
pub record Life (p : Plan) (i : ℕ) (life : List Call) : Type 0 where
  pub lent : List ℕ
  pub book : List ℕ
  pub fresh : FreshCall p i lent (Ok tt) book
  pub calls : History book life
  pub served : EachCall (Served p) life

-- ---- the nodes of a run: which are honest, and the two parts of each one's life
pub record Nodes : Type 0 where
  pub honest : ℕ → Bool
  pub early : ℕ → List Call
  pub late : ℕ → List Call

abbrev pub life_of : Nodes → ℕ → List Call
life_of N i = N.early i ++ N.late i

-- of each honest node of the plan
abbrev pub Honest : Plan → Nodes → (ℕ → Type 0) → Type 0
Honest p N P = (i : ℕ) → i < p.n → N.honest i ≡ true → P i

-- ---- a well-formed write: "the N records of an item at a time of 1 or more"
pub record Saving (p : Plan) : Type 0 where
  pub item : List ℕ
  pub time : ℕ
  pub size : length item ≡ p.m * p.f
  pub bytes : Octets item
  pub low : 1 ≤ time
  pub high : time ≤ top

abbrev pub record_to : {p : Plan} → Saving p → ℕ → List ℕ
record_to {p} w i = slot_of p (records_for p w.time w.item) i

abbrev pub stamp_in : {p : Plan} → Saving p → ℕ
stamp_in {p} w = stamp_number (stamp_for p w.time w.item)

-- ---- an operation of ours
-- the contract that each of its calls met; a reply is bytes
abbrev pub Met : Operation → Plan → Session → List ℕ → Turn → Type 0
Met Read p s d t = ReadTurn p s d t
Met Write p s d t = WriteTurn p s d t

pub record Ours (op : Operation) (p : Plan) : Type 0 where
  pub ask : Ask
  pub opened : Opened
  pub opens : OpenCall op p ask opened
  pub accepted : opened.answer ≡ (Ok tt)
  pub desk : List ℕ
  pub turns : List Turn
  pub calls : Calls (Met op p) opened.session desk turns

abbrev pub Reading : Plan → Type 0
Reading p = Ours Read p

-- after some of its calls it stood at session s and desk d
pub record Stands {op : Operation} {p : Plan} (o : Ours op p) (s : Session) (d : List ℕ) : Type 0 where
  pub before : List Turn
  pub after : List Turn
  pub is : o.turns ≡ before ++ after
  pub session : s ≡ last_session o.opened.session before
  pub desk : d ≡ last_desk o.desk before

-- where it stood, the call for the request owed to a node wrote f
pub record Owes {op : Operation} {p : Plan} (o : Ours op p) (f : List ℕ) : Type 0 where
  pub session : Session
  pub desk : List ℕ
  pub stands : Stands o session desk
  pub node : ℕ
  pub buffer : List ℕ
  pub size : ℕ
  pub left : List ℕ
  pub owed : OwedCall p session node desk buffer (Ok size) left
  pub is : f ≡ take size left
