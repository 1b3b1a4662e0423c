-- NEVER AN OLDER SHEET. Document 02, Q-5: "Take a well-formed write executed by at least Q honest nodes before any honest node answers the
-- read. Honest nodes start from fresh books, run our node, are never full and never set back; at most b others answer anything, each under
-- its own number; no two different byte strings in the run share a hash; the read's ask numbers stand in no request but its own; desk and
-- session are touched by our calls only. Then the read never ends 'never written', and a value it ends with has a greater timestamp, or that
-- one and the written bytes. It may end aborted or with rounds spent."
--   Parties            the nodes, with the lives of the honest ones; the write, and which nodes executed it; the read
--   ExecutedBy Before HonestLives FewOthers OwnNumbers Hashed NoneAlike OwnAsks   the conditions, one by one, in this order
--   Given              all of them
--   NeverOlder         what is said of an answer of the read, with the item buffer that came with it
--   Safety             the theorem, as a type
-- "desk and session are touched by our calls only" is in `Ours`: each call gets both exactly as the one before handed them back. Assumes nothing.
use Prim.{Unit}
use Rattle.std.specs.Prelude.{ℕ, ◌≤◌, ◌<◌, ◌≡◌, Bool, true, false, not, List, ◌++◌, ◌⊎◌, Ok}
use Rattle.sha256.specs.Sha256.{sha256}
use Rattle.terms.specs.Stamp.{stamp_number}
use Rattle.terms.specs.declared.Plan.{Plan}
use Rattle.fragments.specs.Fragments.{fragment}
use Rattle.frame.specs.Frame.{frame_node, ask_of, body_of}
use Rattle.record.specs.Record.{prefix_of, cross_of, fragment_of}
use Rattle.rounds.specs.Numbers.{number_of}
use Rattle.recover.specs.Records.{cross_for}
use Rattle.standing.specs.declared.Operation.{Operation}
use Rattle.standing.specs.Standing.{is_ended}
use Rattle.session.specs.declared.Session.{Session}
use Rattle.session.specs.Session.{ask_now, Said, refused, still_open, done, never_written, aborted, rounds_spent, clock_spent, said_of}
use Rattle.session.specs.Reply.{bears}
use Rattle.store.specs.History.{Call, EachCall, Executed, Wrote}
use Rattle.client.specs.Turns.{Turn, Takes}
use Rattle.client.specs.Repair.{EachTurn}
use Rattle.client.specs.Held.{SomeTurn}
use Rattle.safety.specs.Run.{Life, Nodes, life_of, Honest, Saving, record_to, stamp_in, Ours, Reading, Stands, Owes}

-- ---- conditions that any operation of ours may meet
module _ {op : Operation} {p : Plan} (N : Nodes) (o : Ours op p) where
  -- "before any honest node answers": early, no honest node replied to a request of it
  abbrev pub Before : Type 0
  Before = Honest p N (λ (i : ℕ). EachCall (λ (c : Call). (n : ℕ) → c.answer ≡ Ok n → Owes o c.request → ⊥) (N.early i))

  -- "each under its own number": a reply that it takes under the number of an honest node is one that a call of this node wrote, in this part of its life
  abbrev pub OwnNumbers : (ℕ → List Call) → Type 0
  OwnNumbers part = EachTurn (λ (t : Turn). Takes t → N.honest (frame_node t.reply) ≡ true → Wrote t.reply (part (frame_node t.reply))) o.turns

  -- "its ask numbers stand in no request but its own": they are those of the rounds that it was in; a request with one of them, in the life of an honest
  -- node, is one that it owed
  abbrev pub OwnAsks : Type 0
  OwnAsks =
      Honest p N (λ (i : ℕ). EachCall (λ (c : Call). (s : Session) (d : List ℕ) → Stands o s d → is_ended s.round.stage ≡ false
      → ask_of c.request ≡ ask_now s → Owes o c.request) (life_of N i))

-- "Honest nodes start from fresh books, run our node, are never full and never set back"
abbrev pub HonestLives : Plan → Nodes → Type 0
HonestLives p N = Honest p N (λ (i : ℕ). Life p i (life_of N i))

-- "at most b others"
abbrev pub FewOthers : Plan → Nodes → Type 0
FewOthers p N = number_of (λ (i : ℕ). not (N.honest i)) p.n ≤ p.b

-- "executed by at least Q honest nodes": early
pub record ExecutedBy (p : Plan) (N : Nodes) (w : Saving p) (executed : ℕ → Bool) : Type 0 where
  pub enough : p.q ≤ number_of executed p.n
  pub honest : (i : ℕ) → i < p.n → executed i ≡ true → N.honest i ≡ true
  pub each : (i : ℕ) → i < p.n → executed i ≡ true → Executed (record_to w i) (N.early i)

-- the strings of the run that are hashed: cross checksum and fragments of an item, and of each record that a reply bore
pub data Hashed (p : Plan) (item : List ℕ) (turns : List Turn) (x : List ℕ) : Type 0 where
  cross_written : x ≡ cross_for p item → Hashed p item turns x
  fragment_written : (k : ℕ) → k < p.n → x ≡ prefix_of p k ++ fragment p.m p.f item k → Hashed p item turns x
  cross_borne : SomeTurn (λ (t : Turn). (bears p t.reply ≡ true) × (x ≡ cross_of p (body_of t.reply))) turns → Hashed p item turns x
  fragment_borne : SomeTurn (λ (t : Turn). (bears p t.reply ≡ true) × (x ≡ prefix_of p (frame_node t.reply) ++ fragment_of p (body_of t.reply))) turns → Hashed p item turns x

-- "no two different byte strings in the run share a hash": of those strings, and so where it is said of all strings
abbrev pub NoneAlike : (p : Plan) → List ℕ → List Turn → Type 0
NoneAlike p item turns = (x y : List ℕ) → Hashed p item turns x → Hashed p item turns y → sha256 x ≡ sha256 y → x ≡ y

pub record Parties (p : Plan) : Type 0 where
  pub nodes : Nodes
  pub write : Saving p
  pub executed : ℕ → Bool
  pub read : Reading p

pub record Given (p : Plan) (run : Parties p) : Type 0 where
  pub executed : ExecutedBy p run.nodes run.write run.executed
  pub before : Before run.nodes run.read
  pub honest : HonestLives p run.nodes
  pub others : FewOthers p run.nodes
  pub numbers : OwnNumbers run.nodes run.read (life_of run.nodes)
  pub apart : NoneAlike p run.write.item run.read.turns
  pub asks : OwnAsks run.nodes run.read

-- an answer of the read, and the item buffer as that call left it; ts and item are those of the write
abbrev pub NeverOlder : (ts : ℕ) (item : List ℕ) → Said → List ℕ → Type 0
NeverOlder ts item (refused k) left = Unit {0}
NeverOlder ts item still_open left = Unit {0}
NeverOlder ts item (done stamp rounds) left = (ts < stamp_number stamp) ⊎ ((stamp_number stamp ≡ ts) × (left ≡ item))
NeverOlder ts item (never_written rounds) left = ⊥
NeverOlder ts item (aborted rounds) left = Unit {0}
NeverOlder ts item (rounds_spent rounds) left = Unit {0}
NeverOlder ts item clock_spent left = ⊥

-- every accepted plan, both members, both client models; every call of the read
abbrev pub Safety : Type 0
Safety =
    (p : Plan) (run : Parties p) → Given p run
    → EachTurn (λ (t : Turn). NeverOlder (stamp_in run.write) run.write.item (said_of t.took.answer) t.item_left) run.read.turns
