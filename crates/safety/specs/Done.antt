-- What "done" means in honest nodes, and one operation of ours after another: the corollaries of "never an older sheet" (Safety.antt).
--   Done               an operation of ours whose last call answered done with this timestamp
--   HadExecuted        an honest node had executed a record of this timestamp when it answered the read with that record
--   HonestQuorum       so many honest nodes executed a record of this timestamp, in some part of their lives
--   Saved              a save of ours of this item that ended done with this timestamp
--   WrittenBy          the honest nodes that executed the records of such a save
--   After              an operation of ours that no honest node answers early
--   TimeExecuted       Q honest nodes executed a record of this time
--   OwnTime Told       a time reply of a node, written late; the time replies that a write of ours counted of honest nodes are their own, and late
-- Assumes nothing.
use Rattle.std.specs.Prelude.{ℕ, ◌-◌, ◌*◌, ◌≤◌, ◌<◌, ◌≡◌, Bool, true, List, [], ◌∷◌, ◌++◌, length, take, Ok}
use Rattle.octets.specs.Bytes.{Octets}
use Rattle.terms.specs.Stamp.{stamp, time}
use Rattle.terms.specs.Terms.{record_length}
use Rattle.terms.specs.declared.Plan.{Plan}
use Rattle.terms.specs.declared.Timestamp.{Timestamp}
use Rattle.frame.specs.Frame.{kind_of, body_of, read_reply_kind, time_reply_kind}
use Rattle.rounds.specs.Numbers.{number_of}
use Rattle.recover.specs.Records.{stamp_for}
use Rattle.standing.specs.declared.Operation.{Operation}
use Rattle.standing.specs.declared.Operation.TheVariants.{Write}
use Rattle.session.specs.Session.{done, said_of}
use Rattle.store.specs.History.{Call, Moment, Executed, ExecutedAt, Wrote}
use Rattle.client.specs.Turns.{Turn, Takes}
use Rattle.client.specs.Repair.{EachTurn}
use Rattle.client.specs.Held.{SomeTurn}
use Rattle.report.specs.Triple.{In}
use Rattle.report.specs.Figure2.{Clock}
use Rattle.report.specs.WriteRun.{clock_of}
use Rattle.report.specs.NewTime.{ToWrite, time_replies}
use Rattle.safety.specs.Run.{Nodes, life_of, Saving, Ours}
use Rattle.safety.specs.Safety.{ExecutedBy, Before, OwnNumbers, OwnAsks}

pub record Done {op : Operation} {p : Plan} (o : Ours op p) (v : Timestamp) : Type 0 where
  pub before : List Turn
  pub last : Turn
  pub rounds : ℕ
  pub is : o.turns ≡ before ++ (last ∷ [])
  pub says : said_of last.took.answer ≡ done v rounds

module _ (p : Plan) (N : Nodes) (part : ℕ → List Call) where
  -- the call that answered the read, what it sent, that one of these calls took it, and that the record was executed by a call before it
  pub record HadExecuted (turns : List Turn) (x : ℕ) : Type 0 where
    pub node : ℕ
    pub low : node < p.n
    pub honest : N.honest node ≡ true
    pub at : Moment (part node)
    pub size : ℕ
    pub replied : at.call.answer ≡ Ok size
    pub kind : kind_of (take size at.call.reply_left) ≡ read_reply_kind
    pub of : stamp (body_of (take size at.call.reply_left)) ≡ x
    pub taken : SomeTurn (λ (t : Turn). Takes t × (t.reply ≡ take size at.call.reply_left)) turns
    pub executed : Executed (body_of (take size at.call.reply_left)) at.before

  pub record HonestQuorum (many x : ℕ) : Type 0 where
    pub executed : ℕ → Bool
    pub enough : many ≤ number_of executed p.n
    pub honest : (i : ℕ) → i < p.n → executed i ≡ true → N.honest i ≡ true
    pub each : (i : ℕ) → i < p.n → executed i ≡ true → ExecutedAt x (part i)

-- every call was lent this item, of bytes, and a desk of N·R bytes
pub record Saved {p : Plan} (save : Ours Write p) (item : List ℕ) (v : Timestamp) : Type 0 where
  pub bytes : Octets item
  pub long : length save.desk ≡ p.n * record_length p
  pub lent : EachTurn (λ (t : Turn). t.item ≡ item) save.turns
  pub done : Done save v

-- N-t-b or more honest nodes, and that is Q or more, executed early the record that a save made for them: of this item, with this timestamp
pub record WrittenBy (p : Plan) (N : Nodes) (item : List ℕ) (v : Timestamp) : Type 0 where
  pub write : Saving p
  pub of_item : write.item ≡ item
  pub of_stamp : stamp_for p write.time write.item ≡ v
  pub executed : ℕ → Bool
  pub many : p.n - p.t - p.b ≤ number_of executed p.n
  pub by : ExecutedBy p N write executed

-- the conditions of "never an older sheet" that are an operation's own
pub record After {op : Operation} {p : Plan} (N : Nodes) (o : Ours op p) : Type 0 where
  pub before : Before N o
  pub numbers : OwnNumbers N o (life_of N)
  pub asks : OwnAsks N o

-- "A complete write is still passed" (Q-2): Q or more honest nodes executed, early, a record of this time
pub record TimeExecuted (p : Plan) (N : Nodes) (written : ℕ) : Type 0 where
  pub executed : ℕ → Bool
  pub enough : p.q ≤ number_of executed p.n
  pub honest : (i : ℕ) → i < p.n → executed i ≡ true → N.honest i ≡ true
  pub rec : (i : ℕ) → i < p.n → executed i ≡ true → List ℕ
  pub of : (i : ℕ) (l : i < p.n) (e : executed i ≡ true) → time (rec i l e) ≡ written
  pub each : (i : ℕ) (l : i < p.n) (e : executed i ≡ true) → Executed (rec i l e) (N.early i)

-- a time reply of a node, written late
pub record OwnTime (N : Nodes) (x : Clock) : Type 0 where
  pub frame : List ℕ
  pub kind : kind_of frame ≡ time_reply_kind
  pub is : clock_of frame ≡ x
  pub wrote : Wrote frame (N.late x.S)

abbrev pub Told : {p : Plan} → Nodes → ToWrite p → Type 0
Told N w = (x : Clock) → In x (time_replies w) → N.honest x.S ≡ true → OwnTime N x
