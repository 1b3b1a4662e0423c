-- Whole runs of a node and of a read: calls one after another, each on the book, or the session and the desk, that the one before it handed
-- back; and what the figures are given from them. Writes are in WriteRun.
--   InBytes received     the requests of a node's calls are bytes; what Figure 1 makes of the calls
--   Polled message_of is_message   what was received in each round of a read; a frame as a message, and which frames are (01)
--   polls polled_over     what was received after a frame, and after the frames of some calls
--   Tells EachTells      what an answer says, and that Figure 3's READ says it of the rounds closed so far; the same of each call of a run
--   IsFull AllFull       a closed round has its N-t responses, to the command that READ was to send
--   Apart AllApart       (01) no two cross checksums of a response set, under one timestamp, share a hash; so of each closed round
-- Assumes nothing.
use Prim.{Unit}
use Rattle.std.specs.Prelude.{ℕ, ◌<◌, ◌≡◌, ◌⊎◌, Bool, cond, List, [], ◌∷◌, length, ltb}
use Rattle.octets.specs.Bytes.{Octets}
use Rattle.sha256.specs.Sha256.{sha256}
use Rattle.terms.specs.Ladder.{◌and◌}
use Rattle.terms.specs.Stamp.{stamp_number}
use Rattle.terms.specs.declared.Plan.{Plan}
use Rattle.frame.specs.Frame.{frame_node, body_of}
use Rattle.session.specs.declared.Session.{Session}
use Rattle.standing.specs.declared.Stage.TheVariants.{Storing}
use Rattle.standing.specs.Standing.{is_asking, is_storing}
use Rattle.session.specs.Session.{Said, refused, still_open, done, never_written, aborted, rounds_spent, clock_spent, said_of}
use Rattle.session.specs.Reply.{bears, read_ladder}
use Rattle.store.specs.History.{Call}
use Rattle.client.specs.Turns.{Turn}
use Rattle.report.specs.Triple.{Triple, Message, null, In}
use Rattle.report.specs.Acts.{reaches}
use Rattle.report.specs.Figure1.{initial, receive_write_request}
use Rattle.report.specs.Figure2.{enough, acknowledged}
use Rattle.report.specs.Figure3.{Command, read_previous, do_read, returned, repaired, abort, reading, read, response_set}
use Rattle.report.specs.Ours.{family, triple_of, sending}
use Rattle.report.specs.WriteRun.{none_of, is_response}

-- ---- a node
abbrev pub InBytes : List Call → Type 0
InBytes [] = Unit {0}
InBytes (c ∷ cs) = Octets c.request × InBytes cs

-- RECEIVE_WRITE_REQUEST for each well-shaped write request that 5, 7 and 8 of document 01 do not bar, whatever was answered; all else leaves the
-- History. The first call is lent the book b, each other what the one before it left; each has a plan of its own, and p is the book's.
abbrev pub received : Plan → ℕ → List Triple → (b : List ℕ) → List Call → List Triple
received p S History b [] = History
received p S History b (c ∷ cs) =
    received p S
    (cond (reaches c.plan c.request b c.reply) (receive_write_request (family p) S History (triple_of p (body_of c.request))).History History)
    c.book_left cs

-- ---- reading
-- what POLL_FOR_RESPONSE gave: in the rounds closed so far, the last one first, in the open one, and to DO_WRITE; in each the last message first
pub record Polled : Type 0 where
  pub rounds : List (List Message)
  pub now : List Message
  pub stored : List ℕ

abbrev pub unpolled : Polled
unpolled = record { rounds = []; now = []; stored = [] }

-- a read reply as a message: its node, and its record or the first triple
abbrev pub message_of : Plan → List ℕ → Message
message_of p f = record { S = frame_node f; Response = cond (bears p f) (triple_of p (body_of f)) initial }

-- (01) the frames that are messages of the round: those of a call, a session and a round that are in order (1, 2, 9, 14), of the right form (4), with
-- the ask number and the kind of this round (10), and with a time that a record may have (5). 6, 11 and 12 are DO_READ's own tests
abbrev pub is_message : Plan → Session → List ℕ → List ℕ → ℕ → Bool
is_message p s f d item = is_asking s.round.stage and none_of (1 ∷ 2 ∷ 9 ∷ 14 ∷ 4 ∷ 10 ∷ 5 ∷ []) (read_ladder p s f d item)

-- line 16: a round that has N - t responses is closed
abbrev pub rolled : Plan → Polled → Polled
rolled p w = cond (ltb (length (response_set (family p) w.rounds w.now)) (enough (family p))) w (record { rounds = w.now ∷ w.rounds; now = []; stored = w.stored })

-- after a frame
unfoldable pub polls : Plan → Session → List ℕ → List ℕ → ℕ → Polled → Polled
polls p s f d item w =
    cond (is_message p s f d item) (rolled p (record { rounds = w.rounds; now = message_of p f ∷ w.now; stored = w.stored }))
    (cond (is_storing s.round.stage and is_response (read_ladder p s f d item)) (record { rounds = w.rounds; now = w.now; stored = frame_node f ∷ w.stored }) w)

-- after the frames of some calls
abbrev pub polled_over : Plan → Session → List ℕ → Polled → List Turn → Polled
polled_over p s d w [] = w
polled_over p s d w (c ∷ cs) = polled_over p c.took.session c.desk_left (polls p s c.reply d (length c.item) w) cs

-- done by repair, once DO_WRITE has its N-t responses
pub record RepairedTo (p : Plan) (w : Polled) (ts : ℕ) (item : List ℕ) : Type 0 where
  pub sent : List Message
  pub is : read (family p) w.rounds ≡ repaired sent ts item
  pub enough_stored : length (acknowledged w.stored) ≡ enough (family p)

-- (01) cut: line 24 of round W sends nothing more
pub record Spent (p : Plan) (closed : List (List Message)) (rounds : ℕ) : Type 0 where
  pub ts : ℕ
  pub is : read (family p) closed ≡ reading (read_previous ts)
  pub cut : rounds ≡ p.w

-- open: READ has not returned. It waits for responses to the command that it sent (line 16), or DO_WRITE for its own (line 15)
pub record Waits (p : Plan) (w : Polled) : Type 0 where
  pub command : Command
  pub is : read (family p) w.rounds ≡ reading command
  pub few : length (do_read (family p) command w.now) < enough (family p)

pub record StillStores (p : Plan) (w : Polled) : Type 0 where
  pub sent : List Message
  pub ts : ℕ
  pub Data : List ℕ
  pub is : read (family p) w.rounds ≡ repaired sent ts Data
  pub few : length (acknowledged w.stored) < enough (family p)

-- an answer, with the item handed back, and what was received so far; the rounds reported are those that were closed
abbrev pub Tells : Plan → Said → List ℕ → Polled → Type 0
Tells p (refused k) item w = Unit {0}
Tells p still_open item w = Waits p w ⊎ StillStores p w
Tells p (done t rounds) item w = ((read (family p) w.rounds ≡ returned (stamp_number t) item) ⊎ RepairedTo p w (stamp_number t) item) × (rounds ≡ length w.rounds)
Tells p (never_written rounds) item w = (read (family p) w.rounds ≡ returned 0 null) × (rounds ≡ length w.rounds)
Tells p (aborted rounds) item w = (read (family p) w.rounds ≡ abort) × (rounds ≡ length w.rounds)
Tells p (rounds_spent rounds) item w = Spent p w.rounds rounds × (rounds ≡ length w.rounds)
Tells p clock_spent item w = ⊥

-- in a repair round: READ is at line 15, and the desk holds what DO_WRITE sends
pub record Repairing (p : Plan) (s : Session) (d : List ℕ) (closed : List (List Message)) : Type 0 where
  pub Data : List ℕ
  pub is : read (family p) closed ≡ repaired (sending p d) (stamp_number s.stamp) Data

abbrev pub EachTells : Plan → Session → List ℕ → Polled → List Turn → Type 0
EachTells p s d before [] = Unit {0}
EachTells p s d before (c ∷ cs) =
    Tells p (said_of c.took.answer) c.item_left (polls p s c.reply d (length c.item) before)
    × (c.took.session.round.stage ≡ Storing → Repairing p c.took.session c.desk_left (polls p s c.reply d (length c.item) before).rounds)
    × EachTells p c.took.session c.desk_left (polls p s c.reply d (length c.item) before) cs

-- a closed round: READ was to send a command, and what DO_READ gathered for it has N - t responses (line 16)
pub record IsFull (p : Plan) (received : List Message) (before : List (List Message)) : Type 0 where
  pub command : Command
  pub asked : read (family p) before ≡ reading command
  pub full : length (do_read (family p) command received) ≡ enough (family p)

abbrev pub AllFull : Plan → List (List Message) → Type 0
AllFull p [] = Unit {0}
AllFull p (received ∷ before) = IsFull p received before × AllFull p before

-- (01) of the cross checksums of a response set under one timestamp, no two with one hash
abbrev pub Apart : List Message → Type 0
Apart set =
    (x y : Message) → In x set → In y set → x.Response.ts ≡ y.Response.ts → sha256 x.Response.CC ≡ sha256 y.Response.CC
    → x.Response.CC ≡ y.Response.CC

abbrev pub AllApart : Plan → List (List Message) → Type 0
AllApart p [] = Unit {0}
AllApart p (received ∷ before) = Apart (response_set (family p) before received) × AllApart p before
