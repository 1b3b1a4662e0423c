-- The replies of a read round in whichever order they come: the words of the third demand, for read rounds. "From one session, desk and
-- sheet buffer, a read round that opens there and hears the same N - t acceptable replies, one a node, ends alike in whichever order they
-- come." The sheet buffer is document 01's item buffer. What is said of calls of any kind serves time rounds too (TimeRound.antt).
--   ReplyCall, ending_by, said_by   a reply call of any kind; reply frames heard one after another: what the last call leaves, the answers in turn
--   round_at, ending, said_in_turn   a round as it opens; the same two of a reader's calls
--   open_until                 answers of which all but the last are "open"
--   RoundOpens                a read round that opens
--   Accepted                  no answer of a list is a refusal
--   AcceptableBy, Acceptable  a reply is accepted where the round opens, by a call of any kind, by a reader's
--   Each, OneANode            what holds of each reply of a list; no two of them are of one node
--   all_of, all_marked, all_slotted   what all of a list leave; of a session, of a desk
--   times, SameReplies        how often a reply comes; the same replies, in whichever order
--   Lent, replies_of, answers_of, left_by   the calls themselves: the item that each is lent; replies, answers and last outcome
-- Assumes nothing.
use Prim.{Unit}
use Rattle.std.specs.Prelude.{ℕ, zero, suc, ◌+◌, ◌≡◌, true, false, cond, List, [], ◌∷◌}
use Rattle.octets.specs.Bytes.{alike}
use Rattle.terms.specs.declared.Plan.{Plan}
use Rattle.frame.specs.Frame.{frame_node}
use Rattle.rounds.specs.Rounds.{unheards}
use Rattle.session.specs.declared.Session.{Session}
use Rattle.session.specs.Session.{read_round, Said, still_open, said_of, is_refused}
use Rattle.session.specs.Reader.{Outcome, outcome, read_reply}
use Rattle.client.specs.Endings.{after_reply, desk_after}
use Rattle.client.specs.Turns.{Turn}

-- ---- the calls, each on the session, the desk and the item that the last one handed back
abbrev pub round_at : Session → List ℕ → List ℕ → Outcome
round_at s d i = outcome still_open s d i

-- a call: session, reply, desk and item, and what it hands back
abbrev pub ReplyCall : Type 0
ReplyCall = Session → List ℕ → List ℕ → List ℕ → Outcome

-- what the last call leaves: its answer, the session, the desk and the item; where there is no call, what the round opened with
unfoldable pub ending_by : ReplyCall → Outcome → List (List ℕ) → Outcome
ending_by c o [] = o
ending_by c o (f ∷ fs) = ending_by c (c o.session f o.desk o.item) fs

unfoldable pub said_by : ReplyCall → Outcome → List (List ℕ) → List Said
said_by c o [] = []
said_by c o (f ∷ fs) = (c o.session f o.desk o.item).said ∷ said_by c (c o.session f o.desk o.item) fs

-- of a reader
abbrev pub ending : Plan → Outcome → List (List ℕ) → Outcome
ending p o fs = ending_by (read_reply p) o fs

abbrev pub said_in_turn : Plan → Outcome → List (List ℕ) → List Said
said_in_turn p o fs = said_by (read_reply p) o fs

-- every answer but the last is "open"
abbrev pub open_until : ℕ → Said → List Said
open_until zero a = a ∷ []
open_until (suc n) a = still_open ∷ open_until n a

-- ---- a round that opens, and the replies that it accepts
-- any round, bound, desk and item: that the plan is accepted, the session in its ranges and both buffers of their lengths is part of a
-- reply's being accepted (refusals 1, 9 and 2)
pub record RoundOpens (s : Session) : Type 0 where
  pub round : read_round s ≡ true
  pub marks : s.marks ≡ unheards

-- each reply was accepted in its turn
abbrev pub Accepted : List Said → Type 0
Accepted [] = Unit {0}
Accepted (a ∷ rest) = (is_refused a ≡ false) × Accepted rest

-- accepted as the first reply of the round
abbrev pub AcceptableBy : ReplyCall → Session → List ℕ → List ℕ → List ℕ → Type 0
AcceptableBy c s d i f = is_refused (c s f d i).said ≡ false

abbrev pub Acceptable : Plan → Session → List ℕ → List ℕ → List ℕ → Type 0
Acceptable p s d i f = AcceptableBy (read_reply p) s d i f

abbrev pub Each : (List ℕ → Type 0) → List (List ℕ) → Type 0
Each P [] = Unit {0}
Each P (f ∷ fs) = P f × Each P fs

abbrev pub OneANode : List (List ℕ) → Type 0
OneANode [] = Unit {0}
OneANode (f ∷ fs) = Each (λ (g : List ℕ). frame_node g ≡ frame_node f → ⊥) fs × OneANode fs

-- ---- what accepted replies leave, one step each
unfoldable pub all_of : {A : Type 0} → (A → List ℕ → A) → A → List (List ℕ) → A
all_of step x [] = x
all_of step x (f ∷ fs) = all_of step (step x f) fs

-- of a read round: each a mark, and a record in its slot; "A first triple leaves its slot"
abbrev pub all_marked : Plan → Session → List (List ℕ) → Session
all_marked p s fs = all_of (after_reply p) s fs

abbrev pub all_slotted : Plan → List ℕ → List (List ℕ) → List ℕ
all_slotted p d fs = all_of (λ (x f : List ℕ). desk_after p f x) d fs

-- ---- the same replies
unfoldable pub times : List ℕ → List (List ℕ) → ℕ
times z [] = 0
times z (f ∷ fs) = cond (alike f z) 1 0 + times z fs

-- every reply comes as often in the one list as in the other
abbrev pub SameReplies : List (List ℕ) → List (List ℕ) → Type 0
SameReplies fs gs = (z : List ℕ) → times z fs ≡ times z gs

-- ---- the calls themselves, by what each was lent and left
-- each was lent the item that the one before it left
abbrev pub Lent : List ℕ → List Turn → Type 0
Lent i [] = Unit {0}
Lent i (t ∷ ts) = (t.item ≡ i) × Lent t.item_left ts

abbrev pub replies_of : List Turn → List (List ℕ)
replies_of [] = []
replies_of (t ∷ ts) = t.reply ∷ replies_of ts

abbrev pub answers_of : List Turn → List Said
answers_of [] = []
answers_of (t ∷ ts) = said_of t.took.answer ∷ answers_of ts

-- the answer, session, desk and item that the last of them left
abbrev pub left_by : Outcome → List Turn → Outcome
left_by o [] = o
left_by o (t ∷ ts) = left_by (outcome (said_of t.took.answer) t.took.session t.desk_left t.item_left) ts
