-- The time replies of a writer in whichever order they come. The third demand asks it of read rounds; this is its clause with a time round in their
-- place: from one session and desk, a time round that opens there and hears the same N-t acceptable replies, one a node, each lent the same
-- item, ends alike in whichever order they come. What is said of replies, and of calls of any kind, stands in Round.antt.
--   TimeRoundOpens     a time round that opens
--   handed write_call   a writer's call as one of any kind: its item stays
--   AcceptableTime     a reply is accepted where the round opens
--   LentEach last_leaves   the calls themselves: the item that each is lent; their last outcome
-- Assumes nothing.
use Prim.{Unit}
use Rattle.std.specs.Prelude.{ℕ, ◌≡◌, true, false, List, [], ◌∷◌}
use Rattle.terms.specs.declared.Plan.{Plan}
use Rattle.rounds.specs.Rounds.{unheards}
use Rattle.standing.specs.Standing.{is_read, is_asking}
use Rattle.session.specs.declared.Session.{Session}
use Rattle.session.specs.Session.{said_of}
use Rattle.session.specs.Reader.{Outcome, outcome}
use Rattle.session.specs.Writer.{Leaves, leaves, write_reply}
use Rattle.client.specs.Turns.{Turn}
use Rattle.client.specs.Round.{ReplyCall, AcceptableBy}

-- "Writing: a time round, ends at N-t replies": a write that asks, and has heard no node. Its other fields are any, its times too: that the plan is
-- accepted, the session in its ranges and desk and item of their lengths is part of a reply's being accepted (refusals 1, 9 and 2)
pub record TimeRoundOpens (s : Session) : Type 0 where
  pub writes : is_read s.operation ≡ false
  pub asks : is_asking s.round.stage ≡ true
  pub marks : s.marks ≡ unheards

-- the item comes as a slice that cannot be written: it is handed back as it was lent
abbrev pub handed : List ℕ → Leaves → Outcome
handed i x = outcome x.said x.session x.desk i

abbrev pub write_call : Plan → ReplyCall
write_call p s f d i = handed i (write_reply p s f d i)

-- accepted as the first reply of the round
abbrev pub AcceptableTime : Plan → Session → List ℕ → List ℕ → List ℕ → Type 0
AcceptableTime p s d i f = AcceptableBy (write_call p) s d i f

-- each call was lent the item i
abbrev pub LentEach : List ℕ → List Turn → Type 0
LentEach i [] = Unit {0}
LentEach i (t ∷ ts) = (t.item ≡ i) × LentEach i ts

-- the answer, session and desk that the last of them left
abbrev pub last_leaves : Leaves → List Turn → Leaves
last_leaves x [] = x
last_leaves x (t ∷ ts) = last_leaves (leaves (said_of t.took.answer) t.took.session t.desk_left) ts
