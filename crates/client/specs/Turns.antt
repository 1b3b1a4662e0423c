-- Calls of a client one after another, and how many read rounds they close. Document 01, "The client": a session is a value handed in and
-- handed back. "Rounds used are reported with every read ending and never exceed W. A repair round is not counted."
--   Turn               a reply with what the call was lent and left
--   ReadTurn WriteTurn EitherTurn   what one call met: a reader's contract, a writer's, either
--   Calls              calls one after another, each on the session and desk that the one before it handed back
--   Takes              the reply was accepted
--   counts             the reply was accepted in a read round
--   closed_rounds       a read round closes at its N-t-th accepted reply; k were accepted in the round that is open
--   Reports            an answer reports this number of rounds, where it reports one
-- Assumes nothing.
use Prim.{Unit}
use Rattle.std.specs.Prelude.{ℕ, ◌+◌, Bool, false, cond, not, List, [], ◌∷◌, ◌≡◌, ◌⊎◌, leb}
use Rattle.octets.specs.Bytes.{Octets}
use Rattle.terms.specs.Ladder.{◌and◌}
use Rattle.terms.specs.declared.Plan.{Plan}
use Rattle.session.specs.declared.Session.{Session}
use Rattle.session.specs.declared.Took.{Took}
use Rattle.standing.specs.Standing.{is_asking, replies}
use Rattle.session.specs.Session.{Said, refused, still_open, done, never_written, aborted, rounds_spent, clock_spent, said_of, is_refused}
use Rattle.session.specs.Writer.{WriteReplyCall}
use Rattle.session.specs.Reader.{ReadReplyCall}

pub record Turn : Type 0 where
  pub reply : List ℕ
  pub item : List ℕ
  pub took : Took
  pub desk_left : List ℕ
  pub item_left : List ℕ

-- the call met its contract, as a reader's or a writer's, on a session and a desk; a frame is bytes
abbrev pub ReadTurn : Plan → Session → List ℕ → Turn → Type 0
ReadTurn p s d t = Octets t.reply × ReadReplyCall p s t.reply d t.item t.took t.desk_left t.item_left

abbrev pub WriteTurn : Plan → Session → List ℕ → Turn → Type 0
WriteTurn p s d t = Octets t.reply × WriteReplyCall p s t.reply d t.item t.took t.desk_left

abbrev pub EitherTurn : Plan → Session → List ℕ → Turn → Type 0
EitherTurn p s d t = WriteTurn p s d t ⊎ ReadTurn p s d t

-- calls one after another, each on the session and the desk that the one before it handed back
abbrev pub Calls : (Session → List ℕ → Turn → Type 0) → Session → List ℕ → List Turn → Type 0
Calls C s d [] = Unit {0}
Calls C s d (t ∷ ts) = C s d t × Calls C t.took.session t.desk_left ts

abbrev pub Takes : Turn → Type 0
Takes t = is_refused (said_of t.took.answer) ≡ false

abbrev pub counts : Session → Turn → Bool
counts s t = is_asking s.round.stage and not (is_refused (said_of t.took.answer))

unfoldable pub closed_rounds : Plan → ℕ → Session → List Turn → ℕ
closed_rounds p k s [] = 0
closed_rounds p k s (t ∷ ts) =
    cond (counts s t)
    (cond (leb (replies p) (k + 1)) (1 + closed_rounds p 0 t.took.session ts) (closed_rounds p (k + 1) t.took.session ts))
    (closed_rounds p k t.took.session ts)

-- the rounds that an answer reports are n
abbrev pub Reports : Said → ℕ → Type 0
Reports (refused k) n = ⊥
Reports still_open n = ⊥
Reports (done stamp m) n = n ≡ m
Reports (never_written m) n = n ≡ m
Reports (aborted m) n = n ≡ m
Reports (rounds_spent m) n = n ≡ m
Reports clock_spent n = ⊥

-- what the last of some replies left
abbrev pub last_said : Turn → List Turn → Said
last_said t [] = said_of t.took.answer
last_said t (u ∷ ts) = last_said u ts
