-- What one call of our node does, against Figure 1; (01) where document 01 adds to the report.
--   Sends              a read reply that bears the only triple of a set
--   Executes           a write that was executed
--   AsFigure1          by the kind of the request: what is sent, and the History after it
--   Added              (01) the conditions that stand against a write besides VALIDATE
--   reaches            a write request that none of them meets: what Figure 1 is given
-- Assumes nothing.
use Rattle.std.specs.Prelude.{ℕ, ◌≡◌, Bool, true, false, not, List, [], ◌∷◌, length}
use Rattle.octets.specs.Bytes.{part, over, be}
use Rattle.terms.specs.Ladder.{all}
use Rattle.terms.specs.Stamp.{stamp}
use Rattle.terms.specs.Terms.{plan_ok}
use Rattle.terms.specs.declared.Plan.{Plan}
use Rattle.frame.specs.Frame.{time_request_kind, time_reply_kind, write_request_kind, write_reply_kind, read_latest_kind, read_previous_kind, read_reply_kind, header_in, kind_of, body_of, frame_of, replying, good_request}
use Rattle.book.specs.Book.{good_book, node_of}
use Rattle.node.specs.Node.{book_reply_ok, writes, time_fails, other_held, no_room}
use Rattle.report.specs.Triple.{Triple, Same}
use Rattle.report.specs.Figure1.{receive_time_request, receive_read_latest, receive_read_previous, receive_write_request}
use Rattle.report.specs.Ours.{family, history, triple_of, time_in}

-- a read reply that bears the only triple of a set
pub record Sends (p : Plan) (f y y₂ : List ℕ) (set : List Triple) : Type 0 where
  pub body : List ℕ
  pub sent : y₂ ≡ over (frame_of (replying (header_in f) read_reply_kind) body) y
  pub is : set ≡ triple_of p body ∷ []

-- a write that was executed: WRITE_RESPONSE is sent, which here bears the timestamp, and the History is Figure 1's
pub record Executes (p : Plan) (f b y b₂ y₂ : List ℕ) : Type 0 where
  pub valid : (receive_write_request (family p) (node_of b) (history p b) (triple_of p (body_of f))).sent ≡ true
  pub set : Same (history p b₂) (receive_write_request (family p) (node_of b) (history p b) (triple_of p (body_of f))).History
  pub sent : y₂ ≡ over (frame_of (replying (header_in f) write_reply_kind) (part (body_of f) 0 40)) y

-- by the kind of the request: what is sent, and the History after it.
pub record AsFigure1 (p : Plan) (f b y b₂ y₂ : List ℕ) : Type 0 where
  pub time : kind_of f ≡ time_request_kind → (y₂ ≡ over (frame_of (replying (header_in f) time_reply_kind) (be 8 (time_in (receive_time_request (history p b))))) y) × (b₂ ≡ b)
  pub latest : kind_of f ≡ read_latest_kind → Sends p f y y₂ (receive_read_latest (history p b)) × (b₂ ≡ b)
  pub previous : kind_of f ≡ read_previous_kind → Sends p f y y₂ (receive_read_previous (history p b) (stamp (body_of f))) × (b₂ ≡ b)
  pub write : kind_of f ≡ write_request_kind → Executes p f b y b₂ y₂

-- one that it lets through is executed, where none of the conditions that document 01 adds stands against it: 1 to 4 of plan, lengths, book and
-- frame; 5, a time of 0; 7, other bytes held at this timestamp; 8, no room
pub record Added (p : Plan) (f b y : List ℕ) : Type 0 where
  pub plan : plan_ok p ≡ true
  pub lengths : book_reply_ok p (length b) (length y) ≡ true
  pub book : good_book p b ≡ true
  pub request : good_request p (node_of b) f ≡ true
  pub time : time_fails (header_in f) (body_of f) ≡ false
  pub other : other_held p (header_in f) (body_of f) b ≡ false
  pub room : no_room p (header_in f) (body_of f) b ≡ false

-- refusal 6 is not among them: it is Figure 1's own VALIDATE
unfoldable pub reaches : Plan → (f b y : List ℕ) → Bool
reaches p f b y =
    all (
    writes (header_in f) ∷
    plan_ok p ∷
    book_reply_ok p (length b) (length y) ∷
    good_book p b ∷
    good_request p (node_of b) f ∷
    not (time_fails (header_in f) (body_of f)) ∷
    not (other_held p (header_in f) (body_of f) b) ∷
    not (no_room p (header_in f) (body_of f) b) ∷ [])
