-- The node. Document 01, "The node" and "Refusal numbers": one request frame f, the book b and a reply buffer y.
--   book_reply_ok time_fails hash_fails other_held no_room   the conditions of 2, 5, 6, 7 and 8: the last four of a header and a body
--   door_ladder         the refusals at the door, 1 to 4
--   work_ladder         those after it, 5 to 8
--   node_ladder         all in their order
--   SaidServed, said_served         an answer in the paper's terms: a refusal's number, or the length of the frame written
--   ServedOutcome, served_outcome   the answer, the book and the reply buffer as a call leaves them
--   reply_to            what a node that holds some records replies to a kind and a body
--   book_after          the book after a request that is not refused
--   responded          the second part of the call: what is after the door
--   served, NodeCall   the call, and its contract
-- Assumes nothing.
use Rattle.terms.specs.declared.Refusal.{Refusal}
use Rattle.std.specs.Prelude.{ℕ, ◌+◌, ◌≡◌, Bool, cond, not, List, [], ◌∷◌, ◌++◌, length, ltb, leb, eqb, Result, Ok, Err}
use Rattle.octets.specs.Bytes.{be, over}
use Rattle.terms.specs.Ladder.{Rung, on, first, ◌and◌, ◌or◌}
use Rattle.terms.specs.Stamp.{stamp, time}
use Rattle.terms.specs.Terms.{plan_ok, record_length, refusal_number}
use Rattle.terms.specs.declared.Plan.{Plan}
use Rattle.frame.specs.declared.Header.{Header}
use Rattle.frame.specs.Frame.{time_request_kind, time_reply_kind, write_request_kind, write_reply_kind, read_latest_kind, read_previous_kind, read_reply_kind, framed, longest, header_in, body_of, frame_of, replying, good_request}
use Rattle.record.specs.Record.{hashes_ok, time_zero, stamp_of}
use Rattle.book.specs.Records.{last_of, last_below, holds, holds_other}
use Rattle.book.specs.Book.{good_book, node_of, records_of, used_of, grown, book_lent}

-- ---- the conditions of the refusals
-- 2: "Lent book: 11 to 65,536 bytes", "a reply buffer of at least R+15 bytes"
unfoldable pub book_reply_ok : Plan → ℕ → ℕ → Bool
book_reply_ok p book reply = book_lent book and leb (longest 1 p) reply

abbrev pub writes : Header → Bool
writes h = eqb h.kind write_request_kind

-- 5: "time 0 in a record or a bound"
unfoldable pub time_fails : Header → List ℕ → Bool
time_fails h body = (writes h or eqb h.kind read_previous_kind) and time_zero body

-- 6: "a hash check fails"
unfoldable pub hash_fails : Plan → Header → List ℕ → Bool
hash_fails p h body = writes h and not (hashes_ok p h.node body)

-- 7: "same timestamp held with other bytes"
unfoldable pub other_held : Plan → Header → List ℕ → List ℕ → Bool
other_held p h body b = writes h and holds_other body (records_of p b)

-- 8: "no room in the book for R more bytes"; "a full book still acknowledges a record that it holds"
unfoldable pub no_room : Plan → Header → List ℕ → List ℕ → Bool
no_room p h body b = writes h and not (holds body (records_of p b)) and ltb (length b) (used_of p b + record_length p)

-- "Order at the node: 1 to 8 as numbered"
abbrev pub door_ladder : Plan → List ℕ → List ℕ → List ℕ → List Rung
door_ladder p f b y =
    on 1 (not (plan_ok p)) ∷
    on 2 (not (book_reply_ok p (length b) (length y))) ∷
    on 3 (not (good_book p b)) ∷
    on 4 (not (good_request p (node_of b) f)) ∷ []

abbrev pub work_ladder : Plan → Header → List ℕ → List ℕ → List Rung
work_ladder p h body b =
    on 5 (time_fails h body) ∷
    on 6 (hash_fails p h body) ∷
    on 7 (other_held p h body b) ∷
    on 8 (no_room p h body b) ∷ []

abbrev pub node_ladder : Plan → List ℕ → List ℕ → List ℕ → List Rung
node_ladder p f b y = door_ladder p f b y ++ work_ladder p (header_in f) (body_of f) b

-- ---- the answer in the paper's terms
pub data SaidServed : Type 0 where
  refused : ℕ → SaidServed
  replied : ℕ → SaidServed

abbrev pub said_served : Result ℕ Refusal → SaidServed
said_served (Err r) = refused (refusal_number r)
said_served (Ok n) = replied n

pub record ServedOutcome : Type 0 where
  pub answer : SaidServed
  pub book : List ℕ
  pub reply : List ℕ

abbrev pub served_outcome : SaidServed → List ℕ → List ℕ → ServedOutcome
served_outcome a b y = record { answer = a; book = b; reply = y }

-- ---- what is done
pub record Reply : Type 0 where
  pub kind : ℕ
  pub body : List ℕ

abbrev pub reply_of : ℕ → List ℕ → Reply
reply_of kind body = record { kind = kind; body = body }

-- a kind that is no request has none
abbrev pub no_reply : Reply
no_reply = reply_of 0 []

-- time request: "the time of the last record, 0 if none"; write request: its timestamp; read latest: "the last record"; read previous: "the
-- last record strictly below the bound"; "where there is none, both give the first triple"
unfoldable pub reply_to : ℕ → List ℕ → List (List ℕ) → Reply
reply_to kind body rs =
    cond (eqb kind time_request_kind) (reply_of time_reply_kind (be 8 (time (last_of rs))))
    (cond (eqb kind write_request_kind) (reply_of write_reply_kind (stamp_of body))
    (cond (eqb kind read_latest_kind) (reply_of read_reply_kind (last_of rs))
    (cond (eqb kind read_previous_kind) (reply_of read_reply_kind (last_below (stamp body) rs)) no_reply)))

-- "If a record with this timestamp and the same bytes is held, acknowledge and store nothing. Otherwise put it in its place; later records
-- move up by R, count and length follow, and bytes after the new end stay."
unfoldable pub book_after : Plan → Header → List ℕ → List ℕ → List ℕ
book_after p h body b = cond (writes h and not (holds body (records_of p b))) (grown p body b) b

-- "A reply repeats the ask number of its request"; "bytes past a written frame stay"
unfoldable pub sends : Header → Reply → List ℕ → List ℕ → ServedOutcome
sends h r b y = served_outcome (replied (framed h.version (length r.body))) b (over (frame_of (replying h r.kind) r.body) y)

unfoldable pub answered : Plan → Header → List ℕ → List ℕ → List ℕ → ServedOutcome
answered p h body b y = sends h (reply_to h.kind body (records_of p b)) (book_after p h body b) y

-- the first refusal that applies leaves all as it came; where none does, the answer
unfoldable pub responded : Plan → Header → List ℕ → List ℕ → List ℕ → ServedOutcome
responded p h body b y = first (work_ladder p h body b) (λ (k : ℕ). served_outcome (refused k) b y) (answered p h body b y)

unfoldable pub served : Plan → List ℕ → List ℕ → List ℕ → ServedOutcome
served p f b y = first (node_ladder p f b y) (λ (k : ℕ). served_outcome (refused k) b y) (answered p (header_in f) (body_of f) b y)

-- the contract of the call: its inputs, then its outcome
pub record NodeCall (p : Plan) (f b y : List ℕ) (a : Result ℕ Refusal) (b₂ y₂ : List ℕ) : Type 0 where
  pub is : served_outcome (said_served a) b₂ y₂ ≡ served p f b y
