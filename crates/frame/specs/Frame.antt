-- The frame. Document 01, "Records, books, frames": 4 byte length of the rest, version 1, kind, node, 8 byte ask number, body;
-- the lent slice is the whole frame. Refusal 4 is its shape, its kind for the party, its body by its kind, and its node.
--   time_request_kind ..     the kinds, by name
--   head_bytes framed longest   the bytes before a body; a frame's with a body of n bytes; the most that a frame of a plan has: by the version
--   rest_of version_of kind_of frame_node ask_of body_of   the fields of a frame
--   header_in           all before the body, as a value
--   header_of replying  the header of a request of version 1; that of the reply to a request
--   head_of frame_of     the bytes before a body of n bytes; the whole frame of a header and a body
--   frame              the same of version 1, by kind, node, ask number and body
--   shaped             length, length field and version are a frame's
--   body_fits           the document's table: whether a kind's body may have n bytes
--   for_party           the kinds that a node takes, those that a client takes
--   suits good_frame    both, of a header and a frame's length; and the shape
--   good_request        at a node: and it is for this node
--   good_reply          at a client: and its node number is below N
--   request_in reply_in  what the door of a call says: the header of a good frame
--   answers_to          its ask number is the one that a client awaits
--   Wrote              a frame was written over a buffer, and its length told
--   cut_at              where the frame that starts at a place of a run of bytes ends
-- Assumes nothing.
use Rattle.std.specs.Prelude.{ℕ, ◌+◌, ◌-◌, ◌≡◌, Bool, false, cond, List, [], ◌∷◌, ◌++◌, length, drop, ltb, leb, eqb, Option, Some, None}
use Rattle.octets.specs.Bytes.{part, num, be, over}
use Rattle.terms.specs.Ladder.{all, ◌and◌, ◌or◌}
use Rattle.terms.specs.Terms.{record_length}
use Rattle.terms.specs.declared.Plan.{Plan}
use Rattle.frame.specs.declared.Party.{Party}
use Rattle.frame.specs.declared.Party.TheVariants.{Node, Client}
use Rattle.frame.specs.declared.Header.{Header}

-- ---- the kinds
abbrev pub time_request_kind : ℕ
time_request_kind = 1

abbrev pub time_reply_kind : ℕ
time_reply_kind = 2

abbrev pub write_request_kind : ℕ
write_request_kind = 3

abbrev pub write_reply_kind : ℕ
write_reply_kind = 4

abbrev pub read_latest_kind : ℕ
read_latest_kind = 5

abbrev pub read_previous_kind : ℕ
read_previous_kind = 6

abbrev pub read_reply_kind : ℕ
read_reply_kind = 7

-- ---- lengths, by the version: there is version 1 alone
abbrev pub head_bytes : ℕ → ℕ
head_bytes version = 15

abbrev pub framed : ℕ → ℕ → ℕ
framed version n = head_bytes version + n

-- "R+15": the body is a record
abbrev pub longest : ℕ → Plan → ℕ
longest version p = record_length p + head_bytes version

-- ---- the fields
abbrev pub rest_of : List ℕ → ℕ
rest_of f = num (part f 0 4)

abbrev pub version_of : List ℕ → ℕ
version_of f = num (part f 4 1)

abbrev pub kind_of : List ℕ → ℕ
kind_of f = num (part f 5 1)

abbrev pub frame_node : List ℕ → ℕ
frame_node f = num (part f 6 1)

abbrev pub ask_of : List ℕ → ℕ
ask_of f = num (part f 7 8)

abbrev pub header_in : List ℕ → Header
header_in f = record { version = version_of f; kind = kind_of f; node = frame_node f; ask = record { 0 = ask_of f } }

abbrev pub body_of : List ℕ → List ℕ
body_of f = drop (head_bytes (version_of f)) f

-- ---- laid out
abbrev pub head_of : Header → ℕ → List ℕ
head_of h n = be 4 (head_bytes h.version - 4 + n) ++ (be 1 h.version ++ (be 1 h.kind ++ (be 1 h.node ++ be 8 h.ask.0)))

abbrev pub frame_of : Header → List ℕ → List ℕ
frame_of h body = head_of h (length body) ++ body

abbrev pub header_of : ℕ → ℕ → ℕ → Header
header_of kind node ask = record { version = 1; kind = kind; node = node; ask = record { 0 = ask } }

abbrev pub frame : ℕ → ℕ → ℕ → List ℕ → List ℕ
frame kind node ask body = frame_of (header_of kind node ask) body

-- "A reply repeats the ask number of its request"
abbrev pub replying : Header → ℕ → Header
replying h kind = record { version = h.version; kind = kind; node = h.node; ask = h.ask }

-- "bytes past a written frame stay"
pub record Wrote (h : Header) (body y : List ℕ) (n : ℕ) (y₂ : List ℕ) : Type 0 where
  pub bytes : y₂ ≡ over (frame_of h body) y
  pub told : n ≡ framed h.version (length body)

-- ---- refusal 4
unfoldable pub shaped : List ℕ → Bool
shaped f = all (leb (head_bytes 1) (length f) ∷ eqb (rest_of f) (length f - 4) ∷ eqb (version_of f) 1 ∷ [])

-- time request: none; time reply: 8; write request: record; write reply: timestamp; read latest: none; read previous: timestamp;
-- read reply: record, or none
unfoldable pub body_fits : Plan → ℕ → ℕ → Bool
body_fits p kind n =
    cond (eqb kind time_request_kind) (eqb n 0)
    (cond (eqb kind time_reply_kind) (eqb n 8)
    (cond (eqb kind write_request_kind) (eqb n (record_length p))
    (cond (eqb kind write_reply_kind) (eqb n 40)
    (cond (eqb kind read_latest_kind) (eqb n 0)
    (cond (eqb kind read_previous_kind) (eqb n 40)
    (cond (eqb kind read_reply_kind) (eqb n (record_length p) or eqb n 0) false))))))

abbrev pub kinds_for : Party → List ℕ
kinds_for Node = time_request_kind ∷ write_request_kind ∷ read_latest_kind ∷ read_previous_kind ∷ []
kinds_for Client = time_reply_kind ∷ write_reply_kind ∷ read_reply_kind ∷ []

unfoldable pub one_of : ℕ → List ℕ → Bool
one_of x [] = false
one_of x (y ∷ ys) = eqb x y or one_of x ys

unfoldable pub for_party : Party → ℕ → Bool
for_party party kind = one_of kind (kinds_for party)

-- of a frame of n bytes
unfoldable pub suits : Party → Plan → Header → ℕ → Bool
suits party p h n = for_party party h.kind and body_fits p h.kind (n - head_bytes h.version)

unfoldable pub good_frame : Party → Plan → List ℕ → Bool
good_frame party p f = shaped f and suits party p (header_in f) (length f)

unfoldable pub good_request : Plan → ℕ → List ℕ → Bool
good_request p node f = good_frame Node p f and eqb (frame_node f) node

unfoldable pub good_reply : Plan → List ℕ → Bool
good_reply p f = good_frame Client p f and ltb (frame_node f) p.n

-- the door of a call: a good frame's header
abbrev pub door : Bool → List ℕ → Option Header
door good f = cond good (Some (header_in f)) None

abbrev pub request_in : Plan → ℕ → List ℕ → Option Header
request_in p node f = door (good_request p node f) f

abbrev pub reply_in : Plan → List ℕ → Option Header
reply_in p f = door (good_reply p f) f

-- refusal 10, of any reply: the kind is tested apart
abbrev pub answers_to : Header → ℕ → Bool
answers_to h ask = eqb h.ask.0 ask

-- ---- cutting, apart from checking
-- no frame where fewer than 4 bytes remain, or a length is below 11 or larger than the rest
unfoldable pub cut_at : List ℕ → ℕ → Option ℕ
cut_at s at =
    cond (ltb (length s - at) 4) None
    (cond (ltb (num (part s at 4)) 11) None
    (cond (ltb (length s - at - 4) (num (part s at 4))) None
    (Some (at + 4 + num (part s at 4)))))
