-- Write requests delivered to N books: the words of the third demand. "Take good books and a set of write requests. Each book and reply
-- buffer has room, and at one node no two requests that pass the checks, and no such request and held record, share a timestamp but not the
-- record. Then delivering all of them, in any order and with repeats, leaves the same bytes in all N books: the old records and the accepted
-- ones, each once, by timestamp."
--   Among                 z is one of a list
--   passes, accepted_at      a request passes the checks of a node; the records of those that do
--   gathered, final_book   the old records and the accepted ones, each once, by timestamp; laid out over the old book
--   Delivery, sent, Called   a request brought to a node, a call; those that a run brings to one node; the calls of a run met their contracts
--   books_after, delivered   the books after a delivery, and after a run of them
--   Ready, Delivers, Setting   what the demand takes of a node's book and a set, of a run, and of all N
--   Contents              what it says of the bytes that are left
-- books i is the book of node i. Assumes nothing.
use Rattle.terms.specs.declared.Refusal.{Refusal}
use Prim.{Unit}
use Rattle.std.specs.Prelude.{ℕ, ◌+◌, ◌*◌, ◌≤◌, ◌<◌, ◌≡◌, Bool, true, cond, not, List, [], ◌∷◌, ◌⊎◌, eqb, length, drop, Result}
use Rattle.octets.specs.Bytes.{over, Octets}
use Rattle.terms.specs.Ladder.{◌and◌}
use Rattle.terms.specs.Stamp.{stamp}
use Rattle.terms.specs.Terms.{plan_ok, record_length}
use Rattle.terms.specs.declared.Plan.{Plan}
use Rattle.frame.specs.Frame.{body_of, good_request, header_in, longest}
use Rattle.book.specs.Records.{holds, kept, rising}
use Rattle.book.specs.Book.{good_book, laid_out, node_of, records_of, used_of, book_head}
use Rattle.node.specs.Node.{time_fails, hash_fails, writes, NodeCall}

abbrev pub Among : List ℕ → List (List ℕ) → Type 0
Among z xs = holds z xs ≡ true

-- a write request that the checks 4, 5 and 6 of a node let through
unfoldable pub passes : Plan → ℕ → List ℕ → Bool
passes p node f = good_request p node f and writes (header_in f) and not (time_fails (header_in f) (body_of f)) and not (hash_fails p (header_in f) (body_of f))

unfoldable pub accepted_at : Plan → ℕ → List (List ℕ) → List (List ℕ)
accepted_at p node [] = []
accepted_at p node (f ∷ fs) = cond (passes p node f) (body_of f ∷ accepted_at p node fs) (accepted_at p node fs)

-- records put among others, each once and in its place
unfoldable pub kept_all : List (List ℕ) → List (List ℕ) → List (List ℕ)
kept_all [] rs = rs
kept_all (x ∷ xs) rs = kept_all xs (kept x rs)

unfoldable pub gathered : Plan → List ℕ → List (List ℕ) → List (List ℕ)
gathered p b fs = kept_all (accepted_at p (node_of b) fs) (records_of p b)

unfoldable pub final_book : Plan → List ℕ → List (List ℕ) → List ℕ
final_book p b fs = over (laid_out p (node_of b) (gathered p b fs)) b

-- a request frame brought to a node: a call, with the reply buffer lent to it, its answer and what it left
pub record Delivery : Type 0 where
  pub node : ℕ
  pub request : List ℕ
  pub reply : List ℕ
  pub answer : Result ℕ Refusal
  pub book_left : List ℕ
  pub reply_left : List ℕ

unfoldable pub sent : ℕ → List Delivery → List (List ℕ)
sent i [] = []
sent i (d ∷ ds) = cond (eqb i d.node) (d.request ∷ sent i ds) (sent i ds)

abbrev pub books_after : Delivery → (ℕ → List ℕ) → ℕ → List ℕ
books_after d books i = cond (eqb i d.node) d.book_left (books i)

unfoldable pub delivered : List Delivery → (ℕ → List ℕ) → ℕ → List ℕ
delivered [] books = books
delivered (d ∷ ds) books = delivered ds (books_after d books)

-- each call met its contract, on the book that the calls before it left at its node
abbrev pub Called : Plan → (ℕ → List ℕ) → List Delivery → Type 0
Called p books [] = Unit {0}
Called p books (d ∷ ds) =
    NodeCall p d.request (books d.node) d.reply d.answer d.book_left d.reply_left × Called p (books_after d books) ds

-- a good book of this node, with room for what the set brings; one timestamp is one record
pub record Ready (p : Plan) (books : ℕ → List ℕ) (fs : List (List ℕ)) (i : ℕ) : Type 0 where
  pub good : good_book p (books i) ≡ true
  pub node : node_of (books i) ≡ i
  pub bytes : Octets (books i)
  pub high : length (books i) ≤ 65536
  pub requests : (z w : List ℕ) → Among z (accepted_at p i fs) → Among w (accepted_at p i fs) → stamp z ≡ stamp w → z ≡ w
  pub held : (z w : List ℕ) → Among z (accepted_at p i fs) → Among w (records_of p (books i)) → stamp z ≡ stamp w → z ≡ w
  pub room : book_head 1 + length (gathered p (books i) fs) * record_length p ≤ length (books i)

-- every reply buffer has room
abbrev pub Roomy : Plan → List Delivery → Type 0
Roomy p [] = Unit {0}
Roomy p (d ∷ ds) = (longest 1 p ≤ length d.reply) × Roomy p ds

-- a run brings a node nothing but the set, and each request of the set that passes there at least once, with room for the reply: so it is
-- where the whole set is brought to every node, and where each request is brought to the node that it is addressed to
pub record Delivers (p : Plan) (fs : List (List ℕ)) (ds : List Delivery) (i : ℕ) : Type 0 where
  pub only : (z : List ℕ) → Among z (sent i ds) → Among z fs
  pub each : (z : List ℕ) → Among z fs → passes p i z ≡ true → Among z (sent i ds)
  pub room : Roomy p ds

-- "the old records and the accepted ones, each once, by timestamp"; a book as long as before, and past the bytes in use as it was
pub record Contents (p : Plan) (b : List ℕ) (fs : List (List ℕ)) : Type 0 where
  pub good : good_book p (final_book p b fs) ≡ true
  pub has : (z : List ℕ) → Among z (records_of p b) ⊎ Among z (accepted_at p (node_of b) fs) → Among z (records_of p (final_book p b fs))
  pub only : (z : List ℕ) → Among z (records_of p (final_book p b fs)) → Among z (records_of p b) ⊎ Among z (accepted_at p (node_of b) fs)
  pub rise : rising (records_of p (final_book p b fs)) ≡ true
  pub size : length (final_book p b fs) ≡ length b
  pub tail : drop (used_of p (final_book p b fs)) (final_book p b fs) ≡ drop (used_of p (final_book p b fs)) b

-- what the demand takes: an accepted plan, N books that are ready for the set, and a run of calls that delivers it.
pub record Setting (p : Plan) (books : ℕ → List ℕ) (fs : List (List ℕ)) (ds : List Delivery) : Type 0 where
  pub plan : plan_ok p ≡ true
  pub ready : (i : ℕ) → i < p.n → Ready p books fs i
  pub delivers : (i : ℕ) → i < p.n → Delivers p fs ds i
  pub calls : Called p books ds
