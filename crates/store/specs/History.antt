-- Calls of a node one after another on one book, each with its own plan, request, reply buffer and outcome, whatever they are.
--   Call History last_book   a call with what it was lent and left; calls that met their contracts; the book that the last of them left
--   EachCall Moment    what holds of each of some calls; one of them, with those before and after it
--   Executed ExecutedAt   a record was executed by one of some calls; one of this timestamp was
--   Wrote              a frame is what one of some calls wrote
--   After              what is left of a good book
--   OfCalls            a book that such calls made of a fresh one
--   AllPass            every record of a book has a time of 1 or more and passes its two hash checks
-- Assumes nothing.
use Rattle.terms.specs.declared.Refusal.{Refusal}
use Prim.{Unit, tt}
use Rattle.std.specs.Prelude.{ℕ, ◌≤◌, ◌≡◌, true, List, [], ◌∷◌, ◌++◌, take, Result, Ok}
use Rattle.octets.specs.Bytes.{Octets}
use Rattle.terms.specs.Stamp.{time, stamp}
use Rattle.terms.specs.declared.Plan.{Plan}
use Rattle.frame.specs.Frame.{header_in, body_of}
use Rattle.record.specs.Record.{hashes_ok}
use Rattle.node.specs.Fresh.{FreshCall}
use Rattle.node.specs.Node.{writes, NodeCall}
use Rattle.book.specs.Book.{good_book, node_of, records_of}
use Rattle.store.specs.Deliver.{Among}

-- what a call was lent beside the book, its answer, and what it left
pub record Call : Type 0 where
  pub plan : Plan
  pub request : List ℕ
  pub reply : List ℕ
  pub answer : Result ℕ Refusal
  pub book_left : List ℕ
  pub reply_left : List ℕ

-- each call met its contract on the book that the one before it left; a lent book is bytes
abbrev pub History : List ℕ → List Call → Type 0
History b [] = Unit {0}
History b (c ∷ cs) =
    Octets b × NodeCall c.plan c.request b c.reply c.answer c.book_left c.reply_left × History c.book_left cs

abbrev pub last_book : List ℕ → List Call → List ℕ
last_book b [] = b
last_book b (c ∷ cs) = last_book c.book_left cs

abbrev pub EachCall : (Call → Type 0) → List Call → Type 0
EachCall P [] = Unit {0}
EachCall P (c ∷ cs) = P c × EachCall P cs

pub record Moment (cs : List Call) : Type 0 where
  pub before : List Call
  pub call : Call
  pub after : List Call
  pub is : cs ≡ before ++ (call ∷ after)

-- "executed": a write request with this record was replied to
pub record Executed (z : List ℕ) (cs : List Call) : Type 0 where
  pub at : Moment cs
  pub kind : writes (header_in at.call.request) ≡ true
  pub body : body_of at.call.request ≡ z
  pub size : ℕ
  pub replied : at.call.answer ≡ Ok size

pub record ExecutedAt (ts : ℕ) (cs : List Call) : Type 0 where
  pub rec : List ℕ
  pub of : stamp rec ≡ ts
  pub executed : Executed rec cs

-- the start of its reply buffer, as long as the call said
pub record Wrote (f : List ℕ) (cs : List Call) : Type 0 where
  pub at : Moment cs
  pub size : ℕ
  pub replied : at.call.answer ≡ Ok size
  pub is : f ≡ take size at.call.reply_left

-- what is left of a book b that was good under p
pub record After (p : Plan) (b b₂ : List ℕ) : Type 0 where
  pub good : good_book p b₂ ≡ true
  pub keeps : (z : List ℕ) → Among z (records_of p b) → Among z (records_of p b₂)

-- of a plan and a node
pub record OfCalls (p : Plan) (node : ℕ) (b : List ℕ) : Type 0 where
  pub lent : List ℕ
  pub fresh : List ℕ
  pub makes : FreshCall p node lent (Ok tt) fresh
  pub calls : List Call
  pub history : History fresh calls
  pub is : b ≡ last_book fresh calls

abbrev pub AllPass : Plan → List ℕ → Type 0
AllPass p b = (z : List ℕ) → Among z (records_of p b) → (1 ≤ time z) × (hashes_ok p (node_of b) z ≡ true)
