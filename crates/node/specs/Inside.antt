-- For the functions below the call: what its door leaves, and the rest of its ladder. Assumes nothing.
--   Open               a book that may be asked, and room for a reply
--   Fitting Admitted   a request that may go on, and everything that is known with it
--   finished           the last two refusals, and the answer
use Rattle.std.specs.Prelude.{ℕ, ◌≤◌, ◌<◌, ◌≡◌, true, List, length}
use Rattle.terms.specs.Ladder.{first, since}
use Rattle.terms.specs.Terms.{plan_ok}
use Rattle.terms.specs.declared.Plan.{Plan}
use Rattle.frame.specs.declared.Header.{Header}
use Rattle.frame.specs.declared.Party.TheVariants.{Node}
use Rattle.frame.specs.Frame.{head_bytes, longest, header_in, suits}
use Rattle.book.specs.Book.{Sound}
use Rattle.book.specs.declared.Book.{Book}
use Rattle.node.specs.declared.Asked.{Asked}
use Rattle.node.specs.Node.{book_reply_ok, work_ladder, refused, ServedOutcome, served_outcome, answered}

-- what refusals 1 to 3 leave: k is the header of a good book
pub record Open (p : Plan) (k : Book) (b y : List ℕ) : Type 0 where
  pub plan : plan_ok p ≡ true
  pub lengths : book_reply_ok p (length b) (length y) ≡ true
  pub book : Sound p k b

-- h is the header of f, of a kind for a node, with a body of its kind, and for a node of the plan
pub record Fitting (p : Plan) (h : Header) (f : List ℕ) : Type 0 where
  pub is : h ≡ header_in f
  pub low : head_bytes h.version ≤ length f
  pub fit : suits Node p h (length f) ≡ true
  pub node : h.node < p.n

-- what the door leaves: of a frame and a book of any version
pub record Admitted (p : Plan) (a : Asked) (f b y : List ℕ) : Type 0 where
  pub plan : plan_ok p ≡ true
  pub room : longest a.frame.version p ≤ length y
  pub book : Sound p a.book b
  pub request : Fitting p a.frame f

-- the last two refusals, and the answer
unfoldable pub finished : Plan → Header → List ℕ → List ℕ → List ℕ → ServedOutcome
finished p h body b y = first (since 7 (work_ladder p h body b)) (λ (k : ℕ). served_outcome (refused k) b y) (answered p h body b y)
