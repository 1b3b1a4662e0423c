-- For the functions that look records up and put them in. Assumes nothing.
--   Placed Grows inserted   a record put at its place
--   Lies fate_by             where a record was found, and what becomes of one
use Rattle.std.specs.Prelude.{ℕ, ◌+◌, ◌-◌, ◌≤◌, ◌≡◌, cond, List, length, eqb}
use Rattle.octets.specs.Bytes.{part, put, be, alike}
use Rattle.terms.specs.Stamp.{stamp}
use Rattle.terms.specs.declared.Plan.{Plan}
use Rattle.book.specs.declared.Fate.{Fate}
use Rattle.book.specs.declared.Fate.TheVariants.{Held, Other, Free}
use Rattle.book.specs.declared.Span.{Span}
use Rattle.book.specs.declared.Book.{Book}
use Rattle.book.specs.Records.{below}
use Rattle.book.specs.Book.{records_in, used_in, grown, Holds, Sound}

-- a book that the record at `from` of src can be put into, at its place i
pub record Placed (k : Book) (b src : List ℕ) (from i : ℕ) : Type 0 where
  pub holds : Holds k b
  pub room : used_in k + k.each ≤ length b
  pub inside : from + k.each ≤ length src
  pub place : i ≡ below (stamp (part src from k.each)) (records_in k b)

-- the book with one record more, in the words of every plan that it is of
pub record Grows (k : Book) (rec b b₂ : List ℕ) : Type 0 where
  pub of : (p : Plan) → Sound p k b → b₂ ≡ grown p rec b

-- a span of b holds x, which is at most n bytes
pub record Lies (b : List ℕ) (n : ℕ) (x : List ℕ) (s : Span) : Type 0 where
  pub inside : s.at + s.len ≤ length b
  pub short : s.len ≤ n
  pub is : part b s.at s.len ≡ x

-- what becomes of rec where x stands at its place k
unfoldable pub fate_by : List ℕ → List ℕ → ℕ → Fate
fate_by x rec k = cond (eqb (stamp x) (stamp rec)) (cond (alike x rec) Held Other) (Free k)

-- rec put at `at`: the bytes from there to the end moved up, rec in, then the length and the count
unfoldable pub inserted : List ℕ → ℕ → ℕ → List ℕ → ℕ → ℕ → List ℕ
inserted b at end rec r count =
    put (put (put (put b (at + r) (part b at (end - at))) at rec) 0 (be 4 (end + r - 4))) 9 (be 2 count)
