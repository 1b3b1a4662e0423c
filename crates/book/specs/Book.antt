-- The bytes of a book. Document 01, "Records, books, frames": "Book of one node: 4 byte length of what follows it in use, version 1, N,
-- node number, F (2 bytes), count (2 bytes), then records in strictly rising timestamp, all times 1 or more. The node number is below N;
-- length = 7 + count·R, within the lent book."
-- A version has a number v and a header of h bytes: the fixed ones above and what it has more. Version 1 has no more; record k lies at h + k·R.
--   fixed, blank, book_head           the bytes up to the count, which every version has; what version 1 has past them; the bytes of a version's header
--   book_lent                         a lent book may have n bytes
--   count_of, node_of, version_in       the count, the node number and the version in some bytes
--   book_in                           the header of a book of a plan as a value
--   records_in, used_in                the records that a header is of, and the bytes in use
--   records_past, records_of           the records read back: past a header of h bytes, and of a version 1 book
--   header, laid_as, laid_out          the records laid out: in a version, and as a version 1 book
--   headed, filled, good_as, good_book the shape: the header's numbers, the records, both, and version 1
--   shape_in                          what a book is found to be: the header of a good one
--   used_of, grown                    the bytes in use of a version 1 book; the book with one record more
-- Assumes nothing.
use Rattle.std.specs.Prelude.{ℕ, zero, suc, ◌+◌, ◌-◌, ◌*◌, ◌≤◌, ◌<◌, ◌≡◌, Bool, true, cond, List, [], ◌∷◌, ◌++◌, length, ltb, leb, eqb, Option, Some, None}
use Rattle.octets.specs.Bytes.{part, num, be, over}
use Rattle.terms.specs.Ladder.{all, ◌and◌}
use Rattle.terms.specs.Terms.{record_length}
use Rattle.terms.specs.declared.Plan.{Plan}
use Rattle.book.specs.declared.Book.{Book}
use Rattle.book.specs.Records.{timed, rising, insert_record}

abbrev pub fixed : ℕ
fixed = 11

-- there is version 1 alone, whose header has no more
abbrev pub blank : List ℕ
blank = []

abbrev pub book_head : ℕ → ℕ
book_head version = fixed + length blank

-- "Lent book: 11 to 65,536 bytes"
abbrev pub book_lent : ℕ → Bool
book_lent n = leb (book_head 1) n and leb n 65536

abbrev pub count_of : List ℕ → ℕ
count_of b = num (part b 9 2)

abbrev pub node_of : List ℕ → ℕ
node_of b = num (part b 6 1)

abbrev pub version_in : List ℕ → ℕ
version_in b = num (part b 4 1)

abbrev pub book_in : Plan → List ℕ → Book
book_in p b = record { version = version_in b; head = book_head (version_in b); node = node_of b; count = count_of b; each = record_length p }

-- the m records of r bytes from at on
unfoldable pub records_from : List ℕ → ℕ → ℕ → ℕ → List (List ℕ)
records_from b r zero at = []
records_from b r (suc m) at = part b at r ∷ records_from b r m (at + r)

abbrev pub records_in : Book → List ℕ → List (List ℕ)
records_in k b = records_from b k.each k.count k.head

abbrev pub used_in : Book → ℕ
used_in k = k.head + k.count * k.each

abbrev pub records_past : ℕ → Plan → List ℕ → List (List ℕ)
records_past h p b = records_from b (record_length p) (count_of b) h

-- the header of a version: more is what it has after the count
unfoldable pub header : ℕ → List ℕ → Plan → ℕ → ℕ → List ℕ
header v more p node count =
    be 4 (fixed - 4 + length more + count * record_length p) ++ (be 1 v ++ (be 1 p.n ++ (be 1 node ++ (be 2 p.f ++ (be 2 count ++ more)))))

unfoldable pub joined : List (List ℕ) → List ℕ
joined [] = []
joined (x ∷ xs) = x ++ joined xs

unfoldable pub laid_as : ℕ → List ℕ → Plan → ℕ → List (List ℕ) → List ℕ
laid_as v more p node rs = header v more p node (length rs) ++ joined rs

-- the numbers of the header: length, version, N, node number, F
unfoldable pub headed : ℕ → ℕ → Plan → List ℕ → Bool
headed v h p b =
    all (
    eqb (num (part b 0 4)) (h - 4 + count_of b * record_length p) ∷
    eqb (version_in b) v ∷
    eqb (num (part b 5 1)) p.n ∷
    ltb (node_of b) p.n ∷
    eqb (num (part b 7 2)) p.f ∷ [])

-- the records: within the lent book, strictly rising, all times 1 or more
unfoldable pub filled : ℕ → Plan → List ℕ → Bool
filled h p b =
    all (leb (h + count_of b * record_length p) (length b) ∷ rising (records_past h p b) ∷ timed (records_past h p b) ∷ [])

abbrev pub good_as : ℕ → ℕ → Plan → List ℕ → Bool
good_as v h p b = headed v h p b and filled h p b

-- ---- a book, which is of version 1
unfoldable pub good_book : Plan → List ℕ → Bool
good_book p b = good_as 1 (book_head 1) p b

abbrev pub records_of : Plan → List ℕ → List (List ℕ)
records_of p b = records_in (book_in p b) b

abbrev pub laid_out : Plan → ℕ → List (List ℕ) → List ℕ
laid_out p node rs = laid_as 1 blank p node rs

abbrev pub used_of : Plan → List ℕ → ℕ
used_of p b = used_in (book_in p b)

-- a record put in its place: "later records move up by R, count and length follow, and bytes after the new end stay"
abbrev pub grown : Plan → List ℕ → List ℕ → List ℕ
grown p rec b = over (laid_out p (node_of b) (insert_record rec (records_of p b))) b

-- ---- what the functions say
-- a book is its own records laid out over it: so is every good book of bytes
abbrev pub Itself : Plan → List ℕ → Type 0
Itself p b = b ≡ over (laid_out p (node_of b) (records_of p b)) b

-- a good book's header
abbrev pub shape_in : Plan → List ℕ → Option Book
shape_in p b = cond (good_book p b) (Some (book_in p b)) None

-- the verdict on a book's shape
pub record Checked (p : Plan) (b : List ℕ) (s : Option Book) : Type 0 where
  pub is : s ≡ shape_in p b
  pub laid : good_book p b ≡ true → Itself p b
  pub small : count_of b < 65536

-- the records that k is the header of lie within b and rise strictly
pub record Holds (k : Book) (b : List ℕ) : Type 0 where
  pub low : fixed ≤ k.head
  pub small : k.count < 65536
  pub long : 40 ≤ k.each
  pub inside : used_in k ≤ length b
  pub rise : rising (records_in k b) ≡ true

-- k is the header of b, a good book of a plan
pub record Sound (p : Plan) (k : Book) (b : List ℕ) : Type 0 where
  pub is : k ≡ book_in p b
  pub good : good_book p b ≡ true
  pub laid : Itself p b
  pub small : k.count < 65536
