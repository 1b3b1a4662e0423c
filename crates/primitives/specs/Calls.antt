-- What the calls of this crate answer. A call that is lent the right lengths answers 0 and gives its buffer new bytes; any other answers
-- 2, "a lent length is wrong" (document 01, "Refusal numbers"), and its buffer stays. Numbers of fragments and their length F are held to
-- the ranges of the document's section "The plan": they are right or wrong together with the lengths.
--   Told fits new r before after    the number r, and the bytes of the buffer after the call, where `before` was in it
--   hash_fits p s out                the lengths of a hash: FIPS 180-4 hashes fewer than 2^64 bits, into 32 bytes
--   runs_fit count F bytes           a buffer of exactly count runs of F bytes
--   hashes_fit count H F heads s out  the lengths of count messages, each H bytes of heads and F bytes of s, and of their hashes
--   messages H F count              these messages
--   encode_fits n m F item desk      the lengths of an encoding of m runs into n fragments
--   apart F desk p ps               node p's fragment lies within the desk, and p is not named again in ps
--   named F desk nodes              so it is with every node of a list
--   decode_fits m F nodes desk item  the lengths of a decoding from the fragments of m nodes
-- Assumes nothing.
use Rattle.std.specs.Prelude.{ℕ, ◌+◌, ◌*◌, ◌^◌, ◌≡◌, List, [], ◌∷◌, Bool, true, false, not, cond, length, ltb, leb, eqb}
use Rattle.terms.specs.Ladder.{all}
use Rattle.lanes.specs.declared.Batch.{Batch}
use Rattle.fragments.specs.Fragments.{among}

pub record Told (fits : Bool) (new : List ℕ) (r : ℕ) (before after : List ℕ) : Type 0 where
  pub number : r ≡ cond fits 0 2
  pub bytes : after ≡ cond fits new before

unfoldable pub hash_fits : ℕ → ℕ → ℕ → Bool
hash_fits p s out = all (ltb (p + s) (2 ^ 61) ∷ eqb out 32 ∷ [])

unfoldable pub runs_fit : ℕ → ℕ → ℕ → Bool
runs_fit count F bytes = all (leb 1 count ∷ leb count 16 ∷ leb 1 F ∷ leb F 1024 ∷ eqb bytes (count * F) ∷ [])

unfoldable pub hashes_fit : ℕ → ℕ → ℕ → ℕ → ℕ → ℕ → Bool
hashes_fit count H F heads s out = all (runs_fit count F s ∷ runs_fit count 32 out ∷ leb H 16 ∷ eqb heads (count * H) ∷ [])

abbrev pub messages : ℕ → ℕ → ℕ → Batch
messages H F count = record { heads = record { first = 0; stride = H; size = H }; bodies = record { first = 0; stride = F; size = F }; n = count }

unfoldable pub encode_fits : ℕ → ℕ → ℕ → ℕ → ℕ → Bool
encode_fits n m F item desk = all (leb m n ∷ runs_fit m F item ∷ runs_fit n F desk ∷ [])

unfoldable pub apart : ℕ → ℕ → ℕ → List ℕ → Bool
apart F desk p ps = all (ltb p 16 ∷ leb (p * F + F) desk ∷ not (among p ps) ∷ [])

unfoldable pub named : ℕ → ℕ → List ℕ → Bool
named F desk [] = true
named F desk (p ∷ ps) = cond (apart F desk p ps) (named F desk ps) false

unfoldable pub decode_fits : ℕ → ℕ → List ℕ → ℕ → ℕ → Bool
decode_fits m F nodes desk item = all (eqb (length nodes) m ∷ runs_fit m F item ∷ named F desk nodes ∷ [])
