-- Document 01, "Fragments": an item of m runs of F bytes as fragments, numbered from 0, over the field of FIPS 197.
--   eval cs x              the value at x of the polynomial with the coefficients cs, lowest first
--   Column                 the polynomial that the document takes for one byte position of an item
--   value ps f x           the value at x of the polynomial of degree below the number of points ps that is f p at each point p
--   fragment m F item k    fragment k
--   regenerated            fragment x, from those of the points qs that lie in the slots of a buffer
--   laid                   a buffer with the first n fragments so regenerated, each in its slot
--   encoded                a buffer with the first n fragments of an item, each in its slot
-- That the polynomial exists, is the only one, and is the one evaluated, and that any m fragments give the item, stands in
-- proofs/Theorems.antt. Assumes nothing.
use Rattle.std.specs.Prelude.{◌≡◌, List, [], ◌∷◌, Bool, true, false, cond, ℕ, zero, suc, ◌+◌, ◌*◌, ◌≤◌, ◌<◌, eqb, ltb, length, get_or}
use Rattle.std.specs.Int.Bits.{bit_xor}
use Rattle.octets.specs.Bytes.{part, put, Octets}
use Rattle.field.specs.Field.{mul, div}
use Rattle.terms.specs.declared.Slots.{Slots}
use Rattle.terms.specs.Terms.{fragment_at}

-- ---- lists
-- P holds of every element; no number stands in a list twice
abbrev pub All : (ℕ → Type 0) → List ℕ → Type 0
All P [] = Unit {0}
All P (x ∷ xs) = P x × All P xs

abbrev pub Distinct : List ℕ → Type 0
Distinct [] = Unit {0}
Distinct (x ∷ xs) = All (λ (y : ℕ). x ≡ y → ⊥) xs × Distinct xs

-- whether x is one of a list
unfoldable pub among : ℕ → List ℕ → Bool
among x [] = false
among x (y ∷ ys) = cond (eqb y x) true (among x ys)

-- a, a + 1, .., n numbers; f 0, f 1, .., n numbers
unfoldable pub from : ℕ → ℕ → List ℕ
from a zero = []
from a (suc n) = a ∷ from (suc a) n

unfoldable pub tabulate : ℕ → (ℕ → ℕ) → List ℕ
tabulate zero f = []
tabulate (suc n) f = f zero ∷ tabulate n (λ i. f (suc i))

-- ---- polynomials
unfoldable pub eval : List ℕ → ℕ → ℕ
eval [] x = 0
eval (c ∷ cs) x = bit_xor c (mul x (eval cs x))

-- "For each byte position, take the one polynomial of degree below m whose value at point i is that byte of fragment i, for i < m"
pub record Column (m F : ℕ) (item : List ℕ) (i : ℕ) (cs : List ℕ) : Type 0 where
  pub degree : length cs ≤ m
  pub octets : Octets cs
  pub passes : (j : ℕ) → j < m → eval cs j ≡ get_or item (j * F + i) 0

-- (x + q) / (p + q), and 1 where p is q
unfoldable pub ratio : ℕ → ℕ → ℕ → ℕ
ratio x p q = cond (eqb p q) 1 (div (bit_xor x q) (bit_xor p q))

-- the product of the ratios over the points qs: 1 at x = p, and 0 at every other point of qs
unfoldable pub weight_of : List ℕ → ℕ → ℕ → ℕ
weight_of [] x p = 1
weight_of (q ∷ qs) x p = mul (ratio x p q) (weight_of qs x p)

-- the sum over the points ps of f p times its weight
unfoldable pub blend : List ℕ → ℕ → (ℕ → ℕ) → List ℕ → ℕ
blend qs x f [] = 0
blend qs x f (p ∷ ps) = bit_xor (mul (weight_of qs x p) (f p)) (blend qs x f ps)

unfoldable pub value : List ℕ → (ℕ → ℕ) → ℕ → ℕ
value ps f x = blend ps x f ps

-- ---- fragments
-- the m runs in order; from m on, for each byte position, the value at point k
unfoldable pub fragment : ℕ → ℕ → List ℕ → ℕ → List ℕ
fragment m F item k =
    cond (ltb k m) (part item (k * F) F) (tabulate F (λ i. value (from 0 m) (λ j. get_or item (j * F + i) 0) k))

-- itself where it is among the sources, else the value at x
unfoldable pub regenerated : List ℕ → Slots → List ℕ → ℕ → List ℕ
regenerated src s qs x =
    cond (among x qs) (part src (fragment_at s x) s.fragment) (tabulate s.fragment (λ i. value qs (λ p. get_or src (fragment_at s p + i) 0) x))

-- every source lies within the buffer
abbrev pub Sources : List ℕ → Slots → List ℕ → Type 0
Sources src s qs = (k : ℕ) → k < length qs → fragment_at s (get_or qs k 0) + s.fragment ≤ length src

-- the fragments of the first n slots lie within the buffer
abbrev pub Room : Slots → ℕ → List ℕ → Type 0
Room s n out = (k : ℕ) → k < n → fragment_at s k + s.fragment ≤ length out

-- fragments in the slots s, to slots of fragments as long
unfoldable pub laid : List ℕ → Slots → List ℕ → Slots → ℕ → List ℕ → List ℕ
laid src s qs to zero out = out
laid src s qs to (suc k) out = put (laid src s qs to k out) (fragment_at to k) (regenerated src s qs k)

-- an item of m runs
unfoldable pub encoded : ℕ → List ℕ → Slots → ℕ → List ℕ → List ℕ
encoded m item to zero desk = desk
encoded m item to (suc k) desk = put (encoded m item to k desk) (fragment_at to k) (fragment m to.fragment item k)
