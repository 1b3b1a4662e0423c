-- The turns of the book's loops, and the sizes that its functions meet. Assumes nothing.
use mathlib.Core.Path.{◌≡◌, refl, sym, ap, subst, ◌∙◌}
use mathlib.Core.Bool.{Bool, true, false}
use Prim.Native.Nat.{ℕ, zero, suc, ◌+◌, ◌-◌, ◌*◌, ◌≤◌, ◌<◌}
use mathlib.Core.List.{List, [], ◌∷◌}
use native.Mathlib.Nat.{add-zero, zero-add, sub-zero, suc-mul, zero-mul, mul-le-mul}
use native.Mathlib.Omega.{arith}
use borrow.Author.Tests.{le-leb, lt-leb}
use lib.Dec.{ltb, leb}
use mathlib.Core.Bool.{cond}
use Rattle.terms.specs.Ladder.{◌and◌}
use Rattle.terms.specs.Stamp.{stamp, time}
use Rattle.octets.specs.Bytes.{part, num}
use Rattle.octets.proofs.Laws.{part_part}
use Rattle.book.specs.Records.{timed, rising, above, below}
use Rattle.book.specs.Book.{records_from}

-- ---- sizes
pub next : (j r : ℕ) → (j + 1) * r ≡ j * r + r
next j r = let q : j + 1 ≡ suc j = omega arith in rw q (suc-mul j r)

pub mul_small : (a r : ℕ) → a < 65536 → r ≤ 1576 → a * r ≤ 103283160
mul_small a r h k = let g : a ≤ 65535 = omega arith in mul-le-mul g k

pub times : {a b c d : ℕ} → a ≡ b → c ≡ d → a * c ≡ b * d
times p q = λ k. p k * q k

-- a part at the start of a record is one of the book
pub start : (b : List ℕ) (at r n : ℕ) → n ≤ r → part (part b at r) 0 n ≡ part b at n
start b at r n h = part_part b at r 0 n (omega arith) ∙ rw add-zero

-- ---- loops: m records of r bytes from h on, of which those from record k on are left
abbrev pub left : List ℕ → ℕ → ℕ → ℕ → ℕ → List (List ℕ)
left b r h m k = records_from b r (m - k) (h + k * r)

pub left_all : (b : List ℕ) (r h m : ℕ) → records_from b r m h ≡ left b r h m 0
left_all b r h m = rw (sub-zero, zero-mul, add-zero)

module _ (b : List ℕ) (r h m : ℕ) (l : 40 ≤ r) where
  -- the next of them, and the rest
  pub left_next : (k : ℕ) → k < m → left b r h m k ≡ part b (h + k * r) r ∷ left b r h m (k + 1)
  unfolding records_from
  left_next k lt =
      let q : m - k ≡ suc (m - (k + 1)) = omega arith in
      let p : h + (k + 1) * r ≡ h + k * r + r = omega (arith, next k r) in
      rw (q, p)

  left_none : (k : ℕ) → m ≤ k → left b r h m k ≡ []
  unfolding records_from
  left_none k le = let q : m - k ≡ 0 = omega arith in rw q

  first_stamp : (k : ℕ) → stamp (part b (h + k * r) r) ≡ num (part b (h + k * r) 40)
  first_stamp k = ap num (start b (h + k * r) r 40 l)

  module _ (a : Bool) (k : ℕ) where
    abbrev here : ℕ
    here = h + k * r

    timed_at : k < m → timed (left b r h m k) ≡ leb 1 (num (part b here 8)) and timed (left b r h m (k + 1))
    unfolding timed
    timed_at lt = ap timed (left_next k lt) ∙ rw (start b here r 8 (omega arith))

    pub timed_on : k < m → 1 ≤ num (part b here 8) → a ≡ timed (left b r h m k) → a ≡ timed (left b r h m (k + 1))
    timed_on lt t e = e ∙ timed_at lt ∙ rw (le-leb 1 (num (part b here 8)) t)

    pub timed_stop : k < m → num (part b here 8) < 1 → a ≡ timed (left b r h m k) → false ≡ a
    timed_stop lt t e = sym (e ∙ timed_at lt ∙ rw (lt-leb 1 (num (part b here 8)) t))

    pub timed_end : m ≤ k → a ≡ timed (left b r h m k) → true ≡ a
    unfolding timed
    timed_end le e = sym (e ∙ ap timed (left_none k le))

    rising_at : k + 1 < m → rising (left b r h m k) ≡ ltb (num (part b here 40)) (num (part b (here + r) 40)) and rising (left b r h m (k + 1))
    unfolding rising above
    rising_at lt =
        let p : h + (k + 1) * r ≡ here + r = omega (arith, next k r) in
        ap rising (left_next k (omega arith) ∙ ap (λ (x : List (List ℕ)). part b here r ∷ x) (left_next (k + 1) lt))
        ∙ rw (first_stamp k, first_stamp (k + 1), left_next (k + 1) lt, first_stamp (k + 1), p)

    -- k + 1 is the next one's number, i
    module _ (i : ℕ) (n : k + 1 ≡ i) where
      pub rising_on : i < m → ltb (num (part b here 40)) (num (part b (here + r) 40)) ≡ true → a ≡ rising (left b r h m k) → a ≡ rising (left b r h m i)
      rising_on lt t e = subst (λ (x : ℕ). a ≡ rising (left b r h m x)) n (e ∙ rising_at (omega arith) ∙ rw t)

      pub rising_stop : i < m → ltb (num (part b here 40)) (num (part b (here + r) 40)) ≡ false → a ≡ rising (left b r h m k) → false ≡ a
      rising_stop lt t e = sym (e ∙ rising_at (omega arith) ∙ rw t)

    pub rising_end : m ≤ k + 1 → a ≡ rising (left b r h m k) → true ≡ a
    unfolding rising above records_from
    rising_end le e = sym (e ∙ short (m - k) (omega arith))
      where
        short : (n : ℕ) → n ≤ 1 → rising (records_from b r n here) ≡ true
        short zero z = refl
        short (suc zero) z = refl
        short (suc (suc n)) z = absurd (omega arith)

  -- a is the number that is looked for
  module _ (s a : ℕ) (k : ℕ) where
    below_at : k < m → below s (left b r h m k) ≡ cond (ltb (num (part b (h + k * r) 40)) s) (suc (below s (left b r h m (k + 1)))) 0
    unfolding below
    below_at lt = ap (below s) (left_next k lt) ∙ rw (first_stamp k)

    pub place_on : k < m → ltb (num (part b (h + k * r) 40)) s ≡ true → a ≡ k + below s (left b r h m k) → a ≡ k + 1 + below s (left b r h m (k + 1))
    place_on lt t e = e ∙ ap (λ (x : ℕ). k + x) (below_at lt) ∙ rw t (omega arith)

    pub place_stop : k < m → ltb (num (part b (h + k * r) 40)) s ≡ false → a ≡ k + below s (left b r h m k) → k ≡ a
    place_stop lt t e = sym (e ∙ ap (λ (x : ℕ). k + x) (below_at lt) ∙ rw t (omega arith))

    pub place_end : m ≤ k → a ≡ k + below s (left b r h m k) → k ≡ a
    unfolding below
    place_end le e = sym (e ∙ ap (λ (x : List (List ℕ)). k + below s x) (left_none k le) ∙ omega arith)
