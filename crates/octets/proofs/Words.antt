-- What the library's bytes of a number and comparisons of slices are in the words of `octets/specs/Bytes`. Assumes nothing.
use Prim.Native.Nat.{ℕ, suc, ◌+◌, ◌-◌, ◌≤◌, ◌<◌}
use mathlib.Core.Path.{◌≡◌, refl, sym, ap, ◌∙◌}
use mathlib.Core.Bool.{Bool, true, false, cond, ◌&&◌}
use mathlib.Core.List.{List, [], ◌∷◌}
use mir.Syntax.{w64}
use native.Mathlib.Nat.{div-div-eq-div-mul}
use native.Mathlib.Numerals.{add-one}
use native.Mathlib.Omega.{arith}
use borrow.Author.Tests.{lt-ltb, le-ltb, ltb-true, ltb-false}
use lib.Dec.{eqb, ltb}
use lib.ListN.{length, get_or}
use lib.Pointwise.{pointwise}
use Rattle.std.specs.Int.{from_be_bytes, to_be_bytes}
use Rattle.octets.specs.Bytes.{part, num, num_from, be, be_onto, alike}
use Rattle.octets.proofs.Laws.{part_cons, part_snoc, num_snoc, length_part}
use Rattle.octets.proofs.Meaning.{Bytes, first_byte, bytes_part, part_add, num_append, part_zero}

-- ---- a word of 8 bytes
pub be_word : (x : ℕ) → to_be_bytes w64 x ≡ be 8 x
unfolding be be_onto
be_word x = simp div-div-eq-div-mul

word_num : (b0 b1 b2 b3 b4 b5 b6 b7 : ℕ) → let l = b0 ∷ b1 ∷ b2 ∷ b3 ∷ b4 ∷ b5 ∷ b6 ∷ b7 ∷ [] in from_be_bytes w64 l ≡ num l
unfolding num num_from
word_num b0 b1 b2 b3 b4 b5 b6 b7 = omega arith

part_more : (b : List ℕ) (at k n : ℕ) → at + k < length b → part b (at + k) (suc n) ≡ get_or b (at + k) 0 ∷ part b (at + (k + 1)) n
part_more b at k n h = part_cons b (at + k) n h ∙ ap (λ (i : ℕ). get_or b (at + k) 0 ∷ part b i n) (omega arith)

part_eight : (b : List ℕ) (at : ℕ) → at + 8 ≤ length b
    → part b at 8 ≡ get_or b at 0 ∷ get_or b (at + 1) 0 ∷ get_or b (at + 2) 0 ∷ get_or b (at + 3) 0
    ∷ get_or b (at + 4) 0 ∷ get_or b (at + 5) 0 ∷ get_or b (at + 6) 0 ∷ get_or b (at + 7) 0 ∷ []
part_eight b at h =
    rw (
      part_cons b at 7 (omega arith),
      ← add-one at,
      part_more b at 1 6 (omega arith),
      part_more b at 2 5 (omega arith),
      part_more b at 3 4 (omega arith),
      part_more b at 4 3 (omega arith),
      part_more b at 5 2 (omega arith),
      part_more b at 6 1 (omega arith),
      part_more b at 7 0 (omega arith),
      part_zero b (at + (7 + 1)),
    )

pub word_part : (b : List ℕ) (at x : ℕ) → at + 8 ≤ length b
    → x ≡ from_be_bytes w64 (get_or b at 0 ∷ get_or b (at + 1) 0 ∷ get_or b (at + 2) 0 ∷ get_or b (at + 3) 0
    ∷ get_or b (at + 4) 0 ∷ get_or b (at + 5) 0 ∷ get_or b (at + 6) 0 ∷ get_or b (at + 7) 0 ∷ [])
    → x ≡ num (part b at 8)
word_part b at x h e = e ∙ word_num _ _ _ _ _ _ _ _ ∙ ap num (sym (part_eight b at h))

-- ---- equality
pub same_bytes : (a b : List ℕ) → pointwise eqb a b ≡ alike a b
unfolding alike
same_bytes [] [] = refl
same_bytes [] (y ∷ b) = refl
same_bytes (x ∷ a) [] = refl
same_bytes (x ∷ a) (y ∷ b) = go (eqb x y) (same_bytes a b)
  where
    go : (t : Bool) → pointwise eqb a b ≡ alike a b → (t && pointwise eqb a b) ≡ cond t (alike a b) false
    go true h = h
    go false h = refl

-- ---- order: two lists with an equal start, and the first bytes after it
less_split : (a b : List ℕ) (i j n k : ℕ) → k < n → i + n ≤ length a → j + n ≤ length b → Bytes a → num (part a i k) ≡ num (part b j k)
    → get_or a (i + k) 0 < get_or b (j + k) 0 → num (part a i n) < num (part b j n)
less_split a b i j n k h p q ba e t =
    let m : ℕ = n - suc k in
    let z : n ≡ k + suc m = omega arith in
    let ca : part a (i + k) (suc m) ≡ get_or a (i + k) 0 ∷ part a (suc (i + k)) m = part_cons a (i + k) m (omega arith) in
    let cb : part b (j + k) (suc m) ≡ get_or b (j + k) 0 ∷ part b (suc (j + k)) m = part_cons b (j + k) m (omega arith) in
    let la : length (part a (suc (i + k)) m) ≡ m = length_part a (suc (i + k)) m (omega arith) in
    let lb : length (part b (suc (j + k)) m) ≡ m = length_part b (suc (j + k)) m (omega arith) in
    let f : num (part a (i + k) (suc m)) < num (part b (j + k) (suc m)) =
    rw (ca, cb) (first_byte (get_or a (i + k) 0) (get_or b (j + k) 0) (part a (suc (i + k)) m) (part b (suc (j + k)) m) t (la ∙ sym lb) (bytes_part a (suc (i + k)) m ba)) in
    let sa : length (part a (i + k) (suc m)) ≡ suc m = length_part a (i + k) (suc m) (omega arith) in
    let sb : length (part b (j + k) (suc m)) ≡ suc m = length_part b (j + k) (suc m) (omega arith) in
    rw (z, part_add a i k (suc m), part_add b j k (suc m), num_append (part a i k), num_append (part b j k), sa, sb, e) (omega arith)

pub less_more : (a b : List ℕ) (i j k : ℕ) → i + k < length a → j + k < length b → num (part a i k) ≡ num (part b j k)
    → get_or a (i + k) 0 ≡ get_or b (j + k) 0 → num (part a i (k + 1)) ≡ num (part b j (k + 1))
less_more a b i j k h p e z = rw (add-one, part_snoc a i k h, part_snoc b j k p, num_snoc, num_snoc, e, z)

pub less_here : (a b : List ℕ) (i j n k : ℕ) → k < n → i + n ≤ length a → j + n ≤ length b → Bytes a → Bytes b → num (part a i k) ≡ num (part b j k)
    → (get_or a (i + k) 0 ≡ get_or b (j + k) 0 → ⊥) → ltb (get_or a (i + k) 0) (get_or b (j + k) 0) ≡ ltb (num (part a i n)) (num (part b j n))
less_here a b i j n k h p q ba bb e z = go (ltb (get_or a (i + k) 0) (get_or b (j + k) 0)) refl
  where
    go : (t : Bool) → ltb (get_or a (i + k) 0) (get_or b (j + k) 0) ≡ t → t ≡ ltb (num (part a i n)) (num (part b j n))
    go true l = sym (lt-ltb _ _ (less_split a b i j n k h p q ba e (ltb-true _ _ l)))
    go false l =
        let d : get_or b (j + k) 0 < get_or a (i + k) 0 = omega (arith, ltb-false _ _ l, z) in
        let f = less_split b a j i n k h q p bb (sym e) d in
        sym (le-ltb (num (part a i n)) (num (part b j n)) (omega arith))
