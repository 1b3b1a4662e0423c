-- Laws of `part` and `put`. Assumes nothing.
use mathlib.Core.Path.{◌≡◌, refl, sym, ap, ◌∙◌, subst}
use mathlib.Core.List.{List, [], ◌∷◌, ◌++◌, append_assoc}
use Prim.Native.Nat.{ℕ, zero, suc, ◌+◌, ◌-◌, ◌*◌, ◌≤◌, ◌<◌, ◌^◌, ◌/◌, ◌%◌}
use native.Mathlib.Nat.{zero-add, add-zero, add-suc, suc-add, add_assoc, pow-suc, pow-le-pow_right, mul-le-mul_right, suc-mul}
use native.Mathlib.Numerals.{add-one}
use native.Mathlib.Omega.{arith}
use lib.ListN.{length, take, drop, get_or, set, length-append, length-take, length-drop, take-append-drop}
use lib.Seq.{take-suc, drop-cons, set_at, length-take-le, get_or-drop, take_at, drop_at, take-length, take-append-le, drop-append-le, take-take, drop-drop, take-nil, drop-append-add, take_all}
use Rattle.octets.specs.Bytes.{part, put, num, num_from, be, be_onto}
use lib.Dec.{lit<}

pub length_part : (l : List ℕ) (at n : ℕ) → at + n ≤ length l → length (part l at n) ≡ n
unfolding part
length_part l at n h = simp (length-take, length-drop) (omega arith)

pub length_put : (l : List ℕ) (at : ℕ) (s : List ℕ) → at + length s ≤ length l → length (put l at s) ≡ length l
unfolding put
length_put l at s h = simp (length-append, length-take, length-drop) (omega arith)

pub put_nil : (l : List ℕ) (at : ℕ) → put l at [] ≡ l
unfolding put
put_nil l at = rw add-zero (take-append-drop at l)

-- a store just before what was put
pub put_cons : (l : List ℕ) (at : ℕ) (s : List ℕ) (v : ℕ) → at < length l → set (put l (suc at) s) at v ≡ put l at (v ∷ s)
unfolding put
put_cons l at s v h =
    rw (take-suc l at 0, append_assoc, set_at (take at l) (get_or l at 0) (s ++ drop (suc at + length s) l) v at (length-take-le at l (omega arith)), suc-add, add-suc)

-- a store just after what was put
pub put_snoc : (l : List ℕ) (at : ℕ) (s : List ℕ) (v : ℕ) → at + length s < length l → set (put l at s) (at + length s) v ≡ put l at (s ++ (v ∷ []))
unfolding put
put_snoc l at s v h =
    rw (
      drop-cons l (at + length s) 0,
      ← append_assoc,
      set_at (take at l ++ s) _ _ v (at + length s) (simp (length-append, length-take) (omega arith)),
    )
    (simp (length-append, append_assoc, add-one, add-suc))

pub part_snoc : (l : List ℕ) (at n : ℕ) → at + n < length l → part l at (suc n) ≡ part l at n ++ (get_or l (at + n) 0 ∷ [])
unfolding part
part_snoc l at n h = take-suc (drop at l) n 0 (simp length-drop (omega arith)) ∙ rw get_or-drop

pub part_cons : (l : List ℕ) (at n : ℕ) → at < length l → part l at (suc n) ≡ get_or l at 0 ∷ part l (suc at) n
unfolding part
part_cons l at n h = rw (drop-cons l at 0)

-- a loop that copies upwards: its start, and its turn
pub copy_start : (d s : List ℕ) (at from : ℕ) → d ≡ put d at (part s from 0)
unfolding part
copy_start d s at from = sym (put_nil d at)

pub copy_turn : (d d₀ s : List ℕ) (at from i : ℕ) → at + i < length d₀ → from + i < length s → d ≡ put d₀ at (part s from i)
    → set d (at + i) (get_or s (from + i) 0) ≡ put d₀ at (part s from (i + 1))
copy_turn d d₀ s at from i hd hs e =
    let l : length (part s from i) ≡ i = length_part s from i (omega arith) in
    rw (e, add-one, part_snoc s from i hs, ← put_snoc d₀ at (part s from i) (get_or s (from + i) 0) (rw l hd), l)

-- ---- numbers
num_from_append : (a : ℕ) (l : List ℕ) (x : ℕ) → num_from a (l ++ (x ∷ [])) ≡ num_from a l * 256 + x
unfolding num_from
num_from_append a [] x = refl
num_from_append a (y ∷ l) x = num_from_append (a * 256 + y) l x

pub num_snoc : (l : List ℕ) (x : ℕ) → num (l ++ (x ∷ [])) ≡ num l * 256 + x
unfolding num
num_snoc l x = num_from_append 0 l x

pub get_turn : (b : List ℕ) (at i x : ℕ) → at + i < length b → x ≡ num (part b at i) → x * 256 + get_or b (at + i) 0 ≡ num (part b at (i + 1))
get_turn b at i x h e = rw (add-one, part_snoc b at i h, num_snoc, e)

pub room : (x i : ℕ) → i < 8 → x < 256 ^ i → x * 256 + 256 ≤ 2 ^ 64
room x i h k =
    let p : 256 ^ suc i ≤ 256 ^ 8 = pow-le-pow_right (lit< tt) h in
    let q : suc x * 256 ≤ 256 ^ i * 256 = mul-le-mul_right 256 k in
    omega (arith, simp pow-suc at p)

pub room_more : (x i y : ℕ) → x < 256 ^ i → y < 256 → x * 256 + y < 256 ^ (i + 1)
room_more x i y h k =
    let q : suc x * 256 ≤ 256 ^ i * 256 = mul-le-mul_right 256 h in
    rw (add-one, pow-suc) (omega arith)

-- b is b₀ with the bytes s of x put from at + i to at + n, and y is what is left to put
pub record Putting (b₀ b : List ℕ) (at n x i y : ℕ) : Type 0 where
  pub s : List ℕ
  pub now : b ≡ put b₀ (at + i) s
  pub rest : be_onto i y s ≡ be n x

pub putting_start : (b : List ℕ) (at n x : ℕ) → Putting b b at n x n x
unfolding be
putting_start b at n x = record { s = []; now = sym (put_nil b (at + n)); rest = refl }

pub putting_turn : (b₀ b : List ℕ) (at n x i y : ℕ) → 0 < i → i ≤ n → at + n ≤ length b₀ → Putting b₀ b at n x i y
    → Putting b₀ (set b (at + (i - 1)) (y % 256)) at n x (i - 1) (y / 256)
unfolding be_onto
putting_turn b₀ b at n x i y h k r P =
    let p : at + i ≡ suc (at + (i - 1)) = omega arith in
    let q : i ≡ suc (i - 1) = omega arith in
    record {
      s = y % 256 ∷ P.s;
      now = rw (P.now, p) (put_cons b₀ (at + (i - 1)) P.s (y % 256) (omega arith));
      rest = subst (λ (m : ℕ). be_onto m y P.s ≡ be n x) q P.rest;
    }

pub putting_done : (b₀ b : List ℕ) (at n x y i : ℕ) → i ≡ 0 → Putting b₀ b at n x i y → b ≡ put b₀ at (be n x)
unfolding be_onto
putting_done b₀ b at n x y i z P = P.now ∙ rw (z, add-zero, subst (λ (m : ℕ). be_onto m y P.s ≡ be n x) z P.rest)

-- ---- comparing
pub part_all : (l : List ℕ) → part l 0 (length l) ≡ l
unfolding part
part_all l = take-length l

length_be_onto : (n x : ℕ) (s : List ℕ) → length (be_onto n x s) ≡ n + length s
unfolding be_onto
length_be_onto zero x s = sym (zero-add (length s))
length_be_onto (suc n) x s = length_be_onto n (x / 256) (x % 256 ∷ s) ∙ rw (add-suc, suc-add)

pub length_be : (n x : ℕ) → length (be n x) ≡ n
unfolding be
length_be n x = length_be_onto n x [] ∙ add-zero n

pub put_is : (l : List ℕ) (at : ℕ) (s : List ℕ) → put l at s ≡ take at l ++ (s ++ drop (at + length s) l)
unfolding put
put_is l at s = refl

-- what was lent as n bytes from at on came back as s
pub put_lent : (l : List ℕ) (at n : ℕ) (s : List ℕ) → length s ≡ n → take at l ++ (s ++ drop n (drop at l)) ≡ put l at s
unfolding put
put_lent l at n s e = rw (← e, drop-drop (length s) at l)

-- n bytes from another place of the list
pub put_within : (l : List ℕ) (from n at : ℕ) → from + n ≤ length l → take at l ++ take n (drop from l) ++ drop (at + n) l ≡ put l at (part l from n)
unfolding put part
put_within l from n at h = rw (length_part l from n h) (append_assoc (take at l) (take n (drop from l)) (drop (at + n) l))

-- ---- put and put, put and append
pub put_left : (x y : List ℕ) (at : ℕ) (s : List ℕ) → at + length s ≤ length x → put (x ++ y) at s ≡ put x at s ++ y
unfolding put
put_left x y at s h = rw (take-append-le at x y (omega arith), drop-append-le (at + length s) x y h) (simp append_assoc)

-- s put right before t
pub put_put : (l : List ℕ) (at : ℕ) (s t : List ℕ) → at + length s ≤ length l → put (put l (at + length s) t) at s ≡ put l at (s ++ t)
unfolding put
put_put l at s t h =
    let k : at ≤ at + length s = omega arith in
    let e : length (take (at + length s) l) ≡ at + length s = length-take-le (at + length s) l h in
    rw (
      take-append-le at (take (at + length s) l) (t ++ drop (at + length s + length t) l) (omega arith),
      take-take at (at + length s) l k,
      drop_at (take (at + length s) l) (t ++ drop (at + length s + length t) l) (at + length s) e,
    )
    (simp (length-append, append_assoc, ← add_assoc))

-- ---- a part of a part
drop_take : (p k : ℕ) (m : List ℕ) → drop p (take (p + k) m) ≡ take k (drop p m)
drop_take zero k m = rw zero-add
drop_take (suc p) k [] = rw suc-add (sym (take-nil k))
drop_take (suc p) k (x ∷ m) = rw suc-add (drop_take p k m)

pub part_part : (l : List ℕ) (a k p n : ℕ) → p + n ≤ k → part (part l a k) p n ≡ part l (a + p) n
unfolding part
part_part l a k p n h =
    let e : k ≡ p + (k - p) = omega arith in
    rw (e, drop_take p (k - p) (drop a l), take-take n (k - p) (drop p (drop a l)) (omega arith), drop-drop p a l)

-- ---- a part read after a put: the same place, before it, after it
pub part_put_same : (l : List ℕ) (at : ℕ) (s : List ℕ) (n : ℕ) → length s ≡ n → at ≤ length l → part (put l at s) at n ≡ s
unfolding part put
part_put_same l at s n e h = rw (drop_at (take at l) (s ++ drop (at + length s) l) at (length-take-le at l h)) (take_at s (drop (at + length s) l) n e)

pub part_put_before : (l : List ℕ) (at : ℕ) (s : List ℕ) (a n : ℕ) → a + n ≤ at → at ≤ length l → part (put l at s) a n ≡ part l a n
unfolding part put
part_put_before l at s a n h k =
    let e : length (take at l) ≡ at = length-take-le at l k in
    let d : length (drop a (take at l)) ≡ at - a = simp length-drop (omega arith) in
    rw (drop-append-le a (take at l) (s ++ drop (at + length s) l) (omega arith), take-append-le n (drop a (take at l)) (s ++ drop (at + length s) l) (omega arith))
    (part_part l 0 at a n h ∙ rw zero-add)

pub part_put_after : (l : List ℕ) (at : ℕ) (s : List ℕ) (a n : ℕ) → at + length s ≤ a → at + length s ≤ length l → part (put l at s) a n ≡ part l a n
unfolding part put
part_put_after l at s a n h k =
    let e : length (take at l ++ s) ≡ at + length s = simp (length-append, length-take) (omega arith) in
    let m : ℕ = a - (at + length s) in
    let f : a ≡ length (take at l ++ s) + m = omega arith in
    let g : at + length s + m ≡ a = omega arith in
    let q : drop a (take at l ++ (s ++ drop (at + length s) l)) ≡ drop a l =
    rw (← append_assoc) (ap (λ (j : ℕ). drop j (take at l ++ s ++ drop (at + length s) l)) f ∙ drop-append-add (take at l ++ s) (drop (at + length s) l) m ∙ drop-drop m (at + length s) l ∙ rw g) in
    rw q

-- t put right after s
pub put_then : (l : List ℕ) (at q : ℕ) (s t : List ℕ) → at + length s ≡ q → at ≤ length l → put (put l at s) q t ≡ put l at (s ++ t)
unfolding put
put_then l at q s t z h =
    let a : List ℕ = take at l ++ s in
    let r : List ℕ = drop (at + length s) l in
    let n : length a ≡ at + length s = simp (length-append, length-take) (omega arith) in
    let k : take (at + length s) (a ++ r) ≡ a = take_at a r (at + length s) n in
    let d : drop (at + length s + length t) (a ++ r) ≡ drop (at + length s + length t) l =
    ap (λ (j : ℕ). drop (j + length t) (a ++ r)) (sym n) ∙ drop-append-add a r (length t) ∙ drop-drop (length t) (at + length s) l in
    rw (← z, ← append_assoc (take at l) s r, k, d) (simp (length-append, append_assoc, ← add_assoc))

-- what stands between x and z
pub part_middle : (l x y z : List ℕ) (at n : ℕ) → l ≡ x ++ (y ++ z) → length x ≡ at → length y ≡ n → part l at n ≡ y
unfolding part
part_middle l x y z at n e a b = rw (e, drop_at x (y ++ z) at a) (take_at y z n b)

-- ---- parts of two lists, one after the other
pub part_left : (x y : List ℕ) (at n : ℕ) → at + n ≤ length x → part (x ++ y) at n ≡ part x at n
unfolding part
part_left x y at n h = rw (drop-append-le at x y (omega arith), take-append-le n (drop at x) y (simp length-drop (omega arith)))

pub part_past : (x y : List ℕ) (at k n : ℕ) → length x ≡ at → part (x ++ y) (at + k) n ≡ part y k n
unfolding part
part_past x y at k n a = rw (← a, drop-append-add x y k)

pub part_first : (x y : List ℕ) (n : ℕ) → length x ≡ n → part (x ++ y) 0 n ≡ x
unfolding part
part_first x y n e = take_at x y n e

pub part_last : (x y : List ℕ) (at n : ℕ) → length x ≡ at → length y ≡ n → part (x ++ y) at n ≡ y
unfolding part
part_last x y at n a b = rw (drop_at x y at a) (take_all n y (omega arith))

-- ---- slots
-- slot k of n slots of r bytes lies within them, and within what holds them
pub slot_fits : (k n r : ℕ) → k < n → k * r + r ≤ n * r
slot_fits k n r h = rw (← suc-mul k r) (mul-le-mul_right r h)

pub slot_room : (k n r e : ℕ) → k < n → n * r ≤ e → k * r + r ≤ e
slot_room k n r e h l = omega (arith, slot_fits k n r h)
