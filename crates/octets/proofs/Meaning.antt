-- What `num`, `be`, `alike` and `over` mean: a number written is read back (num_be, be_part), byte order is number order
-- (first_byte; `less_here` of Words), n bytes are below 256 ^ n (part_small), alike is equality (alike_is, is_alike). Assumes nothing.
use Prim.{Unit, tt}
use mathlib.Core.Path.{◌≡◌, refl, sym, ap, ◌∙◌}
use mathlib.Core.Bool.{Bool, true, false, cond}
use mathlib.Core.List.{List, [], ◌∷◌, ◌++◌, append_assoc, append-nil}
use Prim.Native.Nat.{ℕ, zero, suc, ◌+◌, ◌-◌, ◌*◌, ◌≤◌, ◌<◌, ◌^◌, ◌/◌, ◌%◌}
use native.Mathlib.Nat.{zero-add, add-zero, add-suc, add_assoc, add-mul, mul_assoc, zero-mul, pow-suc, pow-succ', mul-le-mul_right, suc-mul, div-add-mod', le_of_eq, lt_of_lt_of_le, pow-le-pow_right, min-le_left}
use native.Mathlib.Omega.{arith}
use borrow.Author.Tests.{eq-eqb, eqb-true}
use lib.ListN.{length, take, drop, get_or, length-append, length-take, length-drop, drop_of_length-le}
use lib.Seq.{drop-append-add, take_at, drop-drop, get_or-drop, get_or-take, take-add}
use native.Mathlib.Numerals.{add-one}
use Rattle.octets.proofs.Laws.{part_snoc, num_snoc}
use lib.Dec.{eqb, lit<}
use Rattle.octets.specs.Bytes.{part, num, num_from, be, be_onto, alike, over, put, Octets}

-- every element is a byte
abbrev pub Bytes : List ℕ → Type 0
Bytes [] = Unit {0}
Bytes (x ∷ l) = (x < 256) × Bytes l

num_from_split : (a : ℕ) (l : List ℕ) → num_from a l ≡ a * 256 ^ length l + num_from 0 l
unfolding num_from
num_from_split a [] = omega arith
num_from_split a (x ∷ l) =
    let e : num_from (a * 256 + x) l ≡ (a * 256 + x) * 256 ^ length l + num_from 0 l = num_from_split (a * 256 + x) l in
    let g : num_from (0 + x) l ≡ (0 + x) * 256 ^ length l + num_from 0 l = num_from_split (0 + x) l in
    e ∙ rw (g, pow-succ', add-mul, zero-add, mul_assoc, add_assoc)

pub num_cons : (x : ℕ) (l : List ℕ) → num (x ∷ l) ≡ x * 256 ^ length l + num l
unfolding num num_from
num_cons x l = rw zero-add (num_from_split x l)

pub num_small : (l : List ℕ) → Bytes l → num l < 256 ^ length l
unfolding num num_from
num_small [] b = omega arith
num_small (x ∷ l) b =
    let q : suc x * 256 ^ length l ≤ 256 * 256 ^ length l = mul-le-mul_right (256 ^ length l) b.0 in
    let s : num l < 256 ^ length l = num_small l b.1 in
    rw (num_cons x l, pow-succ') (omega (arith, suc-mul x (256 ^ length l)))

-- the bytes of a number give the number
num_be_onto : (n x : ℕ) (s : List ℕ) → x < 256 ^ n → num (be_onto n x s) ≡ x * 256 ^ length s + num s
unfolding be_onto
num_be_onto zero x s h = let z : x ≡ 0 = omega arith in rw (z, zero-mul, zero-add)
num_be_onto (suc n) x s h =
    let g : x < 256 ^ n * 256 = rw pow-suc at h in
    let k : x / 256 < 256 ^ n = omega arith in
    let f : x * 256 ^ length s ≡ x / 256 * 256 * 256 ^ length s + x % 256 * 256 ^ length s =
    ap (λ (y : ℕ). y * 256 ^ length s) (sym (div-add-mod' x 256)) ∙ add-mul (x / 256 * 256) (x % 256) (256 ^ length s) in
    num_be_onto n (x / 256) (x % 256 ∷ s) k ∙ rw (num_cons, pow-succ') (omega (arith, f, mul_assoc (x / 256) 256 (256 ^ length s)))

pub num_be : (n x : ℕ) → x < 256 ^ n → num (be n x) ≡ x
unfolding be num num_from
num_be n x h = num_be_onto n x [] h ∙ omega arith

-- a greater first byte decides
pub first_byte : (x y : ℕ) (a b : List ℕ) → x < y → length a ≡ length b → Bytes a → num (x ∷ a) < num (y ∷ b)
first_byte x y a b h e p =
    let s : num a < 256 ^ length a = num_small a p in
    let q : suc x * 256 ^ length a ≤ y * 256 ^ length a = mul-le-mul_right (256 ^ length a) h in
    rw (num_cons x a, num_cons y b, ← e) (omega (arith, suc-mul x (256 ^ length a)))

-- ---- the number of two lists, one after the other
num_from_append2 : (a : ℕ) (p q : List ℕ) → num_from a (p ++ q) ≡ num_from (num_from a p) q
unfolding num_from
num_from_append2 a [] q = refl
num_from_append2 a (x ∷ p) q = num_from_append2 (a * 256 + x) p q

pub num_append : (p q : List ℕ) → num (p ++ q) ≡ num p * 256 ^ length q + num q
unfolding num
num_append p q = num_from_append2 0 p q ∙ num_from_split (num_from 0 p) q

pub part_add : (b : List ℕ) (at x y : ℕ) → part b at (x + y) ≡ part b at x ++ part b (at + x) y
unfolding part
part_add b at x y = rw (take-add, drop-drop)

bytes_take : (n : ℕ) (l : List ℕ) → Bytes l → Bytes (take n l)
bytes_take zero l p = tt
bytes_take (suc n) [] p = tt
bytes_take (suc n) (x ∷ l) p = (p.0, bytes_take n l p.1)

bytes_drop : (n : ℕ) (l : List ℕ) → Bytes l → Bytes (drop n l)
bytes_drop zero l p = p
bytes_drop (suc n) [] p = tt
bytes_drop (suc n) (x ∷ l) p = bytes_drop n l p.1

pub bytes_part : (l : List ℕ) (at n : ℕ) → Bytes l → Bytes (part l at n)
unfolding part
bytes_part l at n p = bytes_take n (drop at l) (bytes_drop at l p)

-- ---- every element a byte, by index and one by one
pub bytes_all : (l : List ℕ) → Octets l → Bytes l
bytes_all [] h = tt
bytes_all (x ∷ l) h = (h 0, bytes_all l (λ i. h (suc i)))

-- n bytes are a number below 256 ^ n
pub part_small : (l : List ℕ) (at n : ℕ) → Octets l → num (part l at n) < 256 ^ n
unfolding part
part_small l at n o =
    lt_of_lt_of_le (num_small (part l at n) (bytes_part l at n (bytes_all l o)))
    (pow-le-pow_right (lit< tt) (omega (arith, length-take n (drop at l), min-le_left n (length (drop at l)))))

pub octets_all : (l : List ℕ) → Bytes l → Octets l
octets_all [] b i = lit< tt
octets_all (x ∷ l) b zero = b.0
octets_all (x ∷ l) b (suc i) = octets_all l b.1 i

-- the bytes of a number are bytes
bytes_onto : (n x : ℕ) (s : List ℕ) → Bytes s → Bytes (be_onto n x s)
unfolding be_onto
bytes_onto zero x s b = b
bytes_onto (suc n) x s b = bytes_onto n (x / 256) (x % 256 ∷ s) (omega arith, b)

pub octets_be : (n x : ℕ) → Octets (be n x)
unfolding be
octets_be n x = octets_all (be n x) (bytes_onto n x [] tt)

pub octets_append : (a b : List ℕ) → Octets a → Octets b → Octets (a ++ b)
octets_append [] b h k i = k i
octets_append (x ∷ a) b h k zero = h 0
octets_append (x ∷ a) b h k (suc i) = octets_append a b (λ j. h (suc j)) k i

octets_take : (n : ℕ) (l : List ℕ) → Octets l → Octets (take n l)
octets_take n l h = octets_all (take n l) (bytes_take n l (bytes_all l h))

pub octets_drop : (n : ℕ) (l : List ℕ) → Octets l → Octets (drop n l)
octets_drop n l h i = rw get_or-drop (h (n + i))

pub octets_part : (l : List ℕ) (at n : ℕ) → Octets l → Octets (part l at n)
unfolding part
octets_part l at n h = octets_take n (drop at l) (octets_drop at l h)

pub octets_put : (l : List ℕ) (at : ℕ) (s : List ℕ) → Octets l → Octets s → Octets (put l at s)
unfolding put
octets_put l at s h k =
    octets_append (take at l) (s ++ drop (at + length s) l) (octets_take at l h) (octets_append s (drop (at + length s) l) k (octets_drop (at + length s) l h))

-- ---- alike is equality
pub alike_is : (a b : List ℕ) → alike a b ≡ true → a ≡ b
unfolding alike
alike_is [] [] t = refl
alike_is [] (y ∷ b) t = let z : ◌≡◌ {A = ℕ} 0 1 = cc in absurd (omega arith)
alike_is (x ∷ a) [] t = let z : ◌≡◌ {A = ℕ} 0 1 = cc in absurd (omega arith)
alike_is (x ∷ a) (y ∷ b) t = go (eqb x y) refl t (λ g. alike_is a b g)
  where
    go : (u : Bool) → eqb x y ≡ u → cond u (alike a b) false ≡ true → (alike a b ≡ true → a ≡ b) → x ∷ a ≡ y ∷ b
    go true f g ih = let h = eqb-true x y f in let k = ih g in cc
    go false f g ih = let z : ◌≡◌ {A = ℕ} 0 1 = cc in absurd (omega arith)

pub alike_refl : (a : List ℕ) → alike a a ≡ true
unfolding alike
alike_refl [] = refl
alike_refl (x ∷ a) = rw (eq-eqb x x refl) (alike_refl a)

pub is_alike : (a b : List ℕ) → a ≡ b → alike a b ≡ true
is_alike a b e = rw e (alike_refl b)

pub not_alike : (a b : List ℕ) → (a ≡ b → ⊥) → alike a b ≡ false
not_alike a b h = go (alike a b) refl
  where
    go : (t : Bool) → alike a b ≡ t → t ≡ false
    go true e = absurd (h (alike_is a b e))
    go false e = refl

-- ---- over
drop_over : (x old : List ℕ) (n : ℕ) → drop (length x + n) (x ++ drop (length x) old) ≡ drop (length x + n) old
drop_over x old n = drop-append-add x (drop (length x) old) n ∙ drop-drop n (length x) old

pub over_start : (old new : List ℕ) → put old 0 new ≡ over new old
unfolding put over
over_start old new = rw zero-add

pub over_more : (old x y : List ℕ) (at : ℕ) → length x ≡ at → put (over x old) at y ≡ over (x ++ y) old
unfolding put over
over_more old x y at e =
    let d : drop (length x + length y) (x ++ drop (length x) old) ≡ drop (length (x ++ y)) old =
    drop_over x old (length y) ∙ ap (λ (n : ℕ). drop n old) (sym (length-append x y)) in
    rw (take_at x (drop (length x) old) at e, ← e, d) (sym (append_assoc x y (drop (length (x ++ y)) old)))

pub length_over : (new old : List ℕ) → length new ≤ length old → length (over new old) ≡ length old
unfolding over
length_over new old h = simp (length-append, length-drop) (omega arith)

-- a longer one hides a shorter one
pub over_over : (x y old : List ℕ) → length y ≤ length x → over x (over y old) ≡ over x old
unfolding over
over_over x y old h =
    let m : ℕ = length x - length y in
    let e : length x ≡ length y + m = omega arith in
    ap (λ (l : List ℕ). x ++ l) (ap (λ (n : ℕ). drop n (y ++ drop (length y) old)) e ∙ drop_over y old m ∙ ap (λ (n : ℕ). drop n old) (sym e))

-- ---- comparing, byte by byte
pub get_d_part : (l : List ℕ) (at n k : ℕ) → k < n → get_or (part l at n) k 0 ≡ get_or l (at + k) 0
unfolding part
get_d_part l at n k h = rw (get_or-take n (drop at l) k 0 h, get_or-drop)

-- ---- the bytes of a number that was read
be_onto_lem : (n x : ℕ) (s : List ℕ) → be_onto n x s ≡ be n x ++ s
unfolding be be_onto
be_onto_lem zero x s = refl
be_onto_lem (suc n) x s =
    be_onto_lem n (x / 256) (x % 256 ∷ s)
    ∙ sym (ap (λ (l : List ℕ). l ++ s) (be_onto_lem n (x / 256) (x % 256 ∷ [])) ∙ append_assoc (be n (x / 256)) (x % 256 ∷ []) s)

be_suc : (n x : ℕ) → be (suc n) x ≡ be n (x / 256) ++ (x % 256 ∷ [])
unfolding be be_onto
be_suc n x = be_onto_lem n (x / 256) (x % 256 ∷ [])

pub be_snoc : (n x y : ℕ) → y < 256 → be (n + 1) (x * 256 + y) ≡ be n x ++ (y ∷ [])
be_snoc n x y h =
    let d : (x * 256 + y) / 256 ≡ x = omega arith in
    let m : (x * 256 + y) % 256 ≡ y = omega arith in
    ap (λ (k : ℕ). be k (x * 256 + y)) (add-one n) ∙ be_suc n (x * 256 + y) ∙ (λ i. be n (d i) ++ (m i ∷ []))

pub be_turn : (b : List ℕ) (at i x : ℕ) → at + i < length b → get_or b (at + i) 0 < 256 → be i x ≡ part b at i → be (i + 1) (x * 256 + get_or b (at + i) 0) ≡ part b at (i + 1)
be_turn b at i x h k e = be_snoc i x (get_or b (at + i) 0) k ∙ rw (e, add-one) (sym (part_snoc b at i h))

be_zero : (x : ℕ) → be 0 x ≡ []
unfolding be be_onto
be_zero x = refl

pub part_zero : (b : List ℕ) (at : ℕ) → part b at 0 ≡ []
unfolding part
part_zero b at = refl

pub be_part : (b : List ℕ) (at n : ℕ) → at + n ≤ length b → Octets b → be n (num (part b at n)) ≡ part b at n
be_part b at zero h o = be_zero (num (part b at 0)) ∙ sym (part_zero b at)
be_part b at (suc n) h o =
    let ih : be n (num (part b at n)) ≡ part b at n = be_part b at n (omega arith) o in
    let s : part b at (suc n) ≡ part b at n ++ (get_or b (at + n) 0 ∷ []) = part_snoc b at n (omega arith) in
    rw (s, num_snoc, ← add-one n, be_snoc n (num (part b at n)) (get_or b (at + n) 0) (o (at + n)), ih)

-- the bytes of a number in two parts
pub be_append : (n k x y : ℕ) → y < 256 ^ k → be (n + k) (x * 256 ^ k + y) ≡ be n x ++ be k y
be_append n zero x y h =
    let e : x * 256 ^ 0 + y ≡ x = omega arith in
    rw (e, add-zero, be_zero y) (sym (append-nil (be n x)))
be_append n (suc k) x y h =
    let g : y < 256 ^ k * 256 = rw pow-suc at h in
    let i : y / 256 < 256 ^ k = omega arith in
    let m : y % 256 < 256 = omega arith in
    let e : x * 256 ^ suc k + y ≡ (x * 256 ^ k + y / 256) * 256 + y % 256 = rw pow-suc (omega (arith, mul_assoc x (256 ^ k) 256)) in
    rw (add-suc, e, ← add-one (n + k), be_snoc (n + k) (x * 256 ^ k + y / 256) (y % 256) m, be_append n k x (y / 256) i, append_assoc, ← be_suc k y)

-- ---- a whole list written anew, and lists one after the other
pub put_whole : (old new : List ℕ) → length old ≡ length new → put old 0 new ≡ new
unfolding put
put_whole old new e =
    let d : drop (0 + length new) old ≡ [] = drop_of_length-le old (le_of_eq (e ∙ sym (zero-add (length new)))) in
    rw d (append-nil new)

pub over_whole : (new old : List ℕ) → length old ≡ length new → over new old ≡ new
over_whole new old e = sym (over_start old new) ∙ put_whole old new e

pub alike_append : (a b c d : List ℕ) → length a ≡ length c → alike (a ++ b) (c ++ d) ≡ cond (alike a c) (alike b d) false
unfolding alike
alike_append [] b [] d e = refl
alike_append [] b (y ∷ c) d e = absurd (omega arith)
alike_append (x ∷ a) b [] d e = absurd (omega arith)
alike_append (x ∷ a) b (y ∷ c) d e = go (eqb x y) (alike_append a b c d (omega arith))
  where
    go : (t : Bool) → alike (a ++ b) (c ++ d) ≡ cond (alike a c) (alike b d) false
        → cond t (alike (a ++ b) (c ++ d)) false ≡ cond (cond t (alike a c) false) (alike b d) false
    go true h = h
    go false h = refl
