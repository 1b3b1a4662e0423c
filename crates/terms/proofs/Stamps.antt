-- Timestamps as numbers. Assumes nothing.
use mathlib.Core.Path.{◌≡◌, refl, sym, ap, ◌∙◌}
use mathlib.Core.Bool.{Bool, true, false, ◌&&◌}
use mathlib.Core.List.{List, ◌++◌, append_assoc}
use Prim.Native.Nat.{ℕ, ◌+◌, ◌*◌, ◌^◌, ◌≤◌, ◌<◌}
use native.Mathlib.Nat.{add-mul, add_assoc}
use native.Mathlib.Omega.{arith}
use lib.ListN.{length, length-append}
use lib.Dec.{ltb, eqb}
use Rattle.std.specs.Prelude.{Option, Some}
use Rattle.std.proofs.Common.{Ordering}
use Rattle.std.specs.Ordering.{is_lt, is_some_and, nat_cmp, partial_ordering_then}
use borrow.Author.Tests.{lt-ltb, le-ltb, ltb-true, ltb-false, eq-eqb, ne_eqb, eqb-true, eqb-false}
use Rattle.terms.specs.declared.Hash.{Hash}
use Rattle.terms.specs.declared.Timestamp.{Timestamp}
use Rattle.octets.specs.Bytes.{part, put, num, be}
use Rattle.octets.proofs.Laws.{length_part, length_be, put_then}
use Rattle.octets.proofs.Meaning.{num_append, part_add, be_append}
use Rattle.terms.specs.Stamp.{then, hash_number, stamp_number, stamp_at, zero_stamp}

pub then_part : (s : List ℕ) (at n : ℕ) → at + n + 8 ≤ length s → num (part s at (n + 8)) ≡ then (num (part s at n)) (num (part s (at + n) 8))
unfolding then
then_part s at n h = rw (part_add s at n 8, num_append (part s at n) (part s (at + n) 8), length_part s (at + n) 8 h)

pub zero_number : stamp_number zero_stamp ≡ 0
unfolding stamp_number then
zero_number = refl

-- the number of five words that were read
pub stamp_at_number : (s : List ℕ) (at : ℕ) → at + 40 ≤ length s → stamp_number (stamp_at s at) ≡ num (part s at 40)
unfolding stamp_number stamp_at
stamp_at_number s at h = rw (then_part s at 32 (omega arith), then_part s at 24 (omega arith), then_part s at 16 (omega arith), then_part s at 8 (omega arith))

-- by the first words, and else by the next
pub then_yes : (a b x y : ℕ) → a < b → x < 256 ^ 8 → then a x < then b y
unfolding then
then_yes a b x y h k = omega arith

pub then_right : (a b x y : ℕ) → a ≡ b → x < y → then a x < then b y
unfolding then
then_right a b x y e h = rw e (omega arith)

pub then_same : (a b x y : ℕ) → a ≡ b → x ≡ y → then a x ≡ then b y
then_same a b x y e f = λ i. then (e i) (f i)

-- by the first word, then by the next: the tests of the code
words_yes : (x y : ℕ) → x < y → true ≡ ltb x y
words_yes x y h = sym (lt-ltb x y h)

words_no : (x y : ℕ) → y ≤ x → false ≡ ltb x y
words_no x y h = sym (le-ltb x y h)

then_le : (a b x y : ℕ) → a ≡ b → y ≤ x → then b y ≤ then a x
unfolding then
then_le a b x y e h = rw e (omega arith)

-- the order of two numbers of words goes by the first word that differs
pub record Words (h : Hash) : Type 0 where
  pub w1 : h.1 < 256 ^ 8
  pub w2 : h.2 < 256 ^ 8
  pub w3 : h.3 < 256 ^ 8

module _ (a b : Hash) (w : Words a) where
  less_0 : a.0 < b.0 → hash_number a < hash_number b
  unfolding hash_number
  less_0 h = then_yes _ _ a.3 b.3 (then_yes _ _ a.2 b.2 (then_yes a.0 b.0 a.1 b.1 h w.w1) w.w2) w.w3

  less_1 : a.0 ≡ b.0 → a.1 < b.1 → hash_number a < hash_number b
  unfolding hash_number
  less_1 e h = then_yes _ _ a.3 b.3 (then_yes _ _ a.2 b.2 (then_right a.0 b.0 a.1 b.1 e h) w.w2) w.w3

  less_2 : a.0 ≡ b.0 → a.1 ≡ b.1 → a.2 < b.2 → hash_number a < hash_number b
  unfolding hash_number
  less_2 e f h = then_yes _ _ a.3 b.3 (then_right _ _ a.2 b.2 (then_same a.0 b.0 a.1 b.1 e f) h) w.w3

then_last : (a b x y : ℕ) → a ≡ b → ltb x y ≡ ltb (then a x) (then b y)
then_last a b x y e = go (ltb x y) refl
  where
    go : (t : Bool) → ltb x y ≡ t → t ≡ ltb (then a x) (then b y)
    go true k = sym (lt-ltb (then a x) (then b y) (then_right a b x y e (ltb-true x y k)))
    go false k = sym (le-ltb (then a x) (then b y) (then_le a b x y e (ltb-false x y k)))

less_3 : (a b : Hash) → a.0 ≡ b.0 → a.1 ≡ b.1 → a.2 ≡ b.2 → ltb a.3 b.3 ≡ ltb (hash_number a) (hash_number b)
unfolding hash_number
less_3 a b e f g =
    then_last _ _ a.3 b.3 (then_same (then a.0 a.1) (then b.0 b.1) a.2 b.2 (then_same a.0 b.0 a.1 b.1 e f) g)

no_of : (x y : ℕ) → y < x → false ≡ ltb x y
no_of x y h = words_no x y (omega arith)

-- a timestamp: the time, and then the hash
stamp_0 : (t u : Timestamp) → Words t.verifier → t.verifier.0 < 256 ^ 8 → t.time.0 < u.time.0 → stamp_number t < stamp_number u
unfolding stamp_number
stamp_0 t u w w0 h =
    let a = t.verifier in
    let b = u.verifier in
    then_yes _ _ a.3 b.3 (then_yes _ _ a.2 b.2 (then_yes _ _ a.1 b.1 (then_yes t.time.0 u.time.0 a.0 b.0 h w0) w.w1) w.w2) w.w3

-- the time's share of the number
lift : ℕ → ℕ
lift t = t * 256 ^ 8 * 256 ^ 8 * 256 ^ 8 * 256 ^ 8

then_is : (x y : ℕ) → then x y ≡ x * 256 ^ 8 + y
unfolding then
then_is x y = refl

then_shift : (k x y : ℕ) → then (k + x) y ≡ k * 256 ^ 8 + then x y
unfolding then
then_shift k x y = rw (add-mul, add_assoc)

stamp_split : (t : Timestamp) → stamp_number t ≡ lift t.time.0 + hash_number t.verifier
unfolding stamp_number hash_number lift
stamp_split t =
    let v = t.verifier in
    let T : ℕ = t.time.0 in
    ap (λ (x : ℕ). then (then (then x v.1) v.2) v.3) (then_is T v.0)
    ∙ ap (λ (x : ℕ). then (then x v.2) v.3) (then_shift (T * 256 ^ 8) v.0 v.1)
    ∙ ap (λ (x : ℕ). then x v.3) (then_shift (T * 256 ^ 8 * 256 ^ 8) (then v.0 v.1) v.2)
    ∙ then_shift (T * 256 ^ 8 * 256 ^ 8 * 256 ^ 8) (then (then v.0 v.1) v.2) v.3

ltb_add : (k p q : ℕ) → ltb p q ≡ ltb (k + p) (k + q)
ltb_add k p q = go (ltb p q) refl
  where
    go : (t : Bool) → ltb p q ≡ t → t ≡ ltb (k + p) (k + q)
    go true e = let h = ltb-true p q e in sym (lt-ltb (k + p) (k + q) (omega arith))
    go false e = let h = ltb-false p q e in sym (le-ltb (k + p) (k + q) (omega arith))

-- of one time, by the hash
stamp_1 : (t u : Timestamp) → t.time.0 ≡ u.time.0 → ltb (hash_number t.verifier) (hash_number u.verifier) ≡ ltb (stamp_number t) (stamp_number u)
stamp_1 t u e =
    ltb_add (lift t.time.0) (hash_number t.verifier) (hash_number u.verifier)
    ∙ (λ i. ltb (sym (stamp_split t) i) (lift (e i) + hash_number u.verifier)) ∙ ap (λ (x : ℕ). ltb (stamp_number t) x) (sym (stamp_split u))

-- ---- the derived order: word by word, and a later word only where those before are the same
abbrev then_by : ℕ → ℕ → Option Ordering → Option Ordering
then_by x y o = partial_ordering_then (Some (nat_cmp x y)) o

abbrev tells_less : Option Ordering → Bool
tells_less o = is_some_and is_lt o

module _ (x y : ℕ) (o : Option Ordering) (z : Bool) where
  -- by a word that differs, or else by what is after it
  word_by : (x < y → true ≡ z) → (y < x → false ≡ z) → (x ≡ y → tells_less o ≡ z) → tells_less (then_by x y o) ≡ z
  word_by f g h = go (ltb x y) refl
    where
      same : (t : Bool) → eqb x y ≡ t → ltb x y ≡ false → tells_less (then_by x y o) ≡ z
      same true e l = rw (l, e) (h (eqb-true x y e))
      same false e l = rw (l, e) (let n = eqb-false x y e in let m = ltb-false x y l in g (omega arith))

      go : (t : Bool) → ltb x y ≡ t → tells_less (then_by x y o) ≡ z
      go true e = rw e (f (ltb-true x y e))
      go false e = same (eqb x y) refl e

last_word : (x y : ℕ) → tells_less (Some (nat_cmp x y)) ≡ ltb x y
last_word x y = go (ltb x y) refl
  where
    same : (s : Bool) → eqb x y ≡ s → ltb x y ≡ false → tells_less (Some (nat_cmp x y)) ≡ false
    same true e l = rw (l, e) refl
    same false e l = rw (l, e) refl

    go : (t : Bool) → ltb x y ≡ t → tells_less (Some (nat_cmp x y)) ≡ t
    go true e = rw e refl
    go false e = same (eqb x y) refl e

hash_order : (a b : Hash) → Words a → Words b
    → tells_less (then_by a.0 b.0 (then_by a.1 b.1 (then_by a.2 b.2 (Some (nat_cmp a.3 b.3))))) ≡ ltb (hash_number a) (hash_number b)
hash_order a b w v =
    let r : Bool = ltb (hash_number a) (hash_number b) in
    word_by a.0 b.0 _ r (λ l. words_yes _ _ (less_0 a b w l)) (λ l. no_of _ _ (less_0 b a v l)) (λ e.
    word_by a.1 b.1 _ r (λ l. words_yes _ _ (less_1 a b w e l)) (λ l. no_of _ _ (less_1 b a v (sym e) l)) (λ f.
    word_by a.2 b.2 _ r (λ l. words_yes _ _ (less_2 a b w e f l)) (λ l. no_of _ _ (less_2 b a v (sym e) (sym f) l)) (λ g.
    last_word a.3 b.3 ∙ less_3 a b e f g)))

-- of one time, by the hash
pub stamp_order : (t u : Timestamp) → Words t.verifier → Words u.verifier → t.verifier.0 < 256 ^ 8 → u.verifier.0 < 256 ^ 8
    → tells_less (then_by t.time.0 u.time.0 (then_by t.verifier.0 u.verifier.0 (then_by t.verifier.1 u.verifier.1 (then_by t.verifier.2 u.verifier.2 (Some (nat_cmp t.verifier.3 u.verifier.3))))))
    ≡ ltb (stamp_number t) (stamp_number u)
stamp_order t u w v w0 v0 =
    word_by t.time.0 u.time.0 _ (ltb (stamp_number t) (stamp_number u)) (λ l. words_yes _ _ (stamp_0 t u w w0 l)) (λ l. no_of _ _ (stamp_0 u t v v0 l))
    (λ e. hash_order t.verifier u.verifier w v ∙ stamp_1 t u e)

-- ---- the same number, word by word
then_left : (a b x y : ℕ) → x < 256 ^ 8 → y < 256 ^ 8 → then a x ≡ then b y → a ≡ b
unfolding then
then_left a b x y h k e = omega arith

then_next : (a b x y : ℕ) → a ≡ b → then a x ≡ then b y → x ≡ y
unfolding then
then_next a b x y z e = omega arith

pub record SameWords (a b : Hash) : Type 0 where
  pub s0 : a.0 ≡ b.0
  pub s1 : a.1 ≡ b.1
  pub s2 : a.2 ≡ b.2
  pub s3 : a.3 ≡ b.3

hash_one : (a b : Hash) → Words a → Words b → hash_number a ≡ hash_number b → SameWords a b
unfolding hash_number
hash_one a b v w e =
    let e2 = then_left _ _ a.3 b.3 v.w3 w.w3 e in
    let e1 = then_left _ _ a.2 b.2 v.w2 w.w2 e2 in
    let e0 = then_left _ _ a.1 b.1 v.w1 w.w1 e1 in
    record { s0 = e0; s1 = then_next _ _ a.1 b.1 e0 e1; s2 = then_next _ _ a.2 b.2 e1 e2; s3 = then_next _ _ a.3 b.3 e2 e }

same_hash : (a b : Hash) → SameWords a b → hash_number a ≡ hash_number b
unfolding hash_number
same_hash a b s = λ i. then (then (then (s.s0 i) (s.s1 i)) (s.s2 i)) (s.s3 i)

eqb_same : (x y z w : ℕ) → (x ≡ y → z ≡ w) → (z ≡ w → x ≡ y) → eqb x y ≡ eqb z w
eqb_same x y z w f g = go (eqb x y) refl
  where
    go : (t : Bool) → eqb x y ≡ t → t ≡ eqb z w
    go true e = sym (eq-eqb z w (f (eqb-true x y e)))
    go false e = sym (ne_eqb z w (λ k. eqb-false x y e (g k)))

hash_3 : (a b : Hash) → Words a → Words b → a.0 ≡ b.0 → a.1 ≡ b.1 → a.2 ≡ b.2 → eqb a.3 b.3 ≡ eqb (hash_number a) (hash_number b)
hash_3 a b v w e f g =
    eqb_same a.3 b.3 (hash_number a) (hash_number b) (λ h. same_hash a b (record { s0 = e; s1 = f; s2 = g; s3 = h })) (λ k. (hash_one a b v w k).s3)

stamp_time : (t u : Timestamp) → Words t.verifier → Words u.verifier → t.verifier.0 < 256 ^ 8 → u.verifier.0 < 256 ^ 8
    → stamp_number t ≡ stamp_number u → t.time.0 ≡ u.time.0
unfolding stamp_number
stamp_time t u v w v0 w0 e =
    let a = t.verifier in
    let b = u.verifier in
    then_left _ _ a.0 b.0 v0 w0 (then_left _ _ a.1 b.1 v.w1 w.w1 (then_left _ _ a.2 b.2 v.w2 w.w2 (then_left _ _ a.3 b.3 v.w3 w.w3 e)))

-- of one time, by the hash
stamp_2 : (t u : Timestamp) → t.time.0 ≡ u.time.0 → eqb (hash_number t.verifier) (hash_number u.verifier) ≡ eqb (stamp_number t) (stamp_number u)
stamp_2 t u e =
    let k : lift t.time.0 ≡ lift u.time.0 = ap lift e in
    let p = stamp_split t in
    let q = stamp_split u in
    eqb_same (hash_number t.verifier) (hash_number u.verifier) (stamp_number t) (stamp_number u) (λ h. omega arith) (λ h. omega arith)

-- ---- the derived equality: of every word
word_same : (x y : ℕ) (o z : Bool) → ((x ≡ y → ⊥) → false ≡ z) → (x ≡ y → o ≡ z) → (eqb x y && o) ≡ z
word_same x y o z f g = go (eqb x y) refl
  where
    go : (t : Bool) → eqb x y ≡ t → (t && o) ≡ z
    go true e = g (eqb-true x y e)
    go false e = f (eqb-false x y e)

hash_alike : (a b : Hash) → Words a → Words b → (eqb a.0 b.0 && (eqb a.1 b.1 && (eqb a.2 b.2 && eqb a.3 b.3))) ≡ eqb (hash_number a) (hash_number b)
hash_alike a b w v =
    let r : Bool = eqb (hash_number a) (hash_number b) in
    word_same a.0 b.0 _ r (λ n. sym (ne_eqb _ _ (λ e. n (hash_one a b w v e).s0))) (λ e.
    word_same a.1 b.1 _ r (λ n. sym (ne_eqb _ _ (λ e. n (hash_one a b w v e).s1))) (λ f.
    word_same a.2 b.2 _ r (λ n. sym (ne_eqb _ _ (λ e. n (hash_one a b w v e).s2))) (λ g. hash_3 a b w v e f g)))

pub stamp_alike : (t u : Timestamp) → Words t.verifier → Words u.verifier → t.verifier.0 < 256 ^ 8 → u.verifier.0 < 256 ^ 8
    → (eqb t.time.0 u.time.0 && (eqb t.verifier.0 u.verifier.0 && (eqb t.verifier.1 u.verifier.1 && (eqb t.verifier.2 u.verifier.2 && eqb t.verifier.3 u.verifier.3))))
    ≡ eqb (stamp_number t) (stamp_number u)
stamp_alike t u w v w0 v0 =
    word_same t.time.0 u.time.0 _ (eqb (stamp_number t) (stamp_number u)) (λ n. sym (ne_eqb _ _ (λ e. n (stamp_time t u w v w0 v0 e))))
    (λ e. hash_alike t.verifier u.verifier w v ∙ stamp_2 t u e)

-- ---- written: five words, one after the other, are its 40 bytes
be_then : (n x y : ℕ) → y < 256 ^ 8 → be (n + 8) (then x y) ≡ be n x ++ be 8 y
unfolding then
be_then n x y h = be_append n 8 x y h

pub stamp_bytes : (t : Timestamp) → Words t.verifier → t.verifier.0 < 256 ^ 8
    → be 40 (stamp_number t) ≡ be 8 t.time.0 ++ be 8 t.verifier.0 ++ be 8 t.verifier.1 ++ be 8 t.verifier.2 ++ be 8 t.verifier.3
unfolding stamp_number
stamp_bytes t w w0 =
    let v = t.verifier in
    be_then 32 _ v.3 w.w3 ∙ rw (be_then 24 (then (then t.time.0 v.0) v.1) v.2 w.w2, be_then 16 (then t.time.0 v.0) v.1 w.w1, be_then 8 t.time.0 v.0 w0)

-- a time, and the words of 32 bytes that were read
pub stamp_hash : (t : Timestamp) (d : List ℕ) → Words t.verifier → t.verifier.0 < 256 ^ 8 → be 8 t.verifier.0 ≡ part d 0 8 → be 8 t.verifier.1 ≡ part d 8 8
    → be 8 t.verifier.2 ≡ part d 16 8 → be 8 t.verifier.3 ≡ part d 24 8 → be 40 (stamp_number t) ≡ be 8 t.time.0 ++ part d 0 32
stamp_hash t d w w0 e0 e1 e2 e3 =
    stamp_bytes t w w0 ∙ rw (e0, e1, e2, e3, part_add d 0 8 24, part_add d 8 8 16, part_add d 16 8 8) (simp append_assoc)

next : (b l x y : List ℕ) (at q : ℕ) → at + length x ≡ q → at ≤ length b → l ≡ put b at x → put l q y ≡ put b at (x ++ y)
next b l x y at q z h e = ap (λ (k : List ℕ). put k q y) e ∙ put_then b at q x y z h

pub stamp_put : (t : Timestamp) (b b₁ b₂ b₃ b₄ b₅ : List ℕ) (at : ℕ) → Words t.verifier → t.verifier.0 < 256 ^ 8 → at + 40 ≤ length b
    → b₁ ≡ put b at (be 8 t.time.0) → b₂ ≡ put b₁ (at + 8) (be 8 t.verifier.0) → b₃ ≡ put b₂ (at + 16) (be 8 t.verifier.1)
    → b₄ ≡ put b₃ (at + 24) (be 8 t.verifier.2) → b₅ ≡ put b₄ (at + 32) (be 8 t.verifier.3) → b₅ ≡ put b at (be 40 (stamp_number t))
stamp_put t b b₁ b₂ b₃ b₄ b₅ at w w0 h e1 e2 e3 e4 e5 =
    let v = t.verifier in
    let f2 = e2 ∙ next b b₁ (be 8 t.time.0) (be 8 v.0) at (at + 8) (simp length_be) (omega arith) e1 in
    let f3 = e3 ∙ next b b₂ _ (be 8 v.1) at (at + 16) (simp (length-append, length_be)) (omega arith) f2 in
    let f4 = e4 ∙ next b b₃ _ (be 8 v.2) at (at + 24) (simp (length-append, length_be)) (omega arith) f3 in
    let f5 = e5 ∙ next b b₄ _ (be 8 v.3) at (at + 32) (simp (length-append, length_be)) (omega arith) f4 in
    f5 ∙ ap (λ (s : List ℕ). put b at s) (sym (stamp_bytes t w w0))
