-- The theorems on fragments, for those who read document 01: the polynomial exists, is the only one, and is the one evaluated; fragments
-- 0 to m - 1 are the item's runs; any m distinct fragments give every fragment and the item; an encoded item comes back from any m of
-- its fragments. Assumes nothing.
use mathlib.Core.Path.{◌≡◌, refl, sym, ap, ap₂, ◌∙◌, subst}
use mathlib.Core.Bool.{Bool, true, false, cond}
use mathlib.Core.List.{List, [], ◌∷◌, ◌++◌, append-nil, append_assoc}
use Prim.Native.Nat.{ℕ, zero, suc, ◌+◌, ◌*◌, ◌≤◌, ◌<◌}
use native.Mathlib.Nat.{not-suc-le-zero, le_of_suc-le-suc, add-zero, add-suc, suc-add, suc-mul, zero-mul}
use native.Mathlib.Decide.{ℕ_discrete}
use native.Mathlib.Omega.{arith}
use borrow.Author.Tests.{lt-ltb, ltb-true}
use lib.Bits.{bit_xor, xor_zero_r}
use lib.Dec.{ltb, lit<}
use lib.ListN.{length, get_or, take, drop, drop_of_length-le, length-drop}
use lib.Seq.{take_all, take-add, get_or-drop, drop-append-add, drop-drop, take_at, length-take-le}
use Rattle.field.specs.Field.{mul, div}
use Rattle.octets.proofs.Xor.{xor_cancel}
use Rattle.field.proofs.Laws.{mul_zero_f, zero_mul as zero_mul_f}
use Rattle.field.proofs.Division.{div_mul}
use Rattle.octets.specs.Bytes.{part, put, Octets}
use Rattle.octets.proofs.Laws.{length_part, length_put, part_put_same, part_put_before, put_is, slot_fits}
use Rattle.octets.proofs.Meaning.{get_d_part, octets_drop}
use Rattle.terms.specs.declared.Slots.{Slots}
use Rattle.terms.specs.Terms.{fragment_at, runs_of}
use Rattle.fragments.specs.Fragments.{All, Distinct, among, from, tabulate, eval, Column, value, fragment, regenerated, Room, laid, encoded}
use Rattle.fragments.proofs.Lists.{tabulate_ext, to_tabulate, get_d_tabulate, length_tabulate}
use Rattle.fragments.proofs.Interp.{all, all_map, Bytes, eval_lt, value_ext, only, again, newton, length_newton, bytes_newton, newton_at}
use Rattle.fragments.proofs.Laws.{length_from, all_among}

-- ---- the points 0 to m - 1
pub all_from : {P : ℕ → Type 0} (a n : ℕ) → ((k : ℕ) → a ≤ k → k < a + n → P k) → All P (from a n)
unfolding from
all_from a zero h = tt
all_from a (suc n) h = (h a (omega arith) (omega arith), all_from (suc a) n (λ k l u. h k (omega arith) (omega arith)))

at_from : (P : ℕ → Type 0) (a n : ℕ) → All P (from a n) → (k : ℕ) → k < n → P (a + k)
unfolding from
at_from P a zero h k l = absurd (not-suc-le-zero l)
at_from P a (suc n) h zero l = subst P (sym (add-zero a)) h.0
at_from P a (suc n) h (suc k) l = subst P (suc-add a k ∙ sym (add-suc a k)) (at_from P (suc a) n h.1 k (le_of_suc-le-suc l))

pub distinct_from : (a n : ℕ) → Distinct (from a n)
unfolding from
distinct_from a zero = tt
distinct_from a (suc n) = (all_from (suc a) n (λ k l u e. omega arith), distinct_from (suc a) n)

bytes_from : (n : ℕ) → n ≤ 256 → Bytes (from 0 n)
bytes_from n h = all_from 0 n (λ k l u. omega arith)

-- every element a byte, by index and one by one
pub octets_bytes : (l : List ℕ) → Octets l → Bytes l
octets_bytes [] h = tt
octets_bytes (x ∷ l) h = (h 0, octets_bytes l (λ i. h (suc i)))

pub all_bytes : (l : List ℕ) → Bytes l → Octets l
all_bytes [] b i = lit< tt
all_bytes (x ∷ l) b zero = b.0
all_bytes (x ∷ l) b (suc i) = all_bytes l b.1 i

-- byte i of run j
abbrev byte : ℕ → List ℕ → ℕ → ℕ → ℕ
byte F item i j = get_or item (j * F + i) 0

-- ---- polynomials that agree at every point have the same coefficients
eval_step : (cs : List ℕ) (x : ℕ) → eval cs x ≡ bit_xor (get_or cs 0 0) (mul x (eval (drop 1 cs) x))
unfolding eval
eval_step [] x = sym (ap (bit_xor 0) (mul_zero_f x))
eval_step (c ∷ cs) x = refl

-- the value at 0 is the first coefficient
constant : (cs : List ℕ) → eval cs 0 ≡ get_or cs 0 0
constant cs = eval_step cs 0 ∙ ap (bit_xor (get_or cs 0 0)) (zero_mul_f (eval (drop 1 cs) 0)) ∙ xor_zero_r (get_or cs 0 0)

agree : (ps cs ds : List ℕ) (x : ℕ) → Distinct ps → Bytes ps → Octets cs → Octets ds → length cs ≤ length ps → length ds ≤ length ps
    → All (λ (p : ℕ). eval cs p ≡ eval ds p) ps → x < 256 → eval cs x ≡ eval ds x
agree ps cs ds x d b oc od lc ld e h =
    sym (only ps cs x d b (octets_bytes cs oc) lc h) ∙ value_ext ps (eval cs) (eval ds) x e ∙ only ps ds x d b (octets_bytes ds od) ld h

pub coefficients : (k : ℕ) (cs ds : List ℕ) → Octets cs → Octets ds → length cs ≤ 255 → length ds ≤ 255
    → ((x : ℕ) → x < 256 → eval cs x ≡ eval ds x) → get_or cs k 0 ≡ get_or ds k 0
coefficients zero cs ds oc od lc ld e = sym (constant cs) ∙ e 0 (lit< tt) ∙ constant ds
coefficients (suc k) cs ds oc od lc ld e =
    let c0 : get_or cs 0 0 ≡ get_or ds 0 0 = sym (constant cs) ∙ e 0 (lit< tt) ∙ constant ds in
    sym (later cs k)
    ∙ coefficients k (drop 1 cs) (drop 1 ds) (octets_drop 1 cs oc) (octets_drop 1 ds od) (omega (arith, length-drop 1 cs)) (omega (arith, length-drop 1 ds))
    (λ x h. agree (from 1 255) (drop 1 cs) (drop 1 ds) x (distinct_from 1 255) (all_from 1 255 (λ p l u. omega arith)) (octets_drop 1 cs oc) (octets_drop 1 ds od)
    (omega (arith, length-drop 1 cs, length_from 1 255)) (omega (arith, length-drop 1 ds, length_from 1 255))
    (all_from 1 255 (λ p l u. tails cs ds p oc od (omega arith) (omega arith) c0 (e p (omega arith)))) h)
    ∙ later ds k
  where
    later : (cs : List ℕ) (k : ℕ) → get_or (drop 1 cs) k 0 ≡ get_or cs (suc k) 0
    later cs k = get_or-drop 1 cs k 0 ∙ ap (λ (n : ℕ). get_or cs n 0) (one k)
      where
        one : (k : ℕ) → 1 + k ≡ suc k
        one k = omega arith

    tails : (cs ds : List ℕ) (p : ℕ) → Octets cs → Octets ds → 0 < p → p < 256 → get_or cs 0 0 ≡ get_or ds 0 0 → eval cs p ≡ eval ds p
        → eval (drop 1 cs) p ≡ eval (drop 1 ds) p
    tails cs ds p oc od pos hp c0 e =
        let A = eval (drop 1 cs) p in
        let B = eval (drop 1 ds) p in
        let q : bit_xor (get_or cs 0 0) (mul p A) ≡ bit_xor (get_or cs 0 0) (mul p B) = sym (eval_step cs p) ∙ e ∙ eval_step ds p ∙ ap (λ (n : ℕ). bit_xor n (mul p B)) (sym c0) in
        let r : mul p A ≡ mul p B = sym (xor_cancel (get_or cs 0 0) (mul p A)) ∙ ap (bit_xor (get_or cs 0 0)) q ∙ xor_cancel (get_or cs 0 0) (mul p B) in
        sym (div_mul A p (eval_lt (drop 1 cs) p (octets_bytes (drop 1 cs) (octets_drop 1 cs oc))) pos hp)
        ∙ ap (λ (n : ℕ). div n p) r
        ∙ div_mul B p (eval_lt (drop 1 ds) p (octets_bytes (drop 1 ds) (octets_drop 1 ds od))) pos hp

-- FRAGMENTS 0 TO m - 1 ARE THE ITEM'S RUNS
pub fragment_run : (m F : ℕ) (item : List ℕ) (k : ℕ) → k < m → fragment m F item k ≡ part item (k * F) F
unfolding fragment
fragment_run m F item k h = rw (lt-ltb k m h)

module _ (m F : ℕ) (item : List ℕ) (few : m ≤ 256) (octets : Octets item) where
  points_bytes : (i : ℕ) → All (λ (j : ℕ). byte F item i j < 256) (from 0 m)
  points_bytes i = all (λ j. octets (j * F + i)) (from 0 m)

  -- THE POLYNOMIAL EXISTS: for every byte position there is one of degree below m with the item's bytes at the points 0 to m - 1
  pub column_is : (i : ℕ) → Column m F item i (newton (from 0 m) (byte F item i))
  column_is i =
      record {
        degree = omega (arith, length_newton (from 0 m) (byte F item i), length_from 0 m);
        octets = all_bytes (newton (from 0 m) (byte F item i)) (bytes_newton (from 0 m) (byte F item i) (points_bytes i));
        passes = λ j h. subst (λ (n : ℕ). eval (newton (from 0 m) (byte F item i)) n ≡ byte F item i n) (plus j)
            (at_from (λ (n : ℕ). eval (newton (from 0 m) (byte F item i)) n ≡ byte F item i n) 0 m
            (newton_at (from 0 m) (byte F item i) (distinct_from 0 m) (bytes_from m few) (points_bytes i)) j h);
      }
    where
      plus : (k : ℕ) → 0 + k ≡ k
      plus k = omega arith

  -- IT IS THE ONLY ONE: any such polynomial has, at every point, the value that the definition of a fragment takes
  pub column_only : (i : ℕ) (cs : List ℕ) → Column m F item i cs → (k : ℕ) → k < 256 → value (from 0 m) (byte F item i) k ≡ eval cs k
  column_only i cs col k h =
      value_ext (from 0 m) (byte F item i) (eval cs) k (all_from 0 m (λ j l u. sym (col.passes j (omega arith))))
      ∙ only (from 0 m) cs k (distinct_from 0 m) (bytes_from m few) (octets_bytes cs col.octets) (omega (arith, col.degree, length_from 0 m)) h

  -- and any two of them have the same coefficients
  pub column_unique : (i : ℕ) (cs ds : List ℕ) → m ≤ 255 → Column m F item i cs → Column m F item i ds → (k : ℕ) → get_or cs k 0 ≡ get_or ds k 0
  column_unique i cs ds less p q k =
      coefficients k cs ds p.octets q.octets (omega (arith, p.degree)) (omega (arith, q.degree))
      (λ x h. sym (column_only i cs p x h) ∙ column_only i ds q x h)

  own : (i k : ℕ) → k < m → value (from 0 m) (byte F item i) k ≡ byte F item i k
  own i k h =
      let col = column_is i in
      column_only i (newton (from 0 m) (byte F item i)) col k (omega arith) ∙ col.passes k h

  module _ (whole : length item ≡ m * F) where
    -- every fragment is a table of values, the item's runs too
    fragment_values : (k : ℕ) → fragment m F item k ≡ tabulate F (λ i. value (from 0 m) (byte F item i) k)
    fragment_values k = unfold fragment in go (ltb k m) refl
      where
        go : (b : Bool) → ltb k m ≡ b
            → cond b (part item (k * F) F) (tabulate F (λ i. value (from 0 m) (byte F item i) k)) ≡ tabulate F (λ i. value (from 0 m) (byte F item i) k)
        go true e =
            let h = ltb-true k m e in
            to_tabulate (part item (k * F) F) F (λ i. value (from 0 m) (byte F item i) k)
            (length_part item (k * F) F (omega (arith, slot_fits k m F h)))
            (λ i l. get_d_part item (k * F) F i l ∙ sym (own i k h))
        go false e = refl

    -- IT IS THE ONE EVALUATED: byte i of fragment k, at every point k, is the value at k of any polynomial that is the document's
    pub fragment_evaluates : (i : ℕ) (cs : List ℕ) → Column m F item i cs → i < F → (k : ℕ) → k < 256 → get_or (fragment m F item k) i 0 ≡ eval cs k
    fragment_evaluates i cs col l k h =
        ap (λ (f : List ℕ). get_or f i 0) (fragment_values k) ∙ get_d_tabulate F (λ i. value (from 0 m) (byte F item i) k) i l
        ∙ column_only i cs col k h

-- ANY m DISTINCT FRAGMENTS GIVE EVERY FRAGMENT, in whatever slots of a buffer they lie
module _ (m : ℕ) (s : Slots) (item : List ℕ) (few : m ≤ 256) (octets : Octets item) (whole : length item ≡ m * s.fragment) where
  pub any_fragment : (desk : List ℕ) (zs : List ℕ) → Distinct zs → All (λ (z : ℕ). z < 256) zs → length zs ≡ m
      → All (λ (z : ℕ). part desk (fragment_at s z) s.fragment ≡ fragment m s.fragment item z) zs
      → (k : ℕ) → k < 256 → regenerated desk s zs k ≡ fragment m s.fragment item k
  any_fragment desk zs d b l slots k h = unfold regenerated in go (among k zs) refl
    where
      values : (k : ℕ) → fragment m s.fragment item k ≡ tabulate s.fragment (λ i. value (from 0 m) (byte s.fragment item i) k)
      values = fragment_values m s.fragment item few octets whole

      held : (z i : ℕ) → i < s.fragment → part desk (fragment_at s z) s.fragment ≡ fragment m s.fragment item z
          → get_or desk (fragment_at s z + i) 0 ≡ value (from 0 m) (byte s.fragment item i) z
      held z i hi e =
          sym (get_d_part desk (fragment_at s z) s.fragment i hi) ∙ ap (λ (f : List ℕ). get_or f i 0) (e ∙ values z)
          ∙ get_d_tabulate s.fragment (λ i. value (from 0 m) (byte s.fragment item i) z) i hi

      go : (t : Bool) → among k zs ≡ t
          → cond t (part desk (fragment_at s k) s.fragment) (tabulate s.fragment (λ i. value zs (λ p. get_or desk (fragment_at s p + i) 0) k)) ≡ fragment m s.fragment item k
      go true e = all_among (λ (z : ℕ). part desk (fragment_at s z) s.fragment ≡ fragment m s.fragment item z) k zs slots e
      go false e =
          tabulate_ext s.fragment (λ i. value zs (λ p. get_or desk (fragment_at s p + i) 0) k) (λ i. value (from 0 m) (byte s.fragment item i) k)
          (λ i hi. value_ext zs (λ p. get_or desk (fragment_at s p + i) 0) (value (from 0 m) (byte s.fragment item i)) k (all_map (λ z q. held z i hi q) zs slots)
          ∙ again (from 0 m) (byte s.fragment item i) (distinct_from 0 m) (bytes_from m few) (points_bytes m s.fragment item few octets i) zs d b (omega (arith, length_from 0 m)) k h)
          ∙ sym (values k)

-- a fragment has F bytes
pub length_fragment : (m F : ℕ) (item : List ℕ) → length item ≡ m * F → (k : ℕ) → length (fragment m F item k) ≡ F
length_fragment m F item whole k = unfold fragment in go (ltb k m) refl
  where
    go : (b : Bool) → ltb k m ≡ b → length (cond b (part item (k * F) F) (tabulate F (λ i. value (from 0 m) (byte F item i) k))) ≡ F
    go true e = let h = ltb-true k m e in length_part item (k * F) F (omega (arith, slot_fits k m F h))
    go false e = length_tabulate F (λ i. value (from 0 m) (byte F item i) k)

-- ---- a buffer that holds fragments
-- how long it stays, and what a place that was written holds afterwards
module _ (m : ℕ) (s : Slots) (item : List ℕ) (whole : length item ≡ m * s.fragment) (wide : s.fragment ≤ s.size) where
  length_encoded : (n : ℕ) (desk : List ℕ) → Room s n desk → length (encoded m item s n desk) ≡ length desk
  unfolding encoded
  length_encoded zero desk fit = refl
  length_encoded (suc n) desk fit =
      let e : length (encoded m item s n desk) ≡ length desk = length_encoded n desk (λ k h. fit k (omega arith)) in
      length_put (encoded m item s n desk) (fragment_at s n) (fragment m s.fragment item n)
      (omega (arith, length_fragment m s.fragment item whole n, fit n (omega arith)))
      ∙ e

  -- an encoding holds fragment k at its place
  pub encoded_at : (n : ℕ) (desk : List ℕ) → Room s n desk → (k : ℕ) → k < n
      → part (encoded m item s n desk) (fragment_at s k) s.fragment ≡ fragment m s.fragment item k
  unfolding encoded
  encoded_at zero desk fit k h = absurd (not-suc-le-zero h)
  encoded_at (suc n) desk fit k h =
      let e : length (encoded m item s n desk) ≡ length desk = length_encoded n desk (λ k l. fit k (omega arith)) in
      let room : fragment_at s n + s.fragment ≤ length desk = fit n (omega arith) in
      go (ℕ_discrete k n) (λ l. encoded_at n desk (λ k l. fit k (omega arith)) k l) e room
    where
      go : Dec (k ≡ n) → (k < n → part (encoded m item s n desk) (fragment_at s k) s.fragment ≡ fragment m s.fragment item k)
          → length (encoded m item s n desk) ≡ length desk → fragment_at s n + s.fragment ≤ length desk
          → part (put (encoded m item s n desk) (fragment_at s n) (fragment m s.fragment item n)) (fragment_at s k) s.fragment ≡ fragment m s.fragment item k
      go (yes q) more e room =
          rw q (part_put_same (encoded m item s n desk) (fragment_at s n) (fragment m s.fragment item n) s.fragment (length_fragment m s.fragment item whole n) (omega arith))
      go (no q) more e room =
          let l : k < n = omega arith in
          part_put_before (encoded m item s n desk) (fragment_at s n) (fragment m s.fragment item n) (fragment_at s k) s.fragment
          (omega (arith, slot_fits k n s.size l)) (omega arith)
          ∙ more l

-- runs one after the other fill a buffer that is as long as they are
laid_runs : (desk : List ℕ) (s : Slots) (zs : List ℕ) (m : ℕ) (item out : List ℕ) (n : ℕ) → length item ≡ length out → n * s.fragment ≤ length out
    → ((k : ℕ) → k < n → regenerated desk s zs k ≡ part item (k * s.fragment) s.fragment)
    → laid desk s zs (runs_of m s.fragment) n out ≡ take (n * s.fragment) item ++ drop (n * s.fragment) out
unfolding laid
laid_runs desk s zs m item out zero l r e = rw zero-mul
laid_runs desk s zs m item out (suc n) l r e =
    let F : ℕ = s.fragment in
    let fits : n * F + F ≤ length out = omega (arith, suc-mul n F) in
    let before : laid desk s zs (runs_of m F) n out ≡ take (n * F) item ++ drop (n * F) out =
    laid_runs desk s zs m item out n l (omega arith) (λ k h. e k (omega arith)) in
    let z : 0 + n * F ≡ n * F = omega arith in
    let lp : length (part item (n * F) F) ≡ F = length_part item (n * F) F (omega arith) in
    let lt : length (take (n * F) item) ≡ n * F = length-take-le (n * F) item (omega arith) in
    rw (before, e n (omega arith), z, put_is, lp, take_at (take (n * F) item) (drop (n * F) out) (n * F) lt, suc-mul n F)
    (ap₂ (λ (a b : List ℕ). take (n * F) item ++ (a ++ b)) (run n F item) (past n F item out lt)
    ∙ sym (append_assoc (take (n * F) item) (take F (drop (n * F) item)) (drop (n * F + F) out))
    ∙ ap (λ (a : List ℕ). a ++ drop (n * F + F) out) (sym (take-add (n * F) F item)))
  where
    run : (n F : ℕ) (item : List ℕ) → part item (n * F) F ≡ take F (drop (n * F) item)
    run n F item = unfold part in refl

    past : (n F : ℕ) (item out : List ℕ) → length (take (n * F) item) ≡ n * F
        → drop (n * F + F) (take (n * F) item ++ drop (n * F) out) ≡ drop (n * F + F) out
    past n F item out lt =
        ap (λ (k : ℕ). drop (k + F) (take (n * F) item ++ drop (n * F) out)) (sym lt)
        ∙ drop-append-add (take (n * F) item) (drop (n * F) out) F ∙ drop-drop F (n * F) out

module _ (m : ℕ) (s : Slots) (item : List ℕ) (few : m ≤ 256) (octets : Octets item) (whole : length item ≡ m * s.fragment) where
  -- ANY m DISTINCT FRAGMENTS GIVE THE ITEM
  pub any_item : (desk : List ℕ) (zs : List ℕ) → Distinct zs → All (λ (z : ℕ). z < 256) zs → length zs ≡ m
      → All (λ (z : ℕ). part desk (fragment_at s z) s.fragment ≡ fragment m s.fragment item z) zs
      → (out : List ℕ) → length out ≡ m * s.fragment → laid desk s zs (runs_of m s.fragment) m out ≡ item
  any_item desk zs d b l slots out lo =
      let end : length out ≤ m * s.fragment = omega arith in
      laid_runs desk s zs m item out m (whole ∙ sym lo) (omega arith)
      (λ k h. any_fragment m s item few octets whole desk zs d b l slots k (omega arith) ∙ fragment_run m s.fragment item k h)
      ∙ ap₂ ◌++◌ (take_all (m * s.fragment) item (omega arith)) (drop_of_length-le out end) ∙ append-nil item

  -- AN ENCODED ITEM COMES BACK FROM ANY m OF ITS n FRAGMENTS
  pub any_m_of_n : (n : ℕ) (desk : List ℕ) → s.fragment ≤ s.size → Room s n desk → n ≤ 256
      → (zs : List ℕ) → Distinct zs → All (λ (z : ℕ). z < n) zs → length zs ≡ m
      → (out : List ℕ) → length out ≡ m * s.fragment → laid (encoded m item s n desk) s zs (runs_of m s.fragment) m out ≡ item
  any_m_of_n n desk wide fit big zs d b l out lo =
      any_item (encoded m item s n desk) zs d (all_map (λ z h. omega arith) zs b) l
      (all_map (λ z h. encoded_at m s item whole wide n desk fit z h) zs b) out lo
