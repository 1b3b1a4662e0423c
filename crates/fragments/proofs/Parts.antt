-- A weight in two parts: the product of x's distances from the other points, and the inverse of that of the point's own. Assumes nothing.
use mathlib.Core.Path.{◌≡◌, refl, sym, ap, ap₂, ◌∙◌}
use mathlib.Core.Bool.{Bool, true, false, cond}
use mathlib.Core.List.{List, [], ◌∷◌, ◌++◌}
use Prim.Native.Nat.{ℕ, suc, ◌+◌, ◌≤◌, ◌<◌}
use native.Mathlib.Nat.{add-zero}
use native.Mathlib.Numerals.{add-one}
use native.Mathlib.Omega.{arith}
use borrow.Author.Tests.{eq-eqb, ne_eqb, ltb-true, ltb-false}
use lib.Dec.{eqb, ltb, lit<}
use lib.Bits.{bit_xor}
use lib.ListN.{length, get_or, take, drop, replicate, get_or-replicate, drop_of_length-le, get_or-eq_default}
use lib.Seq.{drop-cons, length-take-le, get_or-take, take_at}
use Rattle.octets.specs.Bytes.{part, Octets}
use Rattle.octets.proofs.Laws.{length_put, put_lent}
use Rattle.octets.proofs.Meaning.{octets_part, octets_put}
use Rattle.field.specs.Field.{mul, inv, div}
use Rattle.field.specs.Sums.{sum_from, weighted}
use Rattle.field.proofs.Laws.{mul_lt, mul_comm_f, mul_assoc_f, one_mul, mul_one_f}
use Rattle.field.proofs.Division.{inv_lt, div_inv, div_one, div_times}
use Rattle.fragments.specs.Fragments.{ratio, weight_of, blend, value}
use Rattle.fragments.specs.Basis.{distance_of, distances_of, Row, Ready}
use Rattle.fragments.specs.Inside.{points_of}
use Rattle.fragments.specs.declared.basis.Basis.{Basis}
use Rattle.terms.specs.declared.Slots.{Slots}
use Rattle.terms.specs.Terms.{fragment_at}
use Rattle.fragments.proofs.Interp.{Bytes, plus_lt}
use Rattle.fragments.proofs.Theorems.{octets_bytes}

-- ---- a row of 16 bytes
pub row_by : (row : List ℕ) (f : ℕ → ℕ) → length row ≡ 16 → ((k : ℕ) → k < 16 → get_or row k 0 ≡ f k) → ((k : ℕ) → f k < 256) → Row row
row_by row f l e b = record { wide = l; bytes = λ k. go k (ltb k 16) refl }
  where
    go : (k : ℕ) (t : Bool) → ltb k 16 ≡ t → get_or row k 0 < 256
    go k true q = rw (e k (ltb-true k 16 q)) (b k)
    go k false q =
        let past : length row ≤ k = omega (arith, ltb-false k 16 q) in rw (get_or-eq_default row 0 past) (lit< tt)

-- ---- a distance
pub distance_own : (x p q : ℕ) → p ≡ q → 1 ≡ distance_of x p q
unfolding distance_of
distance_own x p q e = rw (eq-eqb p q e)

pub distance_other : (x p q : ℕ) → (p ≡ q → ⊥) → bit_xor x q ≡ distance_of x p q
unfolding distance_of
distance_other x p q e = rw (ne_eqb p q e)

distance_lt : (x p q : ℕ) → x < 256 → q < 256 → distance_of x p q < 256
unfolding distance_of
distance_lt x p q hx hq = go (eqb p q)
  where
    go : (b : Bool) → cond b 1 (bit_xor x q) < 256
    go true = lit< tt
    go false = plus_lt {a = x} {b = q} hx hq

-- ---- the product of distances, a point more each time
pub distances_turn : (qs : List ℕ) (k x p r R : ℕ) → k < length qs → mul r (distances_of (drop k qs) x p) ≡ R
    → mul (mul (distance_of x p (get_or qs k 0)) r) (distances_of (drop (k + 1) qs) x p) ≡ R
distances_turn qs k x p r R h e =
    let d = distance_of x p (get_or qs k 0) in
    let A = distances_of (drop (k + 1) qs) x p in
    ap (λ (n : ℕ). mul n A) (mul_comm_f d r) ∙ mul_assoc_f r d A ∙ ap (mul r) (sym cons) ∙ e
  where
    cons : distances_of (drop k qs) x p ≡ mul (distance_of x p (get_or qs k 0)) (distances_of (drop (k + 1) qs) x p)
    cons = unfold distances_of in rw (add-one k, drop-cons qs k 0 h)

pub distances_end : (qs : List ℕ) (k x p r R : ℕ) → length qs ≤ k → r < 256 → mul r (distances_of (drop k qs) x p) ≡ R → r ≡ R
unfolding distances_of
distances_end qs k x p r R h hr e = sym (mul_one_f r hr) ∙ ap (λ (l : List ℕ). mul r (distances_of l x p)) (sym (drop_of_length-le qs h)) ∙ e

distances_lt : (qs : List ℕ) (x p : ℕ) → distances_of qs x p < 256
unfolding distances_of
distances_lt [] x p = lit< tt
distances_lt (q ∷ qs) x p = mul_lt (distance_of x p q) (distances_of qs x p)

-- ---- a weight is the one product over the other
ratio_is : (x p q : ℕ) → ratio x p q ≡ div (distance_of x p q) (distance_of p p q)
unfolding ratio distance_of
ratio_is x p q = go (eqb p q)
  where
    go : (b : Bool) → cond b 1 (div (bit_xor x q) (bit_xor p q)) ≡ div (cond b 1 (bit_xor x q)) (cond b 1 (bit_xor p q))
    go true = sym div_one
    go false = refl

weight_is : (qs : List ℕ) (x p : ℕ) → p < 256 → Bytes qs → weight_of qs x p ≡ div (distances_of qs x p) (distances_of qs p p)
unfolding weight_of distances_of
weight_is [] x p hp b = sym div_one
weight_is (q ∷ qs) x p hp b =
    ap₂ mul (ratio_is x p q) (weight_is qs x p hp b.1)
    ∙ sym (div_times (distances_of qs x p) (distance_of x p q) (distances_of qs p p) (distance_of p p q) (distances_lt qs p p) (distance_lt p p q hp b.0))
    ∙ ap₂ div (mul_comm_f (distances_of qs x p) (distance_of x p q)) (mul_comm_f (distances_of qs p p) (distance_of p p q))

-- a scale: the product by rows that start at 1, inverted
pub scale_is : (qs : List ℕ) (p d r : ℕ) → d ≡ mul 1 (distances_of qs p p) → r ≡ inv d → r ≡ inv (distances_of qs p p)
scale_is qs p d r e f = f ∙ ap inv (e ∙ one_mul (distances_of qs p p) (distances_lt qs p p))

-- a weight: the scale times the product at x
pub weight_by : (qs : List ℕ) (x p s w : ℕ) → p < 256 → Bytes qs → s ≡ inv (distances_of qs p p) → w ≡ mul s (distances_of qs x p) → w ≡ weight_of qs x p
weight_by qs x p s w hp b e f =
    f ∙ ap (λ (n : ℕ). mul n (distances_of qs x p)) e ∙ mul_comm_f (inv (distances_of qs p p)) (distances_of qs x p)
    ∙ sym (weight_is qs x p hp b ∙ div_inv (distances_of qs x p) (distances_of qs p p))

-- ---- the sum over the places of a list is the sum over its points
pub blend_sum : (qs : List ℕ) (x : ℕ) (f : ℕ → ℕ) (g : ℕ → ℕ) (ps : List ℕ) (k : ℕ)
    → ((j : ℕ) → j < length ps → g (k + j) ≡ mul (weight_of qs x (get_or ps j 0)) (f (get_or ps j 0)))
    → sum_from g k (length ps) ≡ blend qs x f ps
unfolding sum_from blend
blend_sum qs x f g [] k e = refl
blend_sum qs x f g (p ∷ ps) k e =
    ap₂ bit_xor (ap g (sym (add-zero k)) ∙ e 0 (omega arith))
    (blend_sum qs x f g ps (suc k) (λ j h. ap g (later k j) ∙ e (suc j) (omega arith)))
  where
    later : (k j : ℕ) → suc k + j ≡ k + suc j
    later k j = omega arith

-- ---- a basis, made
abbrev sixteen : ℕ → List ℕ
sixteen x = replicate 16 x

pub row_of : (x : ℕ) → x < 256 → Row (sixteen x)
row_of x h = row_by (sixteen x) (λ k. x) refl (λ k l. get_or-replicate 16 k x 0 l) (λ k. h)

-- the points: qs, and 0 past its end
pub points_row : (qs s : List ℕ) → length qs ≤ 16 → Octets qs → s ≡ qs → Row (s ++ drop (length qs) (sixteen 0))
points_row qs s few h e =
    rw (put_lent (sixteen 0) 0 (length qs) s (ap length e), e)
    (record {
      wide = length_put (sixteen 0) 0 qs (omega arith);
      bytes = octets_put (sixteen 0) 0 qs (row_of 0 (lit< tt)).bytes h;
    })

pub points_kept : (qs s : List ℕ) → s ≡ qs → take (length qs) (s ++ drop (length qs) (sixteen 0)) ≡ qs
points_kept qs s e = take_at s (drop (length qs) (sixteen 0)) (length qs) (ap length e) ∙ e

pub basis_ready : (m : ℕ) (points row scales : List ℕ) → m ≤ 16 → Row points
    → ((k : ℕ) → k < 16 → get_or row k 0 ≡ mul (get_or (sixteen 1) k 0) (distances_of (take m points) (get_or points k 0) (get_or points k 0)))
    → length scales ≡ 16 → ((k : ℕ) → k < 16 → get_or scales k 0 ≡ inv (get_or row k 0))
    → Ready points scales m
basis_ready m points row scales few p e l f =
    record {
      few = few;
      points = p;
      scales = row_by scales (λ k. inv (get_or row k 0)) l f (λ k. inv_lt (get_or row k 0));
      right = λ k h.
          let q = get_or points k 0 in
          scale_is (take m points) q (get_or row k 0) (get_or scales k 0) (e k h ∙ ap (λ (n : ℕ). mul n (distances_of (take m points) q q)) (get_or-replicate 16 k 1 0 h)) (f k h);
    }

-- ---- a basis, used
module _ (b : Basis) where
  pub points_length : length (points_of b) ≡ b.size
  points_length = length-take-le b.size b.points (omega (arith, b.ready.few, b.ready.points.wide))

  -- the start of another row has as many
  pub start_length : (row : List ℕ) → length row ≡ 16 → b.size ≡ length (take b.size row)
  start_length row l = sym (length-take-le b.size row (omega (arith, b.ready.few)))

  point : (k : ℕ) → k < b.size → get_or (points_of b) k 0 ≡ get_or b.points k 0
  point k h = get_or-take b.size b.points k 0 h

  points_bytes : Bytes (points_of b)
  points_bytes = octets_bytes (points_of b) (unfold part in octets_part b.points 0 b.size b.ready.points.bytes)

  pub weights_are : (x : ℕ) (row : List ℕ)
      → ((k : ℕ) → k < 16 → get_or row k 0 ≡ mul (get_or b.scales k 0) (distances_of (points_of b) (get_or (sixteen x) k 0) (get_or b.points k 0)))
      → (k : ℕ) → k < b.size → get_or row k 0 ≡ weight_of (points_of b) x (get_or (points_of b) k 0)
  weights_are x row e k h =
      let h16 : k < 16 = omega (arith, b.ready.few) in
      let p = get_or b.points k 0 in
      weight_by (points_of b) x p (get_or b.scales k 0) (get_or row k 0) (b.ready.points.bytes k) points_bytes (b.ready.right k h16)
      (e k h16 ∙ ap (λ (n : ℕ). mul (get_or b.scales k 0) (distances_of (points_of b) n p)) (get_or-replicate 16 k x 0 h16))
      ∙ ap (weight_of (points_of b) x) (sym (point k h))

  -- byte i of what the weights make of the sources is the value through them
  pub combined : (src : List ℕ) (s : Slots) (x : ℕ) (w at : List ℕ) (i : ℕ) → length w ≡ 16
      → ((k : ℕ) → k < b.size → get_or w k 0 ≡ weight_of (points_of b) x (get_or (points_of b) k 0))
      → ((k : ℕ) → k < b.size → get_or at k 0 ≡ fragment_at s (get_or (points_of b) k 0))
      → weighted (take b.size w) (take b.size at) src i ≡ value (points_of b) (λ p. get_or src (fragment_at s p + i) 0) x
  unfolding weighted value
  combined src s x w at i l ew ea =
      let m : ℕ = b.size in
      let g : ℕ → ℕ = λ k. mul (get_or (take m w) k 0) (get_or src (get_or (take m at) k 0 + i) 0) in
      ap (sum_from g 0) (sym (start_length w l) ∙ sym points_length)
      ∙ blend_sum (points_of b) x (λ p. get_or src (fragment_at s p + i) 0) g (points_of b) 0
      (λ j h.
      let h : j < m = omega (arith, points_length) in
      ap g (none j)
      ∙ ap₂ (λ (u v : ℕ). mul u (get_or src (v + i) 0)) (get_or-take m w j 0 h ∙ ew j h) (get_or-take m at j 0 h ∙ ea j h))
    where
      none : (j : ℕ) → 0 + j ≡ j
      none j = omega arith
