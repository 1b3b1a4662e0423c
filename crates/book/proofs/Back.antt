-- What was laid out is read back, in any version v with `more` after the count; a book laid out from good records is good.
-- Assumes nothing.
use mathlib.Core.Path.{◌≡◌, sym, ap, ◌∙◌, subst}
use mathlib.Core.Bool.{true}
use mathlib.Core.List.{List, ◌++◌, append_assoc}
use Prim.Native.Nat.{ℕ, ◌+◌, ◌-◌, ◌*◌, ◌≤◌, ◌<◌}
use native.Mathlib.Nat.{mul-le-mul, mul-one}
use native.Mathlib.Omega.{arith}
use lib.ListN.{length, drop}
use Rattle.octets.specs.Bytes.{part, be, num, over}
use Rattle.octets.proofs.Laws.{length_be, part_past, part_first}
use Rattle.octets.proofs.Meaning.{num_be, length_over}
use Rattle.terms.specs.Terms.{plan_ok, record_length}
use Rattle.terms.specs.declared.Plan.{Plan}
use Rattle.terms.proofs.Plans.{plan_is}
use Rattle.book.specs.Records.{timed, rising}
use Rattle.book.specs.Book.{records_from, records_past, joined, laid_as, header, node_of, count_of, fixed}
use Rattle.book.proofs.Laid.{Sized, back, HeadIs, FillIs, BookIs, length_laid, length_header, over_is, laid_is}

pub long : (p : Plan) → plan_ok p ≡ true → 73 ≤ record_length p
unfolding record_length
long p e = let q = plan_is p e in omega arith

module _ (v : ℕ) (more : List ℕ) (p : Plan) (node : ℕ) (rs : List (List ℕ)) (old : List ℕ) (hv : v < 256) (pk : plan_ok p ≡ true) (hn : node < p.n)
    (z : Sized (record_length p) rs)
    (room : fixed + length more + length rs * record_length p ≤ length old) (high : length old ≤ 65536) where
  R : ℕ
  R = record_length p

  m : ℕ
  m = length rs

  end : ℕ
  end = fixed + length more + length rs * record_length p

  Y : List ℕ
  Y = more ++ (joined rs ++ drop end old)

  b : List ℕ
  b = over (laid_as v more p node rs) old

  b_is : b ≡ header v more p node m ++ (joined rs ++ drop end old)
  unfolding b m end
  b_is =
      over_is (laid_as v more p node rs) old end (length_laid v more p node rs z) ∙ ap (λ (l : List ℕ). l ++ drop end old) (laid_is v more p node rs)
      ∙ append_assoc (header v more p node (length rs)) (joined rs) (drop end old)

  b_parts : b ≡ be 4 (fixed - 4 + length more + m * R) ++ (be 1 v ++ (be 1 p.n ++ (be 1 node ++ (be 2 p.f ++ (be 2 m ++ Y)))))
  unfolding header R Y
  b_parts = b_is ∙ simp append_assoc

  c4 : (at n : ℕ) → part b (4 + at) n ≡ part (be 1 v ++ (be 1 p.n ++ (be 1 node ++ (be 2 p.f ++ (be 2 m ++ Y))))) at n
  c4 at n = ap (λ (l : List ℕ). part l (4 + at) n) b_parts ∙ part_past (be 4 (fixed - 4 + length more + m * R)) _ 4 at n (length_be 4 _)

  c5 : (at n : ℕ) → part b (4 + (1 + at)) n ≡ part (be 1 p.n ++ (be 1 node ++ (be 2 p.f ++ (be 2 m ++ Y)))) at n
  c5 at n = c4 (1 + at) n ∙ part_past (be 1 v) _ 1 at n (length_be 1 _)

  c6 : (at n : ℕ) → part b (4 + (1 + (1 + at))) n ≡ part (be 1 node ++ (be 2 p.f ++ (be 2 m ++ Y))) at n
  c6 at n = c5 (1 + at) n ∙ part_past (be 1 p.n) _ 1 at n (length_be 1 _)

  c7 : (at n : ℕ) → part b (4 + (1 + (1 + (1 + at)))) n ≡ part (be 2 p.f ++ (be 2 m ++ Y)) at n
  c7 at n = c6 (1 + at) n ∙ part_past (be 1 node) _ 1 at n (length_be 1 _)

  c9 : (at n : ℕ) → part b (4 + (1 + (1 + (1 + (2 + at))))) n ≡ part (be 2 m ++ Y) at n
  c9 at n = c7 (2 + at) n ∙ part_past (be 2 p.f) _ 2 at n (length_be 2 _)

  small : m < 65536
  unfolding m
  small =
      let one : 1 ≤ record_length p = (let q = long p pk in omega arith) in
      let self : length rs ≤ length rs = omega arith in
      let k : length rs * 1 ≤ length rs * record_length p = mul-le-mul self one in
      omega (arith, mul-one (length rs))

  pub count_back : count_of (over (laid_as v more p node rs) old) ≡ length rs
  unfolding b m
  count_back = ap num (c9 0 2 ∙ part_first (be 2 m) Y 2 (length_be 2 m)) ∙ num_be 2 m small

  pub node_back : node_of (over (laid_as v more p node rs) old) ≡ node
  unfolding b
  node_back = ap num (c6 0 1 ∙ part_first (be 1 node) _ 1 (length_be 1 node)) ∙ num_be 1 node (let q = plan_is p pk in omega arith)

  pub records_back : records_past (fixed + length more) p (over (laid_as v more p node rs) old) ≡ rs
  unfolding b m end
  records_back =
      ap (λ (k : ℕ). records_from (over (laid_as v more p node rs) old) (record_length p) k (fixed + length more)) count_back
      ∙ ap (λ (l : List ℕ). records_from l (record_length p) (length rs) (fixed + length more)) b_is
      ∙ back rs (header v more p node (length rs)) (drop end old) (record_length p) (fixed + length more) (length_header v more p node (length rs)) z

  pub good_back : timed rs ≡ true → rising rs ≡ true → BookIs v (fixed + length more) p (over (laid_as v more p node rs) old)
  unfolding b m R
  good_back t r =
      let q = plan_is p pk in
      let lo : length (over (laid_as v more p node rs) old) ≡ length old = length_over (laid_as v more p node rs) old
      (omega (arith, length_laid v more p node rs z)) in
      let u : fixed - 4 + length more + length rs * record_length p ≡ fixed + length more - 4 + length rs * record_length p = omega arith in
      let hd : HeadIs v (fixed + length more) p (over (laid_as v more p node rs) old) = record {
        used =
            ap num (ap (λ (l : List ℕ). part l 0 4) b_parts ∙ part_first (be 4 (fixed - 4 + length more + m * R)) _ 4 (length_be 4 _))
            ∙ num_be 4 (fixed - 4 + length more + length rs * record_length p) (omega arith)
            ∙ u ∙ ap (λ (k : ℕ). fixed + length more - 4 + k * record_length p) (sym count_back);
        version = ap num (c4 0 1 ∙ part_first (be 1 v) _ 1 (length_be 1 v)) ∙ num_be 1 v hv;
        nodes = ap num (c5 0 1 ∙ part_first (be 1 p.n) _ 1 (length_be 1 p.n)) ∙ num_be 1 p.n (omega arith);
        node = subst (λ (x : ℕ). x < p.n) (sym node_back) hn;
        size = ap num (c7 0 2 ∙ part_first (be 2 p.f) _ 2 (length_be 2 p.f)) ∙ num_be 2 p.f (omega arith);
      } in
      let fl : FillIs (fixed + length more) p (over (laid_as v more p node rs) old) = record {
        inside =
            subst (λ (k : ℕ). fixed + length more + k * record_length p ≤ length (over (laid_as v more p node rs) old)) (sym count_back) (omega arith);
        rise = ap rising records_back ∙ r;
        times = ap timed records_back ∙ t;
      } in
      record { head = hd; fill = fl }
