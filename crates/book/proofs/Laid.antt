-- Read back and laid out: a good book is its records laid out over it, and what an insertion leaves is the inserted list laid out.
-- Over any version v, with a header of h bytes, `more` of them after the count. Assumes nothing.
use Prim.{Unit, tt}
use mathlib.Core.Path.{◌≡◌, refl, sym, ap, ◌∙◌}
use mathlib.Core.Bool.{true}
use mathlib.Core.List.{List, [], ◌∷◌, ◌++◌, append_assoc}
use Prim.Native.Nat.{ℕ, zero, suc, ◌+◌, ◌-◌, ◌*◌, ◌≤◌, ◌<◌}
use native.Mathlib.Nat.{zero-add, add-mul, suc-mul, zero-mul}
use native.Mathlib.Omega.{arith}
use borrow.Author.Tests.{leb-true, ltb-true, eqb-true, eq-eqb, lt-ltb, le-leb}
use lib.ListN.{length, take, drop, length-append, length-drop, take-append-drop}
use lib.Seq.{take_at, drop_at, length-take-le}
use lib.Dec.{leb, ltb, eqb}
use Rattle.octets.specs.Bytes.{part, put, be, num, over, Octets}
use Rattle.octets.proofs.Laws.{length_part, length_be, put_put, put_is, part_middle}
use Rattle.octets.proofs.Meaning.{be_part, part_add}
use Rattle.terms.specs.Ladder.{all}
use Rattle.terms.specs.Stamp.{stamp}
use Rattle.terms.specs.Terms.{record_length}
use Rattle.terms.specs.declared.Plan.{Plan}
use Rattle.terms.proofs.Rungs.{both}
use Rattle.book.specs.Records.{timed, rising, below, insert_record}
use Rattle.book.specs.Inside.{inserted}
use Rattle.book.specs.Book.{records_from, records_past, joined, headed, filled, good_as, header, laid_as, node_of, count_of, fixed}
use Rattle.book.proofs.Lists.{below_le, insert_is, length_insert}

-- ---- records of r bytes each, and their bytes
abbrev pub Sized : ℕ → List (List ℕ) → Type 0
Sized r [] = Unit {0}
Sized r (x ∷ xs) = (length x ≡ r) × Sized r xs

joined_append : (xs ys : List (List ℕ)) → joined (xs ++ ys) ≡ joined xs ++ joined ys
unfolding joined
joined_append [] ys = refl
joined_append (x ∷ xs) ys = rw (joined_append xs ys) (sym (append_assoc x (joined xs) (joined ys)))

joined_cons : (x : List ℕ) (rs : List (List ℕ)) → joined (x ∷ rs) ≡ x ++ joined rs
unfolding joined
joined_cons x rs = refl

cut : (b : List ℕ) (r m at : ℕ) → part b at (m * r) ≡ joined (records_from b r m at)
unfolding records_from joined part
cut b r zero at = rw zero-mul
cut b r (suc m) at =
    let e : suc m * r ≡ r + m * r = omega (arith, suc-mul m r) in
    rw e (part_add b at r (m * r) ∙ ap (λ (l : List ℕ). part b at r ++ l) (cut b r m (at + r)))

pub sized : (b : List ℕ) (r m at : ℕ) → at + m * r ≤ length b → Sized r (records_from b r m at)
unfolding records_from
sized b r zero at h = tt
sized b r (suc m) at h = let e = suc-mul m r in (length_part b at r (omega arith), sized b r m (at + r) (omega arith))

pub length_records : (b : List ℕ) (r m at : ℕ) → length (records_from b r m at) ≡ m
unfolding records_from
length_records b r zero at = refl
length_records b r (suc m) at = ap suc (length_records b r m (at + r))

length_joined : (r : ℕ) (rs : List (List ℕ)) → Sized r rs → length (joined rs) ≡ length rs * r
unfolding joined
length_joined r [] z = sym (zero-mul r)
length_joined r (x ∷ rs) z = length-append x (joined rs) ∙ omega (arith, length_joined r rs z.1, suc-mul (length rs) r, z.0)

pub back : (rs : List (List ℕ)) (p s : List ℕ) (r at : ℕ) → length p ≡ at → Sized r rs → records_from (p ++ (joined rs ++ s)) r (length rs) at ≡ rs
unfolding records_from joined
back [] p s r at e z = refl
back (x ∷ xs) p s r at e z =
    let l : length (p ++ x) ≡ at + r = length-append p x ∙ (λ i. e i + z.0 i) in
    ap (λ (q : List ℕ). records_from (p ++ q) r (length (x ∷ xs)) at) (append_assoc x (joined xs) s) ∙ (λ i. part_middle _ p x (joined xs ++ s) at r refl e z.0 i
    ∷ (ap (λ (q : List ℕ). records_from q r (length xs) (at + r)) (sym (append_assoc p x (joined xs ++ s))) ∙ back xs (p ++ x) s r (at + r) l z.1) i)

sized_take : (r n : ℕ) (rs : List (List ℕ)) → Sized r rs → Sized r (take n rs)
sized_take r zero rs z = tt
sized_take r (suc n) [] z = tt
sized_take r (suc n) (x ∷ rs) z = (z.0, sized_take r n rs z.1)

sized_drop : (r n : ℕ) (rs : List (List ℕ)) → Sized r rs → Sized r (drop n rs)
sized_drop r zero rs z = z
sized_drop r (suc n) [] z = tt
sized_drop r (suc n) (x ∷ rs) z = sized_drop r n rs z.1

sized_append : (r : ℕ) (xs ys : List (List ℕ)) → Sized r xs → Sized r ys → Sized r (xs ++ ys)
sized_append r [] ys p q = q
sized_append r (x ∷ xs) ys p q = (p.0, sized_append r xs ys p.1 q)

pub sized_insert : (r : ℕ) (rec : List ℕ) (rs : List (List ℕ)) → length rec ≡ r → Sized r rs → Sized r (insert_record rec rs)
sized_insert r rec rs e z =
    let j : ℕ = below (stamp rec) rs in
    rw (insert_is rec rs) (sized_append r (take j rs) (rec ∷ drop j rs) (sized_take r j rs z) (e, sized_drop r j rs z))

-- ---- a good book, as plain facts
pub record HeadIs (v h : ℕ) (p : Plan) (b : List ℕ) : Type 0 where
  pub used : num (part b 0 4) ≡ h - 4 + count_of b * record_length p
  pub version : num (part b 4 1) ≡ v
  pub nodes : num (part b 5 1) ≡ p.n
  pub node : node_of b < p.n
  pub size : num (part b 7 2) ≡ p.f

pub record FillIs (h : ℕ) (p : Plan) (b : List ℕ) : Type 0 where
  pub inside : h + count_of b * record_length p ≤ length b
  pub rise : rising (records_past h p b) ≡ true
  pub times : timed (records_past h p b) ≡ true

pub record BookIs (v h : ℕ) (p : Plan) (b : List ℕ) : Type 0 where
  pub head : HeadIs v h p b
  pub fill : FillIs h p b

pub head_is : (v h : ℕ) (p : Plan) (b : List ℕ) → headed v h p b ≡ true → HeadIs v h p b
unfolding headed all
head_is v h p b e =
    let e1 = both (eqb (num (part b 0 4)) (h - 4 + count_of b * record_length p)) _ e in
    let e2 = both (eqb (num (part b 4 1)) v) _ e1.1 in
    let e3 = both (eqb (num (part b 5 1)) p.n) _ e2.1 in
    let e4 = both (ltb (node_of b) p.n) _ e3.1 in
    let e5 = both (eqb (num (part b 7 2)) p.f) _ e4.1 in
    record { used = eqb-true _ _ e1.0; version = eqb-true _ _ e2.0; nodes = eqb-true _ _ e3.0; node = ltb-true _ _ e4.0; size = eqb-true _ _ e5.0 }

pub fill_is : (h : ℕ) (p : Plan) (b : List ℕ) → filled h p b ≡ true → FillIs h p b
unfolding filled all
fill_is h p b e =
    let e1 = both (leb (h + count_of b * record_length p) (length b)) _ e in
    let e2 = both (rising (records_past h p b)) _ e1.1 in
    let e3 = both (timed (records_past h p b)) _ e2.1 in
    record { inside = leb-true _ _ e1.0; rise = e2.0; times = e3.0 }

pub book_is : (v h : ℕ) (p : Plan) (b : List ℕ) → good_as v h p b ≡ true → BookIs v h p b
book_is v h p b e = let q = both (headed v h p b) _ e in record { head = head_is v h p b q.0; fill = fill_is h p b q.1 }

pub book_back : (v h : ℕ) (p : Plan) (b : List ℕ) → BookIs v h p b → good_as v h p b ≡ true
unfolding headed filled all
book_back v h p b i =
    rw (
      eq-eqb (num (part b 0 4)) (h - 4 + count_of b * record_length p) i.head.used,
      eq-eqb (num (part b 4 1)) v i.head.version,
      eq-eqb (num (part b 5 1)) p.n i.head.nodes,
      lt-ltb (node_of b) p.n i.head.node,
      eq-eqb (num (part b 7 2)) p.f i.head.size,
      le-leb (h + count_of b * record_length p) (length b) i.fill.inside,
      i.fill.rise,
      i.fill.times,
    )

whole : (b x : List ℕ) (n : ℕ) → n ≤ length b → x ≡ part b 0 n → b ≡ x ++ drop (length x) b
unfolding part
whole b x n h e = rw (e, length-take-le n b h) (sym (take-append-drop n b))

-- a good book of bytes is its own laying out
pub laid : (v h : ℕ) (p : Plan) (b : List ℕ) → fixed ≤ h → Octets b → BookIs v h p b
    → b ≡ over (laid_as v (part b fixed (h - fixed)) p (node_of b) (records_past h p b)) b
unfolding laid_as header over
laid v h p b low o i =
    let R : ℕ = record_length p in
    let k : ℕ = count_of b in
    let M : List ℕ = part b fixed (h - fixed) in
    let fits : h + k * R ≤ length b = i.fill.inside in
    let lr : length (records_past h p b) ≡ k = length_records b R k h in
    let lm : length M ≡ h - fixed = length_part b fixed (h - fixed) (omega arith) in
    let u : num (part b 0 4) ≡ fixed - 4 + length M + k * R = i.head.used ∙ ap (λ (x : ℕ). x + k * R) (omega arith) in
    let p0 : be 4 (fixed - 4 + length M + k * R) ≡ part b 0 4 = ap (λ (x : ℕ). be 4 x) (sym u) ∙ be_part b 0 4 (omega arith) o in
    let p4 : be 1 v ≡ part b 4 1 = ap (λ (x : ℕ). be 1 x) (sym i.head.version) ∙ be_part b 4 1 (omega arith) o in
    let p5 : be 1 p.n ≡ part b 5 1 = ap (λ (x : ℕ). be 1 x) (sym i.head.nodes) ∙ be_part b 5 1 (omega arith) o in
    let p6 : be 1 (node_of b) ≡ part b 6 1 = be_part b 6 1 (omega arith) o in
    let p7 : be 2 p.f ≡ part b 7 2 = ap (λ (x : ℕ). be 2 x) (sym i.head.size) ∙ be_part b 7 2 (omega arith) o in
    let p9 : be 2 k ≡ part b 9 2 = be_part b 9 2 (omega arith) o in
    let E : ℕ = h - fixed in
    let hh : 4 + (1 + (1 + (1 + (2 + (2 + E))))) ≡ h = omega arith in
    let hd : be 4 (fixed - 4 + length M + k * R) ++ (be 1 v ++ (be 1 p.n ++ (be 1 (node_of b) ++ (be 2 p.f ++ (be 2 k ++ M))))) ≡ part b 0 h =
    (λ j. p0 j ++ (p4 j ++ (p5 j ++ (p6 j ++ (p7 j ++ (p9 j ++ M))))))
    ∙ sym (part_add b 0 4 (1 + (1 + (1 + (2 + (2 + E))))) ∙ ap (λ (l : List ℕ). part b 0 4 ++ l) (part_add b 4 1 (1 + (1 + (2 + (2 + E)))) ∙ ap (λ (l : List ℕ). part b 4 1 ++ l)
    (part_add b 5 1 (1 + (2 + (2 + E))) ∙ ap (λ (l : List ℕ). part b 5 1 ++ l) (part_add b 6 1 (2 + (2 + E)) ∙ ap (λ (l : List ℕ). part b 6 1 ++ l)
    (part_add b 7 2 (2 + E) ∙ ap (λ (l : List ℕ). part b 7 2 ++ l) (part_add b 9 2 E)))))) ∙ ap (λ (x : ℕ). part b 0 x) hh in
    let bytes : be 4 (fixed - 4 + length M + k * R) ++ (be 1 v ++ (be 1 p.n ++ (be 1 (node_of b) ++ (be 2 p.f ++ (be 2 k ++ M))))) ++ joined
    (records_past h p b) ≡ part b 0 (h + k * R) =
    (λ j. hd j ++ (sym (cut b R k h) ∙ ap (λ (x : ℕ). part b x (k * R)) (sym (zero-add h))) j) ∙ sym (part_add b 0 h (k * R)) in
    rw lr (whole b _ (h + k * R) fits bytes)

-- ---- the header
abbrev middle : ℕ → Plan → ℕ → List ℕ
middle v p node = be 1 v ++ (be 1 p.n ++ (be 1 node ++ be 2 p.f))

header_split : (v : ℕ) (more : List ℕ) (p : Plan) (node c : ℕ) (y : List ℕ)
    → header v more p node c ++ y ≡ be 4 (fixed - 4 + length more + c * record_length p) ++ (middle v p node ++ (be 2 c ++ (more ++ y)))
unfolding header
header_split v more p node c y = simp append_assoc

length_middle : (v : ℕ) (p : Plan) (node : ℕ) → length (middle v p node) ≡ 5
length_middle v p node = simp (length-append, length_be)

pub length_header : (v : ℕ) (more : List ℕ) (p : Plan) (node c : ℕ) → length (header v more p node c) ≡ fixed + length more
unfolding header
length_header v more p node c = simp (length-append, length_be) (omega arith)

-- another length and another count
rehead : (a a₂ m c c₂ y : List ℕ) → length a ≡ 4 → length a₂ ≡ 4 → length m ≡ 5 → length c ≡ 2 → length c₂ ≡ 2
    → put (put (a ++ (m ++ (c ++ y))) 0 a₂) 9 c₂ ≡ a₂ ++ (m ++ (c₂ ++ y))
unfolding put
rehead a a₂ m c c₂ y ha ha₂ hm hc hc₂ =
    let n : 0 + length a₂ ≡ 4 = omega arith in
    let l : length (a₂ ++ m) ≡ 9 = length-append a₂ m ∙ omega arith in
    let k : 9 + length c₂ ≡ fixed = omega arith in
    let q : length (a₂ ++ m ++ c) ≡ fixed = length-append (a₂ ++ m) c ∙ omega arith in
    rw (n, drop_at a (m ++ (c ++ y)) 4 ha, k, ← append_assoc a₂ m (c ++ y), take_at (a₂ ++ m) (c ++ y) 9 l, ← append_assoc (a₂ ++ m) c y, drop_at (a₂ ++ m ++ c) y fixed q)
    (append_assoc a₂ m (c₂ ++ y))

pub over_is : (x b : List ℕ) (n : ℕ) → length x ≡ n → over x b ≡ x ++ drop n b
unfolding over
over_is x b n e = ap (λ (k : ℕ). x ++ drop k b) e

module _ (v : ℕ) (more : List ℕ) (p : Plan) (node : ℕ) where
  pub length_laid : (rs : List (List ℕ)) → Sized (record_length p) rs
      → length (laid_as v more p node rs) ≡ fixed + length more + length rs * record_length p
  unfolding laid_as
  length_laid rs z =
      length-append (header v more p node (length rs)) (joined rs)
      ∙ (λ i. length_header v more p node (length rs) i + length_joined (record_length p) rs z i)

  pub laid_is : (rs : List (List ℕ)) → laid_as v more p node rs ≡ header v more p node (length rs) ++ joined rs
  unfolding laid_as
  laid_is rs = refl

  -- what the code's insertion leaves is the inserted list laid out, over the old book
  pub inserted_laid : (h : ℕ) (b rec : List ℕ) (rs : List (List ℕ)) → h ≡ fixed + length more → Sized (record_length p) rs → length rec ≡ record_length p
      → h + length rs * record_length p + record_length p ≤ length b → b ≡ over (laid_as v more p node rs) b
      → inserted b (h + below (stamp rec) rs * record_length p) (h + length rs * record_length p) rec (record_length p) (length rs + 1) ≡ over (laid_as v more p node (insert_record rec rs)) b
  unfolding inserted
  inserted_laid h b rec rs eh z lr room e =
      let R : ℕ = record_length p in
      let m : ℕ = length rs in
      let j : ℕ = below (stamp rec) rs in
      let jm : j ≤ m = below_le (stamp rec) rs in
      let sp : m * R ≡ j * R + (m - j) * R = (let q : j + (m - j) ≡ m = omega arith in ap (λ (x : ℕ). x * R) (sym q) ∙ add-mul j (m - j) R) in
      let at : ℕ = h + j * R in
      let end : ℕ = h + m * R in
      let H : List ℕ = header v more p node m in
      let J1 : List ℕ = joined (take j rs) in
      let J2 : List ℕ = joined (drop j rs) in
      let T : List ℕ = drop end b in
      let D : List ℕ = drop (end + R) b in
      let Y : List ℕ = J1 ++ (rec ++ (J2 ++ D)) in
      let l1 : length J1 ≡ j * R = length_joined R (take j rs) (sized_take R j rs z) ∙ ap (λ (x : ℕ). x * R) (length-take-le j rs jm) in
      let l2 : length J2 ≡ (m - j) * R = length_joined R (drop j rs) (sized_drop R j rs z) ∙ ap (λ (x : ℕ). x * R) (length-drop j rs) in
      let lh : length H ≡ h = length_header v more p node m ∙ sym eh in
      let lp : length (H ++ J1) ≡ at = length-append H J1 ∙ omega arith in
      let jj : joined rs ≡ J1 ++ J2 = ap joined (sym (take-append-drop j rs)) ∙ joined_append (take j rs) (drop j rs) in
      let ll : length (laid_as v more p node rs) ≡ end = length_laid rs z ∙ ap (λ (x : ℕ). x + m * R) (sym eh) in
      let split : b ≡ (H ++ J1) ++ (J2 ++ T) = e ∙ over_is (laid_as v more p node rs) b end ll ∙ ap (λ (l : List ℕ). l ++ T) (laid_is rs)
      ∙ ap (λ (l : List ℕ). H ++ l ++ T) jj ∙ simp append_assoc in
      let tk : take at b ≡ H ++ J1 = ap (λ (l : List ℕ). take at l) split ∙ take_at (H ++ J1) (J2 ++ T) at lp in
      let q : end - at ≡ (m - j) * R = omega arith in
      let pt : part b at (end - at) ≡ J2 = rw q
      (ap (λ (l : List ℕ). part l at ((m - j) * R)) split ∙ part_middle _ (H ++ J1) J2 T at ((m - j) * R) refl lp l2) in
      let n : at + length (rec ++ J2) ≡ end + R = ap (λ (x : ℕ). at + x) (length-append rec J2) ∙ omega arith in
      let ra : at + R ≡ at + length rec = omega arith in
      let two : put (put b (at + R) (part b at (end - at))) at rec ≡ H ++ Y =
      ap (λ (x : ℕ). put (put b x (part b at (end - at))) at rec) ra ∙ ap (λ (l : List ℕ). put (put b (at + length rec) l) at rec) pt
      ∙ put_put b at rec J2 (omega arith) ∙ put_is b at (rec ++ J2) ∙ rw (n, tk) (simp append_assoc) in
      let c4 : end + R - 4 ≡ fixed - 4 + length more + (m + 1) * R = omega (arith, add-mul m 1 R) in
      let ji : J1 ++ (rec ++ J2) ≡ joined (insert_record rec rs) = sym
      (ap joined (insert_is rec rs) ∙ joined_append (take j rs) (rec ∷ drop j rs) ∙ ap (λ (l : List ℕ). J1 ++ l) (joined_cons rec (drop j rs))) in
      let li : length (insert_record rec rs) ≡ m + 1 = length_insert rec rs in
      let le : length (laid_as v more p node (insert_record rec rs)) ≡ end + R = length_laid (insert_record rec rs) (sized_insert R rec rs lr z)
      ∙ ap (λ (x : ℕ). fixed + length more + x * R) li ∙ omega (arith, add-mul m 1 R) in
      let right : over (laid_as v more p node (insert_record rec rs)) b ≡ header v more p node (m + 1) ++ Y =
      over_is (laid_as v more p node (insert_record rec rs)) b (end + R) le ∙ ap (λ (l : List ℕ). l ++ D) (laid_is (insert_record rec rs))
      ∙ (λ i. header v more p node (li i) ++ sym ji i ++ D) ∙ simp append_assoc in
      ap (λ (l : List ℕ). put (put l 0 (be 4 (end + R - 4))) 9 (be 2 (m + 1))) (two ∙ header_split v more p node m Y)
      ∙ rehead (be 4 (fixed - 4 + length more + m * R)) (be 4 (end + R - 4)) (middle v p node) (be 2 m) (be 2 (m + 1)) (more ++ Y) (length_be 4 _)
      (length_be 4 _) (length_middle v p node) (length_be 2 m) (length_be 2 (m + 1))
      ∙ ap (λ (x : ℕ). be 4 x ++ (middle v p node ++ (be 2 (m + 1) ++ (more ++ Y)))) c4
      ∙ sym (right ∙ header_split v more p node (m + 1) Y)
