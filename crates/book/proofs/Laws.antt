-- What the book's functions ensure, each need a law. Assumes nothing.
use Rattle.std.specs.Prelude.{Option, Some, None}
use mathlib.Core.Path.{◌≡◌, refl, sym, ap, ◌∙◌, subst}
use mathlib.Core.Bool.{Bool, true, false, cond}
use mathlib.Core.List.{List, [], ◌++◌, append-nil, append_assoc}
use Prim.Native.Nat.{ℕ, zero, suc, ◌+◌, ◌-◌, ◌*◌, ◌≤◌, ◌<◌}
use native.Mathlib.Nat.{add-zero, suc-mul, zero-mul, mul-le-mul_right}
use native.Mathlib.Omega.{arith}
use borrow.Author.Tests.{eqb-true, eqb-false, eq-eqb, lt-ltb, leb-true, le-leb, lt-leb}
use lib.ListN.{length, take, get_or, length-append}
use lib.Seq.{take_all}
use lib.Dec.{eqb, leb}
use Rattle.octets.specs.Bytes.{part, put, num, num_from, be, over, alike, Octets}
use Rattle.octets.proofs.Laws.{length_be, length_part, slot_fits}
use Rattle.octets.proofs.Meaning.{be_part, is_alike, alike_is, over_start, over_more}
use Rattle.terms.specs.Ladder.{all}
use Rattle.terms.specs.Stamp.{stamp, time}
use Rattle.terms.specs.Terms.{plan_ok, record_length}
use Rattle.terms.specs.declared.Plan.{Plan}
use Rattle.terms.proofs.Rungs.{both, clash}
use Rattle.terms.proofs.Plans.{not_ok}
use Rattle.terms.proofs.Picks.{itself}
use Rattle.book.specs.declared.Fate.{Fate}
use Rattle.book.specs.declared.Fate.TheVariants.{Held, Other, Free}
use Rattle.book.specs.declared.Span.{Span}
use Rattle.book.specs.Records.{timed, rising, below, last_of, last_below, fate_of}
use Rattle.book.specs.declared.Book.{Book}
use Rattle.book.specs.Inside.{inserted, fate_by, Lies, Placed, Grows}
use Rattle.book.specs.Book.{fixed, blank, book_head, book_lent, book_in, records_from, records_in, records_past, records_of, headed, filled, good_book, header, joined, laid_as, laid_out, version_in, node_of, count_of, used_in, used_of, Checked, Holds, Sound, Itself, grown}
use Rattle.book.proofs.Lists as lists
use Rattle.book.proofs.Turns as turns
use Rattle.book.proofs.Laid as laid
use Rattle.book.proofs.Back.{long}

-- ---- the lent length
pub lent_low : (n : ℕ) → n < book_head 1 → false ≡ book_lent n
lent_low n h = rw (lt-leb (book_head 1) n h)

pub lent_last : (n : ℕ) → book_head 1 ≤ n → leb n 65536 ≡ book_lent n
lent_last n h = rw (le-leb (book_head 1) n h)

pub lent_is : (n : ℕ) → book_lent n ≡ true → (book_head 1 ≤ n) × (n ≤ 65536)
lent_is n e = let q = both (leb (book_head 1) n) _ e in (leb-true _ _ q.0, leb-true _ _ q.1)

-- ---- the shape
pub good_is : (p : Plan) (b : List ℕ) → good_book p b ≡ true → laid.BookIs 1 (book_head 1) p b
unfolding good_book
good_is p b e = laid.book_is 1 (book_head 1) p b e

pub good_inside : (p : Plan) (b : List ℕ) → good_book p b ≡ true → used_of p b ≤ length b
good_inside p b e = (good_is p b e).fill.inside

pub good_laid : (p : Plan) (b : List ℕ) → Octets b → laid.BookIs 1 (book_head 1) p b → Itself p b
unfolding part
good_laid p b o i = laid.laid 1 (book_head 1) p b (omega arith) o i

pub head_no : (v h : ℕ) (p : Plan) (b : List ℕ) → (laid.HeadIs v h p b → ⊥) → false ≡ headed v h p b
head_no v h p b f = not_ok _ (λ e. f (laid.head_is v h p b e))

pub head_last : (v h : ℕ) (p : Plan) (b : List ℕ) → num (part b 0 4) ≡ h - 4 + count_of b * record_length p → version_in b ≡ v
    → num (part b 5 1) ≡ p.n → node_of b < p.n
    → eqb (num (part b 7 2)) p.f ≡ headed v h p b
unfolding headed all
head_last v h p b u e n d =
    rw (eq-eqb (num (part b 0 4)) (h - 4 + count_of b * record_length p) u, eq-eqb (version_in b) v e, eq-eqb (num (part b 5 1)) p.n n, lt-ltb (node_of b) p.n d)
    (itself (eqb (num (part b 7 2)) p.f))

pub fill_no : (h : ℕ) (p : Plan) (b : List ℕ) → (laid.FillIs h p b → ⊥) → false ≡ filled h p b
fill_no h p b f = not_ok _ (λ e. f (laid.fill_is h p b e))

pub fill_last : (h : ℕ) (p : Plan) (b : List ℕ) (a : Bool) → h + count_of b * record_length p ≤ length b → rising (records_past h p b) ≡ true
    → a ≡ timed (records_past h p b) → a ≡ filled h p b
unfolding filled all
fill_last h p b a i r e = rw (le-leb (h + count_of b * record_length p) (length b) i, r) (e ∙ itself (timed (records_past h p b)))

-- the fields of a header that was read
module _ (p : Plan) (b : List ℕ) (k : Book) (e : k ≡ book_in p b) where
  pub version_of : k.version ≡ version_in b
  version_of = ap (λ (x : Book). x.version) e

  pub head_of : k.head ≡ book_head (version_in b)
  head_of = ap (λ (x : Book). x.head) e

  pub node_of_lem : k.node ≡ node_of b
  node_of_lem = ap (λ (x : Book). x.node) e

  pub used_of_lem : used_in k ≡ used_of p b
  used_of_lem = ap used_in e

  pub length_of : k.head - 4 + k.count * k.each ≡ book_head 1 - 4 + count_of b * record_length p
  length_of = ap (λ (x : Book). x.head - 4 + x.count * x.each) e

  pub records_of_lem : records_in k b ≡ records_of p b
  records_of_lem = ap (λ (x : Book). records_in x b) e

good_from : (p : Plan) (b : List ℕ) {h f : Bool} → h ≡ headed 1 (book_head 1) p b → h ≡ true → f ≡ filled (book_head 1) p b → f ≡ good_book p b
unfolding good_book
good_from p b e t f = rw (sym e ∙ t) f

-- the verdict, from what was read
module _ (p : Plan) (b : List ℕ) (k : Book) (o : Octets b) (e : k ≡ book_in p b) (n : k.count < 65536) where
  small : count_of b < 65536
  small = subst (λ (x : Book). x.count < 65536) e n

  laid_if : good_book p b ≡ true → Itself p b
  laid_if g = good_laid p b o (good_is p b g)

  bad : good_book p b ≡ false → Checked p b None
  bad g = record { is = rw g; laid = laid_if; small = small }

  pub bad_head : headed 1 (book_head 1) p b ≡ false → Checked p b None
  unfolding good_book
  bad_head g = bad (rw g)

  pub bad_fill : {h f : Bool} → h ≡ headed 1 (book_head 1) p b → h ≡ true → f ≡ filled (book_head 1) p b → f ≡ false → Checked p b None
  bad_fill eh h ef f = bad (sym (good_from p b eh h ef) ∙ f)

  pub all_good : {h f : Bool} → h ≡ headed 1 (book_head 1) p b → h ≡ true → f ≡ filled (book_head 1) p b → f ≡ true → Checked p b (Some k)
  all_good eh h ef f = record { is = rw (sym (good_from p b eh h ef) ∙ f) (ap Some e); laid = laid_if; small = small }

pub checked_as : (p : Plan) (b : List ℕ) (s t : Option Book) → s ≡ t → Checked p b s → Checked p b t
checked_as p b s t e c = record { is = sym e ∙ c.is; laid = c.laid; small = c.small }

-- what it said
book_or : Book → Option Book → Book
book_or k None = k
book_or k (Some x) = x

is_good : Option Book → Bool
is_good None = false
is_good (Some k) = true

pub was_good : (p : Plan) (b : List ℕ) (k : Book) → Checked p b (Some k) → Sound p k b
unfolding book_or is_good
was_good p b k c = go (good_book p b) refl c.is
  where
    go : (g : Bool) → good_book p b ≡ g → Some k ≡ cond g (Some (book_in p b)) None → Sound p k b
    go true g e =
        let i : k ≡ book_in p b = ap (book_or k) e in
        record { is = i; good = g; laid = c.laid g; small = subst (λ (x : Book). x.count < 65536) (sym i) c.small }
    go false g e = absurd (clash (ap is_good e))

pub was_bad : (p : Plan) (b : List ℕ) → Checked p b None → good_book p b ≡ false
unfolding is_good
was_bad p b c = go (good_book p b) refl c.is
  where
    go : (g : Bool) → good_book p b ≡ g → None ≡ cond g (Some (book_in p b)) None → good_book p b ≡ false
    go true g e = absurd (clash (sym (ap is_good e)))
    go false g e = g

pub sound_holds : (p : Plan) (k : Book) (b : List ℕ) → plan_ok p ≡ true → Sound p k b → Holds k b
sound_holds p k b pk q = record {
  low = let h = head_of p b k q.is in omega arith;
  small = q.small;
  long = subst (λ (x : Book). 40 ≤ x.each) (sym q.is) (let l = long p pk in omega arith);
  inside = subst (λ (x : Book). used_in x ≤ length b) (sym q.is) (good_inside p b q.good);
  rise = subst (λ (x : Book). rising (records_in x b) ≡ true) (sym q.is) (good_is p b q.good).fill.rise;
}

-- ---- records, where they lie
record_at : (b : List ℕ) (r m at i : ℕ) → i < m → get_or (records_from b r m at) i [] ≡ part b (at + i * r) r
unfolding records_from
record_at b r zero at i h = absurd (omega arith)
record_at b r (suc m) at zero h = rw (zero-mul, add-zero)
record_at b r (suc m) at (suc i) h =
    record_at b r m (at + r) i (omega arith) ∙ ap (λ (x : ℕ). part b x r) (omega (arith, suc-mul i r))

pub span_none : (b : List ℕ) (r m h k : ℕ) → k ≡ 0 → Lies b r (last_of (take k (records_from b r m h))) (record { at = 0; len = 0 })
unfolding part
span_none b r m h k e = record {
  inside = omega arith;
  short = omega arith;
  is = sym (ap (λ (j : ℕ). last_of (take j (records_from b r m h))) e ∙ lists.last_none (records_from b r m h));
}

pub span_some : (b : List ℕ) (r m h k : ℕ) → (k ≡ 0 → ⊥) → k ≤ m → h + m * r ≤ length b
    → Lies b r (last_of (take k (records_from b r m h))) (record { at = h + (k - 1) * r; len = r })
span_some b r m h zero f l u = absurd (f refl)
span_some b r m h (suc k) f l u =
    let q : suc k - 1 ≡ k = omega arith in
    let n = laid.length_records b r m h in
    rw q (record {
      inside = omega (arith, slot_fits k m r (omega arith));
      short = omega arith;
      is = sym (lists.last_take k (records_from b r m h) (omega arith) ∙ record_at b r m h k (omega arith));
    })

module _ (k : Book) (b : List ℕ) where
  rs : List (List ℕ)
  rs = records_in k b

  number : length (records_in k b) ≡ k.count
  number = laid.length_records b k.each k.count k.head

  lies_as : (x y : List ℕ) (s : Span) → x ≡ y → Lies b k.each x s → Lies b k.each y s
  lies_as x y s f q = record { inside = q.inside; short = q.short; is = q.is ∙ f }

  pub last_is : (s : Span) → Lies b k.each (last_of (take k.count (records_in k b))) s → Lies b k.each (last_of (records_in k b)) s
  last_is s q = let n = number in lies_as _ _ s (ap last_of (take_all k.count (records_in k b) (omega arith))) q

  pub below_is : (x i : ℕ) (s : Span) → rising (records_in k b) ≡ true → i ≡ below x (records_in k b)
      → Lies b k.each (last_of (take i (records_in k b))) s
      → Lies b k.each (last_below x (records_in k b)) s
  below_is x i s up ei q =
      lies_as _ _ s (ap (λ (n : ℕ). last_of (take n (records_in k b))) ei ∙ ap last_of (sym (lists.those_below x (records_in k b) up))) q

  pub place_low : (x i : ℕ) → i ≡ below x (records_in k b) → i ≤ k.count
  place_low x i e = let n = number in let l = lists.below_le x (records_in k b) in omega arith

  -- the place of insertion is not past the end
  pub place_used : (x i : ℕ) → i ≡ below x (records_in k b) → k.head + i * k.each ≤ used_in k
  place_used x i e = let q : i * k.each ≤ k.count * k.each = mul-le-mul_right k.each (place_low x i e) in omega arith

  nil_time : time [] ≡ 0
  unfolding part num num_from
  nil_time = refl

  last_zero : (n : ℕ) → n ≡ 0 → 0 ≡ time (last_of (records_from b k.each n k.head))
  unfolding records_from last_of
  last_zero n e = sym (ap (λ (j : ℕ). time (last_of (records_from b k.each j k.head))) e ∙ nil_time)

  pub time_none : k.count ≡ 0 → 0 ≡ time (last_of (records_in k b))
  time_none e = last_zero k.count e

  pub time_some : (x : ℕ) → (k.count ≡ 0 → ⊥) → 8 ≤ k.each → used_in k ≤ length b → x ≡ num (part b (k.head + (k.count - 1) * k.each) 8)
      → x ≡ time (last_of (records_in k b))
  time_some x f l u e =
      let self : k.count ≤ k.count = omega arith in
      let q = last_is _ (span_some b k.each k.count k.head k.count f self u) in
      e ∙ ap num (sym (turns.start b (k.head + (k.count - 1) * k.each) k.each 8 l)) ∙ ap (λ (y : List ℕ). time y) q.is

  -- ---- the fate of the record at `from` of src
  module _ (src : List ℕ) (from i : ℕ) (l : 40 ≤ k.each) (ei : i ≡ below (num (part src from 40)) (records_in k b)) where
    rec : List ℕ
    rec = part src from k.each

    ei₂ : i ≡ below (stamp (part src from k.each)) (records_in k b)
    ei₂ = ei ∙ ap (λ (x : List ℕ). below (num x) (records_in k b)) (sym (turns.start src from k.each 40 l))

    pub fate_found : (f : Fate) → rising (records_in k b) ≡ true → i < k.count → f ≡ fate_by (part b (k.head + i * k.each) k.each) (part src from k.each) i
        → f ≡ fate_of (part src from k.each) (records_in k b)
    fate_found f up low e =
        let n : length (records_in k b) ≡ k.count = number in
        let i₂ : i ≡ below (stamp (part src from k.each)) (records_in k b) = ei₂ in
        let q = lists.fate_in (part src from k.each) (records_in k b) up (omega arith) in
        e ∙ (λ j. fate_by (sym (record_at b k.each k.count k.head i low) j) (part src from k.each) i)
        ∙ (λ j. fate_by (get_or (records_in k b) (ei₂ j) []) (part src from k.each) (ei₂ j)) ∙ sym q

    pub fate_free : k.count ≤ i → Free i ≡ fate_of (part src from k.each) (records_in k b)
    fate_free low =
        let n = number in
        let i₂ : i ≡ below (stamp (part src from k.each)) (records_in k b) = ei₂ in
        ap Free ei₂ ∙ sym (lists.fate_end (part src from k.each) (records_in k b) (omega arith))

-- equal bytes and equal numbers
alike_num : (a b : List ℕ) (i j n : ℕ) → Octets a → Octets b → i + n ≤ length a → j + n ≤ length b
    → alike (part a i n) (part b j n) ≡ eqb (num (part a i n)) (num (part b j n))
alike_num a b i j n oa ob h k = pick (eqb (num (part a i n)) (num (part b j n))) refl
  where
    pick : (t : Bool) → eqb (num (part a i n)) (num (part b j n)) ≡ t → alike (part a i n) (part b j n) ≡ t
    pick true e =
        let z : num (part a i n) ≡ num (part b j n) = eqb-true _ _ e in
        is_alike _ _ (sym (be_part a i n h oa) ∙ ap (λ (x : ℕ). be n x) z ∙ be_part b j n k ob)
    pick false e = sym (not_ok _ (λ y. eqb-false _ _ e (ap num (alike_is _ _ y))))

-- the record at `at` of b stands at the place of the one at `from` of s
module _ (b s : List ℕ) (at from r k : ℕ) (l : 40 ≤ r) (ob : Octets b) (os : Octets s) (hb : at + r ≤ length b) (hs : from + r ≤ length s) where
  stamps : eqb (stamp (part b at r)) (stamp (part s from r)) ≡ alike (part b at 40) (part s from 40)
  stamps =
      (λ i. eqb (num (turns.start b at r 40 l i)) (num (turns.start s from r 40 l i)))
      ∙ sym (alike_num b s at from 40 ob os (omega arith) (omega arith))

  pub by_free : alike (part b at 40) (part s from 40) ≡ false → Free k ≡ fate_by (part b at r) (part s from r) k
  unfolding fate_by
  by_free e = rw (stamps ∙ e)

  pub by_held : alike (part b at 40) (part s from 40) ≡ true → alike (part b at r) (part s from r) ≡ true
      → Held ≡ fate_by (part b at r) (part s from r) k
  unfolding fate_by
  by_held e f = rw (stamps ∙ e, f)

  pub by_other : alike (part b at 40) (part s from 40) ≡ true → alike (part b at r) (part s from r) ≡ false
      → Other ≡ fate_by (part b at r) (part s from r) k
  unfolding fate_by
  by_other e f = rw (stamps ∙ e, f)

-- ---- writing
-- of the header of a good book
of_plan : (p : Plan) (b src x : List ℕ) (from i : ℕ) → Placed (book_in p b) b src from i → good_book p b ≡ true → Itself p b
    → x ≡ inserted b (book_head 1 + i * record_length p) (used_of p b) (part src from (record_length p)) (record_length p) (count_of b + 1)
    → x ≡ grown p (part src from (record_length p)) b
of_plan p b src x from i P g w e =
    let R : ℕ = record_length p in
    let h : ℕ = book_head 1 in
    let rec : List ℕ = part src from R in
    let rs : List (List ℕ) = records_of p b in
    let n : length rs ≡ count_of b = laid.length_records b R (count_of b) h in
    let sz : laid.Sized R rs = laid.sized b R (count_of b) h (good_inside p b g) in
    let e₂ : used_of p b ≡ h + length rs * R = ap (λ (c : ℕ). h + c * R) (sym n) in
    let rm : h + length rs * R + R ≤ length b = subst (λ (c : ℕ). h + c * R + R ≤ length b) (sym n) P.room in
    e ∙ (λ j. inserted b (h + P.place j * R) (e₂ j) rec R (sym n j + 1))
    ∙ laid.inserted_laid 1 blank p (node_of b) h b rec rs refl sz (length_part src from R P.inside) rm w

-- what the code writes, one after the other
pub steps : (b b₁ b₂ b₃ x : List ℕ) (at end : ℕ) (rec : List ℕ) (r count : ℕ) → b₁ ≡ put b (at + r) (part b at (end - at)) → b₂ ≡ put b₁ at rec
    → b₃ ≡ put b₂ 0 (be 4 (end + r - 4)) → x ≡ put b₃ 9 (be 2 count) → x ≡ inserted b at end rec r count
unfolding inserted
steps b b₁ b₂ b₃ x at end rec r count e1 e2 e3 e4 =
    e4 ∙ ap (λ (l : List ℕ). put l 9 (be 2 count))
    (e3 ∙ ap (λ (l : List ℕ). put l 0 (be 4 (end + r - 4))) (e2 ∙ ap (λ (l : List ℕ). put l at rec) e1))

pub placed_fits : (k : Book) (b src : List ℕ) (from i : ℕ) → Placed k b src from i → (i * k.each ≤ k.count * k.each) × (k.head + k.count * k.each + k.each ≤ length b)
placed_fits k b src from i P = let q = place_used k b _ i P.place in (omega arith, P.room)

pub insert_done : (k : Book) (b src x : List ℕ) (from i : ℕ) → Placed k b src from i
    → x ≡ inserted b (k.head + i * k.each) (used_in k) (part src from k.each) k.each (k.count + 1)
    → Grows k (part src from k.each) b x
insert_done k b src x from i P e = record { of = λ p S. by p S P e }
  where
    by : (p : Plan) → Sound p k b → Placed k b src from i
        → x ≡ inserted b (k.head + i * k.each) (used_in k) (part src from k.each) k.each (k.count + 1) → x ≡ grown p (part src from k.each) b
    by p S =
        subst
        (λ (z : Book). Placed z b src from i → x ≡ inserted b (z.head + i * z.each) (used_in z) (part src from z.each) z.each (z.count + 1) → x ≡ grown p (part src from z.each) b)
        (sym S.is) (λ P₂. of_plan p b src x from i P₂ S.good S.laid)

pub fresh_is : (p : Plan) (node : ℕ) (y r1 r2 r3 r4 r5 r6 : List ℕ) → r1 ≡ put y 0 (be 4 (fixed - 4)) → r2 ≡ put r1 4 (be 1 1) → r3 ≡ put r2 5 (be 1 p.n)
    → r4 ≡ put r3 6 (be 1 node) → r5 ≡ put r4 7 (be 2 p.f) → r6 ≡ put r5 9 (be 2 0)
    → r6 ≡ over (laid_out p node []) y
unfolding laid_as header joined
fresh_is p node y r1 r2 r3 r4 r5 r6 e1 e2 e3 e4 e5 e6 =
    let A : List ℕ = be 4 (fixed - 4) in
    let N : List ℕ = be 1 p.n in
    let D : List ℕ = be 1 node in
    let F : List ℕ = be 2 p.f in
    let z : fixed - 4 + 0 * record_length p ≡ fixed - 4 = omega (arith, zero-mul (record_length p)) in
    let a1 : r1 ≡ over A y = e1 ∙ over_start y A in
    let a2 : r2 ≡ over (A ++ be 1 1) y = e2 ∙ ap (λ (l : List ℕ). put l 4 (be 1 1)) a1 ∙ over_more y A (be 1 1) 4 (length_be 4 (fixed - 4)) in
    let a3 : r3 ≡ over (A ++ be 1 1 ++ N) y = e3 ∙ ap (λ (l : List ℕ). put l 5 N) a2
    ∙ over_more y (A ++ be 1 1) N 5 (simp (length-append, length_be)) in
    let a4 : r4 ≡ over (A ++ be 1 1 ++ N ++ D) y = e4 ∙ ap (λ (l : List ℕ). put l 6 D) a3
    ∙ over_more y (A ++ be 1 1 ++ N) D 6 (simp (length-append, length_be)) in
    let a5 : r5 ≡ over (A ++ be 1 1 ++ N ++ D ++ F) y = e5 ∙ ap (λ (l : List ℕ). put l 7 F) a4
    ∙ over_more y (A ++ be 1 1 ++ N ++ D) F 7 (simp (length-append, length_be)) in
    let a6 : r6 ≡ over (A ++ be 1 1 ++ N ++ D ++ F ++ be 2 0) y = e6 ∙ ap (λ (l : List ℕ). put l 9 (be 2 0)) a5
    ∙ over_more y (A ++ be 1 1 ++ N ++ D ++ F) (be 2 0) 9 (simp (length-append, length_be)) in
    a6 ∙ ap (λ (l : List ℕ). over l y) (simp (z, append_assoc, append-nil))
