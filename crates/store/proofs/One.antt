-- One request at one book. A book that is some records laid out over an old one stays so: with the request's record among them where the
-- request passes, as it was where it does not. Assumes nothing.
use Prim.{tt}
use mathlib.Core.Path.{◌≡◌, refl, sym, ap, ◌∙◌, subst}
use mathlib.Core.Bool.{Bool, true, false, cond, not}
use mathlib.Core.List.{List, [], ◌∷◌}
use Prim.Native.Nat.{ℕ, ◌+◌, ◌*◌, ◌≤◌, ◌<◌}
use native.Mathlib.Nat.{mul-le-mul_right, add-mul}
use native.Mathlib.Omega.{arith}
use borrow.Author.Tests.{eqb-true, eqb-false, le-ltb, le-leb, not-true}
use lib.ListN.{length, length-drop}
use lib.Dec.{ltb, eqb, leb}
use Rattle.octets.specs.Bytes.{alike, over, Octets}
use Rattle.octets.proofs.Meaning.{is_alike, length_over, over_over}
use Rattle.terms.specs.Ladder.{Rung, first, all, None}
use Rattle.terms.specs.Stamp.{stamp, time}
use Rattle.terms.specs.Terms.{plan_ok, record_length}
use Rattle.terms.specs.declared.Plan.{Plan}
use Rattle.terms.proofs.Rungs.{both, clash}
use Rattle.terms.proofs.Small.{strict}
use Rattle.frame.specs.Frame.{kind_of, body_of, good_request, header_in, longest, write_request_kind}
use Rattle.frame.proofs.Frames as frames
use Rattle.record.specs.Record.{time_zero}
use Rattle.book.specs.Records.{rising, some, holds, holds_other, insert_record, timed, kept}
use Rattle.book.specs.Book.{records_of, node_of, count_of, blank, laid_out, good_book, book_head, Itself}
use Rattle.book.proofs.Lists.{length_insert}
use Rattle.book.proofs.Laid as laid
use Rattle.book.proofs.Back as back
use Rattle.book.proofs.Laws as books
use Rattle.node.specs.Node.{served, answered, sends, book_after, ServedOutcome, served_outcome, refused, node_ladder, writes, time_fails, hash_fails, other_held, no_room, book_reply_ok}
use Rattle.node.proofs.Laws as nodes
use Rattle.store.specs.Deliver.{Among, passes}
use Rattle.store.proofs.Order as order
use Rattle.store.proofs.Node as calls
use Rattle.terms.proofs.Ladders as ladders

-- ---- ladders
pub first_stays : (b y : List ℕ) (pass : ServedOutcome) (l : List Rung) → (None l → pass.book ≡ b)
    → (first l (λ (k : ℕ). served_outcome (refused k) b y) pass).book ≡ b
first_stays b y pass l h = ladders.by_ladder (λ (o : ServedOutcome). o.book ≡ b) l (λ (k : ℕ). served_outcome (refused k) b y) pass (λ k g. refl) h

-- ---- a request that passes, as plain facts
pub record PassIs (p : Plan) (node : ℕ) (f : List ℕ) : Type 0 where
  pub frame : good_request p node f ≡ true
  pub kind : writes (header_in f) ≡ true
  pub time : time_fails (header_in f) (body_of f) ≡ false
  pub hash : hash_fails p (header_in f) (body_of f) ≡ false

pub pass_is : (p : Plan) (node : ℕ) (f : List ℕ) → passes p node f ≡ true → PassIs p node f
unfolding passes
pass_is p node f e =
    let a = both (good_request p node f) _ e in
    let b = both (writes (header_in f)) _ a.1 in
    let c = both (not (time_fails (header_in f) (body_of f))) _ b.1 in
    record { frame = a.0; kind = b.0; time = not-true _ c.0; hash = not-true _ c.1 }

pub pass_back : (p : Plan) (node : ℕ) (f : List ℕ) → PassIs p node f → passes p node f ≡ true
unfolding passes
pass_back p node f q = rw (q.frame, q.kind, q.time, q.hash)

pub answered_book : (p : Plan) (f b y : List ℕ) → (answered p (header_in f) (body_of f) b y).book ≡ book_after p (header_in f) (body_of f) b
unfolding answered sends
answered_book p f b y = refl

-- a request that does not pass leaves the book
pub not_passed : (p : Plan) (f b y : List ℕ) → passes p (node_of b) f ≡ false → (served p f b y).book ≡ b
unfolding served
not_passed p f b y e =
    first_stays b y (answered p (header_in f) (body_of f) b y) (node_ladder p f b y) (λ n. answered_book p f b y ∙ nodes.after_other p (header_in f) (body_of f) b (other n (writes (header_in f)) refl))
  where
    other : None (node_ladder p f b y) → (t : Bool) → writes (header_in f) ≡ t → t ≡ false
    other n false w = refl
    other n true w =
        let q = calls.clear p f b y n in
        absurd (clash (sym (pass_back p (node_of b) f (record { frame = q.request; kind = w; time = q.time; hash = q.hash })) ∙ e))

-- ---- records
timed_insert : (rec : List ℕ) (rs : List (List ℕ)) → 1 ≤ time rec → timed rs ≡ true → timed (insert_record rec rs) ≡ true
unfolding timed insert_record
timed_insert rec [] h t = rw (le-leb 1 (time rec) h)
timed_insert rec (x ∷ rs) h t = go (ltb (stamp x) (stamp rec)) (timed_insert rec rs h)
  where
    q : (leb 1 (time x) ≡ true) × (timed rs ≡ true)
    q = both (leb 1 (time x)) _ t

    go : (u : Bool) → (timed rs ≡ true → timed (insert_record rec rs) ≡ true) → timed (cond u (x ∷ insert_record rec rs) (rec ∷ x ∷ rs)) ≡ true
    go true ih = rw q.0 (ih q.1)
    go false ih = rw (le-leb 1 (time rec) h) t

-- a record's timestamp is held by no other record
abbrev pub Own : List ℕ → List (List ℕ) → Type 0
Own rec rs = (z : List ℕ) → Among z rs → stamp z ≡ stamp rec → z ≡ rec

no_other : (rec : List ℕ) (rs : List (List ℕ)) → Own rec rs → holds_other rec rs ≡ false
unfolding some
no_other rec [] g = refl
no_other rec (x ∷ rs) g = rw (go (eqb (stamp x) (stamp rec)) refl) (no_other rec rs (λ z h. g z (order.among_later x z rs h)))
  where
    go : (t : Bool) → eqb (stamp x) (stamp rec) ≡ t → cond t (not (alike x rec)) false ≡ false
    go true e = rw (is_alike x rec (g x (order.among_first x x rs refl) (eqb-true _ _ e)))
    go false e = refl

pub write_time : (f : List ℕ) → writes (header_in f) ≡ true → time_fails (header_in f) (body_of f) ≡ false → 1 ≤ time (body_of f)
unfolding time_fails time_zero
write_time f w e =
    let q : eqb (time (body_of f)) 0 ≡ false = rw w at e in
    let n = eqb-false (time (body_of f)) 0 q in
    strict 0 (time (body_of f)) (omega arith) (λ z. n (sym z))

-- ---- b is the records rs laid out over old
pub record Laid (p : Plan) (node : ℕ) (old b : List ℕ) (rs : List (List ℕ)) : Type 0 where
  pub plan : plan_ok p ≡ true
  pub low : node < p.n
  pub high : length old ≤ 65536
  pub bytes : b ≡ over (laid_out p node rs) old
  pub sizes : laid.Sized (record_length p) rs
  pub times : timed rs ≡ true
  pub rise : rising rs ≡ true
  pub fits : book_head 1 + length rs * record_length p ≤ length old

-- a good book that is laid out is its records laid out over itself; so is every good book of bytes
pub start : (p : Plan) (b : List ℕ) → plan_ok p ≡ true → good_book p b ≡ true → Itself p b → length b ≤ 65536 → Laid p (node_of b) b b (records_of p b)
start p b pk g l high =
    let i = books.good_is p b g in
    let n = laid.length_records b (record_length p) (count_of b) (book_head 1) in
    record {
      plan = pk;
      low = i.head.node;
      high = high;
      bytes = l;
      sizes = laid.sized b (record_length p) (count_of b) (book_head 1) i.fill.inside;
      times = i.fill.times;
      rise = i.fill.rise;
      fits = subst (λ (k : ℕ). book_head 1 + k * record_length p ≤ length b) (sym n) i.fill.inside;
    }

pub itself : (p : Plan) (b : List ℕ) → plan_ok p ≡ true → good_book p b ≡ true → Octets b → length b ≤ 65536 → Laid p (node_of b) b b (records_of p b)
itself p b pk g o high = start p b pk g (books.good_laid p b o (books.good_is p b g)) high

module _ {p : Plan} {node : ℕ} {old b : List ℕ} {rs : List (List ℕ)} (i : Laid p node old b rs) where
  one_low : 1 < 256
  one_low = omega arith

  pub is_good : good_book p b ≡ true
  unfolding good_book
  is_good =
      ap (λ (x : List ℕ). good_book p x) i.bytes
      ∙ laid.book_back 1 (book_head 1) p (over (laid_out p node rs) old)
      (back.good_back 1 blank p node rs old one_low i.plan i.low i.sizes i.fits i.high i.times i.rise)

  pub is_records : records_of p b ≡ rs
  is_records =
      ap (λ (x : List ℕ). records_of p x) i.bytes ∙ back.records_back 1 blank p node rs old one_low i.plan i.low i.sizes i.fits i.high

  pub is_node : node_of b ≡ node
  is_node = ap (λ (x : List ℕ). node_of x) i.bytes ∙ back.node_back 1 blank p node rs old one_low i.plan i.low i.sizes i.fits i.high

  pub is_count : count_of b ≡ length rs
  is_count = ap (λ (x : List ℕ). count_of x) i.bytes ∙ back.count_back 1 blank p node rs old one_low i.plan i.low i.sizes i.fits i.high

  pub is_length : length b ≡ length old
  is_length =
      ap length i.bytes ∙ length_over (laid_out p node rs) old (let q = i.fits in omega (arith, laid.length_laid 1 blank p node rs i.sizes))

  pub is_itself : Itself p b
  is_itself =
      let x : List ℕ = laid_out p node rs in
      let f = i.fits in
      let l = laid.length_laid 1 blank p node rs i.sizes in
      let e : over x b ≡ b = ap (over x) i.bytes ∙ over_over x x old (omega arith) ∙ sym i.bytes in
      sym e ∙ sym (λ u. over (laid_out p (is_node u) (is_records u)) b)

  lengths_ok : (y : List ℕ) → longest 1 p ≤ length y → book_reply_ok p (length b) (length y) ≡ true
  unfolding book_reply_ok all
  lengths_ok y ry =
      let e = is_length in
      let u = i.fits in
      let h = i.high in
      rw (le-leb (book_head 1) (length b) (omega arith), le-leb (length b) 65536 (omega arith), le-leb (longest 1 p) (length y) ry)

  -- one request that passes
  module _ (f y : List ℕ) (ry : longest 1 p ≤ length y) (e : passes p node f ≡ true) (own : Own (body_of f) rs)
      (room : book_head 1 + length (kept (body_of f) rs) * record_length p ≤ length old) where
    q : PassIs p node f
    q = pass_is p node f e

    k3 : kind_of f ≡ write_request_kind
    k3 = eqb-true _ _ q.kind

    rec_length : length (body_of f) ≡ record_length p
    rec_length = let l = frames.length_3 (frames.request_is p node f q.frame).frame_is k3 in simp length-drop (omega arith)

    n7 : other_held p (header_in f) (body_of f) b ≡ false
    unfolding other_held
    n7 = rw (q.kind, is_records) (no_other (body_of f) rs own)

    n8 : no_room p (header_in f) (body_of f) b ≡ false
    unfolding no_room
    n8 = rw (q.kind, is_records, is_count, is_length) (go (holds (body_of f) rs) refl)
      where
        go : (t : Bool) → holds (body_of f) rs ≡ t → cond (not t) (ltb (length old) (book_head 1 + length rs * record_length p + record_length p)) false ≡ false
        go true h = refl
        go false h =
            let l : length (kept (body_of f) rs) ≡ length rs + 1 = ap length (order.kept_new (body_of f) rs h) ∙ length_insert (body_of f) rs in
            let m : book_head 1 + (length rs + 1) * record_length p ≤ length old = subst (λ (x : ℕ). book_head 1 + x * record_length p ≤ length old) l room in
            le-ltb (length old) (book_head 1 + length rs * record_length p + record_length p) (omega (arith, add-mul (length rs) 1 (record_length p)))

    none : None (node_ladder p f b y)
    none =
        let g : good_request p (node_of b) f ≡ true = ap (λ (x : ℕ). good_request p x f) is_node ∙ q.frame in
        (ap not i.plan, (ap not (lengths_ok y ry), (ap not is_good, (ap not g, (q.time, (q.hash, (n7, (n8, tt))))))))

    pub served_is : served p f b y ≡ answered p (header_in f) (body_of f) b y
    unfolding served
    served_is = ladders.is_passed (node_ladder p f b y) (λ (k : ℕ). served_outcome (refused k) b y) (answered p (header_in f) (body_of f) b y) none

    book_is : (served p f b y).book ≡ cond (not (holds (body_of f) rs)) (over (laid_out p node (insert_record (body_of f) rs)) b) b
    unfolding book_after
    book_is =
        ap (λ (o : ServedOutcome). o.book) served_is
        ∙ answered_book p f b y ∙ rw q.kind
        (λ u. cond (not (holds (body_of f) (is_records u))) (over (laid_out p (is_node u) (insert_record (body_of f) (is_records u))) b) b)

    pub deliver_one : Laid p node old (served p f b y).book (kept (body_of f) rs)
    deliver_one = pick (holds (body_of f) rs) refl book_is
      where
        pick : (t : Bool) → holds (body_of f) rs ≡ t → (served p f b y).book ≡ cond (not t) (over (laid_out p node (insert_record (body_of f) rs)) b) b
            → Laid p node old (served p f b y).book (kept (body_of f) rs)
        pick true h eb =
            let k : kept (body_of f) rs ≡ rs = order.kept_held (body_of f) rs h in
            rw k (record { plan = i.plan; low = i.low; high = i.high; bytes = eb ∙ i.bytes; sizes = i.sizes; times = i.times; rise = i.rise; fits = i.fits })
        pick false h eb =
            let k : kept (body_of f) rs ≡ insert_record (body_of f) rs = order.kept_new (body_of f) rs h in
            let kk = order.kept_is rs (body_of f) i.rise own in
            let sz = laid.sized_insert (record_length p) (body_of f) rs rec_length i.sizes in
            let up : rising (insert_record (body_of f) rs) ≡ true = subst (λ (l : List (List ℕ)). rising l ≡ true) k kk.up in
            let rm : book_head 1 + length (insert_record (body_of f) rs) * record_length p ≤ length old = subst
            (λ (l : List (List ℕ)). book_head 1 + length l * record_length p ≤ length old) k room in
            let a = laid.length_laid 1 blank p node (insert_record (body_of f) rs) sz in
            let d = laid.length_laid 1 blank p node rs i.sizes in
            let ml : length rs * record_length p ≤ length (insert_record (body_of f) rs) * record_length p = mul-le-mul_right (record_length p)
            (omega (arith, length_insert (body_of f) rs)) in
            rw k (record {
              plan = i.plan;
              low = i.low;
              high = i.high;
              bytes = eb ∙ ap (λ (x : List ℕ). over (laid_out p node (insert_record (body_of f) rs)) x) i.bytes
                  ∙ over_over (laid_out p node (insert_record (body_of f) rs)) (laid_out p node rs) old (omega arith);
              sizes = sz;
              times = timed_insert (body_of f) rs (write_time f q.kind q.time) i.times;
              rise = up;
              fits = rm;
            })
