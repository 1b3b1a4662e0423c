-- What the node's functions ensure, each need a law. Assumes nothing.
use Rattle.terms.specs.declared.Refusal.{Refusal}
use Prim.{Unit}
use Rattle.std.specs.Prelude.{Result, Err}
use mathlib.Core.Path.{◌≡◌, refl, sym, ap, subst, ◌∙◌}
use mathlib.Core.Bool.{Bool, true, false, not}
use mathlib.Core.List.{List, []}
use mathlib.Core.Logic.{◌⊎◌, ⊎_elim}
use Prim.Native.Nat.{ℕ, ◌+◌, ◌-◌, ◌≤◌}
use native.Mathlib.Omega.{arith}
use borrow.Author.Tests.{not-false, leb-true, leb-false, eq-eqb, ne_eqb, lt-ltb, le-ltb}
use lib.ListN.{length}
use lib.Dec.{leb}
use Rattle.octets.specs.Bytes.{part, be, num, over}
use Rattle.terms.specs.Ladder.{first, since}
use Rattle.terms.specs.Stamp.{stamp, time}
use Rattle.terms.specs.Terms.{plan_ok, record_length}
use Rattle.terms.specs.declared.Plan.{Plan}
use Rattle.terms.specs.declared.Refusal.TheVariants.{OtherBytes, NoRoom}
use Rattle.terms.proofs.Rungs as rungs
use Rattle.terms.proofs.Rungs.{both}
use Rattle.frame.specs.declared.Header.{Header}
use Rattle.frame.specs.declared.Party.TheVariants.{Node}
use Rattle.frame.specs.Frame.{time_request_kind, time_reply_kind, write_request_kind, write_reply_kind, read_latest_kind, read_previous_kind, read_reply_kind, head_bytes, framed, longest, header_in, body_of, replying, suits, body_fits, for_party, good_request, Wrote}
use Rattle.frame.proofs.Frames as frames
use Rattle.frame.proofs.Built as built
use Rattle.record.specs.Record.{hashes_ok, time_zero, stamp_of}
use Rattle.book.specs.declared.Book.{Book}
use Rattle.book.specs.declared.Fate.{Fate}
use Rattle.book.specs.declared.Fate.TheVariants as fates
use Rattle.book.specs.Records.{last_of, rising, last_below, holds, holds_other, fate_of}
use Rattle.book.specs.Inside.{Placed, Grows}
use Rattle.book.specs.Book.{book_head, book_lent, node_of, laid_out, records_in, records_of, used_in, used_of, grown, Holds, Sound}
use Rattle.book.proofs.Lists as lists
use Rattle.book.proofs.Laws as books
use Rattle.book.proofs.Back.{long}
use Rattle.node.specs.declared.Asked.{Asked}
use Rattle.node.specs.Fresh.{fresh_ladder, fresh_outcome, freshened, said_made, made, FreshCall}
use Rattle.node.specs.Fresh.{refused as not_made}
use Rattle.node.specs.Inside.{finished, Fitting, Admitted}
use Rattle.node.specs.Node.{book_reply_ok, time_fails, hash_fails, other_held, no_room, work_ladder, node_ladder, said_served, refused, replied, ServedOutcome, served_outcome, reply_to, reply_of, sends, book_after, answered, responded, served, NodeCall, Reply, writes}

-- a test that a negated `if` passed, and what it says of the definition that the test is of
pub so : {r s : Bool} → r ≡ s → not r ≡ false → s ≡ true
so {r} e f = sym e ∙ not-false r f

pub so_not : {r s : Bool} → r ≡ s → {t : Bool} → not r ≡ t → not s ≡ t
so_not e f = ap not (sym e) ∙ f

-- ---- 2
pub lengths_no : (p : Plan) (book reply : ℕ) → book_lent book ≡ false → false ≡ book_reply_ok p book reply
unfolding book_reply_ok
lengths_no p book reply e = rw e

pub lengths_last : (p : Plan) (book reply : ℕ) (r : Bool) → book_lent book ≡ true → r ≡ leb (longest 1 p) reply → r ≡ book_reply_ok p book reply
unfolding book_reply_ok
lengths_last p book reply r h e = rw h e

pub record LengthsAre (p : Plan) (book reply : ℕ) : Type 0 where
  pub low : book_head 1 ≤ book
  pub high : book ≤ 65536
  pub room : longest 1 p ≤ reply

pub lengths_are : (p : Plan) (book reply : ℕ) → book_reply_ok p book reply ≡ true → LengthsAre p book reply
unfolding book_reply_ok
lengths_are p book reply e =
    let e1 = both (book_lent book) _ e in
    let e2 = books.lent_is book e1.0 in
    record { low = e2.0; high = e2.1; room = leb-true _ _ e1.1 }

-- ---- the body of a request, by its kind
module _ (p : Plan) (h : Header) (f : List ℕ) (F : Fitting p h f) where
  fit : (for_party Node h.kind ≡ true) × (body_fits p h.kind (length f - head_bytes h.version) ≡ true)
  fit = frames.suits_is Node p h (length f) F.fit

  pub write_length : h.kind ≡ write_request_kind → length f ≡ framed h.version (record_length p)
  write_length k = let l = F.low in omega (arith, frames.bytes_3 p h.kind (length f - head_bytes h.version) fit.1 k)

  pub bound_length : h.kind ≡ read_previous_kind → length f ≡ framed h.version 40
  bound_length k = let l = F.low in omega (arith, frames.bytes_6 p h.kind (length f - head_bytes h.version) fit.1 k)

  pub stamped : plan_ok p ≡ true → (h.kind ≡ write_request_kind) ⊎ (h.kind ≡ read_previous_kind) → framed h.version 40 ≤ length f
  stamped pk k = ⊎_elim (λ e. omega (arith, write_length e, long p pk)) (λ e. omega (arith, bound_length e)) k

  -- the kinds of a node, told apart by name
  pub last_kind : (h.kind ≡ write_request_kind → ⊥) → (h.kind ≡ time_request_kind → ⊥) → (h.kind ≡ read_latest_kind → ⊥) → h.kind ≡ read_previous_kind
  last_kind a b c = frames.last_request h.kind fit.0 b a c

  -- the body, at its place
  pub body_at : (at n : ℕ) → at ≡ head_bytes h.version → n ≡ record_length p → h.kind ≡ write_request_kind → part f at n ≡ body_of f
  body_at at n e en k = (λ i. part f (e i) (en i)) ∙ sym (frames.body_is (head_bytes h.version) f (record_length p) (write_length k))

-- a part of a body
pub body_stamp : (f : List ℕ) (at n version : ℕ) → at ≡ head_bytes version → part f at n ≡ part (body_of f) 0 n
body_stamp f at n version e = ap (λ (x : ℕ). part f x n) e ∙ sym (frames.body_part (head_bytes version) f 0 n)

-- ---- what was written, in the words of the definitions
pub wrote_is : (h : Header) (x z y : List ℕ) {n : ℕ} {y₂ : List ℕ} → x ≡ z → Wrote h x y n y₂ → Wrote h z y n y₂
wrote_is h x z y {n} {y₂} e q = subst (λ (l : List ℕ). Wrote h l y n y₂) e q

pub wrote_time : (h : Header) (t x : ℕ) (y : List ℕ) {n : ℕ} {y₂ : List ℕ} → t ≡ x → Wrote h (be 8 t) y n y₂ → Wrote h (be 8 x) y n y₂
wrote_time h t x y e q = wrote_is h (be 8 t) (be 8 x) y (ap (be 8) e) q

pub acknowledged : (h g : Header) (f y : List ℕ) (at : ℕ) {n : ℕ} {y₂ : List ℕ} → at ≡ head_bytes h.version → g ≡ replying h write_reply_kind
    → Wrote g (part f at 40) y n y₂ → Wrote (replying h write_reply_kind) (stamp_of (body_of f)) y n y₂
acknowledged h g f y at e eg q = wrote_is _ _ _ y (body_stamp f at 40 h.version e) (built.wrote_of eg q)

pub wrote_below : (h : Header) (f y x : List ℕ) (rs : List (List ℕ)) (at version : ℕ) {n : ℕ} {y₂ : List ℕ} → at ≡ head_bytes version
    → x ≡ last_below (num (part f at 40)) rs → Wrote h x y n y₂ → Wrote h (last_below (stamp (body_of f)) rs) y n y₂
wrote_below h f y x rs at version e ex q = wrote_is h x _ y (ex ∙ ap (λ (l : List ℕ). last_below (num l) rs) (body_stamp f at 40 version e)) q

-- ---- 5 and 6
pub zero_yes : (h : Header) (body : List ℕ) (r : Bool) → (h.kind ≡ write_request_kind) ⊎ (h.kind ≡ read_previous_kind) → r ≡ time_zero body → r ≡ time_fails h body
unfolding time_fails
zero_yes h body r k e =
    ⊎_elim (λ k. rw (eq-eqb h.kind write_request_kind k) e)
    (λ k. rw (ne_eqb h.kind write_request_kind (λ z. omega arith), eq-eqb h.kind read_previous_kind k) e) k

pub zero_no : (h : Header) (body : List ℕ) → (h.kind ≡ write_request_kind → ⊥) → (h.kind ≡ read_previous_kind → ⊥) → false ≡ time_fails h body
unfolding time_fails
zero_no h body a b = rw (ne_eqb h.kind write_request_kind a, ne_eqb h.kind read_previous_kind b)

pub fails_no : (p : Plan) (h : Header) (body : List ℕ) → (h.kind ≡ write_request_kind → ⊥) → false ≡ hash_fails p h body
unfolding hash_fails
fails_no p h body k = rw (ne_eqb h.kind write_request_kind k)

pub fails_last : (p : Plan) (h : Header) (body : List ℕ) (r : Bool) → h.kind ≡ write_request_kind → r ≡ hashes_ok p h.node body → not r ≡ hash_fails p h body
unfolding hash_fails
fails_last p h body r k e = rw (eq-eqb h.kind write_request_kind k) (ap not e)

-- ---- what is answered, by kind
module _ (p : Plan) (h : Header) (body b y : List ℕ) where
  after_not : (h.kind ≡ write_request_kind → ⊥) → b ≡ book_after p h body b
  unfolding book_after
  after_not k = rw (ne_eqb h.kind write_request_kind k)

  sent_out : (kind : ℕ) (x : List ℕ) (n : ℕ) (b₂ y₂ : List ℕ) → reply_to h.kind body (records_of p b) ≡ reply_of kind x
      → b₂ ≡ book_after p h body b → Wrote (replying h kind) x y n y₂
      → served_outcome (replied n) b₂ y₂ ≡ answered p h body b y
  unfolding answered sends
  sent_out kind x n b₂ y₂ r e q =
      (λ i. served_outcome (replied (q.told i)) (e i) (q.bytes i)) ∙ ap (λ (z : Reply). sends h z (book_after p h body b) y) (sym r)

  reply_1 : h.kind ≡ time_request_kind → reply_to h.kind body (records_of p b) ≡ reply_of time_reply_kind (be 8 (time (last_of (records_of p b))))
  unfolding reply_to
  reply_1 k = rw (eq-eqb h.kind time_request_kind k)

  reply_3 : h.kind ≡ write_request_kind → reply_to h.kind body (records_of p b) ≡ reply_of write_reply_kind (stamp_of body)
  unfolding reply_to
  reply_3 k = rw (ne_eqb h.kind time_request_kind (λ z. omega arith), eq-eqb h.kind write_request_kind k)

  reply_5 : h.kind ≡ read_latest_kind → reply_to h.kind body (records_of p b) ≡ reply_of read_reply_kind (last_of (records_of p b))
  unfolding reply_to
  reply_5 k = rw (ne_eqb h.kind time_request_kind (λ z. omega arith), ne_eqb h.kind write_request_kind (λ z. omega arith), eq-eqb h.kind read_latest_kind k)

  reply_6 : h.kind ≡ read_previous_kind → reply_to h.kind body (records_of p b) ≡ reply_of read_reply_kind (last_below (stamp body) (records_of p b))
  unfolding reply_to
  reply_6 k =
      rw (
        ne_eqb h.kind time_request_kind (λ z. omega arith),
        ne_eqb h.kind write_request_kind (λ z. omega arith),
        ne_eqb h.kind read_latest_kind (λ z. omega arith),
        eq-eqb h.kind read_previous_kind k,
      )

  -- ---- down the ladder: 7 and 8 are of writes
  not_write : {z : ServedOutcome} → (h.kind ≡ write_request_kind → ⊥) → z ≡ answered p h body b y → z ≡ finished p h body b y
  unfolding finished other_held no_room
  not_write k e = rungs.go_on 7 _ _ _ (rw (ne_eqb h.kind write_request_kind k)) (rungs.go_on 8 _ _ _ (rw (ne_eqb h.kind write_request_kind k)) (rungs.passed _ _ e))

  module _ (k : Book) (S : Sound p k b) where
    pub tells : (n : ℕ) (y₂ : List ℕ) → h.kind ≡ time_request_kind → Wrote (replying h time_reply_kind) (be 8 (time (last_of (records_in k b)))) y n y₂
        → served_outcome (replied n) b y₂ ≡ finished p h body b y
    tells n y₂ e q =
        not_write (λ z. omega arith)
        (sent_out time_reply_kind _ n b y₂ (reply_1 e ∙ ap (λ (rs : List (List ℕ)). reply_of time_reply_kind (be 8 (time (last_of rs)))) (sym (books.records_of_lem p b k S.is))) (after_not (λ z. omega arith)) q)

    pub reads_last : (n : ℕ) (y₂ : List ℕ) → h.kind ≡ read_latest_kind → Wrote (replying h read_reply_kind) (last_of (records_in k b)) y n y₂
        → served_outcome (replied n) b y₂ ≡ finished p h body b y
    reads_last n y₂ e q =
        not_write (λ z. omega arith)
        (sent_out read_reply_kind _ n b y₂ (reply_5 e ∙ ap (λ (rs : List (List ℕ)). reply_of read_reply_kind (last_of rs)) (sym (books.records_of_lem p b k S.is))) (after_not (λ z. omega arith)) q)

    pub reads_below : (n : ℕ) (y₂ : List ℕ) → h.kind ≡ read_previous_kind → Wrote (replying h read_reply_kind) (last_below (stamp body) (records_in k b)) y n y₂
        → served_outcome (replied n) b y₂ ≡ finished p h body b y
    reads_below n y₂ e q =
        not_write (λ z. omega arith)
        (sent_out read_reply_kind _ n b y₂ (reply_6 e ∙ ap (λ (rs : List (List ℕ)). reply_of read_reply_kind (last_below (stamp body) rs)) (sym (books.records_of_lem p b k S.is)))
        (after_not (λ z. omega arith)) q)

  module _ (k : h.kind ≡ write_request_kind) where
    no_other : holds_other body (records_of p b) ≡ false → other_held p h body b ≡ false
    unfolding other_held
    no_other e = rw (eq-eqb h.kind write_request_kind k) e

    after_held : holds body (records_of p b) ≡ true → b ≡ book_after p h body b
    unfolding book_after
    after_held e = rw (eq-eqb h.kind write_request_kind k, e)

    after_new : holds body (records_of p b) ≡ false → grown p body b ≡ book_after p h body b
    unfolding book_after
    after_new e = rw (eq-eqb h.kind write_request_kind k, e)

    pub write_held : (n : ℕ) (y₂ : List ℕ) → rising (records_of p b) ≡ true → fates.Held ≡ fate_of body (records_of p b)
        → Wrote (replying h write_reply_kind) (stamp_of body) y n y₂ → served_outcome (replied n) b y₂ ≡ finished p h body b y
    unfolding finished no_room
    write_held n y₂ up e q =
        let g = lists.fate_held body (records_of p b) e in
        let o = lists.held_alone body (records_of p b) up g in
        rungs.go_on 7 _ _ _ (no_other o)
        (rungs.go_on 8 _ _ _ (rw (eq-eqb h.kind write_request_kind k, g)) (rungs.passed _ _ (sent_out write_reply_kind _ n b y₂ (reply_3 k) (after_held g) q)))

    pub write_other : fates.Other ≡ fate_of body (records_of p b) → served_outcome (said_served (Err OtherBytes)) b y ≡ finished p h body b y
    unfolding finished other_held
    write_other e = rungs.stop 7 _ _ _ (rw (eq-eqb h.kind write_request_kind k) (lists.fate_other body (records_of p b) e)) refl

    pub write_full : (i : ℕ) → fates.Free i ≡ fate_of body (records_of p b) → leb (used_of p b + record_length p) (length b) ≡ false
        → served_outcome (said_served (Err NoRoom)) b y ≡ finished p h body b y
    unfolding finished no_room
    write_full i e full =
        let q = lists.fate_free body (records_of p b) i e in
        rungs.go_on 7 _ _ _ (no_other q.other)
        (rungs.stop 8 _ _ _ (rw (eq-eqb h.kind write_request_kind k, q.held) (lt-ltb (length b) (used_of p b + record_length p) (leb-false (used_of p b + record_length p) (length b) full))) refl)

    pub write_new : (i n : ℕ) (b₂ y₂ : List ℕ) → fates.Free i ≡ fate_of body (records_of p b) → leb (used_of p b + record_length p) (length b) ≡ true
        → b₂ ≡ grown p body b → Wrote (replying h write_reply_kind) (stamp_of body) y n y₂ → served_outcome (replied n) b₂ y₂ ≡ finished p h body b y
    unfolding finished no_room
    write_new i n b₂ y₂ e room eb q =
        let r = lists.fate_free body (records_of p b) i e in
        rungs.go_on 7 _ _ _ (no_other r.other)
        (rungs.go_on 8 _ _ _ (rw (eq-eqb h.kind write_request_kind k, r.held) (le-ltb (length b) (used_of p b + record_length p) (leb-true (used_of p b + record_length p) (length b) room)))
        (rungs.passed _ _ (sent_out write_reply_kind _ n b₂ y₂ (reply_3 k) (eb ∙ after_new r.held) q)))

-- ---- what the door leaves
module _ (p : Plan) (a : Asked) (f b y : List ℕ) (A : Admitted p a f b y) where
  pub holds_in : Holds a.book b
  holds_in = books.sound_holds p a.book b A.plan A.book

  -- room for a record, a timestamp or a time
  pub room_for : (framed a.frame.version a.book.each ≤ length y) × (framed a.frame.version 40 ≤ length y)
  room_for =
      let e : a.book.each ≡ record_length p = ap (λ (x : Book). x.each) A.book.is in
      let r = A.room in
      let l = long p A.plan in
      (omega arith, omega arith)

  pub rises : rising (records_of p b) ≡ true
  rises = (books.good_is p b A.book.good).fill.rise

-- ---- what the code of a write says, in these words
module _ (p : Plan) (a : Asked) (f b y : List ℕ) (A : Admitted p a f b y) (k : a.frame.kind ≡ write_request_kind) where
  each : a.book.each ≡ record_length p
  each = ap (λ (x : Book). x.each) A.book.is

  pub inside : (at : ℕ) → at ≡ head_bytes a.frame.version → at + a.book.each ≤ length f
  inside at e = omega (arith, write_length p a.frame f A.request k, each)

  pub stamp_fits : framed a.frame.version 40 ≤ length f
  stamp_fits = let l = long p A.plan in omega (arith, write_length p a.frame f A.request k)

  pub body : (at : ℕ) → at ≡ head_bytes a.frame.version → part f at a.book.each ≡ body_of f
  body at e = body_at p a.frame f A.request at a.book.each e each k

  pub fate_as : (at : ℕ) (x : Fate) → at ≡ head_bytes a.frame.version → x ≡ fate_of (part f at a.book.each) (records_in a.book b)
      → x ≡ fate_of (body_of f) (records_of p b)
  fate_as at x e q = q ∙ (λ i. fate_of (body at e i) (books.records_of_lem p b a.book A.book.is i))

  pub room_as : (r t : Bool) → r ≡ leb (used_in a.book + a.book.each) (length b) → r ≡ t → leb (used_of p b + record_length p) (length b) ≡ t
  room_as r t e q = sym (e ∙ (λ i. leb (books.used_of_lem p b a.book A.book.is i + each i) (length b))) ∙ q

  pub placed : (at i : ℕ) → at ≡ head_bytes a.frame.version → fates.Free i ≡ fate_of (part f at a.book.each) (records_in a.book b)
      → leb (used_in a.book + a.book.each) (length b) ≡ true
      → Placed a.book b f at i
  placed at i e q room = record {
    holds = holds_in p a f b y A;
    room = leb-true (used_in a.book + a.book.each) (length b) room;
    inside = inside at e;
    place = (lists.fate_free (part f at a.book.each) (records_in a.book b) i q).place;
  }

  pub grown_as : (at : ℕ) (b₂ : List ℕ) → at ≡ head_bytes a.frame.version → Grows a.book (part f at a.book.each) b b₂ → b₂ ≡ grown p (body_of f) b
  grown_as at b₂ e q = q.of p A.book ∙ ap (λ (l : List ℕ). grown p l b) (body at e)

-- a request that is no write leaves the book
pub after_other : (p : Plan) (h : Header) (body b : List ℕ) → writes h ≡ false → book_after p h body b ≡ b
unfolding book_after
after_other p h body b e = rw e

-- ---- the call
pub goes_responded : {z : ServedOutcome} (p : Plan) (h : Header) (body b y : List ℕ) → z ≡ finished p h body b y
    → z ≡ first (since 7 (work_ladder p h body b)) (λ (k : ℕ). served_outcome (refused k) b y) (answered p h body b y)
unfolding finished
goes_responded p h body b y e = e

pub was_responded : {z : ServedOutcome} (p : Plan) (h : Header) (body b y : List ℕ)
    → z ≡ first (work_ladder p h body b) (λ (k : ℕ). served_outcome (refused k) b y) (answered p h body b y) → z ≡ responded p h body b y
unfolding responded
was_responded p h body b y e = e

pub is_responded : {z : ServedOutcome} (p : Plan) (h g : Header) (body b y : List ℕ) → h ≡ g → z ≡ responded p h body b y
    → z ≡ first (work_ladder p g body b) (λ (k : ℕ). served_outcome (refused k) b y) (answered p g body b y)
unfolding responded
is_responded p h g body b y e q = q ∙ ap (λ (x : Header). first (work_ladder p x body b) (λ (k : ℕ). served_outcome (refused k) b y) (answered p x body b y)) e

pub called : (p : Plan) (f b y : List ℕ) (a : Result ℕ Refusal) (b₂ y₂ : List ℕ)
    → served_outcome (said_served a) b₂ y₂ ≡ first (node_ladder p f b y) (λ (k : ℕ). served_outcome (refused k) b y) (answered p (header_in f) (body_of f) b y)
    → NodeCall p f b y a b₂ y₂
unfolding served
called p f b y a b₂ y₂ e = record { is = e }

-- the request is for the node of the book
pub here : (p : Plan) (f b : List ℕ) {node : ℕ} {r : Bool} → node ≡ node_of b → good_request p node f ≡ r → good_request p (node_of b) f ≡ r
here p f b n e = ap (λ (x : ℕ). good_request p x f) (sym n) ∙ e

-- the door leaves a request and a book
pub admitted : (p : Plan) (f b y : List ℕ) (k : Book) (h : Header) (node : ℕ) → plan_ok p ≡ true → book_reply_ok p (length b) (length y) ≡ true → Sound p k b
    → node ≡ k.node → frames.Opened (good_request p node f) f h → Admitted p (record { frame = h; book = k }) f b y
admitted p f b y k h node pk l S en o =
    let r = frames.request_is p node f o.good in
    let q = r.frame_is in
    let eh : h ≡ header_in f = o.is in
    let i = (books.good_is p b S.good).head.node in
    record {
      plan = pk;
      room = subst (λ (x : Header). longest x.version p ≤ length y) (sym eh) (lengths_are p (length b) (length y) l).room;
      book = S;
      request = record {
        is = eh;
        low = subst (λ (x : Header). head_bytes x.version ≤ length f) (sym eh) q.low;
        fit = ap (λ (x : Header). suits Node p x (length f)) eh ∙ sym (frames.suits_last Node p (header_in f) (length f) true q.for (sym q.fits));
        node = omega (arith, ap (λ (x : Header). x.node) eh, r.node_is, en, books.node_of_lem p b k S.is);
      };
    }

-- ---- a fresh book
pub fresh_called : (p : Plan) (node : ℕ) (b : List ℕ) (m : Result (Unit {0}) Refusal) (b₂ : List ℕ)
    → fresh_outcome (said_made m) b₂ ≡ first (fresh_ladder p node b) (λ (k : ℕ). fresh_outcome (not_made k) b) (fresh_outcome made (over (laid_out p node []) b)) → FreshCall p node b m b₂
unfolding freshened
fresh_called p node b m b₂ e = record { is = e }
