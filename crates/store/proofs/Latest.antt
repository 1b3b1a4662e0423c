-- THE LATEST RECORD of a book is at or above every one that it holds, and the latest below a bound at or above every one below the bound; so a node
-- that holds a record answers a read with that one or a greater one.
--   last_of_lem last_high     the last of some records; of rising ones it is the greatest
--   those_of among_those above_less above_those   the records that meet a test
--   below_high            the last below a bound
--   sized_of              a record of a book has R bytes
--   borne_held acked_write told_time   what a read reply bears is held; what a write reply bears is its request's timestamp; a time reply answers a time request
--   Seeks reads_high      a request to read, without a bound or below one above a timestamp; the reply to it
-- Assumes nothing.
use Rattle.std.specs.Prelude.{Ok}
use Prim.Native.Nat.{ℕ, ◌≤◌, ◌<◌}
use mathlib.Core.Path.{◌≡◌, refl, sym, ap, ◌∙◌, subst}
use mathlib.Core.Bool.{Bool, true, false, cond}
use mathlib.Core.List.{List, [], ◌∷◌}
use mathlib.Core.Logic.{◌⊎◌, inl, inr}
use native.Mathlib.Omega.{arith}
use borrow.Author.Tests.{ltb-true, lt-ltb, eqb-true}
use lib.Dec.{ltb, eqb}
use lib.ListN.{length, take}
use Rattle.terms.specs.Stamp.{stamp, time}
use Rattle.terms.specs.Terms.{record_length}
use Rattle.terms.specs.declared.Plan.{Plan}
use Rattle.terms.proofs.Places.{record_length_lem}
use Rattle.terms.proofs.Rungs.{both, clash}
use Rattle.frame.specs.Frame.{read_latest_kind, read_previous_kind, read_reply_kind, time_reply_kind, write_reply_kind, time_request_kind, write_request_kind, kind_of, header_in, body_of, frame_of, replying}
use Rattle.frame.proofs.Built as built
use Rattle.record.specs.Record.{stamp_of}
use Rattle.octets.specs.Bytes.{be}
use Rattle.book.specs.Records.{rising, above, those, last_of, last_below}
use Rattle.book.specs.Book.{records_of, count_of, book_head, good_book}
use Rattle.book.proofs.Lists.{above_rising}
use Rattle.book.proofs.Laid.{Sized}
use Rattle.book.proofs.Laid as laid
use Rattle.book.proofs.Laws as books
use Rattle.node.specs.Node.{Reply, reply_of, no_reply, reply_to, writes, NodeCall}
use Rattle.store.specs.Deliver.{Among}
use Rattle.store.proofs.Order.{among_first, among_later, among_case, among_none, among_above}
use Rattle.store.proofs.Replies.{replied_frame}

-- ---- the last of some records
pub last_of_lem : (rs : List (List ℕ)) → (last_of rs ≡ []) ⊎ Among (last_of rs) rs
unfolding last_of
last_of_lem [] = inl refl
last_of_lem (x ∷ []) = inr (among_first x x [] refl)
last_of_lem (x ∷ y ∷ rs) = go (last_of_lem (y ∷ rs))
  where
    go : (last_of (y ∷ rs) ≡ []) ⊎ Among (last_of (y ∷ rs)) (y ∷ rs) → (last_of (y ∷ rs) ≡ []) ⊎ Among (last_of (y ∷ rs)) (x ∷ y ∷ rs)
    go (inl e) = inl e
    go (inr m) = inr (among_later x (last_of (y ∷ rs)) (y ∷ rs) m)

last_in : (x : List ℕ) (rs : List (List ℕ)) → Among (last_of (x ∷ rs)) (x ∷ rs)
unfolding last_of
last_in x [] = among_first x x [] refl
last_in x (y ∷ rs) = among_later x _ (y ∷ rs) (last_in y rs)

pub last_high : (z : List ℕ) (rs : List (List ℕ)) → rising rs ≡ true → Among z rs → (stamp z ≤ stamp (last_of rs)) × Among (last_of rs) rs
unfolding last_of rising
last_high z [] r h = absurd (among_none z h)
last_high z (x ∷ []) r h = go (among_case x z [] h)
  where
    go : (x ≡ z) ⊎ Among z [] → (stamp z ≤ stamp x) × Among x (x ∷ [])
    go (inl e) = (subst (λ (y : List ℕ). stamp z ≤ stamp y) (sym e) (omega arith), among_first x x [] refl)
    go (inr k) = absurd (among_none z k)
last_high z (x ∷ y ∷ rs) r h = go (among_case x z (y ∷ rs) h) (last_high z (y ∷ rs) (above_rising (stamp x) (y ∷ rs) r))
  where
    go : (x ≡ z) ⊎ Among z (y ∷ rs) → (Among z (y ∷ rs) → (stamp z ≤ stamp (last_of (y ∷ rs))) × Among (last_of (y ∷ rs)) (y ∷ rs))
        → (stamp z ≤ stamp (last_of (y ∷ rs))) × Among (last_of (y ∷ rs)) (x ∷ y ∷ rs)
    go (inl e) ih =
        let l = among_above (stamp x) _ (y ∷ rs) r (last_in y rs) in
        (subst (λ (v : List ℕ). stamp v ≤ stamp (last_of (y ∷ rs))) e (omega arith), among_later x _ (y ∷ rs) (last_in y rs))
    go (inr k) ih = ((ih k).0, among_later x _ (y ∷ rs) (ih k).1)

-- ---- those that meet a test
pub those_of : (t : List ℕ → Bool) (z : List ℕ) (rs : List (List ℕ)) → Among z (those t rs) → Among z rs × (t z ≡ true)
unfolding those
those_of t z [] h = absurd (among_none z h)
those_of t z (x ∷ rs) h = go (t x) refl h (those_of t z rs)
  where
    later : Among z rs × (t z ≡ true) → Among z (x ∷ rs) × (t z ≡ true)
    later q = (among_later x z rs q.0, q.1)

    here : t x ≡ true → (x ≡ z) ⊎ Among z (those t rs) → (Among z (those t rs) → Among z rs × (t z ≡ true)) → Among z (x ∷ rs) × (t z ≡ true)
    here e (inl q) more = (among_first x z rs q, ap t (sym q) ∙ e)
    here e (inr q) more = later (more q)

    go : (u : Bool) → t x ≡ u → Among z (cond u (x ∷ those t rs) (those t rs)) → (Among z (those t rs) → Among z rs × (t z ≡ true)) → Among z (x ∷ rs) × (t z ≡ true)
    go true e k more = here e (among_case x z (those t rs) k) more
    go false e k more = later (more k)

pub among_those : (t : List ℕ → Bool) (z : List ℕ) (rs : List (List ℕ)) → t z ≡ true → Among z rs → Among z (those t rs)
unfolding those
among_those t z [] e h = absurd (among_none z h)
among_those t z (x ∷ rs) e h = go (t x) refl (among_case x z rs h) (among_those t z rs e)
  where
    go : (b : Bool) → t x ≡ b → (x ≡ z) ⊎ Among z rs → (Among z rs → Among z (those t rs)) → Among z (cond b (x ∷ those t rs) (those t rs))
    go true q (inl k) ih = among_first x z (those t rs) k
    go true q (inr k) ih = among_later x z (those t rs) (ih k)
    go false q (inl k) ih = absurd (clash (sym (ap t k ∙ e) ∙ q))
    go false q (inr k) ih = ih k

pub above_less : (low high : ℕ) (rs : List (List ℕ)) → low ≤ high → above high rs ≡ true → above low rs ≡ true
unfolding above
above_less low high [] h a = refl
above_less low high (x ∷ rs) h a =
    let q = both (ltb high (stamp x)) (above (stamp x) rs) a in
    let l : high < stamp x = ltb-true _ _ q.0 in
    rw (lt-ltb low (stamp x) (omega arith)) q.1

pub above_those : (t : List ℕ → Bool) (low : ℕ) (rs : List (List ℕ)) → above low rs ≡ true → above low (those t rs) ≡ true
unfolding above those
above_those t low [] a = refl
above_those t low (x ∷ rs) a = go (t x) (above_those t (stamp x) rs q.1)
  where
    q : (ltb low (stamp x) ≡ true) × (above (stamp x) rs ≡ true)
    q = both (ltb low (stamp x)) (above (stamp x) rs) a

    go : (b : Bool) → above (stamp x) (those t rs) ≡ true → above low (cond b (x ∷ those t rs) (those t rs)) ≡ true
    go true ih = rw q.0 ih
    go false ih = let l : low < stamp x = ltb-true _ _ q.0 in above_less low (stamp x) (those t rs) (omega arith) ih

those_rising : (t : List ℕ → Bool) (rs : List (List ℕ)) → rising rs ≡ true → rising (those t rs) ≡ true
unfolding those rising
those_rising t [] a = refl
those_rising t (x ∷ rs) a = go (t x) (those_rising t rs (above_rising (stamp x) rs a))
  where
    go : (b : Bool) → rising (those t rs) ≡ true → rising (cond b (x ∷ those t rs) (those t rs)) ≡ true
    go true m = above_those t (stamp x) rs a
    go false m = m

pub below_high : (s : ℕ) (z : List ℕ) (rs : List (List ℕ)) → rising rs ≡ true → Among z rs → stamp z < s
    → (stamp z ≤ stamp (last_below s rs)) × Among (last_below s rs) rs
below_high s z rs r h l =
    let t : List ℕ → Bool = (λ (x : List ℕ). ltb (stamp x) s) in
    let q = last_high z (those t rs) (those_rising t rs r) (among_those t z rs (lt-ltb _ _ l) h) in
    (q.0, (those_of t _ rs q.1).0)

pub sized_of : (r : ℕ) (rs : List (List ℕ)) → Sized r rs → (z : List ℕ) → Among z rs → length z ≡ r
sized_of r [] q z h = absurd (among_none z h)
sized_of r (x ∷ rs) q z h = go (among_case x z rs h) (sized_of r rs q.1 z)
  where
    go : (x ≡ z) ⊎ Among z rs → (Among z rs → length z ≡ r) → length z ≡ r
    go (inl e) more = ap length (sym e) ∙ q.0
    go (inr m) more = more m

-- ---- the reply to a read
-- without a bound, or below one above a timestamp
abbrev pub Seeks : ℕ → List ℕ → Type 0
Seeks ts f = (kind_of f ≡ read_latest_kind) ⊎ ((kind_of f ≡ read_previous_kind) × (ts < stamp (body_of f)))

-- a frame is the read reply to f that bears a record held in b, of timestamp ts or a greater one
pub record Bears (p : Plan) (ts : ℕ) (f b out : List ℕ) : Type 0 where
  pub rec : List ℕ
  pub held : Among rec (records_of p b)
  pub long : length rec ≡ record_length p
  pub high : ts ≤ stamp rec
  pub is : out ≡ frame_of (replying (header_in f) read_reply_kind) rec

module _ (p : Plan) (f b y : List ℕ) (good : good_book p b ≡ true) (n : ℕ) (b₂ y₂ : List ℕ) (c : NodeCall p f b y (Ok n) b₂ y₂) where
  sizes : Sized (record_length p) (records_of p b)
  sizes = laid.sized b (record_length p) (count_of b) (book_head 1) (books.good_is p b good).fill.inside

  rise : rising (records_of p b) ≡ true
  rise = (books.good_is p b good).fill.rise

  told_latest : kind_of f ≡ read_latest_kind → reply_to (kind_of f) (body_of f) (records_of p b) ≡ reply_of read_reply_kind (last_of (records_of p b))
  unfolding reply_to
  told_latest e = rw e

  told_previous : kind_of f ≡ read_previous_kind → reply_to (kind_of f) (body_of f) (records_of p b) ≡ reply_of read_reply_kind (last_below (stamp (body_of f)) (records_of p b))
  unfolding reply_to
  told_previous e = rw e

  bearing : (ts : ℕ) (rec : List ℕ) → reply_to (kind_of f) (body_of f) (records_of p b) ≡ reply_of read_reply_kind rec → Among rec (records_of p b) → ts ≤ stamp rec
      → Bears p ts f b (take n y₂)
  bearing ts rec e m h =
      record {
        rec = rec;
        held = m;
        long = sized_of (record_length p) (records_of p b) sizes rec m;
        high = h;
        is = replied_frame p f b y n b₂ y₂ c ∙ ap (λ (r : Reply). frame_of (replying (header_in f) r.kind) r.body) e;
      }

  -- A NODE THAT HOLDS A RECORD ANSWERS A READ WITH IT OR A GREATER ONE
  pub reads_high : (z : List ℕ) → Among z (records_of p b) → Seeks (stamp z) f → Bears p (stamp z) f b (take n y₂)
  reads_high z m (inl e) = let q = last_high z (records_of p b) rise m in bearing (stamp z) _ (told_latest e) q.1 q.0
  reads_high z m (inr e) =
      let q = below_high (stamp (body_of f)) z (records_of p b) rise m e.1 in
      bearing (stamp z) _ (told_previous e.0) q.1 q.0

  abbrev rs : List (List ℕ)
  rs = records_of p b

  abbrev tells : Bool → Bool → Bool → Bool → Reply
  tells t w l v =
      cond t (reply_of time_reply_kind (be 8 (time (last_of rs))))
      (cond w (reply_of write_reply_kind (stamp_of (body_of f)))
      (cond l (reply_of read_reply_kind (last_of rs)) (cond v (reply_of read_reply_kind (last_below (stamp (body_of f)) rs)) no_reply)))

  -- WHAT A READ REPLY BEARS IS HELD: a record, and not the first triple
  pub borne_held : kind_of (take n y₂) ≡ read_reply_kind → length (body_of (take n y₂)) ≡ record_length p → Among (body_of (take n y₂)) (records_of p b)
  unfolding reply_to
  borne_held k l = go (eqb (kind_of f) time_request_kind) (eqb (kind_of f) write_request_kind) (eqb (kind_of f) read_latest_kind) (eqb (kind_of f) read_previous_kind) (replied_frame p f b y n b₂ y₂ c)
    where
      other : (r : Reply) → r.kind < 256 → (r.kind ≡ read_reply_kind → ⊥) → take n y₂ ≡ frame_of (replying (header_in f) r.kind) r.body → Among (body_of (take n y₂)) (records_of p b)
      other r s ne e = absurd (ne (sym (built.kind_frame (replying (header_in f) r.kind) r.body s) ∙ sym (ap kind_of e) ∙ k))

      body_of_lem : (rec : List ℕ) → take n y₂ ≡ frame_of (replying (header_in f) read_reply_kind) rec → body_of (take n y₂) ≡ rec
      body_of_lem rec e = ap body_of e ∙ built.body_frame (replying (header_in f) read_reply_kind) rec

      one : (rec : List ℕ) → take n y₂ ≡ frame_of (replying (header_in f) read_reply_kind) rec → (rec ≡ []) ⊎ Among rec (records_of p b) → Among (body_of (take n y₂)) (records_of p b)
      one rec e (inl z) = let q = ap length (body_of_lem rec e ∙ z) in absurd (omega (arith, l, q, record_length_lem p))
      one rec e (inr m) = subst (λ (x : List ℕ). Among x (records_of p b)) (sym (body_of_lem rec e)) m

      below : (t : List ℕ → Bool) → (last_of (those t rs) ≡ []) ⊎ Among (last_of (those t rs)) (those t rs) → (last_of (those t rs) ≡ []) ⊎ Among (last_of (those t rs)) (records_of p b)
      below t (inl z) = inl z
      below t (inr m) = inr (those_of t _ rs m).0

      go : (t w l v : Bool) → take n y₂ ≡ frame_of (replying (header_in f) (tells t w l v).kind) (tells t w l v).body → Among (body_of (take n y₂)) (records_of p b)
      go true w l v e = other (tells true w l v) (omega arith) (λ q. omega arith) e
      go false true l v e = other (tells false true l v) (omega arith) (λ q. omega arith) e
      go false false true v e = one (last_of rs) e (last_of_lem rs)
      go false false false true e = one _ e (below (λ (x : List ℕ). ltb (stamp x) (stamp (body_of f))) (last_of_lem _))
      go false false false false e = other (tells false false false false) (omega arith) (λ q. omega arith) e

  -- WHAT A WRITE REPLY BEARS IS THE TIMESTAMP OF THE RECORD OF ITS REQUEST, a write request
  pub acked_write : kind_of (take n y₂) ≡ write_reply_kind → (writes (header_in f) ≡ true) × (body_of (take n y₂) ≡ stamp_of (body_of f))
  unfolding reply_to
  acked_write k =
      go (eqb (kind_of f) time_request_kind) (eqb (kind_of f) write_request_kind) refl (eqb (kind_of f) read_latest_kind) (eqb (kind_of f) read_previous_kind) (replied_frame p f b y n b₂ y₂ c)
    where
      other : (r : Reply) → r.kind < 256 → (r.kind ≡ write_reply_kind → ⊥) → take n y₂ ≡ frame_of (replying (header_in f) r.kind) r.body
          → (writes (header_in f) ≡ true) × (body_of (take n y₂) ≡ stamp_of (body_of f))
      other r s ne e = absurd (ne (sym (built.kind_frame (replying (header_in f) r.kind) r.body s) ∙ sym (ap kind_of e) ∙ k))

      go : (t w : Bool) → eqb (kind_of f) write_request_kind ≡ w → (l v : Bool) → take n y₂ ≡ frame_of (replying (header_in f) (tells t w l v).kind) (tells t w l v).body
          → (writes (header_in f) ≡ true) × (body_of (take n y₂) ≡ stamp_of (body_of f))
      go true w q l v e = other (tells true w l v) (omega arith) (λ z. omega arith) e
      go false true q l v e = (q, ap body_of e ∙ built.body_frame (replying (header_in f) write_reply_kind) (stamp_of (body_of f)))
      go false false q true v e = other (tells false false true v) (omega arith) (λ z. omega arith) e
      go false false q false true e = other (tells false false false true) (omega arith) (λ z. omega arith) e
      go false false q false false e = other (tells false false false false) (omega arith) (λ z. omega arith) e

  -- A TIME REPLY ANSWERS A TIME REQUEST
  pub told_time : kind_of (take n y₂) ≡ time_reply_kind → kind_of f ≡ time_request_kind
  unfolding reply_to
  told_time k =
      go (eqb (kind_of f) time_request_kind) refl (eqb (kind_of f) write_request_kind) (eqb (kind_of f) read_latest_kind) (eqb (kind_of f) read_previous_kind) (replied_frame p f b y n b₂ y₂ c)
    where
      other : (r : Reply) → r.kind < 256 → (r.kind ≡ time_reply_kind → ⊥) → take n y₂ ≡ frame_of (replying (header_in f) r.kind) r.body → kind_of f ≡ time_request_kind
      other r s ne e = absurd (ne (sym (built.kind_frame (replying (header_in f) r.kind) r.body s) ∙ sym (ap kind_of e) ∙ k))

      go : (t : Bool) → eqb (kind_of f) time_request_kind ≡ t → (w l v : Bool) → take n y₂ ≡ frame_of (replying (header_in f) (tells t w l v).kind) (tells t w l v).body → kind_of f ≡ time_request_kind
      go true q w l v e = eqb-true (kind_of f) time_request_kind q
      go false q true l v e = other (tells false true l v) (omega arith) (λ z. omega arith) e
      go false q false true v e = other (tells false false true v) (omega arith) (λ z. omega arith) e
      go false q false false true e = other (tells false false false true) (omega arith) (λ z. omega arith) e
      go false q false false false e = other (tells false false false false) (omega arith) (λ z. omega arith) e
