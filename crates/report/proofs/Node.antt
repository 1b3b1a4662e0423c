-- WE ACT AS FIGURE 1. A fresh book is INITIALIZE (fresh_acts). The reply to each request is Figure 1's on the node's History (time_acts,
-- latest_acts, previous_acts, write_acts), and the History after a write is Figure 1's. A refused request leaves the History and sends
-- nothing (refused_acts), and so does one that VALIDATE turns away (invalid_acts); one that it lets through is executed unless one of the
-- conditions that document 01 adds stands against it (valid_acts). Over any calls, each under a plan of its own, the History is the one that
-- Figure 1 holds (node_run, fresh_run): a call under another N or F than the book's changes nothing. Assumes nothing.
use Rattle.std.specs.Prelude.{Result, Ok, Err}
use Prim.Native.Nat.{◌-◌, ℕ, zero, suc, ◌+◌, ◌*◌, ◌≤◌}
use Prim.{tt}
use mathlib.Core.Path.{◌≡◌, refl, sym, ap, ◌∙◌, subst}
use mathlib.Core.Bool.{Bool, true, false, cond, not}
use mathlib.Core.List.{List, [], ◌∷◌}
use mathlib.Core.Logic.{◌⊎◌, inl, inr}
use native.Mathlib.Nat.{suc-mul}
use native.Mathlib.Omega.{arith}
use borrow.Author.Tests.{eq-eqb, eqb-true, eqb-false, not-false, not-true}
use lib.Dec.{eqb}
use lib.ListN.{length, length-drop}
use Rattle.octets.specs.Bytes.{part, be, over, Octets}
use Rattle.octets.proofs.Laws.{length_part}
use Rattle.octets.proofs.Meaning.{octets_part, octets_drop}
use Rattle.terms.proofs.Rungs.{both, clash}
use Rattle.terms.specs.Ladder.{all, None}
use Rattle.terms.specs.Stamp.{stamp, time}
use Rattle.terms.specs.Terms.{plan_ok, record_length}
use Rattle.terms.specs.declared.Plan.{Plan}
use Rattle.terms.specs.declared.Refusal.{Refusal}
use Rattle.terms.proofs.Small.{strict}
use Rattle.frame.specs.Frame.{time_request_kind, time_reply_kind, write_request_kind, read_latest_kind, read_previous_kind, head_bytes, version_of, header_in, kind_of, frame_node, body_of, frame_of, replying, good_request}
use Rattle.frame.proofs.Frames.{request_is, bytes_3}
use Rattle.record.specs.Record.{hashes_ok, time_zero}
use Rattle.terms.proofs.Places.{record_length_lem}
use Rattle.book.specs.Records.{last_of, last_below, kept}
use Rattle.book.specs.Book.{book_head, good_book, node_of, records_from, records_of, count_of}
use Rattle.book.proofs.Laid as laid
use Rattle.book.proofs.Laws as books
use Rattle.node.specs.Node.{NodeCall, served, answered, sends, reply_to, said_served, replied, refused, ServedOutcome, served_outcome, node_ladder, book_reply_ok, writes, time_fails, hash_fails, other_held, no_room}
use Rattle.node.specs.Fresh.{FreshCall}
use Rattle.node.proofs.Laws as nodes
use Rattle.store.specs.Deliver.{Among}
use Rattle.store.specs.History.{Call, History, last_book}
use Rattle.store.proofs.Order as order
use Rattle.store.proofs.One as one
use Rattle.store.proofs.Node as calls
use Rattle.store.proofs.Kept as keeps
use Rattle.store.proofs.Passed.{laid_fresh}
use Rattle.terms.proofs.Ladders as ladders
use Rattle.report.specs.Triple.{Triple, each, In, Same}
use Rattle.report.specs.Figure1.{initial, initialize, receive_time_request, validate, with_it, Written, receive_write_request, receive_read_latest, receive_read_previous}
use Rattle.report.specs.Ours.{family, triple_of, history, time_in}
use Rattle.report.specs.Run.{InBytes, received}
use Rattle.report.proofs.Triples.{stamp_low, time_in_lem, time_none, validate_is}
use Rattle.report.proofs.Lists.{same_more, same_trans}
use Rattle.report.proofs.Latest.{time_of, latest_of, previous_of}
use Rattle.report.specs.Acts.{Sends, Executes, Added, reaches}

-- ---- the records of a book
-- what holds of every part of R bytes, and of none, holds of the last record
last_all : (P : List ℕ → Type 0) (b : List ℕ) (r : ℕ) → ((at : ℕ) → at + r ≤ length b → P (part b at r)) → P []
    → (m at : ℕ) → at + m * r ≤ length b → P (last_of (records_from b r m at))
unfolding records_from last_of
last_all P b r h z zero at l = z
last_all P b r h z (suc zero) at l = h at (omega (arith, suc-mul 0 r))
last_all P b r h z (suc (suc m)) at l = last_all P b r h z (suc m) (at + r) (omega (arith, suc-mul (suc m) r))

-- ---- sets of triples
module _ (p : Plan) where
  in_triples : (z : List ℕ) (rs : List (List ℕ)) → Among z rs → In (triple_of p z) (each (triple_of p) rs)
  unfolding each
  in_triples z [] h = absurd (order.among_none z h)
  in_triples z (x ∷ rs) h = go (order.among_case x z rs h) (in_triples z rs)
    where
      go : (x ≡ z) ⊎ Among z rs → (Among z rs → In (triple_of p z) (each (triple_of p) rs)) → In (triple_of p z) (triple_of p x ∷ each (triple_of p) rs)
      go (inl e) ih = inl (ap (triple_of p) (sym e))
      go (inr k) ih = inr (ih k)

  of_triples : (C : Type 0) (X : Triple) (rs : List (List ℕ)) → In X (each (triple_of p) rs) → ((z : List ℕ) → Among z rs → X ≡ triple_of p z → C) → C
  unfolding each
  of_triples C X [] h k = absurd h
  of_triples C X (x ∷ rs) (inl e) k = k x (order.among_first x x rs refl) e
  of_triples C X (x ∷ rs) (inr h) k = of_triples C X rs h (λ z m e. k z (order.among_later x z rs m) e)

  with_record : (rec : List ℕ) (rs ks : List (List ℕ)) → Among rec ks → ((z : List ℕ) → Among z rs → Among z ks)
      → ((z : List ℕ) → Among z ks → (rec ≡ z) ⊎ Among z rs)
      → Same (initial ∷ each (triple_of p) ks) (with_it (triple_of p rec) (initial ∷ each (triple_of p) rs))
  with_record rec rs ks has more only X = (there, back)
    where
      new : (z : List ℕ) → X ≡ triple_of p z → (rec ≡ z) ⊎ Among z rs → In X (with_it (triple_of p rec) (initial ∷ each (triple_of p) rs))
      new z e (inl r) = inl (e ∙ ap (triple_of p) (sym r))
      new z e (inr m) = inr (inr (subst (λ (Y : Triple). In Y (each (triple_of p) rs)) (sym e) (in_triples z rs m)))

      there : In X (initial ∷ each (triple_of p) ks) → In X (with_it (triple_of p rec) (initial ∷ each (triple_of p) rs))
      there (inl e) = inr (inl e)
      there (inr h) = of_triples (In X (with_it (triple_of p rec) (initial ∷ each (triple_of p) rs))) X ks h (λ z m e. new z e (only z m))

      held : (z : List ℕ) → Among z ks → X ≡ triple_of p z → In X (initial ∷ each (triple_of p) ks)
      held z m e = inr (subst (λ (Y : Triple). In Y (each (triple_of p) ks)) (sym e) (in_triples z ks m))

      back : In X (with_it (triple_of p rec) (initial ∷ each (triple_of p) rs)) → In X (initial ∷ each (triple_of p) ks)
      back (inl e) = held rec has e
      back (inr (inl e)) = inl e
      back (inr (inr h)) = of_triples (In X (initial ∷ each (triple_of p) ks)) X rs h (λ z m e. held z (more z m) e)

-- ---- the call
module _ (p : Plan) (f b y : List ℕ) (ob : Octets b) (of : Octets f) where
  -- a request to write: VALIDATE is the condition of refusal 6
  write_body : good_request p (node_of b) f ≡ true → kind_of f ≡ write_request_kind → 40 ≤ length (body_of f)
  write_body r k =
      let q = (request_is p (node_of b) f r).frame_is in
      let l = bytes_3 p (kind_of f) (length f - head_bytes (version_of f)) q.fits k in
      simp length-drop (omega (arith, l, record_length_lem p))

  validates : good_request p (node_of b) f ≡ true → kind_of f ≡ write_request_kind → not (validate (family p) (node_of b) (triple_of p (body_of f))) ≡ hash_fails p (header_in f) (body_of f)
  unfolding hash_fails
  validates r k =
      let n : frame_node f ≡ node_of b = (request_is p (node_of b) f r).node_is in
      ap not (validate_is p (node_of b) (body_of f) (write_body r k) (octets_drop (head_bytes (version_of f)) f of) ∙ ap (λ (S : ℕ). hashes_ok p S (body_of f)) (sym n))
      ∙ rw (eq-eqb (kind_of f) write_request_kind k)

  module _ (n : ℕ) (b₂ y₂ : List ℕ) (c : NodeCall p f b y (Ok n) b₂ y₂) where
    told : None (node_ladder p f b y) × (served_outcome (replied n) b₂ y₂ ≡ answered p (header_in f) (body_of f) b y)
    told = calls.replied_is p f b y n b₂ y₂ c

    clear : calls.Clear p f b y
    clear = calls.clear p f b y told.0

    good : laid.BookIs 1 (book_head 1) p b
    good = books.good_is p b clear.good

    bytes : y₂ ≡ over (frame_of (replying (header_in f) (reply_to (kind_of f) (body_of f) (records_of p b)).kind) (reply_to (kind_of f) (body_of f) (records_of p b)).body) y
    unfolding answered sends
    bytes = ap (λ (o : ServedOutcome). o.reply) told.1

    left : writes (header_in f) ≡ false → b₂ ≡ b
    left w = ap (λ (o : ServedOutcome). o.book) told.1 ∙ one.answered_book p f b y ∙ nodes.after_other p (header_in f) (body_of f) b w

    read_only : (k : ℕ) → kind_of f ≡ k → eqb k write_request_kind ≡ false → b₂ ≡ b
    read_only k e h = left (ap (λ (j : ℕ). eqb j write_request_kind) e ∙ h)

    -- RECEIVE_TIME_REQUEST; of the timestamp the reply bears the time only
    pub time_acts : kind_of f ≡ time_request_kind → (y₂ ≡ over (frame_of (replying (header_in f) time_reply_kind) (be 8 ((family p).Time (receive_time_request (history p b))))) y) × (b₂ ≡ b)
    unfolding reply_to
    time_acts k = (
      rw k at bytes ∙ ap (λ (t : ℕ). over (frame_of (replying (header_in f) time_reply_kind) (be 8 t)) y)
          (sym (ap time_in (time_of p (records_of p b) good.fill.rise good.fill.times) ∙ last_time)),
      read_only time_request_kind k refl,
    )
      where
        last_time : time_in (stamp (last_of (records_of p b))) ≡ time (last_of (records_of p b))
        last_time =
            last_all (λ (x : List ℕ). time_in (stamp x) ≡ time x) b (record_length p)
            (λ at l. time_in_lem (part b at (record_length p)) (omega (arith, length_part b at (record_length p) l, record_length_lem p)) (octets_part b at (record_length p) ob))
            time_none (count_of b) (book_head 1) good.fill.inside

    -- RECEIVE_READ_LATEST
    pub latest_acts : kind_of f ≡ read_latest_kind → Sends p f y y₂ (receive_read_latest (history p b)) × (b₂ ≡ b)
    unfolding reply_to
    latest_acts k = (
      record { body = last_of (records_of p b); sent = rw k at bytes; is = latest_of p (records_of p b) good.fill.rise good.fill.times },
      read_only read_latest_kind k refl,
    )

    -- RECEIVE_READ_PREVIOUS
    pub previous_acts : kind_of f ≡ read_previous_kind → Sends p f y y₂ (receive_read_previous (history p b) (stamp (body_of f))) × (b₂ ≡ b)
    unfolding reply_to time_fails time_zero
    previous_acts k = (
      record {
        body = last_below (stamp (body_of f)) (records_of p b);
        sent = rw k at bytes;
        is = previous_of p (records_of p b) good.fill.rise good.fill.times (stamp (body_of f)) (stamp_low (body_of f) low);
      },
      read_only read_previous_kind k refl,
    )
      where
        low : 1 ≤ time (body_of f)
        low =
            let z : eqb (time (body_of f)) 0 ≡ false = rw k at clear.time in
            strict 0 (time (body_of f)) (omega arith) (λ e. eqb-false (time (body_of f)) 0 z (sym e))

    -- RECEIVE_WRITE_REQUEST
    pub write_acts : kind_of f ≡ write_request_kind → Executes p f b y b₂ y₂
    unfolding reply_to receive_write_request
    write_acts k =
        let w : writes (header_in f) ≡ true = eq-eqb (kind_of f) write_request_kind k in
        let v : validate (family p) (node_of b) (triple_of p (body_of f)) ≡ true = not-false _ (validates clear.request k ∙ clear.hash) in
        let e : records_of p b₂ ≡ kept (body_of f) (records_of p b) =
        ap (λ (x : List ℕ). records_of p x) (ap (λ (o : ServedOutcome). o.book) c.is) ∙ one.is_records (keeps.executed p f b y (keeps.start_of p f b y clear.good ob clear) clear w) in
        let q = keeps.call_keeps p f b y clear.good ob (Ok n) b₂ y₂ c in
        let h = keeps.call_stores p f b y clear.good ob n b₂ y₂ c w in
        record {
          valid = rw v;
          set = rw v (with_record p (body_of f) (records_of p b) (records_of p b₂) h q.keeps
              (λ z m. order.kept_only (body_of f) z (records_of p b) (subst (Among z) e m)));
          sent = rw k at bytes;
        }

  -- a refused request: no message is sent, and the History stays
  pub refused_acts : (r : Refusal) (b₂ y₂ : List ℕ) → NodeCall p f b y (Err r) b₂ y₂ → (history p b₂ ≡ history p b) × (y₂ ≡ y)
  refused_acts r b₂ y₂ c =
      let q = calls.refused_is p f b y r b₂ y₂ c in
      (ap (history p) q.1, q.2)

  -- a write request that VALIDATE turns away: the same
  pub invalid_acts : good_request p (node_of b) f ≡ true → kind_of f ≡ write_request_kind → validate (family p) (node_of b) (triple_of p (body_of f)) ≡ false
      → (a : Result ℕ Refusal) (b₂ y₂ : List ℕ) → NodeCall p f b y a b₂ y₂ → (history p b₂ ≡ history p b) × (y₂ ≡ y)
  invalid_acts r k v (Err e) b₂ y₂ c = refused_acts e b₂ y₂ c
  invalid_acts r k v (Ok n) b₂ y₂ c =
      let q = calls.clear p f b y (calls.replied_is p f b y n b₂ y₂ c).0 in
      absurd (clash (sym (ap not v) ∙ validates r k ∙ q.hash))

  pub valid_acts : Added p f b y → kind_of f ≡ write_request_kind → validate (family p) (node_of b) (triple_of p (body_of f)) ≡ true
      → (a : Result ℕ Refusal) (b₂ y₂ : List ℕ) → NodeCall p f b y a b₂ y₂ → served_outcome (said_served a) b₂ y₂ ≡ answered p (header_in f) (body_of f) b y
  unfolding served
  valid_acts h k v a b₂ y₂ c =
      c.is
      ∙ ladders.is_passed (node_ladder p f b y) (λ (j : ℕ). served_outcome (refused j) b y) (answered p (header_in f) (body_of f) b y)
      (ap not h.plan, (ap not h.lengths, (ap not h.book, (ap not h.request, (h.time, (sym (validates h.request k) ∙ ap not v, (h.other, (h.room, tt))))))))

-- ---- a fresh book is INITIALIZE
module _ (p : Plan) (node : ℕ) (b b₂ : List ℕ) (c : FreshCall p node b (Ok tt) b₂) where
  pub fresh_acts : history p b₂ ≡ initialize
  unfolding each
  fresh_acts = ap (λ (rs : List (List ℕ)). initial ∷ each (triple_of p) rs) (one.is_records (laid_fresh p node b b₂ c))

-- ---- a write request that reaches Figure 1
module _ (p : Plan) (f b y : List ℕ) where
  reached : reaches p f b y ≡ true → Added p f b y × (kind_of f ≡ write_request_kind)
  unfolding reaches all
  reached e =
      let a = both (writes (header_in f)) _ e in
      let b₁ = both (plan_ok p) _ a.1 in
      let b₂ = both (book_reply_ok p (length b) (length y)) _ b₁.1 in
      let b₃ = both (good_book p b) _ b₂.1 in
      let b₄ = both (good_request p (node_of b) f) _ b₃.1 in
      let b₅ = both (not (time_fails (header_in f) (body_of f))) _ b₄.1 in
      let b₆ = both (not (other_held p (header_in f) (body_of f) b)) _ b₅.1 in
      let b₇ = both (not (no_room p (header_in f) (body_of f) b)) _ b₆.1 in (
        record {
          plan = b₁.0;
          lengths = b₂.0;
          book = b₃.0;
          request = b₄.0;
          time = not-true _ b₅.0;
          other = not-true _ b₆.0;
          room = not-true _ b₇.0;
        },
        eqb-true (kind_of f) write_request_kind a.0,
      )

  clear_reaches : calls.Clear p f b y → writes (header_in f) ≡ true → reaches p f b y ≡ true
  unfolding reaches all
  clear_reaches q w = rw (w, q.plan, q.lengths, q.good, q.request, q.time, q.other, q.room)

  no_write : writes (header_in f) ≡ false → reaches p f b y ≡ false
  unfolding reaches all
  no_write w = rw w

  -- where VALIDATE lets it through it is executed, and not refused
  module _ (ob : Octets b) (of : Octets f) where
    not_refused : (r : Refusal) (b₂ y₂ : List ℕ) → Added p f b y × (kind_of f ≡ write_request_kind)
        → validate (family p) (node_of b) (triple_of p (body_of f)) ≡ true → NodeCall p f b y (Err r) b₂ y₂ → ⊥
    unfolding answered sends
    not_refused r b₂ y₂ h v c =
        let e = ap (λ (o : ServedOutcome). o.answer) (valid_acts p f b y ob of h.0 h.1 v (Err r) b₂ y₂ c) in
        let z : ◌≡◌ {A = ℕ} 0 1 = cc in omega arith

    pub valid_executes : Added p f b y → kind_of f ≡ write_request_kind → validate (family p) (node_of b) (triple_of p (body_of f)) ≡ true
        → (a : Result ℕ Refusal) (b₂ y₂ : List ℕ) → NodeCall p f b y a b₂ y₂ → Executes p f b y b₂ y₂
    valid_executes h k v (Err r) b₂ y₂ c = absurd (not_refused r b₂ y₂ (h, k) v c)
    valid_executes h k v (Ok n) b₂ y₂ c = write_acts p f b y ob of n b₂ y₂ c k

turned_away : (p : Plan) (S : ℕ) (H : List Triple) (X : Triple) → validate (family p) S X ≡ false → (receive_write_request (family p) S H X).History ≡ H
unfolding receive_write_request
turned_away p S H X v = rw v

-- ---- a run of calls
abbrev written : List Triple → Bool → Written
written H t = record { History = H; sent = t }

-- what a write request makes of two lists of one History
write_same : (p : Plan) (S : ℕ) (X : Triple) (A B : List Triple) → Same A B
    → Same (receive_write_request (family p) S A X).History (receive_write_request (family p) S B X).History
unfolding receive_write_request
write_same p S X A B f = go (validate (family p) S X)
  where
    go : (t : Bool) → Same (cond t (written (with_it X A) true) (written A false)).History (cond t (written (with_it X B) true) (written B false)).History
    go true = same_more X A B f
    go false = f

-- one call: the book stays good and of its node, and its History follows
record Follows (p : Plan) (b b₂ : List ℕ) (H : List Triple) : Type 0 where
  good : good_book p b₂ ≡ true
  node : node_of b₂ ≡ node_of b
  set : Same (history p b₂) H

follows_still : (p : Plan) (b b₂ : List ℕ) (H : List Triple) → good_book p b ≡ true → b₂ ≡ b → Same (history p b) H → Follows p b b₂ H
follows_still p b b₂ H g e f =
    record {
      good = ap (good_book p) e ∙ g;
      node = ap (λ (x : List ℕ). node_of x) e;
      set = subst (λ (x : List ℕ). Same (history p x) H) (sym e) f;
    }

module _ (p : Plan) (f b y : List ℕ) (ob : Octets b) (of : Octets f) (g : good_book p b ≡ true) (H : List Triple) (same : Same (history p b) H) where
  abbrev fed : Bool → List Triple
  fed t = cond t (receive_write_request (family p) (node_of b) H (triple_of p (body_of f))).History H

  call_follows : (a : Result ℕ Refusal) (b₂ y₂ : List ℕ) → NodeCall p f b y a b₂ y₂ → Follows p b b₂ (fed (reaches p f b y))
  call_follows (Err r) b₂ y₂ c = follows_still p b b₂ _ g (calls.refused_is p f b y r b₂ y₂ c).1 (go (reaches p f b y) refl)
    where
      turned : reaches p f b y ≡ true → (t : Bool) → validate (family p) (node_of b) (triple_of p (body_of f)) ≡ t → Same (history p b) (fed true)
      turned e true v = absurd (not_refused p f b y ob of r b₂ y₂ (reached p f b y e) v c)
      turned e false v = subst (Same (history p b)) (sym (turned_away p (node_of b) H (triple_of p (body_of f)) v)) same

      go : (t : Bool) → reaches p f b y ≡ t → Same (history p b) (fed t)
      go true e = turned e (validate (family p) (node_of b) (triple_of p (body_of f))) refl
      go false e = same
  call_follows (Ok n) b₂ y₂ c = go (writes (header_in f)) refl
    where
      clear : calls.Clear p f b y
      clear = calls.clear p f b y (calls.replied_is p f b y n b₂ y₂ c).0

      go : (t : Bool) → writes (header_in f) ≡ t → Follows p b b₂ (fed (reaches p f b y))
      go true w =
          let e = write_acts p f b y ob of n b₂ y₂ c (eqb-true (kind_of f) 3 w) in
          let q = keeps.executed p f b y (keeps.start_of p f b y g ob clear) clear w in
          let l : b₂ ≡ (served p f b y).book = ap (λ (o : ServedOutcome). o.book) c.is in
          subst (λ (t : Bool). Follows p b b₂ (fed t)) (sym (clear_reaches p f b y clear w))
          (record {
            good = (keeps.call_keeps p f b y g ob (Ok n) b₂ y₂ c).good;
            node = ap (λ (x : List ℕ). node_of x) l ∙ one.is_node q;
            set = same_trans (history p b₂) (receive_write_request (family p) (node_of b) (history p b) (triple_of p (body_of f))).History
                (receive_write_request (family p) (node_of b) H (triple_of p (body_of f))).History e.set (write_same p (node_of b) (triple_of p (body_of f)) (history p b) H same);
          })
      go false w =
          subst (λ (t : Bool). Follows p b b₂ (fed t)) (sym (no_write p f b y w))
          (follows_still p b b₂ H g
          (ap (λ (o : ServedOutcome). o.book) (calls.replied_is p f b y n b₂ y₂ c).1 ∙ one.answered_book p f b y ∙ nodes.after_other p (header_in f) (body_of f) b w) same)

-- ---- a call under any plan
-- a plan's N and F are all that a History goes by
history_bare : (p : Plan) (b : List ℕ) → history p b ≡ history (calls.bare p.n p.f) b
unfolding record_length
history_bare p b = refl

-- and Figure 1 goes by none of it
any_family : (p q : Plan) (S : ℕ) (H : List Triple) (X : Triple) → receive_write_request (family p) S H X ≡ receive_write_request (family q) S H X
unfolding receive_write_request validate
any_family p q S H X = refl

module _ (p q : Plan) (f b y : List ℕ) (ob : Octets b) (of : Octets f) (g : good_book p b ≡ true) (H : List Triple) (same : Same (history p b) H) where
  abbrev given : Bool → List Triple
  given t = cond t (receive_write_request (family p) (node_of b) H (triple_of p (body_of f))).History H

  -- the book is not of this plan: the request is refused, and does not reach Figure 1
  not_reached : good_book q b ≡ false → reaches q f b y ≡ false
  not_reached h = go (reaches q f b y) refl
    where
      go : (t : Bool) → reaches q f b y ≡ t → t ≡ false
      go true e = absurd (clash (sym (reached q f b y e).0.book ∙ h))
      go false e = refl

  foreign : good_book q b ≡ false → (a : Result ℕ Refusal) (b₂ y₂ : List ℕ) → NodeCall q f b y a b₂ y₂ → Follows p b b₂ (given (reaches q f b y))
  foreign h (Err r) b₂ y₂ c =
      follows_still p b b₂ _ g (calls.refused_is q f b y r b₂ y₂ c).1 (subst (λ (t : Bool). Same (history p b) (given t)) (sym (not_reached h)) same)
  foreign h (Ok n) b₂ y₂ c = absurd (clash (sym (calls.clear q f b y (calls.replied_is q f b y n b₂ y₂ c).0).good ∙ h))

  -- it is: N and F are the book's, and the call is as one under the book's own plan
  own_plan : good_book q b ≡ true → (a : Result ℕ Refusal) (b₂ y₂ : List ℕ) → NodeCall q f b y a b₂ y₂ → Follows p b b₂ (given (reaches q f b y))
  own_plan h a b₂ y₂ c =
      let e = calls.same_plan q p b h g in
      let hist : (x : List ℕ) → history q x ≡ history p x = λ x. history_bare q x ∙ (λ i. history (calls.bare (e.0 i) (e.1 i)) x) ∙ sym (history_bare p x) in
      let X : triple_of q (body_of f) ≡ triple_of p (body_of f) = λ i. triple_of (calls.bare (e.0 i) (e.1 i)) (body_of f) in
      let G : fed q f b y ob of h H (subst (λ (l : List Triple). Same l H) (sym (hist b)) same) (reaches q f b y) ≡ given (reaches q f b y) =
      ap (λ (x : Written). cond (reaches q f b y) x.History H)
      (any_family q p (node_of b) H (triple_of q (body_of f)) ∙ ap (receive_write_request (family p) (node_of b) H) X) in
      let k = call_follows q f b y ob of h H (subst (λ (l : List Triple). Same l H) (sym (hist b)) same) a b₂ y₂ c in
      record {
        good = sym (calls.same_good q p b₂ e.0 e.1) ∙ k.good;
        node = k.node;
        set = subst (λ (l : List Triple). Same l (given (reaches q f b y))) (hist b₂) (subst (Same (history q b₂)) G k.set);
      }

  any_call_follows : (a : Result ℕ Refusal) (b₂ y₂ : List ℕ) → NodeCall q f b y a b₂ y₂ → Follows p b b₂ (given (reaches q f b y))
  any_call_follows = go (good_book q b) refl
    where
      go : (t : Bool) → good_book q b ≡ t → (a : Result ℕ Refusal) (b₂ y₂ : List ℕ) → NodeCall q f b y a b₂ y₂ → Follows p b b₂ (given (reaches q f b y))
      go true h = own_plan h
      go false h = foreign h

-- OVER ANY CALLS A NODE'S HISTORY IS THE ONE THAT FIGURE 1 HOLDS after the write requests that document 01 does not bar. Each call has a plan of its
-- own: the book fixes N and F, and under others a call is refused 1 or 3.
pub node_run : (p : Plan) (b : List ℕ) (H : List Triple) (cs : List Call) → good_book p b ≡ true → Same (history p b) H → History b cs → InBytes cs
    → Same (history p (last_book b cs)) (received p (node_of b) H b cs)
node_run p b H [] g s h o = s
node_run p b H (c ∷ cs) g s h o =
    let q = any_call_follows p c.plan c.request b c.reply h.0 o.0 g H s c.answer c.book_left c.reply_left h.1 in
    subst
    (λ (S : ℕ). Same (history p (last_book c.book_left cs))
    (received p S (given p c.plan c.request b c.reply h.0 o.0 g H s (reaches c.plan c.request b c.reply)) c.book_left cs))
    q.node (node_run p c.book_left _ cs q.good q.set h.2 o.1)

-- and from a fresh book, the one that it holds from INITIALIZE on
pub fresh_run : (p : Plan) (node : ℕ) (b b₂ : List ℕ) (cs : List Call) → FreshCall p node b (Ok tt) b₂ → History b₂ cs → InBytes cs
    → Same (history p (last_book b₂ cs)) (received p node initialize b₂ cs)
fresh_run p node b b₂ cs c h o =
    let i = laid_fresh p node b b₂ c in
    subst (λ (S : ℕ). Same (history p (last_book b₂ cs)) (received p S initialize b₂ cs)) (one.is_node i)
    (node_run p b₂ initialize cs (one.is_good i) (subst (Same (history p b₂)) (fresh_acts p node b b₂ c) (λ X. ((λ m. m), (λ m. m)))) h o)
