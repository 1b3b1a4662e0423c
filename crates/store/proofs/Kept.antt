-- A good book stays good, and no record is ever lost. Assumes nothing.
use Rattle.terms.specs.declared.Refusal.{Refusal}
use Rattle.std.specs.Prelude.{Result, Ok, Err}
use mathlib.Core.Path.{◌≡◌, refl, sym, ap, ◌∙◌, subst}
use mathlib.Core.Bool.{Bool, true, false, cond, not}
use mathlib.Core.List.{List, [], ◌∷◌}
use mathlib.Core.Logic.{◌⊎◌, inl, inr}
use Prim.Native.Nat.{ℕ, ◌+◌, ◌*◌, ◌≤◌}
use native.Mathlib.Nat.{add-mul}
use native.Mathlib.Omega.{arith}
use borrow.Author.Tests.{ltb-false, eq-eqb, not-false}
use lib.ListN.{length}
use lib.Dec.{ltb, eqb}
use Rattle.octets.specs.Bytes.{alike, Octets}
use Rattle.octets.proofs.Meaning.{alike_is}
use Rattle.terms.specs.Ladder.{None}
use Rattle.terms.specs.Stamp.{stamp}
use Rattle.terms.specs.Terms.{plan_ok, record_length}
use Rattle.terms.specs.declared.Plan.{Plan}
use Rattle.terms.proofs.Rungs.{clash}
use Rattle.terms.proofs.Ladders as ladders
use Rattle.frame.specs.Frame.{body_of, header_in}
use Rattle.book.specs.Records.{some, holds, holds_other, kept}
use Rattle.book.specs.Book.{records_of, node_of, count_of, used_of, good_book, book_head, Itself}
use Rattle.book.proofs.Lists.{length_insert}
use Rattle.book.proofs.Laid as laid
use Rattle.node.specs.Node.{served, answered, ServedOutcome, served_outcome, refused, replied, node_ladder, writes, other_held, no_room, NodeCall}
use Rattle.node.proofs.Laws as nodes
use Rattle.store.specs.Deliver.{Among, passes}
use Rattle.store.specs.History.{Call, History, last_book, After}
use Rattle.store.proofs.Order as order
use Rattle.store.proofs.One as one
use Rattle.store.proofs.Node as theorems

some_split : (t : List ℕ → Bool) (x : List ℕ) (rs : List (List ℕ)) → some t (x ∷ rs) ≡ false → (t x ≡ false) × (some t rs ≡ false)
unfolding some
some_split t x rs h = go (t x) refl h
  where
    go : (u : Bool) → t x ≡ u → cond u true (some t rs) ≡ false → (u ≡ false) × (some t rs ≡ false)
    go true e k = absurd (clash k)
    go false e k = (refl, k)

-- none other is held: a held record of this timestamp is this one
own : (rec : List ℕ) (rs : List (List ℕ)) → holds_other rec rs ≡ false → one.Own rec rs
own rec [] n z h e = absurd (order.among_none z h)
own rec (x ∷ rs) n z h e = go (order.among_case x z rs h) (own rec rs q.1 z)
  where
    q : (cond (eqb (stamp x) (stamp rec)) (not (alike x rec)) false ≡ false) × (holds_other rec rs ≡ false)
    q = some_split (λ (w : List ℕ). cond (eqb (stamp w) (stamp rec)) (not (alike w rec)) false) x rs n

    go : (x ≡ z) ⊎ Among z rs → (Among z rs → stamp z ≡ stamp rec → z ≡ rec) → z ≡ rec
    go (inl k) ih =
        let s : eqb (stamp x) (stamp rec) ≡ true = eq-eqb _ _ (ap (λ (w : List ℕ). stamp w) k ∙ e) in
        sym k ∙ alike_is x rec (not-false _ (rw s at q.0))
    go (inr k) ih = ih k e

same_after : (p : Plan) (b b₂ : List ℕ) → good_book p b ≡ true → b₂ ≡ b → After p b b₂
same_after p b b₂ g e =
    record { good = ap (λ (x : List ℕ). good_book p x) e ∙ g; keeps = λ z h. subst (λ (x : List ℕ). Among z (records_of p x)) (sym e) h }

module _ (p : Plan) (f b y : List ℕ) (start : one.Laid p (node_of b) b b (records_of p b)) (n : theorems.Clear p f b y) (w : writes (header_in f) ≡ true) where
  -- a write request that none of the refusals meets
  own_it : one.Own (body_of f) (records_of p b)
  unfolding other_held
  own_it = own (body_of f) (records_of p b) (rw w at n.other)

  room : book_head 1 + length (kept (body_of f) (records_of p b)) * record_length p ≤ length b
  unfolding no_room
  room = go (holds (body_of f) (records_of p b)) refl n.room
    where
      go : (t : Bool) → holds (body_of f) (records_of p b) ≡ t → no_room p (header_in f) (body_of f) b ≡ false
          → book_head 1 + length (kept (body_of f) (records_of p b)) * record_length p ≤ length b
      go true h n8 = rw (order.kept_held (body_of f) (records_of p b) h) start.fits
      go false h n8 =
          let q : ltb (length b) (used_of p b + record_length p) ≡ false = rw (w, h) at n8 in
          let r : used_of p b + record_length p ≤ length b = ltb-false _ _ q in
          let l : length (kept (body_of f) (records_of p b)) ≡ count_of b + 1 =
          ap length (order.kept_new (body_of f) (records_of p b) h) ∙ length_insert (body_of f) (records_of p b)
          ∙ ap (λ (m : ℕ). m + 1) (laid.length_records b (record_length p) (count_of b) (book_head 1)) in
          subst (λ (m : ℕ). book_head 1 + m * record_length p ≤ length b) (sym l) (omega (arith, add-mul (count_of b) 1 (record_length p)))

  passed : passes p (node_of b) f ≡ true
  passed =
      one.pass_back p (node_of b) f (record { frame = n.request; kind = w; time = n.time; hash = n.hash })

  pub executed : one.Laid p (node_of b) b (served p f b y).book (kept (body_of f) (records_of p b))
  executed = one.deliver_one start f y (nodes.lengths_are p (length b) (length y) n.lengths).room passed own_it room

  pub written : After p b (served p f b y).book × Among (body_of f) (records_of p (served p f b y).book)
  written =
      let e = one.is_records executed in
      let k = order.kept_is (records_of p b) (body_of f) start.rise own_it in
      (record { good = one.is_good executed; keeps = λ z h. rw e (k.keeps z h) }, rw e k.has)

-- ---- a run of requests looks at the shape of a book once: whatever a request is, a good book that is laid out is so after it, and as long
pub record StaysGood (p : Plan) (b b₂ : List ℕ) : Type 0 where
  pub good : good_book p b₂ ≡ true
  pub laid : Itself p b₂
  pub size : length b₂ ≡ length b

pub served_stays : (p : Plan) (f b y : List ℕ) → plan_ok p ≡ true → good_book p b ≡ true → Itself p b → length b ≤ 65536 → StaysGood p b (served p f b y).book
unfolding served
served_stays p f b y pk g l h =
    ladders.by_ladder (λ (o : ServedOutcome). StaysGood p b o.book) (node_ladder p f b y) refuse (answered p (header_in f) (body_of f) b y)
    (λ k _. as_it_was b refl) (λ n. go (writes (header_in f)) refl n)
  where
    refuse : ℕ → ServedOutcome
    refuse k = served_outcome (refused k) b y

    as_it_was : (b₂ : List ℕ) → b₂ ≡ b → StaysGood p b b₂
    as_it_was b₂ e = subst (StaysGood p b) (sym e) (record { good = g; laid = l; size = refl })

    go : (t : Bool) → writes (header_in f) ≡ t → None (node_ladder p f b y) → StaysGood p b (answered p (header_in f) (body_of f) b y).book
    go true w n =
        let q = executed p f b y (one.start p b pk g l h) (theorems.clear p f b y n) w in
        subst (StaysGood p b) (ap (λ (o : ServedOutcome). o.book) (ladders.is_passed (node_ladder p f b y) refuse (answered p (header_in f) (body_of f) b y) n)) (record { good = one.is_good q; laid = one.is_itself q; size = one.is_length q })
    go false w n = as_it_was _ (one.answered_book p f b y ∙ nodes.after_other p (header_in f) (body_of f) b w)

module _ (p : Plan) (f b y : List ℕ) (g : good_book p b ≡ true) (o : Octets b) where
  -- the book's records laid out over it, where a call is not refused
  pub start_of : theorems.Clear p f b y → one.Laid p (node_of b) b b (records_of p b)
  start_of c = one.itself p b c.plan g o (nodes.lengths_are p (length b) (length y) c.lengths).high

  -- Whatever a call answers, it leaves a good book good and with all its records.
  pub call_keeps : (a : Result ℕ Refusal) (b₂ y₂ : List ℕ) → NodeCall p f b y a b₂ y₂ → After p b b₂
  call_keeps (Err r) b₂ y₂ c = same_after p b b₂ g (theorems.refused_is p f b y r b₂ y₂ c).1
  call_keeps (Ok n) b₂ y₂ c = go (writes (header_in f)) refl
    where
      q : None (node_ladder p f b y) × (served_outcome (replied n) b₂ y₂ ≡ answered p (header_in f) (body_of f) b y)
      q = theorems.replied_is p f b y n b₂ y₂ c

      go : (t : Bool) → writes (header_in f) ≡ t → After p b b₂
      go true w =
          let m = theorems.clear p f b y q.0 in
          subst (After p b) (sym (ap (λ (o : ServedOutcome). o.book) c.is)) (written p f b y (start_of m) m w).0
      go false w = same_after p b b₂ g (ap (λ (o : ServedOutcome). o.book) q.1 ∙ one.answered_book p f b y ∙ nodes.after_other p (header_in f) (body_of f) b w)

  -- A write request that was acknowledged is in the book.
  pub call_stores : (n : ℕ) (b₂ y₂ : List ℕ) → NodeCall p f b y (Ok n) b₂ y₂ → writes (header_in f) ≡ true → Among (body_of f) (records_of p b₂)
  call_stores n b₂ y₂ c w =
      let m = theorems.clear p f b y (theorems.replied_is p f b y n b₂ y₂ c).0 in
      subst (λ (x : List ℕ). Among (body_of f) (records_of p x)) (sym (ap (λ (o : ServedOutcome). o.book) c.is)) (written p f b y (start_of m) m w).1

-- A call under another plan does no harm: it is refused, or its plan has the same N and F.
pub any_call_keeps : (p q : Plan) (f b y : List ℕ) (a : Result ℕ Refusal) (b₂ y₂ : List ℕ) → good_book p b ≡ true → Octets b → NodeCall q f b y a b₂ y₂
    → After p b b₂
any_call_keeps p q f b y (Err r) b₂ y₂ g o c = same_after p b b₂ g (theorems.refused_is q f b y r b₂ y₂ c).1
any_call_keeps p q f b y (Ok n) b₂ y₂ g o c =
    let h : good_book q b ≡ true = (theorems.clear q f b y (theorems.replied_is q f b y n b₂ y₂ c).0).good in
    let s = theorems.same_plan q p b h g in
    let k = call_keeps q f b y h o (Ok n) b₂ y₂ c in
    record {
      good = sym (theorems.same_good q p b₂ s.0 s.1) ∙ k.good;
      keeps =
          λ z m. subst (Among z) (theorems.same_records q p b₂ s.0 s.1)
          (k.keeps z (subst (Among z) (sym (theorems.same_records q p b s.0 s.1)) m));
    }

-- Over any list of calls, whatever they are: a good book is left good, and every record that it held is held at the end.
pub history_keeps : (p : Plan) (b : List ℕ) (cs : List Call) → good_book p b ≡ true → History b cs → After p b (last_book b cs)
history_keeps p b [] g h = record { good = g; keeps = λ z m. m }
history_keeps p b (c ∷ cs) g h =
    let a = any_call_keeps p c.plan c.request b c.reply c.answer c.book_left c.reply_left g h.0 h.1 in
    let r = history_keeps p c.book_left cs a.good h.2 in
    record { good = r.good; keeps = λ z m. r.keeps z (a.keeps z m) }

-- A record that a node acknowledged is in every later book, whatever calls come between.
pub stored_for_good : (p : Plan) (f b y : List ℕ) (n : ℕ) (b₂ y₂ : List ℕ) (cs : List Call) → good_book p b ≡ true → Octets b
    → NodeCall p f b y (Ok n) b₂ y₂ → writes (header_in f) ≡ true
    → History b₂ cs → Among (body_of f) (records_of p (last_book b₂ cs))
stored_for_good p f b y n b₂ y₂ cs g o c w h =
    let a = call_keeps p f b y g o (Ok n) b₂ y₂ c in
    (history_keeps p b₂ cs a.good h).keeps (body_of f) (call_stores p f b y g o n b₂ y₂ c w)
