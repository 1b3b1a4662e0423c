-- THE LIFE OF A NODE, call by call: what was executed is held by the book of every later call (later_holds), and what a book that was fresh once holds
-- was executed (held_executed).
--   history_of history_on each_one each_before each_after executed_more   the calls before a moment, those from it on; what holds of each call holds of one
--   Within              a call of a life: the book that it was on, good and of bytes
-- Assumes nothing.
use Rattle.terms.specs.declared.Refusal.{Refusal}
use Rattle.std.specs.Prelude.{Result, Ok, Err}
use Prim.Native.Nat.{ℕ}
use Prim.{tt}
use mathlib.Core.Path.{◌≡◌, refl, sym, ap, ◌∙◌, subst}
use mathlib.Core.Bool.{Bool, true, false}
use mathlib.Core.List.{List, [], ◌∷◌, ◌++◌, append_assoc}
use mathlib.Core.Logic.{◌⊎◌, inl, inr}
use Rattle.octets.specs.Bytes.{Octets}
use Rattle.terms.specs.declared.Plan.{Plan}
use Rattle.frame.specs.Frame.{header_in, body_of}
use Rattle.book.specs.Records.{kept}
use Rattle.book.specs.Book.{good_book, records_of}
use Rattle.node.specs.Fresh.{FreshCall}
use Rattle.node.specs.Node.{writes, ServedOutcome, NodeCall}
use Rattle.node.proofs.Laws as nodes
use Rattle.store.specs.Deliver.{Among}
use Rattle.store.specs.History.{Call, History, last_book, EachCall, Moment, Executed}
use Rattle.store.proofs.Order as order
use Rattle.store.proofs.One as one
use Rattle.store.proofs.Node as calls
use Rattle.store.proofs.Kept as keeps
use Rattle.store.proofs.Passed.{laid_fresh}

-- ---- lists of calls
pub history_of : (b : List ℕ) (xs ys : List Call) → History b (xs ++ ys) → History b xs
history_of b [] ys h = tt
history_of b (x ∷ xs) ys h = (h.0, h.1, history_of x.book_left xs ys h.2)

pub history_on : (b : List ℕ) (xs ys : List Call) → History b (xs ++ ys) → History (last_book b xs) ys
history_on b [] ys h = h
history_on b (x ∷ xs) ys h = history_on x.book_left xs ys h.2

pub each_one : (P : Call → Type 0) (cs : List Call) → EachCall P cs → (x : Moment cs) → P x.call
each_one P cs h x = go x.before (subst (EachCall P) x.is h)
  where
    go : (before : List Call) → EachCall P (before ++ (x.call ∷ x.after)) → P x.call
    go [] k = k.0
    go (y ∷ before) k = go before k.1

pub each_before : (P : Call → Type 0) (xs ys : List Call) → EachCall P (xs ++ ys) → EachCall P xs
each_before P [] ys h = tt
each_before P (x ∷ xs) ys h = (h.0, each_before P xs ys h.1)

pub each_after : (P : Call → Type 0) (xs ys : List Call) → EachCall P (xs ++ ys) → EachCall P ys
each_after P [] ys h = h
each_after P (x ∷ xs) ys h = each_after P xs ys h.1

-- what was executed by a part of some calls was executed by them
pub executed_more : (z : List ℕ) (cs xs ys : List Call) → cs ≡ xs ++ ys → Executed z xs → Executed z cs
executed_more z cs xs ys e x =
    let t = x.at in
    record {
      at = record { before = t.before; call = t.call; after = t.after ++ ys; is = e ∙ ap (λ (l : List Call). l ++ ys) t.is ∙ append_assoc t.before (t.call ∷ t.after) ys };
      kind = x.kind;
      body = x.body;
      size = x.size;
      replied = x.replied;
    }

-- ---- one call: a record that is held after it was held before it, or was written by it
pub record Stores (f z : List ℕ) (a : Result ℕ Refusal) : Type 0 where
  pub kind : writes (header_in f) ≡ true
  pub body : body_of f ≡ z
  pub size : ℕ
  pub replied : a ≡ Ok size

module _ (p : Plan) (f b y z : List ℕ) (g : good_book p b ≡ true) (o : Octets b) where
  own_adds : (a : Result ℕ Refusal) (b₂ y₂ : List ℕ) → NodeCall p f b y a b₂ y₂ → Among z (records_of p b₂) → Among z (records_of p b) ⊎ Stores f z a
  own_adds (Err r) b₂ y₂ c m = inl (subst (λ (x : List ℕ). Among z (records_of p x)) (calls.refused_is p f b y r b₂ y₂ c).1 m)
  own_adds (Ok n) b₂ y₂ c m = go (writes (header_in f)) refl
    where
      q : calls.Clear p f b y
      q = calls.clear p f b y (calls.replied_is p f b y n b₂ y₂ c).0

      here : (body_of f ≡ z) ⊎ Among z (records_of p b) → writes (header_in f) ≡ true → Among z (records_of p b) ⊎ Stores f z (Ok n)
      here (inl e) w = inr (record { kind = w; body = e; size = n; replied = refl })
      here (inr k) w = inl k

      go : (t : Bool) → writes (header_in f) ≡ t → Among z (records_of p b) ⊎ Stores f z (Ok n)
      go true w =
          let x = keeps.executed p f b y (keeps.start_of p f b y g o q) q w in
          let rs : records_of p b₂ ≡ kept (body_of f) (records_of p b) =
          ap (λ (u : List ℕ). records_of p u) (ap (λ (u : ServedOutcome). u.book) c.is) ∙ one.is_records x in
          here (order.kept_only (body_of f) z (records_of p b) (subst (Among z) rs m)) w
      go false w =
          let e : b₂ ≡ b = ap (λ (u : ServedOutcome). u.book) (calls.replied_is p f b y n b₂ y₂ c).1 ∙ one.answered_book p f b y ∙ nodes.after_other p (header_in f) (body_of f) b w in
          inl (subst (λ (x : List ℕ). Among z (records_of p x)) e m)

-- under whatever plan
call_adds : (p q : Plan) (f b y z : List ℕ) (a : Result ℕ Refusal) (b₂ y₂ : List ℕ) → good_book p b ≡ true → Octets b → NodeCall q f b y a b₂ y₂
    → Among z (records_of p b₂) → Among z (records_of p b) ⊎ Stores f z a
call_adds p q f b y z (Err r) b₂ y₂ g o c m = inl (subst (λ (x : List ℕ). Among z (records_of p x)) (calls.refused_is q f b y r b₂ y₂ c).1 m)
call_adds p q f b y z (Ok n) b₂ y₂ g o c m =
    let h : good_book q b ≡ true = (calls.clear q f b y (calls.replied_is q f b y n b₂ y₂ c).0).good in
    let s = calls.same_plan q p b h g in
    go (own_adds q f b y z h o (Ok n) b₂ y₂ c (subst (Among z) (sym (calls.same_records q p b₂ s.0 s.1)) m)) (calls.same_records q p b s.0 s.1)
  where
    go : Among z (records_of q b) ⊎ Stores f z (Ok n) → records_of q b ≡ records_of p b → Among z (records_of p b) ⊎ Stores f z (Ok n)
    go (inl k) e = inl (subst (Among z) e k)
    go (inr k) e = inr k

-- ---- over time
history_adds : (p : Plan) (z b : List ℕ) (cs : List Call) → good_book p b ≡ true → History b cs → Among z (records_of p (last_book b cs)) → Among z (records_of p b) ⊎ Executed z cs
history_adds p z b [] g h m = inl m
history_adds p z b (c ∷ cs) g h m =
    let a = keeps.any_call_keeps p c.plan c.request b c.reply c.answer c.book_left c.reply_left g h.0 h.1 in
    go (history_adds p z c.book_left cs a.good h.2 m)
  where
    first : Among z (records_of p b) ⊎ Stores c.request z c.answer → Among z (records_of p b) ⊎ Executed z (c ∷ cs)
    first (inl k) = inl k
    first (inr k) =
        inr (record { at = record { before = []; call = c; after = cs; is = refl }; kind = k.kind; body = k.body; size = k.size; replied = k.replied })

    go : Among z (records_of p c.book_left) ⊎ Executed z cs → Among z (records_of p b) ⊎ Executed z (c ∷ cs)
    go (inl k) = first (call_adds p c.plan c.request b c.reply z c.answer c.book_left c.reply_left g h.0 h.1 k)
    go (inr k) =
        let t = k.at in
        inr (record {
          at = record { before = c ∷ t.before; call = t.call; after = t.after; is = (λ i. c ∷ t.is i) };
          kind = k.kind;
          body = k.body;
          size = k.size;
          replied = k.replied;
        })

-- WHAT A BOOK THAT WAS FRESH ONCE HOLDS WAS EXECUTED, by one of the calls that it went through
pub held_executed : (p : Plan) (node : ℕ) (lent b z : List ℕ) (cs : List Call) → FreshCall p node lent (Ok tt) b → History b cs → Among z (records_of p (last_book b cs)) → Executed z cs
held_executed p node lent b z cs f h m = go (history_adds p z b cs (one.is_good i) h m)
  where
    i : one.Laid p node lent b []
    i = laid_fresh p node lent b f

    go : Among z (records_of p b) ⊎ Executed z cs → Executed z cs
    go (inl k) = absurd (order.among_none z (subst (Among z) (one.is_records i) k))
    go (inr k) = k

-- ---- the book that a call of a life was on
pub record Within (p : Plan) (b : List ℕ) (cs : List Call) (x : Moment cs) : Type 0 where
  pub good : good_book p (last_book b x.before) ≡ true
  pub bytes : Octets (last_book b x.before)
  pub call : NodeCall x.call.plan x.call.request (last_book b x.before) x.call.reply x.call.answer x.call.book_left x.call.reply_left

pub within : (p : Plan) (b : List ℕ) (cs : List Call) → good_book p b ≡ true → History b cs → (x : Moment cs) → Within p b cs x
within p b cs g h x =
    let k = subst (History b) x.is h in
    let r = history_on b x.before (x.call ∷ x.after) k in
    record { good = (keeps.history_keeps p b x.before g (history_of b x.before (x.call ∷ x.after) k)).good; bytes = r.0; call = r.1 }

-- a record that was executed, under whatever plan, stays in a book that is good under this one
stored_under : (p q : Plan) (f b y : List ℕ) (n : ℕ) (b₂ y₂ : List ℕ) (cs : List Call) → good_book p b ≡ true → Octets b → NodeCall q f b y (Ok n) b₂ y₂
    → writes (header_in f) ≡ true → History b₂ cs → Among (body_of f) (records_of p (last_book b₂ cs))
stored_under p q f b y n b₂ y₂ cs g o c w h =
    let k : good_book q b ≡ true = (calls.clear q f b y (calls.replied_is q f b y n b₂ y₂ c).0).good in
    let s = calls.same_plan q p b k g in
    subst (Among (body_of f)) (calls.same_records q p (last_book b₂ cs) s.0 s.1) (keeps.stored_for_good q f b y n b₂ y₂ cs k o c w h)

pub last_on : (b : List ℕ) (xs ys : List Call) → last_book b (xs ++ ys) ≡ last_book (last_book b xs) ys
last_on b [] ys = refl
last_on b (x ∷ xs) ys = last_on x.book_left xs ys

-- AFTER THE EXECUTION OF A RECORD EVERY CALL IS ON A BOOK THAT HOLDS IT
module _ (p : Plan) (z b : List ℕ) (early late : List Call) (g : good_book p b ≡ true) (h : History b (early ++ late)) (x : Executed z early) where
  held_early : Among z (records_of p (last_book b early))
  held_early =
      let t = x.at in
      let k = subst (History b) t.is (history_of b early late h) in
      let r = within p b early g (history_of b early late h) t in
      let c : NodeCall t.call.plan t.call.request (last_book b t.before) t.call.reply (Ok x.size) t.call.book_left t.call.reply_left =
      subst (λ (a : Result ℕ Refusal). NodeCall t.call.plan t.call.request (last_book b t.before) t.call.reply a t.call.book_left t.call.reply_left) x.replied r.call in
      let m = stored_under p t.call.plan t.call.request (last_book b t.before) t.call.reply x.size t.call.book_left t.call.reply_left t.after
      r.good r.bytes c x.kind (history_on b t.before (t.call ∷ t.after) k).2 in
      let e : last_book b early ≡ last_book t.call.book_left t.after = ap (last_book b) t.is ∙ last_on b t.before (t.call ∷ t.after) in
      subst (λ (u : List ℕ). Among z (records_of p u)) (sym e) (subst (λ (w : List ℕ). Among w (records_of p (last_book t.call.book_left t.after))) x.body m)

  pub later_holds : (y : Moment late) → Among z (records_of p (last_book (last_book b early) y.before))
  later_holds y =
      let k = subst (History (last_book b early)) y.is (history_on b early late h) in
      let a = keeps.history_keeps p b early g (history_of b early late h) in
      (keeps.history_keeps p (last_book b early) y.before a.good (history_of (last_book b early) y.before (y.call ∷ y.after) k)).keeps z held_early
