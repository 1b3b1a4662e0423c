-- Every record of a book that calls of a node made of a fresh one has a time of 1 or more and passes its two hash checks: each was checked,
-- refusals 5 and 6, in the call that stored it.
--   laid_fresh         a fresh book is no records, laid out
--   call_passes        what holds of every record of a good book holds of it after any call, under whatever plan
--   history_passes, fresh_passes   so after any list of calls, and from a fresh book on
-- Assumes nothing.
use Rattle.terms.specs.declared.Refusal.{Refusal}
use Rattle.std.specs.Prelude.{Result, Ok, Err}
use Prim.{tt}
use Prim.Native.Nat.{ℕ, ◌≤◌}
use mathlib.Core.Path.{◌≡◌, refl, sym, ap, ◌∙◌, subst}
use mathlib.Core.Bool.{Bool, true, false}
use mathlib.Core.List.{List, [], ◌∷◌}
use mathlib.Core.Logic.{◌⊎◌, inl, inr}
use native.Mathlib.Omega.{arith}
use borrow.Author.Tests.{leb-true, ltb-true, not-false}
use lib.Dec.{leb}
use lib.ListN.{length}
use Rattle.octets.specs.Bytes.{over, Octets}
use Rattle.terms.specs.Stamp.{time}
use Rattle.terms.specs.declared.Plan.{Plan}
use Rattle.terms.proofs.Down as down
use Rattle.terms.proofs.Ladders as ladders
use Rattle.terms.proofs.Rungs.{both}
use Rattle.frame.specs.Frame.{body_of, header_in}
use Rattle.frame.proofs.Frames.{request_is}
use Rattle.record.specs.Record.{hashes_ok, fragment_hash, prefix_of}
use Rattle.book.specs.Records.{timed, rising, kept}
use Rattle.book.specs.Book.{book_head, good_book, node_of, records_of, laid_out}
use Rattle.node.specs.Fresh.{FreshCall, FreshOutcome, fresh_outcome, made, freshened, fresh_ladder}
use Rattle.node.specs.Fresh as fresh
use Rattle.node.specs.Node.{NodeCall, ServedOutcome, served, writes, hash_fails}
use Rattle.node.proofs.Laws as nodes
use Rattle.store.specs.Deliver.{Among}
use Rattle.store.specs.History.{Call, History, last_book, AllPass, OfCalls}
use Rattle.store.proofs.Order as order
use Rattle.store.proofs.One as one
use Rattle.store.proofs.Node as calls
use Rattle.store.proofs.Kept as keeps

-- ---- a fresh book
module _ (p : Plan) (node : ℕ) (b b₂ : List ℕ) (c : FreshCall p node b (Ok tt) b₂) where
  abbrev refuse : ℕ → FreshOutcome
  refuse k = fresh_outcome (fresh.refused k) b

  abbrev done : FreshOutcome
  done = fresh_outcome made (over (laid_out p node []) b)

  pub laid_fresh : one.Laid p node b b₂ []
  unfolding freshened timed rising
  laid_fresh =
      ladders.by_ladder (λ (o : FreshOutcome). fresh_outcome made b₂ ≡ o → one.Laid p node b b₂ []) (fresh_ladder p node b) refuse done
      (λ k g h. absurd (let s : made ≡ fresh.refused k = ap (λ (o : FreshOutcome). o.answer) h in let z : ◌≡◌ {A = ℕ} 0 1 = cc in omega arith))
      (λ n h.
      let l = both (leb (book_head 1) (length b)) (leb (length b) 65536) (not-false _ (down.clear (fresh_ladder p node b) n 2)) in
      let low : book_head 1 ≤ length b = leb-true _ _ l.0 in
      record {
        plan = not-false _ (down.clear (fresh_ladder p node b) n 1);
        low = ltb-true _ _ (not-false _ (down.clear (fresh_ladder p node b) n 4));
        high = leb-true _ _ l.1;
        bytes = ap (λ (o : FreshOutcome). o.book) h;
        sizes = tt;
        times = refl;
        rise = refl;
        fits = omega arith;
      })
      c.is

-- ---- a call
hash_bare : (p : Plan) (node : ℕ) (rec : List ℕ) → hashes_ok p node rec ≡ hashes_ok (calls.bare p.n p.f) node rec
unfolding hashes_ok fragment_hash prefix_of
hash_bare p node rec = refl

hash_same : (p q : Plan) (node : ℕ) (rec : List ℕ) → p.n ≡ q.n → p.f ≡ q.f → hashes_ok p node rec ≡ hashes_ok q node rec
hash_same p q node rec en ef = hash_bare p node rec ∙ (λ i. hashes_ok (calls.bare (en i) (ef i)) node rec) ∙ sym (hash_bare q node rec)

-- what a call leaves of such a book: the node and what holds of every record
abbrev Stays : Plan → List ℕ → List ℕ → Type 0
Stays p b b₂ = (node_of b₂ ≡ node_of b) × AllPass p b₂

same_pass : (p : Plan) (b b₂ : List ℕ) → b₂ ≡ b → AllPass p b → Stays p b b₂
same_pass p b b₂ e h = (ap (λ (u : List ℕ). node_of u) e, subst (AllPass p) (sym e) h)

same_plan_pass : (p q : Plan) (b : List ℕ) → p.n ≡ q.n → p.f ≡ q.f → AllPass p b → AllPass q b
same_plan_pass p q b en ef all z m =
    let r = all z (subst (Among z) (sym (calls.same_records p q b en ef)) m) in
    (r.0, sym (hash_same p q (node_of b) z en ef) ∙ r.1)

module _ (p : Plan) (f b y : List ℕ) (g : good_book p b ≡ true) (o : Octets b) (all : AllPass p b) where
  -- a write request that was executed
  stores_passing : (n : ℕ) (b₂ y₂ : List ℕ) → NodeCall p f b y (Ok n) b₂ y₂ → writes (header_in f) ≡ true → Stays p b b₂
  unfolding hash_fails
  stores_passing n b₂ y₂ c w = (at, λ z m. go z (order.kept_only (body_of f) z (records_of p b) (subst (Among z) rs m)))
    where
      q : calls.Clear p f b y
      q = calls.clear p f b y (calls.replied_is p f b y n b₂ y₂ c).0

      x : one.Laid p (node_of b) b (served p f b y).book (kept (body_of f) (records_of p b))
      x = keeps.executed p f b y (keeps.start_of p f b y g o q) q w

      e : b₂ ≡ (served p f b y).book
      e = ap (λ (u : ServedOutcome). u.book) c.is

      at : node_of b₂ ≡ node_of b
      at = ap (λ (u : List ℕ). node_of u) e ∙ one.is_node x

      rs : records_of p b₂ ≡ kept (body_of f) (records_of p b)
      rs = ap (λ (u : List ℕ). records_of p u) e ∙ one.is_records x

      hash : hashes_ok p (node_of b) (body_of f) ≡ true
      hash = ap (λ (S : ℕ). hashes_ok p S (body_of f)) (sym (request_is p (node_of b) f q.request).node_is) ∙ not-false _ (rw w at q.hash)

      go : (z : List ℕ) → (body_of f ≡ z) ⊎ Among z (records_of p b) → (1 ≤ time z) × (hashes_ok p (node_of b₂) z ≡ true)
      go z (inl k) = (subst (λ (u : List ℕ). 1 ≤ time u) k (one.write_time f w q.time), ap (λ (S : ℕ). hashes_ok p S z) at ∙ ap (hashes_ok p (node_of b)) (sym k) ∙ hash)
      go z (inr k) = let r = all z k in (r.0, ap (λ (S : ℕ). hashes_ok p S z) at ∙ r.1)

  own_passes : (a : Result ℕ Refusal) (b₂ y₂ : List ℕ) → NodeCall p f b y a b₂ y₂ → Stays p b b₂
  own_passes (Err r) b₂ y₂ c = same_pass p b b₂ (calls.refused_is p f b y r b₂ y₂ c).1 all
  own_passes (Ok n) b₂ y₂ c = go (writes (header_in f)) refl
    where
      go : (t : Bool) → writes (header_in f) ≡ t → Stays p b b₂
      go true w = stores_passing n b₂ y₂ c w
      go false w =
          same_pass p b b₂
          (ap (λ (u : ServedOutcome). u.book) (calls.replied_is p f b y n b₂ y₂ c).1 ∙ one.answered_book p f b y ∙ nodes.after_other p (header_in f) (body_of f) b w) all

-- under whatever plan
pub call_passes : (p q : Plan) (f b y : List ℕ) (a : Result ℕ Refusal) (b₂ y₂ : List ℕ) → good_book p b ≡ true → Octets b → AllPass p b → NodeCall q f b y a b₂ y₂
    → (node_of b₂ ≡ node_of b) × AllPass p b₂
call_passes p q f b y (Err r) b₂ y₂ g o all c = same_pass p b b₂ (calls.refused_is q f b y r b₂ y₂ c).1 all
call_passes p q f b y (Ok n) b₂ y₂ g o all c =
    let h : good_book q b ≡ true = (calls.clear q f b y (calls.replied_is q f b y n b₂ y₂ c).0).good in
    let s = calls.same_plan q p b h g in
    let k = own_passes q f b y h o (same_plan_pass p q b (sym s.0) (sym s.1) all) (Ok n) b₂ y₂ c in
    (k.0, same_plan_pass q p b₂ s.0 s.1 k.1)

-- ---- over time
pub history_passes : (p : Plan) (b : List ℕ) (cs : List Call) → good_book p b ≡ true → AllPass p b → History b cs
    → (node_of (last_book b cs) ≡ node_of b) × AllPass p (last_book b cs)
history_passes p b [] g all h = (refl, all)
history_passes p b (c ∷ cs) g all h =
    let a = keeps.any_call_keeps p c.plan c.request b c.reply c.answer c.book_left c.reply_left g h.0 h.1 in
    let k = call_passes p c.plan c.request b c.reply c.answer c.book_left c.reply_left g h.0 all h.1 in
    let r = history_passes p c.book_left cs a.good k.1 h.2 in
    (r.0 ∙ k.0, r.1)

-- A BOOK THAT CALLS MADE OF A FRESH ONE is good, of its node, and all its records pass
pub fresh_passes : (p : Plan) (node : ℕ) (b : List ℕ) → OfCalls p node b → (good_book p b ≡ true) × (node_of b ≡ node) × AllPass p b
fresh_passes p node b k =
    let i = laid_fresh p node k.lent k.fresh k.makes in
    let none : AllPass p k.fresh = λ z m. absurd (order.among_none z (subst (Among z) (one.is_records i) m)) in
    let r = history_passes p k.fresh k.calls (one.is_good i) none k.history in
    let a = keeps.history_keeps p k.fresh k.calls (one.is_good i) k.history in (
      ap (good_book p) k.is ∙ a.good,
      ap (λ (u : List ℕ). node_of u) k.is ∙ r.0 ∙ one.is_node i,
      subst (AllPass p) (sym k.is) r.1,
    )
