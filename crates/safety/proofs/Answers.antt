-- WHAT AN HONEST NODE SENDS.
--   split_moment       a call of a life is one of its early part or one of its late part
--   wrote_ask          a reply that a call wrote has the ask number of its request
--   late_answers       a node that executed a record early answers each late read, without a bound or below one above it, with that record or a greater one
-- Assumes nothing.
use Rattle.terms.specs.declared.Refusal.{Refusal}
use Rattle.std.specs.Prelude.{Result, Ok}
use Prim.Native.Nat.{ℕ, ◌+◌, ◌≤◌}
use mathlib.Core.Path.{◌≡◌, refl, sym, ap, ◌∙◌, subst}
use mathlib.Core.Bool.{true}
use mathlib.Core.List.{List, [], ◌∷◌, ◌++◌}
use mathlib.Core.Logic.{◌⊎◌, inl, inr}
use native.Mathlib.Omega.{arith}
use borrow.Author.Tests.{eq-eqb}
use lib.ListN.{length, take}
use Rattle.terms.specs.Stamp.{stamp}
use Rattle.terms.specs.Terms.{record_length}
use Rattle.terms.specs.declared.Plan.{Plan}
use Rattle.frame.specs.Frame.{kind_of, version_of, ask_of, header_in, frame_of, framed, replying, read_reply_kind}
use Rattle.frame.proofs.Built as built
use Rattle.book.specs.Book.{good_book, node_of}
use Rattle.node.specs.Node.{NodeCall}
use Rattle.session.specs.Reply.{bears}
use Rattle.store.specs.History.{Call, History, last_book, Moment, Executed, Wrote}
use Rattle.store.proofs.Kept.{history_keeps}
use Rattle.store.proofs.One as one
use Rattle.store.proofs.Passed.{laid_fresh, fresh_passes}
use Rattle.store.proofs.Replies.{replied_ask}
use Rattle.store.proofs.Latest.{Seeks, Bears, reads_high}
use Rattle.store.proofs.Lives.{history_of, history_on, each_one, each_after, within, later_holds}
use Rattle.client.specs.Older.{AtLeast}
use Rattle.safety.specs.Run.{Served, Life}
use Rattle.safety.proofs.Rounds.{cons_both}

-- ---- a moment of a life of two parts
pub record Side (xs : List Call) (c : Call) : Type 0 where
  pub at : Moment xs
  pub is : at.call ≡ c

pub split_moment : (early late : List Call) (x : Moment (early ++ late)) → Side early x.call ⊎ Side late x.call
split_moment early late x = go early x.before x.is
  where
    go : (xs before : List Call) → xs ++ late ≡ before ++ (x.call ∷ x.after) → Side xs x.call ⊎ Side late x.call
    go [] before e = inr (record { at = record { before = before; call = x.call; after = x.after; is = e }; is = refl })
    go (y ∷ xs) [] e =
        let q = cons_both y x.call (xs ++ late) x.after e in
        inl (record { at = record { before = []; call = y; after = xs; is = refl }; is = q.0 })
    go (y ∷ xs) (z ∷ before) e = more (go xs before (cons_both y z (xs ++ late) (before ++ (x.call ∷ x.after)) e).1)
      where
        more : Side xs x.call ⊎ Side late x.call → Side (y ∷ xs) x.call ⊎ Side late x.call
        more (inl k) =
            let t = k.at in
            inl (record { at = record { before = y ∷ t.before; call = t.call; after = t.after; is = (λ i. y ∷ t.is i) }; is = k.is })
        more (inr k) = inr k

-- ---- a call of a life: under the plan of the run
module _ (p : Plan) (i : ℕ) (life : List Call) (l : Life p i life) where
  pub fresh_good : good_book p l.book ≡ true
  fresh_good = one.is_good (laid_fresh p i l.lent l.book l.fresh)

  abbrev pub book_at : Moment life → List ℕ
  book_at x = last_book l.book x.before

  -- the book is this node's
  pub book_node : (x : Moment life) → node_of (book_at x) ≡ i
  book_node x =
      (fresh_passes p i (book_at x) (record {
        lent = l.lent;
        fresh = l.book;
        makes = l.fresh;
        calls = x.before;
        history = history_of l.book x.before (x.call ∷ x.after) (subst (History l.book) x.is l.calls);
        is = refl;
      })).1

  pub replied_call : (x : Moment life) (n : ℕ) → x.call.answer ≡ Ok n
      → NodeCall p x.call.request (book_at x) x.call.reply (Ok n) x.call.book_left x.call.reply_left
  replied_call x n e =
      let c = x.call in
      subst (λ (q : Plan). NodeCall q c.request (book_at x) c.reply (Ok n) c.book_left c.reply_left) (each_one (Served p) life l.served x).plan
      (subst (λ (a : Result ℕ Refusal). NodeCall c.plan c.request (book_at x) c.reply a c.book_left c.reply_left) e
      (within p l.book life fresh_good l.calls x).call)

  pub wrote_ask : (f : List ℕ) (w : Wrote f life) → ask_of f ≡ ask_of w.at.call.request
  wrote_ask f w =
      let c = w.at.call in
      ap ask_of w.is
      ∙ replied_ask p c.request (book_at w.at) c.reply w.size c.book_left c.reply_left (replied_call w.at w.size w.replied)
      (each_one (Served p) life l.served w.at).bytes

-- a read reply that bears a record of R bytes
bears_it : (p : Plan) (ts : ℕ) (f b out : List ℕ) → Bears p ts f b out → AtLeast p ts out
unfolding bears
bears_it p ts f b out w =
    let h = replying (header_in f) read_reply_kind in
    subst (AtLeast p ts) (sym w.is)
    (record {
      borne = rw (
        eq-eqb (kind_of (frame_of h w.rec)) read_reply_kind (built.kind_frame h w.rec (omega arith)),
        eq-eqb (length (frame_of h w.rec)) (framed (version_of (frame_of h w.rec)) (record_length p)) (built.length_frame h w.rec ∙ ap (λ (k : ℕ). 15 + k) w.long),
      );
      high = subst (λ (y : List ℕ). ts ≤ stamp y) (sym (built.body_frame h w.rec)) w.high;
    })

-- A NODE THAT EXECUTED A RECORD EARLY ANSWERS EACH LATE READ WITH IT OR A GREATER ONE
module _ (p : Plan) (i : ℕ) (early late : List Call) (l : Life p i (early ++ late)) (z : List ℕ) (x : Executed z early) where
  good_late : good_book p (last_book l.book early) ≡ true
  good_late =
      (history_keeps p l.book early (fresh_good p i (early ++ late) l) (history_of l.book early late l.calls)).good

  pub late_answers : (y : Moment late) (n : ℕ) → y.call.answer ≡ Ok n → Seeks (stamp z) y.call.request → AtLeast p (stamp z) (take n y.call.reply_left)
  late_answers y n e s =
      let c = y.call in
      let b = last_book (last_book l.book early) y.before in
      let w = within p (last_book l.book early) late good_late (history_on l.book early late l.calls) y in
      let call : NodeCall p c.request b c.reply (Ok n) c.book_left c.reply_left =
      subst (λ (q : Plan). NodeCall q c.request b c.reply (Ok n) c.book_left c.reply_left) (each_one (Served p) late (each_after (Served p) early late l.served) y).plan
      (subst (λ (a : Result ℕ Refusal). NodeCall c.plan c.request b c.reply a c.book_left c.reply_left) e w.call) in
      bears_it p (stamp z) c.request b (take n c.reply_left)
      (reads_high p c.request b c.reply w.good n c.book_left c.reply_left call z (later_holds p z l.book early late (fresh_good p i (early ++ late) l) l.calls x y) s)
