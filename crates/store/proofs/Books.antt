-- The third demand, for books. Assumes nothing.
use mathlib.Core.Path.{◌≡◌, sym, ap, ◌∙◌, subst}
use mathlib.Core.Bool.{true}
use mathlib.Core.List.{List}
use mathlib.Core.Logic.{◌⊎◌, inl, inr}
use Prim.Native.Nat.{ℕ, ◌+◌, ◌*◌, ◌≤◌, ◌<◌}
use lib.ListN.{length, drop}
use lib.Seq.{drop_at}
use Rattle.octets.specs.Bytes.{over}
use Rattle.terms.specs.Terms.{plan_ok, record_length}
use Rattle.terms.specs.declared.Plan.{Plan}
use Rattle.book.specs.Records.{rising}
use Rattle.book.specs.Book.{records_of, blank, laid_out, used_of, book_head}
use Rattle.book.proofs.Laid as laid
use Rattle.store.specs.Deliver.{Among, passes, accepted_at, kept_all, gathered, final_book, Delivery, delivered, Ready, Delivers, Contents, Setting}
use Rattle.store.proofs.Order as order
use Rattle.store.proofs.Order.{Agree, Of}
use Rattle.store.proofs.One as one
use Rattle.store.proofs.Run as runs
use Rattle.store.proofs.Run.{Brought, requests_of, through, RoomyEach}

-- what a node is brought is nothing but the set, and each request of the set that passes there at least once, with room for the reply
pub record Brings (p : Plan) (fs : List (List ℕ)) (ds : List Brought) (i : ℕ) : Type 0 where
  pub only : (z : List ℕ) → Among z (requests_of ds) → Among z fs
  pub each : (z : List ℕ) → Among z fs → passes p i z ≡ true → Among z (requests_of ds)
  pub room : RoomyEach p ds

brings : (p : Plan) (fs : List (List ℕ)) (ds : List Delivery) (i : ℕ) → Delivers p fs ds i → Brings p fs (runs.brought i ds) i
brings p fs ds i h =
    let e = runs.brought_sent i ds in
    record {
      only = λ z m. h.only z (subst (Among z) e m);
      each = λ z m k. subst (Among z) (sym e) (h.each z m k);
      room = runs.brought_roomy p i ds h.room;
    }

module _ (p : Plan) (books : ℕ → List ℕ) (fs : List (List ℕ)) (i : ℕ) (pk : plan_ok p ≡ true) (r : Ready p books fs i) where
  start : one.Laid p i (books i) (books i) (records_of p (books i))
  start =
      subst (λ (n : ℕ). one.Laid p n (books i) (books i) (records_of p (books i))) r.node (one.itself p (books i) pk r.good r.bytes r.high)

  -- one timestamp is one record, among the held and the accepted
  agree : Agree (Of (records_of p (books i)) (accepted_at p i fs))
  agree z w (inl h) (inl k) e = order.rising_one (records_of p (books i)) start.rise z w h k e
  agree z w (inl h) (inr k) e = sym (r.held w z k h (sym e))
  agree z w (inr h) (inl k) e = r.held z w h k e
  agree z w (inr h) (inr k) e = r.requests z w h k e

  gathered_is : gathered p (books i) fs ≡ kept_all (accepted_at p i fs) (records_of p (books i))
  unfolding gathered
  gathered_is = ap (λ (n : ℕ). kept_all (accepted_at p n fs) (records_of p (books i))) r.node

  final_is : final_book p (books i) fs ≡ over (laid_out p i (kept_all (accepted_at p i fs) (records_of p (books i)))) (books i)
  unfolding final_book
  final_is = λ u. over (laid_out p (r.node u) (gathered_is u)) (books i)

  room : book_head 1 + length (kept_all (accepted_at p i fs) (records_of p (books i))) * record_length p ≤ length (books i)
  room = subst (λ (l : List (List ℕ)). book_head 1 + length l * record_length p ≤ length (books i)) gathered_is r.room

  -- what the requests that a node is brought leave: the gathered records laid out over the old book
  ends : (ds : List Brought) → Brings p fs ds i → one.Laid p i (books i) (through p ds (books i)) (kept_all (accepted_at p i fs) (records_of p (books i)))
  ends ds h =
      let gs : List (List ℕ) = requests_of ds in
      let s : order.Same (accepted_at p i fs) (accepted_at p i gs) =
      (λ z. (runs.accepted_in p i fs gs h.each z, runs.accepted_in p i gs fs (λ f m _. h.only f m) z)) in
      let e = order.same_kept (accepted_at p i fs) (accepted_at p i gs) (records_of p (books i)) start.rise agree s in
      let a : Agree (Of (records_of p (books i)) (accepted_at p i gs)) = (λ z w hz hw q. agree z w (turn s z hz) (turn s w hw) q) in
      let rm = subst (λ (l : List (List ℕ)). book_head 1 + length l * record_length p ≤ length (books i)) e room in
      subst (λ (l : List (List ℕ)). one.Laid p i (books i) (through p ds (books i)) l) (sym e)
      (runs.run p i (books i) ds (books i) (records_of p (books i)) start h.room a rm)
    where
      turn : order.Same (accepted_at p i fs) (accepted_at p i (requests_of ds)) → (z : List ℕ) → Of (records_of p (books i)) (accepted_at p i (requests_of ds)) z
          → Of (records_of p (books i)) (accepted_at p i fs) z
      turn s z (inl h) = inl h
      turn s z (inr h) = inr ((s z).1 h)

  pub left : (ds : List Brought) → Brings p fs ds i → through p ds (books i) ≡ final_book p (books i) fs
  left ds h = (ends ds h).bytes ∙ sym final_is

  pub holding : (ds : List Brought) → Brings p fs ds i → Contents p (books i) fs
  holding ds h =
      let K : List (List ℕ) = kept_all (accepted_at p i fs) (records_of p (books i)) in
      let F : List ℕ = final_book p (books i) fs in
      let q : one.Laid p i (books i) F K = subst (λ (x : List ℕ). one.Laid p i (books i) x K) (left ds h) (ends ds h) in
      let k : order.KeptAll (records_of p (books i)) (accepted_at p i fs) = order.kept_all_lem (accepted_at p i fs) (records_of p (books i))
      start.rise agree in
      let e : records_of p F ≡ K = one.is_records q in
      let ln : length (laid_out p i K) ≡ used_of p F = laid.length_laid 1 blank p i K q.sizes
      ∙ ap (λ (c : ℕ). book_head 1 + c * record_length p) (sym (one.is_count q)) in
      record {
        good = one.is_good q;
        has = λ z m. rw e (k.has z (subst (λ (n : ℕ). Among z (records_of p (books i)) ⊎ Among z (accepted_at p n fs)) r.node m));
        only =
            λ z m. subst (λ (n : ℕ). Among z (records_of p (books i)) ⊎ Among z (accepted_at p n fs)) (sym r.node) (k.only z (subst (Among z) e m));
        rise = ap rising e ∙ k.up;
        size = one.is_length q;
        tail =
            ap (λ (x : List ℕ). drop (used_of p F) x) (q.bytes ∙ laid.over_is (laid_out p i K) (books i) (used_of p F) ln)
            ∙ drop_at (laid_out p i K) (drop (used_of p F) (books i)) (used_of p F) ln;
      }

-- Every one of the N books is left by the calls as the book that the definition gives from the old book and the set.
pub every_book : (p : Plan) (books : ℕ → List ℕ) (fs : List (List ℕ)) (ds : List Delivery) → Setting p books fs ds → (i : ℕ) → i < p.n
    → delivered ds books i ≡ final_book p (books i) fs
every_book p books fs ds g i l =
    runs.after_through p ds books i g.calls ∙ left p books fs i g.plan (g.ready i l) (runs.brought i ds) (brings p fs ds i (g.delivers i l))

-- That book holds the old records and the accepted ones, each once, by timestamp; it is a good book, and past its bytes in use it is as it was.
pub what_is_left : (p : Plan) (books : ℕ → List ℕ) (fs : List (List ℕ)) (ds : List Delivery) → Setting p books fs ds → (i : ℕ) → i < p.n
    → Contents p (books i) fs
what_is_left p books fs ds g i l = holding p books fs i g.plan (g.ready i l) (runs.brought i ds) (brings p fs ds i (g.delivers i l))

-- So two runs, in whatever order and with whatever repeats, leave the same bytes in all N books.
pub any_order : (p : Plan) (books : ℕ → List ℕ) (fs : List (List ℕ)) (ds es : List Delivery) → Setting p books fs ds → Setting p books fs es → (i : ℕ)
    → i < p.n → delivered ds books i ≡ delivered es books i
any_order p books fs ds es g h i l = every_book p books fs ds g i l ∙ sym (every_book p books fs es h i l)
