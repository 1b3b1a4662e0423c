-- A run of deliveries at one node: what it leaves is the records that it brings, each once, laid out over the old book. Assumes nothing.
use Prim.{Unit, tt}
use mathlib.Core.Path.{◌≡◌, refl, sym, ap, ◌∙◌, subst}
use mathlib.Core.Bool.{Bool, true, false, cond}
use mathlib.Core.List.{List, [], ◌∷◌}
use mathlib.Core.Logic.{◌⊎◌, inl, inr}
use Prim.Native.Nat.{ℕ, ◌+◌, ◌*◌, ◌≤◌}
use native.Mathlib.Nat.{mul-le-mul_right}
use native.Mathlib.Omega.{arith}
use borrow.Author.Tests.{eqb-true}
use lib.ListN.{length}
use lib.Dec.{eqb}
use Rattle.terms.specs.Terms.{record_length}
use Rattle.terms.specs.declared.Plan.{Plan}
use Rattle.terms.proofs.Rungs.{clash}
use Rattle.book.specs.Book.{book_head}
use Rattle.frame.specs.Frame.{body_of, longest}
use Rattle.book.specs.Records.{holds, kept}
use Rattle.book.proofs.Lists.{length_insert}
use Rattle.node.specs.Node.{ServedOutcome, served}
use Rattle.store.specs.Deliver.{Among, passes, accepted_at, kept_all, Delivery, sent, books_after, delivered, Called, Roomy}
use Rattle.store.proofs.Order as order
use Rattle.store.proofs.Order.{Agree, Of}
use Rattle.store.proofs.One as one

-- ---- the requests that one node is brought, each with the reply buffer that it is lent, and what they leave of its book
pub record Brought : Type 0 where
  pub request : List ℕ
  pub reply : List ℕ

unfoldable pub requests_of : List Brought → List (List ℕ)
requests_of [] = []
requests_of (d ∷ ds) = d.request ∷ requests_of ds

unfoldable pub through : Plan → List Brought → List ℕ → List ℕ
through p [] b = b
through p (d ∷ ds) b = through p ds (served p d.request b d.reply).book

abbrev pub RoomyEach : Plan → List Brought → Type 0
RoomyEach p [] = Unit {0}
RoomyEach p (d ∷ ds) = (longest 1 p ≤ length d.reply) × RoomyEach p ds

-- ---- those of a run of calls, apart from what other nodes are brought
unfoldable pub brought : ℕ → List Delivery → List Brought
brought i [] = []
brought i (d ∷ ds) = cond (eqb i d.node) (record { request = d.request; reply = d.reply } ∷ brought i ds) (brought i ds)

pub brought_sent : (i : ℕ) (ds : List Delivery) → requests_of (brought i ds) ≡ sent i ds
unfolding requests_of brought sent
brought_sent i [] = refl
brought_sent i (d ∷ ds) = go (eqb i d.node) (brought_sent i ds)
  where
    go : (t : Bool) → requests_of (brought i ds) ≡ sent i ds
        → requests_of (cond t (record { request = d.request; reply = d.reply } ∷ brought i ds) (brought i ds)) ≡ cond t (d.request ∷ sent i ds) (sent i ds)
    go true ih = ap (λ (l : List (List ℕ)). d.request ∷ l) ih
    go false ih = ih

pub brought_roomy : (p : Plan) (i : ℕ) (ds : List Delivery) → Roomy p ds → RoomyEach p (brought i ds)
unfolding brought
brought_roomy p i [] r = tt
brought_roomy p i (d ∷ ds) r = go (eqb i d.node) (brought_roomy p i ds r.1)
  where
    go : (t : Bool) → RoomyEach p (brought i ds) → RoomyEach p (cond t (record { request = d.request; reply = d.reply } ∷ brought i ds) (brought i ds))
    go true ih = (r.0, ih)
    go false ih = ih

-- by their contracts, what the calls leave
pub after_through : (p : Plan) (ds : List Delivery) (books : ℕ → List ℕ) (i : ℕ) → Called p books ds → delivered ds books i ≡ through p (brought i ds) (books i)
unfolding delivered through brought
after_through p [] books i h = refl
after_through p (d ∷ ds) books i h = after_through p ds (books_after d books) i h.1 ∙ go (eqb i d.node) refl
  where
    go : (t : Bool) → eqb i d.node ≡ t
        → through p (brought i ds) (cond t d.book_left (books i)) ≡ through p (cond t (record { request = d.request; reply = d.reply } ∷ brought i ds) (brought i ds)) (books i)
    go true e =
        ap (through p (brought i ds))
        (ap (λ (o : ServedOutcome). o.book) h.0.is ∙ ap (λ (j : ℕ). (served p d.request (books j) d.reply).book) (sym (eqb-true i d.node e)))
    go false e = refl

-- ---- requests and the records that they bring
record From (p : Plan) (node : ℕ) (fs : List (List ℕ)) (z : List ℕ) : Type 0 where
  f : List ℕ
  within : Among f fs
  ok : passes p node f ≡ true
  is : body_of f ≡ z

accepted_from : (p : Plan) (node : ℕ) (fs : List (List ℕ)) (z : List ℕ) → Among z (accepted_at p node fs) → From p node fs z
unfolding accepted_at
accepted_from p node [] z h = absurd (order.among_none z h)
accepted_from p node (f ∷ fs) z h = go (passes p node f) refl h (accepted_from p node fs z)
  where
    later : From p node fs z → From p node (f ∷ fs) z
    later q = record { f = q.f; within = order.among_later f q.f fs q.within; ok = q.ok; is = q.is }

    pick : passes p node f ≡ true → (body_of f ≡ z) ⊎ Among z (accepted_at p node fs) → (Among z (accepted_at p node fs) → From p node fs z)
        → From p node (f ∷ fs) z
    pick e (inl k) ih = record { f = f; within = order.among_first f f fs refl; ok = e; is = k }
    pick e (inr k) ih = later (ih k)

    go : (t : Bool) → passes p node f ≡ t → Among z (cond t (body_of f ∷ accepted_at p node fs) (accepted_at p node fs))
        → (Among z (accepted_at p node fs) → From p node fs z) → From p node (f ∷ fs) z
    go true e k ih = pick e (order.among_case (body_of f) z (accepted_at p node fs) k) ih
    go false e k ih = later (ih k)

accepted_has : (p : Plan) (node : ℕ) (fs : List (List ℕ)) (f : List ℕ) → Among f fs → passes p node f ≡ true → Among (body_of f) (accepted_at p node fs)
unfolding accepted_at
accepted_has p node [] f h e = absurd (order.among_none f h)
accepted_has p node (g ∷ fs) f h e = go (passes p node g) refl (order.among_case g f fs h) (accepted_has p node fs f)
  where
    go : (t : Bool) → passes p node g ≡ t → (g ≡ f) ⊎ Among f fs → (Among f fs → passes p node f ≡ true → Among (body_of f) (accepted_at p node fs))
        → Among (body_of f) (cond t (body_of g ∷ accepted_at p node fs) (accepted_at p node fs))
    go true q (inl k) ih = order.among_first (body_of g) (body_of f) (accepted_at p node fs) (ap (λ (l : List ℕ). body_of l) k)
    go true q (inr k) ih = order.among_later (body_of g) (body_of f) (accepted_at p node fs) (ih k e)
    go false q (inl k) ih = absurd (clash (sym e ∙ sym (ap (λ (l : List ℕ). passes p node l) k) ∙ q))
    go false q (inr k) ih = ih k e

-- what passes of fs is among gs: so is what it brings
pub accepted_in : (p : Plan) (node : ℕ) (fs gs : List (List ℕ)) → ((f : List ℕ) → Among f fs → passes p node f ≡ true → Among f gs)
    → (z : List ℕ) → Among z (accepted_at p node fs) → Among z (accepted_at p node gs)
accepted_in p node fs gs s z h =
    let q = accepted_from p node fs z h in
    subst (λ (x : List ℕ). Among x (accepted_at p node gs)) q.is (accepted_has p node gs q.f (s q.f q.within q.ok) q.ok)

-- ---- the run
grows : (xs rs : List (List ℕ)) → length rs ≤ length (kept_all xs rs)
unfolding kept_all
grows [] rs = omega arith
grows (x ∷ xs) rs = let a = grows xs (kept x rs) in let c = more (holds x rs) refl in omega arith
  where
    more : (t : Bool) → holds x rs ≡ t → length rs ≤ length (kept x rs)
    more true e = rw (order.kept_held x rs e) (omega arith)
    more false e = rw (order.kept_new x rs e) (omega (arith, length_insert x rs))

-- what the rest of a run, which brings the records xs, leaves of a book that is the records ss
abbrev Leaves : Plan → ℕ → List ℕ → List Brought → List (List ℕ) → List ℕ → List (List ℕ) → Type 0
Leaves p node old ds xs c ss =
    Agree (Of ss xs) → book_head 1 + length (kept_all xs ss) * record_length p ≤ length old → one.Laid p node old (through p ds c) (kept_all xs ss)

pub run : (p : Plan) (node : ℕ) (old : List ℕ) (ds : List Brought) (b : List ℕ) (rs : List (List ℕ)) → one.Laid p node old b rs → RoomyEach p ds
    → Leaves p node old ds (accepted_at p node (requests_of ds)) b rs
unfolding through requests_of accepted_at kept_all
run p node old [] b rs i ro g room = i
run p node old (d ∷ ds) b rs i ro g room = pass (passes p node d.request) refl g room (λ c ss j. run p node old ds c ss j ro.1)
  where
    rec : List ℕ
    rec = body_of d.request

    xs : List (List ℕ)
    xs = accepted_at p node (requests_of ds)

    after : List ℕ
    after = (served p d.request b d.reply).book

    tie : (z : List ℕ) → (rec ≡ z) ⊎ Among z rs → Of rs (rec ∷ xs) z
    tie z (inl e) = inr (order.among_first rec z xs e)
    tie z (inr h) = inl h

    wide : order.Kept rs rec → (z : List ℕ) → Of (kept rec rs) xs z → Of rs (rec ∷ xs) z
    wide kk z (inl h) = tie z (kk.only z h)
    wide kk z (inr h) = inr (order.among_later rec z xs h)

    pass : (t : Bool) → passes p node d.request ≡ t → Agree (Of rs (cond t (rec ∷ xs) xs))
        → book_head 1 + length (kept_all (cond t (rec ∷ xs) xs) rs) * record_length p ≤ length old
        → ((c : List ℕ) (ss : List (List ℕ)) → one.Laid p node old c ss → Leaves p node old ds xs c ss)
        → one.Laid p node old (through p ds after) (kept_all (cond t (rec ∷ xs) xs) rs)
    pass true e ag rm ih =
        let own : one.Own rec rs = λ z h q. ag z rec (inl h) (inr (order.among_first rec rec xs refl)) q in
        let kk : order.Kept rs rec = order.kept_is rs rec i.rise own in
        let gr : length (kept rec rs) ≤ length (kept_all xs (kept rec rs)) = grows xs (kept rec rs) in
        let ml : length (kept rec rs) * record_length p ≤ length (kept_all xs (kept rec rs)) * record_length p = mul-le-mul_right (record_length p) gr in
        let j = one.deliver_one i d.request d.reply ro.0 e own (omega arith) in
        ih after (kept rec rs) j (λ z w hz hw q. ag z w (wide kk z hz) (wide kk w hw) q) rm
    pass false e ag rm ih =
        let st : after ≡ b = one.not_passed p d.request b d.reply (ap (λ (x : ℕ). passes p x d.request) (one.is_node i) ∙ e) in
        ih after rs (subst (λ (x : List ℕ). one.Laid p node old x rs) (sym st) i) ag rm
