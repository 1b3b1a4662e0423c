-- What refusal 4 asks of a frame, as plain facts: `FrameIs`, `RequestIs`, `ReplyIs`, each with its laws `is`, `back` and `last`
-- (the last rule decides); the length of a frame by its kind; the kinds of a party. Assumes nothing.
use Rattle.std.specs.Prelude.{Option, Some, None}
use mathlib.Core.Path.{◌≡◌, refl, sym, ap, ◌∙◌}
use mathlib.Core.Bool.{Bool, true, false, cond}
use mathlib.Core.List.{List, [], ◌∷◌}
use mathlib.Core.Logic.{◌⊎◌, inl, inr, ⊎_elim}
use Prim.Native.Nat.{ℕ, ◌+◌, ◌-◌, ◌≤◌, ◌<◌}
use native.Mathlib.Omega.{arith}
use borrow.Author.Tests.{leb-true, ltb-true, eqb-true, eqb-false, eq-eqb, ne_eqb, le-leb, lt-ltb, le-ltb}
use lib.ListN.{length, drop, length-drop}
use lib.Seq.{drop-drop, take_all}
use lib.Dec.{leb, ltb, eqb}
use Rattle.octets.specs.Bytes.{part, num}
use Rattle.terms.specs.Ladder.{all}
use Rattle.terms.specs.Terms.{record_length}
use Rattle.terms.specs.declared.Plan.{Plan}
use Rattle.terms.proofs.Rungs.{both, clash}
use Rattle.terms.proofs.Plans.{not_ok}
use Rattle.terms.proofs.Picks.{itself}
use Rattle.frame.specs.Frame.{time_reply_kind, write_request_kind, write_reply_kind, read_previous_kind, head_bytes, framed, rest_of, version_of, kind_of, frame_node, header_in, shaped, body_fits, one_of, kinds_for, for_party, suits, good_frame, good_request, good_reply, door, request_in, reply_in, cut_at}
use Rattle.frame.specs.declared.Header.{Header}
use Rattle.frame.specs.declared.Party.{Party}
use Rattle.frame.specs.declared.Party.TheVariants.{Node, Client}

-- ---- the shape
pub record ShapedIs (f : List ℕ) : Type 0 where
  pub low : head_bytes 1 ≤ length f
  pub whole : rest_of f ≡ length f - 4
  pub version : version_of f ≡ 1

pub shaped_is : (f : List ℕ) → shaped f ≡ true → ShapedIs f
unfolding shaped all
shaped_is f e =
    let e1 = both (leb (head_bytes 1) (length f)) _ e in
    let e2 = both (eqb (rest_of f) (length f - 4)) _ e1.1 in
    let e3 = both (eqb (version_of f) 1) _ e2.1 in
    record { low = leb-true _ _ e1.0; whole = eqb-true _ _ e2.0; version = eqb-true _ _ e3.0 }

pub shaped_last : (f : List ℕ) (x : ℕ) → head_bytes 1 ≤ length f → rest_of f ≡ length f - 4 → x ≡ version_of f → eqb x 1 ≡ shaped f
unfolding shaped all
shaped_last f x a b e = rw (le-leb (head_bytes 1) (length f) a, eq-eqb (rest_of f) (length f - 4) b, e) (itself (eqb (version_of f) 1))

pub shaped_back : (f : List ℕ) → ShapedIs f → shaped f ≡ true
shaped_back f q = sym (shaped_last f (version_of f) q.low q.whole refl) ∙ eq-eqb _ _ q.version

pub shaped_no : (f : List ℕ) → (ShapedIs f → ⊥) → false ≡ shaped f
shaped_no f h = not_ok _ (λ e. h (shaped_is f e))

-- ---- a frame for a party
pub record FrameIs (party : Party) (p : Plan) (f : List ℕ) : Type 0 where
  pub low : head_bytes 1 ≤ length f
  pub whole : rest_of f ≡ length f - 4
  pub version : version_of f ≡ 1
  pub for : for_party party (kind_of f) ≡ true
  pub fits : body_fits p (kind_of f) (length f - head_bytes (version_of f)) ≡ true

pub frame_is : (party : Party) (p : Plan) (f : List ℕ) → good_frame party p f ≡ true → FrameIs party p f
unfolding good_frame suits
frame_is party p f e =
    let e1 = both (shaped f) _ e in
    let e2 = both (for_party party (kind_of f)) _ e1.1 in
    let s = shaped_is f e1.0 in
    record { low = s.low; whole = s.whole; version = s.version; for = e2.0; fits = e2.1 }

pub frame_last : (party : Party) (p : Plan) (f : List ℕ) (r : Bool) → shaped f ≡ true → r ≡ suits party p (header_in f) (length f) → r ≡ good_frame party p f
unfolding good_frame
frame_last party p f r s e = rw s e

pub suits_last : (party : Party) (p : Plan) (h : Header) (n : ℕ) (r : Bool) → for_party party h.kind ≡ true
    → r ≡ body_fits p h.kind (n - head_bytes h.version) → r ≡ suits party p h n
unfolding suits
suits_last party p h n r k e = rw k e

pub suits_is : (party : Party) (p : Plan) (h : Header) (n : ℕ) → suits party p h n ≡ true
    → (for_party party h.kind ≡ true) × (body_fits p h.kind (n - head_bytes h.version) ≡ true)
unfolding suits
suits_is party p h n e = both (for_party party h.kind) _ e

pub suits_stray : (party : Party) (p : Plan) (h : Header) (n : ℕ) → for_party party h.kind ≡ false → false ≡ suits party p h n
unfolding suits
suits_stray party p h n e = rw e

pub frame_back : (party : Party) (p : Plan) (f : List ℕ) → FrameIs party p f → good_frame party p f ≡ true
frame_back party p f q =
    let s = shaped_back f (record { low = q.low; whole = q.whole; version = q.version }) in
    sym (frame_last party p f true s (suits_last party p (header_in f) (length f) true q.for (sym q.fits)))

pub frame_unshaped : (party : Party) (p : Plan) (f : List ℕ) → shaped f ≡ false → good_frame party p f ≡ false
unfolding good_frame
frame_unshaped party p f e = rw e

-- ---- a request at a node
pub record RequestIs (p : Plan) (node : ℕ) (f : List ℕ) : Type 0 where
  pub frame_is : FrameIs Node p f
  pub node_is : frame_node f ≡ node

pub request_is : (p : Plan) (node : ℕ) (f : List ℕ) → good_request p node f ≡ true → RequestIs p node f
unfolding good_request
request_is p node f e =
    let h = both (good_frame Node p f) _ e in
    record { frame_is = frame_is Node p f h.0; node_is = eqb-true _ _ h.1 }

pub request_last : (p : Plan) (node : ℕ) (f : List ℕ) (x : ℕ) → good_frame Node p f ≡ true → x ≡ frame_node f → eqb x node ≡ good_request p node f
unfolding good_request
request_last p node f x g e = rw (g, e)

pub request_ill : (p : Plan) (node : ℕ) (f : List ℕ) → good_frame Node p f ≡ false → false ≡ good_request p node f
unfolding good_request
request_ill p node f e = rw e

pub request_back : (p : Plan) (node : ℕ) (f : List ℕ) → RequestIs p node f → good_request p node f ≡ true
request_back p node f q = sym (request_last p node f _ (frame_back Node p f q.frame_is) refl) ∙ eq-eqb _ _ q.node_is

-- ---- a reply at a client
pub record ReplyIs (p : Plan) (f : List ℕ) : Type 0 where
  pub frame_is : FrameIs Client p f
  pub node_low : frame_node f < p.n

pub reply_is : (p : Plan) (f : List ℕ) → good_reply p f ≡ true → ReplyIs p f
unfolding good_reply
reply_is p f e =
    let h = both (good_frame Client p f) _ e in
    record { frame_is = frame_is Client p f h.0; node_low = ltb-true _ _ h.1 }

pub reply_last : (p : Plan) (f : List ℕ) (x : ℕ) → good_frame Client p f ≡ true → x ≡ frame_node f → ltb x p.n ≡ good_reply p f
unfolding good_reply
reply_last p f x g e = rw (g, e)

pub reply_ill : (p : Plan) (f : List ℕ) → good_frame Client p f ≡ false → false ≡ good_reply p f
unfolding good_reply
reply_ill p f e = rw e

pub reply_back : (p : Plan) (f : List ℕ) → ReplyIs p f → good_reply p f ≡ true
reply_back p f q = sym (reply_last p f _ (frame_back Client p f q.frame_is) refl) ∙ lt-ltb _ _ q.node_low

-- ---- the door of a call
pub door_shut : (g : Bool) (f : List ℕ) → g ≡ false → None ≡ door g f
door_shut g f e = rw e

pub door_open : (g : Bool) (f : List ℕ) (h : Header) → g ≡ true → h ≡ header_in f → Some h ≡ door g f
door_open g f h e k = rw e (ap Some k)

-- what the code has read of a frame, where its header fits or not
module _ (party : Party) (p : Plan) (f : List ℕ) (h : Header) {r : Bool} (s : shaped f ≡ true) (e : h ≡ header_in f) (t : r ≡ suits party p h (length f)) where
  pub frame_read : r ≡ good_frame party p f
  frame_read = frame_last party p f r s (t ∙ ap (λ (x : Header). suits party p x (length f)) e)

pub request_door : (p : Plan) (node : ℕ) (f : List ℕ) (h : Header) → good_frame Node p f ≡ true → h ≡ header_in f → h.node ≡ node → Some h ≡ request_in p node f
request_door p node f h g e n = door_open _ f h (sym (request_last p node f h.node g (ap (λ (x : Header). x.node) e)) ∙ eq-eqb _ _ n) e

pub request_elsewhere : (p : Plan) (node : ℕ) (f : List ℕ) (h : Header) → good_frame Node p f ≡ true → h ≡ header_in f → (h.node ≡ node → ⊥) → None ≡ request_in p node f
request_elsewhere p node f h g e n = door_shut _ f (sym (request_last p node f h.node g (ap (λ (x : Header). x.node) e)) ∙ ne_eqb _ _ n)

pub request_shut : (p : Plan) (node : ℕ) (f : List ℕ) → good_frame Node p f ≡ false → None ≡ request_in p node f
request_shut p node f g = door_shut _ f (sym (request_ill p node f g))

pub reply_door : (p : Plan) (f : List ℕ) (h : Header) → good_frame Client p f ≡ true → h ≡ header_in f → h.node < p.n → Some h ≡ reply_in p f
reply_door p f h g e n = door_open _ f h (sym (reply_last p f h.node g (ap (λ (x : Header). x.node) e)) ∙ lt-ltb _ _ n) e

pub reply_elsewhere : (p : Plan) (f : List ℕ) (h : Header) → good_frame Client p f ≡ true → h ≡ header_in f → p.n ≤ h.node → None ≡ reply_in p f
reply_elsewhere p f h g e n = door_shut _ f (sym (reply_last p f h.node g (ap (λ (x : Header). x.node) e)) ∙ le-ltb _ _ n)

pub reply_shut : (p : Plan) (f : List ℕ) → good_frame Client p f ≡ false → None ≡ reply_in p f
reply_shut p f g = door_shut _ f (sym (reply_ill p f g))

-- what it said
pub record Opened (g : Bool) (f : List ℕ) (h : Header) : Type 0 where
  pub good : g ≡ true
  pub is : h ≡ header_in f

header_or : Header → Option Header → Header
header_or h None = h
header_or h (Some x) = x

opens : Option Header → Bool
opens None = false
opens (Some h) = true

pub was_open : (g : Bool) (f : List ℕ) (h : Header) → Some h ≡ door g f → Opened g f h
unfolding header_or opens
was_open true f h e = record { good = refl; is = ap (header_or h) e }
was_open false f h e = absurd (clash (ap opens e))

pub was_shut : (g : Bool) (f : List ℕ) → None ≡ door g f → g ≡ false
unfolding opens
was_shut true f e = absurd (clash (sym (ap opens e)))
was_shut false f e = refl

-- ---- the table of kinds, at one kind and at none
pub fits_at : (p : Plan) (kind k n : ℕ) (z : Bool) → kind ≡ k → z ≡ body_fits p k n → z ≡ body_fits p kind n
fits_at p kind k n z e h = h ∙ ap (λ (x : ℕ). body_fits p x n) (sym e)

pub fits_none : (p : Plan) (kind n : ℕ)
    → (kind ≡ 1 → ⊥) → (kind ≡ 2 → ⊥) → (kind ≡ 3 → ⊥) → (kind ≡ 4 → ⊥) → (kind ≡ 5 → ⊥) → (kind ≡ 6 → ⊥) → (kind ≡ 7 → ⊥) → false ≡ body_fits p kind n
unfolding body_fits
fits_none p kind n a b c d e f g =
    rw (ne_eqb kind 1 a, ne_eqb kind 2 b, ne_eqb kind 3 c, ne_eqb kind 4 d, ne_eqb kind 5 e, ne_eqb kind 6 f, ne_eqb kind 7 g)

-- ---- the kinds of a party
-- x is in a list
abbrev pub In : ℕ → List ℕ → Type 0
In x [] = ⊥
In x (y ∷ ys) = (x ≡ y) ⊎ In x ys

one_is : (x : ℕ) (ys : List ℕ) → one_of x ys ≡ true → In x ys
unfolding one_of
one_is x [] e = absurd (clash (sym e))
one_is x (y ∷ ys) e = go (eqb x y) refl e (λ g. one_is x ys g)
  where
    go : (t : Bool) → eqb x y ≡ t → cond t true (one_of x ys) ≡ true → (one_of x ys ≡ true → In x ys) → (x ≡ y) ⊎ In x ys
    go true f g ih = inl (eqb-true x y f)
    go false f g ih = inr (ih g)

one_back : (x : ℕ) (ys : List ℕ) → In x ys → one_of x ys ≡ true
unfolding one_of
one_back x [] h = absurd h
one_back x (y ∷ ys) (inl e) = rw (eq-eqb x y e)
one_back x (y ∷ ys) (inr h) = go (eqb x y) (one_back x ys h)
  where
    go : (t : Bool) → one_of x ys ≡ true → cond t true (one_of x ys) ≡ true
    go true ih = refl
    go false ih = ih

pub party_is : (party : Party) (kind : ℕ) → for_party party kind ≡ true → In kind (kinds_for party)
unfolding for_party
party_is party kind e = one_is kind (kinds_for party) e

pub party_back : (party : Party) (kind : ℕ) → In kind (kinds_for party) → for_party party kind ≡ true
unfolding for_party
party_back party kind h = one_back kind (kinds_for party) h

pub party_no : (party : Party) (kind : ℕ) → (In kind (kinds_for party) → ⊥) → false ≡ for_party party kind
party_no party kind h = not_ok _ (λ e. h (party_is party kind e))

-- the same, of a party that a match told
pub told_is : (party q : Party) (kind : ℕ) → party ≡ q → In kind (kinds_for q) → true ≡ for_party party kind
told_is party q kind e h = sym (ap (λ (x : Party). for_party x kind) e ∙ party_back q kind h)

pub told_no : (party q : Party) (kind : ℕ) → party ≡ q → (In kind (kinds_for q) → ⊥) → false ≡ for_party party kind
told_no party q kind e h = party_no q kind h ∙ ap (λ (x : Party). for_party x kind) (sym e)

-- the kinds of a node that lie side by side
pub side_by_side : (kind : ℕ) → 5 ≤ kind → kind ≤ 6 → In kind (kinds_for Node)
side_by_side kind a b = go (eqb kind 5) refl
  where
    go : (t : Bool) → eqb kind 5 ≡ t → In kind (kinds_for Node)
    go true e = inr (inr (inl (eqb-true kind 5 e)))
    go false e = let n = eqb-false kind 5 e in inr (inr (inr (inl (omega arith))))

-- a node's kind that is none of the others is 6
pub last_request : (kind : ℕ) → for_party Node kind ≡ true → (kind ≡ 1 → ⊥) → (kind ≡ 3 → ⊥) → (kind ≡ 5 → ⊥) → kind ≡ 6
last_request kind e a b c =
    ⊎_elim (λ h. absurd (a h)) (⊎_elim (λ h. absurd (b h)) (⊎_elim (λ h. absurd (c h)) (⊎_elim (λ h. h) (λ h. absurd h)))) (party_is Node kind e)

-- ---- the length of a body, by its kind
module _ (p : Plan) (kind m : ℕ) (q : body_fits p kind m ≡ true) where
  -- where the table gives kind k exactly n bytes
  bytes_by : (k n : ℕ) → body_fits p k m ≡ eqb m n → kind ≡ k → m ≡ n
  bytes_by k n h e = eqb-true m n (sym h ∙ ap (λ (x : ℕ). body_fits p x m) (sym e) ∙ q)

  pub bytes_2 : kind ≡ time_reply_kind → m ≡ 8
  unfolding body_fits
  bytes_2 = bytes_by time_reply_kind 8 refl

  pub bytes_3 : kind ≡ write_request_kind → m ≡ record_length p
  unfolding body_fits
  bytes_3 = bytes_by write_request_kind (record_length p) refl

  pub bytes_4 : kind ≡ write_reply_kind → m ≡ 40
  unfolding body_fits
  bytes_4 = bytes_by write_reply_kind 40 refl

  pub bytes_6 : kind ≡ read_previous_kind → m ≡ 40
  unfolding body_fits
  bytes_6 = bytes_by read_previous_kind 40 refl

-- and of the frame
module _ {party : Party} {p : Plan} {f : List ℕ} (q : FrameIs party p f) where
  length_by : (n : ℕ) → length f - head_bytes 1 ≡ n → length f ≡ framed 1 n
  length_by n e = let low = q.low in omega arith

  pub length_2 : kind_of f ≡ time_reply_kind → length f ≡ framed 1 8
  length_2 e = length_by 8 (bytes_2 p (kind_of f) (length f - head_bytes 1) q.fits e)

  pub length_3 : kind_of f ≡ write_request_kind → length f ≡ framed 1 (record_length p)
  length_3 e = length_by (record_length p) (bytes_3 p (kind_of f) (length f - head_bytes 1) q.fits e)

  pub length_4 : kind_of f ≡ write_reply_kind → length f ≡ framed 1 40
  length_4 e = length_by 40 (bytes_4 p (kind_of f) (length f - head_bytes 1) q.fits e)

-- ---- a body, after a head of h bytes
pub body_part : (h : ℕ) (f : List ℕ) (at n : ℕ) → part (drop h f) at n ≡ part f (h + at) n
unfolding part
body_part h f at n = rw (drop-drop at h f)

pub body_is : (h : ℕ) (f : List ℕ) (n : ℕ) → length f ≡ h + n → drop h f ≡ part f h n
unfolding part
body_is h f n e = sym (take_all n (drop h f) (simp length-drop (omega arith)))

-- ---- where a frame ends
pub cut_short : (s : List ℕ) (at : ℕ) → length s - at < 4 → None ≡ cut_at s at
unfolding cut_at
cut_short s at h = rw (lt-ltb (length s - at) 4 h)

module _ (s : List ℕ) (at n : ℕ) (h : 4 ≤ length s - at) (e : n ≡ num (part s at 4)) where
  pub cut_low : n < 11 → None ≡ cut_at s at
  unfolding cut_at
  cut_low k = rw (← e, le-ltb (length s - at) 4 h, lt-ltb n 11 k)

  pub cut_high : 11 ≤ n → length s - at - 4 < n → None ≡ cut_at s at
  unfolding cut_at
  cut_high k l = rw (← e, le-ltb (length s - at) 4 h, le-ltb n 11 k, lt-ltb (length s - at - 4) n l)

  pub cut_ends : 11 ≤ n → n ≤ length s - at - 4 → Some (at + 4 + n) ≡ cut_at s at
  unfolding cut_at
  cut_ends k l = rw (← e, le-ltb (length s - at) 4 h, le-ltb n 11 k, le-ltb (length s - at - 4) n l)
