-- The marks and the slots that replies of different nodes leave do not depend on their order. Assumes nothing.
use mathlib.Core.Path.{◌≡◌, refl, sym, ap, ◌∙◌}
use mathlib.Core.Bool.{Bool, true, false, cond}
use mathlib.Core.List.{List, ◌++◌}
use Prim.Native.Nat.{ℕ, ◌+◌, ◌*◌, ◌≤◌, ◌<◌}
use native.Mathlib.Nat.{zero-add}
use native.Mathlib.Omega.{arith}
use borrow.Author.Tests.{ltb-true, ltb-false}
use lib.Dec.{ltb}
use lib.ListN.{length, take, drop, take-append-drop}
use lib.Seq.{set_comm, length-take-le, take-append_seam, drop-append-add}
use Rattle.octets.specs.Bytes.{put}
use Rattle.octets.proofs.Laws.{put_left, length_put, slot_room, slot_fits}
use Rattle.terms.specs.Terms.{record_length}
use Rattle.terms.specs.declared.Plan.{Plan}
use Rattle.frame.specs.Frame.{frame_node, body_of}
use Rattle.session.specs.Session.{with_marks}
use Rattle.session.specs.declared.Session.{Session}
use Rattle.session.specs.Reply.{bears}
use Rattle.session.proofs.Slots.{long_body, long_after}
use Rattle.client.specs.Endings.{heard_as, after_reply, desk_after}
use Rattle.client.specs.Round.{Each, OneANode, all_of, all_marked, all_slotted}
use Rattle.terms.proofs.Small.{strict}
use Rattle.client.proofs.Round.Swaps.{Reordered, same, swap, keep, chain, each_kept, one_kept}

-- ---- two puts apart
put_right : (x y s : List ℕ) (n : ℕ) → length x ≡ n → put (x ++ y) n s ≡ x ++ put y 0 s
unfolding put
put_right x y s n e = rw (← e, take-append_seam x y, drop-append-add x y (length s), zero-add)

pub put_comm : (l : List ℕ) (a : ℕ) (s : List ℕ) (b : ℕ) (t : List ℕ) → a + length s ≤ b → b ≤ length l → put (put l a s) b t ≡ put (put l b t) a s
put_comm l a s b t h k =
    let lx : length (take b l) ≡ b = length-take-le b l k in
    let w : take b l ++ drop b l ≡ l = take-append-drop b l in
    let lp : length (put (take b l) a s) ≡ b = length_put (take b l) a s (omega arith) ∙ lx in
    let e1 : put l a s ≡ put (take b l) a s ++ drop b l = ap (λ (m : List ℕ). put m a s) (sym w) ∙ put_left (take b l) (drop b l) a s (omega arith) in
    let e2 : put l b t ≡ take b l ++ put (drop b l) 0 t = ap (λ (m : List ℕ). put m b t) (sym w) ∙ put_right (take b l) (drop b l) t b lx in
    ap (λ (m : List ℕ). put m b t) e1 ∙ put_right (put (take b l) a s) (drop b l) t b lp
    ∙ sym (ap (λ (m : List ℕ). put m a s) e2 ∙ put_left (take b l) (put (drop b l) 0 t) a s (omega arith))

-- two slots
slots_comm : (d x y : List ℕ) (a b n r : ℕ) → a < n → b < n → (a ≡ b → ⊥) → length d ≡ n * r → length x ≡ r → length y ≡ r
    → put (put d (a * r) x) (b * r) y ≡ put (put d (b * r) y) (a * r) x
slots_comm d x y a b n r ha hb ne l lx ly = go (ltb a b) refl
  where
    fits : (k : ℕ) → k < n → k * r + r ≤ length d
    fits k h = slot_room k n r (length d) h (omega arith)

    go : (t : Bool) → ltb a b ≡ t → put (put d (a * r) x) (b * r) y ≡ put (put d (b * r) y) (a * r) x
    go true e =
        let q = slot_fits a b r (ltb-true a b e) in
        let w = fits b hb in
        put_comm d (a * r) x (b * r) y (omega arith) (omega arith)
    go false e =
        let v : b < a = strict b a (ltb-false a b e) (λ z. ne (sym z)) in
        let q = slot_fits b a r v in
        let w = fits a ha in
        sym (put_comm d (b * r) y (a * r) x (omega arith) (omega arith))

-- ---- steps that commute two by two, of different nodes, come to the same in every order
pub same_all : {A : Type 0} (step : A → List ℕ → A) → ((x : A) (f g : List ℕ) → (frame_node g ≡ frame_node f → ⊥) → step (step x f) g ≡ step (step x g) f)
    → {l m : List (List ℕ)} → Reordered l m → (x : A) → OneANode l → all_of step x l ≡ all_of step x m
unfolding all_of
same_all step c same x a = refl
same_all {A} step c (swap f g {l}) x a = ap (λ (y : A). all_of step y l) (c x f g a.0.0)
same_all step c (keep f r) x a = same_all step c r (step x f) a.1
same_all step c (chain r q) x a = same_all step c r x a ∙ same_all step c q x (one_kept r a)

-- ---- two replies
marks_comm : (p : Plan) (s : Session) (f g : List ℕ) → (frame_node g ≡ frame_node f → ⊥) → after_reply p (after_reply p s f) g ≡ after_reply p (after_reply p s g) f
marks_comm p s f g n = ap (with_marks s) (set_comm s.marks (frame_node f) (frame_node g) (heard_as p f) (heard_as p g) (λ e. n (sym e)))

module _ (p : Plan) where
  abbrev at : List ℕ → ℕ
  at f = frame_node f * record_length p

  desks_comm : (d f g : List ℕ) → frame_node f < p.n → frame_node g < p.n → (frame_node g ≡ frame_node f → ⊥) → length d ≡ p.n * record_length p
      → desk_after p g (desk_after p f d) ≡ desk_after p f (desk_after p g d)
  desks_comm d f g hf hg n l = go (bears p f) (bears p g) refl refl
    where
      go : (t u : Bool) → bears p f ≡ t → bears p g ≡ u
          → cond u (put (cond t (put d (at f) (body_of f)) d) (at g) (body_of g)) (cond t (put d (at f) (body_of f)) d)
          ≡ cond t (put (cond u (put d (at g) (body_of g)) d) (at f) (body_of f)) (cond u (put d (at g) (body_of g)) d)
      go true true a b =
          slots_comm d (body_of f) (body_of g) (frame_node f) (frame_node g) p.n (record_length p) hf hg (λ e. n (sym e)) l (long_body p f a) (long_body p g b)
      go true false a b = refl
      go false true a b = refl
      go false false a b = refl

  pub length_after : (d f : List ℕ) → frame_node f < p.n → length d ≡ p.n * record_length p → length (desk_after p f d) ≡ p.n * record_length p
  length_after d f h l = go (bears p f) refl
    where
      go : (t : Bool) → bears p f ≡ t → length (cond t (put d (at f) (body_of f)) d) ≡ p.n * record_length p
      go true e = long_after p f d h l e
      go false e = l

  -- ---- all replies
  pub same_marks : {l m : List (List ℕ)} → Reordered l m → (s : Session) → OneANode l → all_marked p s l ≡ all_marked p s m
  same_marks r s a = same_all (after_reply p) (marks_comm p) r s a

  abbrev Low : List (List ℕ) → Type 0
  Low = Each (λ (f : List ℕ). frame_node f < p.n)

  pub same_slots : {l m : List (List ℕ)} → Reordered l m → (d : List ℕ) → length d ≡ p.n * record_length p → OneANode l → Low l
      → all_slotted p d l ≡ all_slotted p d m
  unfolding all_of
  same_slots same d e a h = refl
  same_slots (swap f g {l}) d e a h = ap (λ (x : List ℕ). all_slotted p x l) (desks_comm d f g h.0 h.1.0 a.0.0 e)
  same_slots (keep f r) d e a h = same_slots r (desk_after p f d) (length_after d f h.0 e) a.1 h.1
  same_slots (chain r q) d e a h = same_slots r d e a h ∙ same_slots q d e (one_kept r a) (each_kept (λ (f : List ℕ). frame_node f < p.n) r h)
