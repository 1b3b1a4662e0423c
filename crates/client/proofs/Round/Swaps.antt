-- Two lists with the same replies are one list and its reordering by swaps of neighbours (swaps); what swaps keep. Assumes nothing.
use mathlib.Core.Path.{◌≡◌, refl, sym, ap, ◌∙◌, subst}
use mathlib.Core.Bool.{Bool, true, false, cond}
use mathlib.Core.List.{List, [], ◌∷◌}
use Prim.Native.Nat.{ℕ, suc, ◌+◌, ◌<◌}
use native.Mathlib.Omega.{arith}
use lib.ListN.{length}
use Rattle.octets.specs.Bytes.{alike}
use Rattle.octets.proofs.Meaning.{alike_is, alike_refl}
use Rattle.frame.specs.Frame.{frame_node}
use Rattle.client.specs.Round.{Each, OneANode, times, SameReplies}

-- one order into another: two neighbours change places, behind as many as are kept, as often as wanted
pub data Reordered : List (List ℕ) → List (List ℕ) → Type 0 where
  same : {l : List (List ℕ)} → Reordered l l
  swap : (f g : List ℕ) {l : List (List ℕ)} → Reordered (f ∷ g ∷ l) (g ∷ f ∷ l)
  keep : (f : List ℕ) {l m : List (List ℕ)} → Reordered l m → Reordered (f ∷ l) (f ∷ m)
  chain : {l m k : List (List ℕ)} → Reordered l m → Reordered m k → Reordered l k

-- ---- every permutation is reached
-- the list without the first z
without : List ℕ → List (List ℕ) → List (List ℕ)
without z [] = []
without z (g ∷ gs) = cond (alike g z) gs (g ∷ without z gs)

-- one that is there is brought to the front
front : (f : List ℕ) (gs : List (List ℕ)) → 0 < times f gs → Reordered (f ∷ without f gs) gs
unfolding times without
front f [] h = absurd (omega arith)
front f (g ∷ gs) h = go (alike g f) refl h (front f gs)
  where
    go : (t : Bool) → alike g f ≡ t → 0 < cond t 1 0 + times f gs → (0 < times f gs → Reordered (f ∷ without f gs) gs)
        → Reordered (f ∷ cond t gs (g ∷ without f gs)) (g ∷ gs)
    go true e k ih = subst (λ (x : List ℕ). Reordered (x ∷ gs) (g ∷ gs)) (alike_is g f e) same
    go false e k ih = chain (swap f g) (keep g (ih (omega arith)))

-- swaps keep how often a reply comes
pub times_kept : (z : List ℕ) {l m : List (List ℕ)} → Reordered l m → times z l ≡ times z m
unfolding times
times_kept z same = refl
times_kept z (swap f g {l}) = exchange (cond (alike f z) 1 0) (cond (alike g z) 1 0) (times z l)
  where
    exchange : (a b c : ℕ) → a + (b + c) ≡ b + (a + c)
    exchange a b c = omega arith
times_kept z (keep f r) = ap (λ (n : ℕ). cond (alike f z) 1 0 + n) (times_kept z r)
times_kept z (chain r q) = times_kept z r ∙ times_kept z q

there : (f : List ℕ) (fs : List (List ℕ)) → times f (f ∷ fs) ≡ suc (times f fs)
unfolding times
there f fs = rw (alike_refl f) (omega arith)

pub swaps : (fs gs : List (List ℕ)) → SameReplies fs gs → Reordered fs gs
unfolding times
swaps [] [] e = same
swaps [] (g ∷ gs) e = let q = e g in let z = there g gs in absurd (omega arith)
swaps (f ∷ fs) gs e =
    let q = e f in let z = there f fs in
    let r = front f gs (omega arith) in
    chain (keep f (swaps fs (without f gs) (λ y. cancel (cond (alike f y) 1 0) (times y fs) (times y (without f gs)) (e y ∙ sym (times_kept y r))))) r
  where
    cancel : (a b c : ℕ) → a + b ≡ a + c → b ≡ c
    cancel a b c h = omega arith

-- ---- what they keep
pub length_kept : {l m : List (List ℕ)} → Reordered l m → length l ≡ length m
length_kept same = refl
length_kept (swap f g) = refl
length_kept (keep f r) = ap suc (length_kept r)
length_kept (chain r q) = length_kept r ∙ length_kept q

pub each_kept : (P : List ℕ → Type 0) {l m : List (List ℕ)} → Reordered l m → Each P l → Each P m
each_kept P same a = a
each_kept P (swap f g) a = (a.1.0, (a.0, a.1.1))
each_kept P (keep f r) a = (a.0, each_kept P r a.1)
each_kept P (chain r q) a = each_kept P q (each_kept P r a)

pub one_kept : {l m : List (List ℕ)} → Reordered l m → OneANode l → OneANode m
one_kept same a = a
one_kept (swap f g) a = ((λ e. a.0.0 (sym e), a.1.0), (a.0.1, a.1.1))
one_kept (keep f r) a = (each_kept (λ (g : List ℕ). frame_node g ≡ frame_node f → ⊥) r a.0, one_kept r a.1)
one_kept (chain r q) a = one_kept q (one_kept r a)
