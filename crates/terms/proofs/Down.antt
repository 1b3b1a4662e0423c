-- A rung by its number, and how code goes down a ladder: `Down ladder k`, "the code stands at rung k". Assumes nothing.
--   clear            where none applies, that of number k does not
--   at next          the code at a rung of a ladder, by what each test before it said; one rung further
--   left             a rung that was left behind does not apply
--   stop end goes_on the outcome: refused at this rung; passed; as a function that goes on from here says
use Prim.{tt}
use Prim.Native.Nat.{ℕ}
use mathlib.Core.Path.{◌≡◌, refl, sym, ap, subst, ◌∙◌}
use mathlib.Core.Bool.{Bool, true, false, cond}
use mathlib.Core.List.{List, [], ◌∷◌}
use lib.Dec.{eqb}
use borrow.Author.Tests.{eqb-true}
use Rattle.terms.specs.Ladder.{Rung, first, None, rung, upto, through, since}
use Rattle.terms.proofs.Rungs.{clash}
use Rattle.terms.proofs.Ladders.{is_passed}

pub clear : (l : List Rung) → None l → (k : ℕ) → rung k l ≡ false
clear [] n k = refl
clear (x ∷ xs) n k = go (eqb x.number k) (clear xs n.1 k)
  where
    go : (b : Bool) → rung k xs ≡ false → cond b x.applies (rung k xs) ≡ false
    go true r = n.0
    go false r = r

-- one rung more is left behind
pub past : (k : ℕ) (l : List Rung) → None (upto k l) → rung k l ≡ false → None (through k l)
past k [] n e = tt
past k (x ∷ xs) n e = go (eqb x.number k) n e (past k xs)
  where
    go : (b : Bool) → None (cond b [] (x ∷ upto k xs)) → cond b x.applies (rung k xs) ≡ false → (None (upto k xs) → rung k xs ≡ false → None (through k xs))
        → None (x ∷ cond b [] (through k xs))
    go true n e r = (e, tt)
    go false n e r = (n.0, r n.1 e)

-- none before the rung of number k applies, and it does
module _ {A : Type 0} (refuse : ℕ → A) (pass : A) where
  stops_at : (k : ℕ) (l : List Rung) {z : A} → None (upto k l) → rung k l ≡ true → z ≡ refuse k → z ≡ first l refuse pass
  unfolding first
  stops_at k [] n e p = let z : ◌≡◌ {A = Bool} true false = sym e in absurd (clash z)
  stops_at k (x ∷ xs) {z} n e p = go (eqb x.number k) refl n e (λ m q. stops_at k xs m q p)
    where
      go : (b : Bool) → eqb x.number k ≡ b → None (cond b [] (x ∷ upto k xs)) → cond b x.applies (rung k xs) ≡ true
          → (None (upto k xs) → rung k xs ≡ true → z ≡ first xs refuse pass) → z ≡ cond x.applies (refuse x.number) (first xs refuse pass)
      go true f n e r = rw e (p ∙ ap refuse (sym (eqb-true x.number k f)))
      go false f n e r = rw n.0 (r n.1 e)

  -- none before the rung of number k applies, and from there on z
  since_first : (k : ℕ) (l : List Rung) {z : A} → None (upto k l) → z ≡ first (since k l) refuse pass → z ≡ first l refuse pass
  unfolding first
  since_first k [] n p = p
  since_first k (x ∷ xs) {z} n p = go (eqb x.number k) n p (λ m q. since_first k xs m q)
    where
      go : (b : Bool) → None (cond b [] (x ∷ upto k xs)) → z ≡ first (cond b (x ∷ xs) (since k xs)) refuse pass
          → (None (upto k xs) → z ≡ first (since k xs) refuse pass → z ≡ first xs refuse pass) → z ≡ cond x.applies (refuse x.number) (first xs refuse pass)
      go true n p r = p
      go false n p r = rw n.0 (r n.1 p)

-- ---- the code stands at the rung of number k: where its call began, and that no rung before it applies (number 0: at the end)
pub record Down {S : Type 0} (ladder : S → List Rung) (k : ℕ) : Type 0 where
  pub start : S
  pub none : None (upto k (ladder start))

module _ {S : Type 0} {ladder : S → List Rung} where
  -- rung j does not apply, and k is next
  abbrev pub next : {j : ℕ} (k : ℕ) (d : Down ladder j) → through j (ladder d.start) ≡ upto k (ladder d.start) → rung j (ladder d.start) ≡ false → Down ladder k
  next {j} k d e f = record { start = d.start; none = subst None e (past j (ladder d.start) d.none f) }

  pub left : {j : ℕ} (k : ℕ) (d : Down ladder j) → rung k (upto j (ladder d.start)) ≡ false
  left {j} k d = clear (upto j (ladder d.start)) d.none k

  module _ {A : Type 0} (refuse : ℕ → A) (pass : A) where
    pub stop : {k : ℕ} (d : Down ladder k) {z : A} → rung k (ladder d.start) ≡ true → z ≡ refuse k → z ≡ first (ladder d.start) refuse pass
    stop {k} d f p = stops_at refuse pass k (ladder d.start) d.none f p

    pub end : (d : Down ladder 0) {z : A} → upto 0 (ladder d.start) ≡ ladder d.start → z ≡ pass → z ≡ first (ladder d.start) refuse pass
    end d e p = p ∙ sym (is_passed (ladder d.start) refuse pass (subst None e d.none))

    -- a function of its own goes on from rung k
    pub goes_on : {k : ℕ} (d : Down ladder k) {z : A} → z ≡ first (since k (ladder d.start)) refuse pass → z ≡ first (ladder d.start) refuse pass
    goes_on {k} d p = since_first refuse pass k (ladder d.start) d.none p

-- the code stands at rung k of a ladder: none of those before it applies, in their order
abbrev pub at : (k : ℕ) (l : List Rung) → None (upto k l) → Down (λ (m : List Rung). m) k
at k l n = record { start = l; none = n }
