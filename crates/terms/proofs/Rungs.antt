-- Laws of ladders. Assumes nothing.
use mathlib.Core.Path.{◌≡◌, refl, sym, ap, ◌∙◌, subst}
use mathlib.Core.Bool.{Bool, true, false, cond}
use mathlib.Core.List.{List, [], ◌∷◌}
use Prim.Native.Nat.{ℕ, ◌≤◌, ◌<◌}
use Prim.{tt}
use native.Mathlib.Omega.{arith}
use lib.Dec.{eqb, ltb}
use borrow.Author.Tests.{eqb-true, eqb-false, ltb-true}
use Rattle.terms.specs.Ladder.{Rung, on, first, None}
use Rattle.terms.specs.Terms.{refusal_number, refusals, refusal_in, refusal_at}
use Rattle.terms.specs.declared.Refusal.{Refusal}
use Rattle.terms.specs.declared.Refusal.TheVariants.{OutsidePlan, WrongLength, WrongBook, WrongFrame, TimeZero, HashFails, OtherBytes, NoRoom, OutOfRange, NotAwaited, AlreadyHeard, NotBelow, AskTooHigh, HasEnded, NoPlan, ShortForRun}

pub clash : true ≡ false → ⊥
clash e = let z : ◌≡◌ {A = ℕ} 0 1 = cc in omega arith

pub both : (a b : Bool) → cond a b false ≡ true → (a ≡ true) × (b ≡ true)
both true b e = (refl, e)
both false b e = absurd (clash (sym e))

-- a rung that applies, and one that does not: how code goes down a ladder
module _ {A : Type 0} where
  pub stop : (k : ℕ) {c : Bool} (xs : List Rung) (refuse : ℕ → A) (pass : A) {z : A} → c ≡ true → z ≡ refuse k → z ≡ first (on k c ∷ xs) refuse pass
  unfolding first
  stop k {c} xs refuse pass {z} e p = rw e p

  pub go_on : (k : ℕ) {c : Bool} (xs : List Rung) (refuse : ℕ → A) (pass : A) {z : A} → c ≡ false → z ≡ first xs refuse pass → z ≡ first (on k c ∷ xs) refuse pass
  unfolding first
  go_on k {c} xs refuse pass {z} e p = rw e p

  pub passed : (refuse : ℕ → A) (pass : A) {z : A} → z ≡ pass → z ≡ first [] refuse pass
  unfolding first
  passed refuse pass {z} p = p

-- ---- the law of a ladder
-- what a ladder came to
pub data Came : Type 0 where
  refused : ℕ → Came
  passes : Came

-- every other reading of a ladder goes by what it came to
abbrev pub read : {A : Type 0} → Came → (ℕ → A) → A → A
read (refused k) refuse pass = refuse k
read passes refuse pass = pass

pub first_read : {A : Type 0} (l : List Rung) (refuse : ℕ → A) (pass : A) → first l refuse pass ≡ read (first l refused passes) refuse pass
unfolding first
first_read [] refuse pass = refl
first_read {A} (x ∷ xs) refuse pass = go x.applies (first_read xs refuse pass)
  where
    go : (c : Bool) → first xs refuse pass ≡ read (first xs refused passes) refuse pass → cond c (refuse x.number) (first xs refuse pass) ≡ read (cond c (refused x.number) (first xs refused passes)) refuse pass
    go true ih = refl
    go false ih = ih

pub none_is : (l : List Rung) → None l → first l refused passes ≡ passes
unfolding first
none_is [] n = refl
none_is (x ∷ l) n = rw n.0 (none_is l n.1)

pub passes_is : (l : List Rung) → first l refused passes ≡ passes → None l
unfolding first
passes_is [] e = tt
passes_is (x ∷ xs) e = go x.applies refl e (passes_is xs)
  where
    go : (c : Bool) → x.applies ≡ c → cond c (refused x.number) (first xs refused passes) ≡ passes → (first xs refused passes ≡ passes → None xs) → (x.applies ≡ false) × None xs
    go true f g ih = absurd (let z : ◌≡◌ {A = ℕ} 0 1 = cc in omega arith)
    go false f g ih = (f, ih g)

-- ---- the numbers are one-to-one
refusal_back : (r : Refusal) → refusal_at (refusal_number r) ≡ r
refusal_back OutsidePlan = refl
refusal_back WrongLength = refl
refusal_back WrongBook = refl
refusal_back WrongFrame = refl
refusal_back TimeZero = refl
refusal_back HashFails = refl
refusal_back OtherBytes = refl
refusal_back NoRoom = refl
refusal_back OutOfRange = refl
refusal_back NotAwaited = refl
refusal_back AlreadyHeard = refl
refusal_back NotBelow = refl
refusal_back AskTooHigh = refl
refusal_back HasEnded = refl
refusal_back NoPlan = refl
refusal_back ShortForRun = refl

pub refusal_one : (r s : Refusal) → refusal_number r ≡ refusal_number s → r ≡ s
refusal_one r s e = sym (refusal_back r) ∙ ap refusal_at e ∙ refusal_back s

-- and none is 0
pub refusal_low : (r : Refusal) → 1 ≤ refusal_number r
refusal_low r = go (eqb (refusal_number r) 0) refl
  where
    go : (t : Bool) → eqb (refusal_number r) 0 ≡ t → 1 ≤ refusal_number r
    go true e = let h : refusal_number r ≡ 1 = ap refusal_number (sym (refusal_back r) ∙ ap refusal_at (eqb-true (refusal_number r) 0 e)) in omega arith
    go false e = let h = eqb-false (refusal_number r) 0 e in omega arith

-- and each is a byte
bytes : List Refusal → Bool
bytes [] = true
bytes (r ∷ rs) = cond (ltb (refusal_number r) 256) (bytes rs) false

byte_in : (rs : List Refusal) → bytes rs ≡ true → (k : ℕ) → refusal_number (refusal_in rs k) < 256
unfolding bytes
byte_in [] e k = omega arith
byte_in (r ∷ rs) e k = let q = both (ltb (refusal_number r) 256) _ e in go (eqb (refusal_number r) k) (ltb-true _ _ q.0) (byte_in rs q.1 k)
  where
    go : (t : Bool) → refusal_number r < 256 → refusal_number (refusal_in rs k) < 256 → refusal_number (cond t r (refusal_in rs k)) < 256
    go true l m = l
    go false l m = m

pub refusal_byte : (r : Refusal) → refusal_number r < 256
unfolding bytes
refusal_byte r = subst (λ (x : Refusal). refusal_number x < 256) (refusal_back r) (byte_in refusals refl (refusal_number r))
