-- How code goes down a list of rules, and what the rules on a round and on lengths say where they hold. Assumes nothing.
use mathlib.Core.Path.{◌≡◌, sym, ◌∙◌}
use mathlib.Core.Bool.{Bool, true, false}
use mathlib.Core.List.{List, [], ◌∷◌}
use Prim.Native.Nat.{ℕ, ◌*◌, ◌≤◌}
use native.Mathlib.Nat.{le_trans, mul-le-mul_right, mul-le-mul_left}
use native.Mathlib.Omega.{arith}
use borrow.Author.Tests.{leb-true, le-leb, eqb-true}
use lib.Dec.{leb, eqb}
use Rattle.terms.specs.Ladder.{all, ◌and◌, ◌or◌}
use Rattle.terms.specs.Terms.{record_length}
use Rattle.terms.specs.declared.Plan.{Plan}
use Rattle.terms.proofs.Rungs.{both}
use Rattle.terms.proofs.Picks.{itself}
use Rattle.frame.specs.Frame.{longest}
use Rattle.standing.specs.declared.Operation.{Operation}
use Rattle.standing.specs.declared.Round.{Round}
use Rattle.standing.specs.Standing.{is_read, bound_ok, round_rules, lengths_ok, room_ok}

-- a rule that fails; one that holds; the last
pub fails : {b : Bool} (xs : List Bool) → b ≡ false → false ≡ all (b ∷ xs)
unfolding all
fails xs e = rw e

pub holds : {b : Bool} (xs : List Bool) {z : Bool} → b ≡ true → z ≡ all xs → z ≡ all (b ∷ xs)
unfolding all
holds xs e p = rw e p

pub last : {b z : Bool} → z ≡ b → z ≡ all (b ∷ [])
unfolding all
last {b} e = e ∙ itself b

-- one condition and another, tested one after the other
pub and_fails : {a : Bool} (b : Bool) → a ≡ false → false ≡ (a and b)
and_fails b e = rw e

pub and_last : {a b z : Bool} → a ≡ true → z ≡ b → z ≡ (a and b)
and_last e p = rw e p

pub and_second : (a b : Bool) → (a and b) ≡ true → b ≡ true
and_second a b e = (both a b e).1

pub or_holds : {a : Bool} (b : Bool) → a ≡ true → true ≡ (a or b)
or_holds b e = rw e

pub or_last : {a b z : Bool} → a ≡ false → z ≡ b → z ≡ (a or b)
or_last e p = rw e p

-- a product of two bounded numbers
pub product_low : (a b x y : ℕ) → a ≤ x → b ≤ y → a * b ≤ x * y
product_low a b x y h k = le_trans (mul-le-mul_right b h) (mul-le-mul_left x k)

-- ---- the rules of refusal 9 on a round, as plain facts
pub record RoundIs (w : ℕ) (o : Operation) (r : Round) : Type 0 where
  pub low : 1 ≤ r.number
  pub high : r.number ≤ w
  pub counted : (is_read o or eqb r.number 1) ≡ true
  pub bounded : bound_ok r.bound r.number ≡ true

pub round_facts : (w : ℕ) (o : Operation) (r : Round) → round_rules w o r ≡ true → RoundIs w o r
unfolding round_rules all
round_facts w o r e =
    let e1 = both (leb 1 r.number) _ e in
    let e2 = both (leb r.number w) _ e1.1 in
    let e3 = both (is_read o or eqb r.number 1) _ e2.1 in
    let e4 = both (bound_ok r.bound r.number) _ e3.1 in
    record { low = leb-true _ _ e1.0; high = leb-true _ _ e2.0; counted = e3.0; bounded = e4.0 }

pub round_back : (w : ℕ) (o : Operation) (r : Round) → RoundIs w o r → round_rules w o r ≡ true
unfolding round_rules
round_back w o r q =
    sym (holds _ (le-leb 1 r.number q.low) (holds _ (le-leb r.number w q.high) (holds _ q.counted (last (sym q.bounded)))))

-- ---- lengths
pub record Lengths (p : Plan) (desk item : ℕ) : Type 0 where
  pub desk_is : desk ≡ p.n * record_length p
  pub item_is : item ≡ p.m * p.f

pub lengths_are : (p : Plan) (desk item : ℕ) → lengths_ok p desk item ≡ true → Lengths p desk item
unfolding lengths_ok
lengths_are p desk item e =
    let q = both (eqb desk (p.n * record_length p)) _ e in
    record { desk_is = eqb-true _ _ q.0; item_is = eqb-true _ _ q.1 }

pub desk_fits : (p : Plan) (desk item : ℕ) → lengths_ok p desk item ≡ true → desk ≡ p.n * record_length p
desk_fits p desk item e = (lengths_are p desk item e).desk_is

pub record Room (p : Plan) (desk request : ℕ) : Type 0 where
  pub desk_is : desk ≡ p.n * record_length p
  pub request_low : longest 1 p ≤ request

pub room_is : (p : Plan) (desk request : ℕ) → room_ok p desk request ≡ true → Room p desk request
unfolding room_ok
room_is p desk request e =
    let q = both (eqb desk (p.n * record_length p)) _ e in
    record { desk_is = eqb-true _ _ q.0; request_low = leb-true _ _ q.1 }

-- a record has a timestamp
pub record_long : (p : Plan) → 40 ≤ record_length p
unfolding record_length
record_long p = omega arith
