-- Laws of the opening: its answer's number tells the answer; an accepted opening is in its ranges with any desk, and a refused one's
-- session with none. Assumes nothing.
use Rattle.terms.specs.declared.Refusal.{Refusal}
use Prim.{Unit, tt}
use Rattle.std.specs.Prelude.{Result, Ok, Err}
use Prim.Native.Nat.{ℕ, ◌+◌}
use mathlib.Core.Path.{◌≡◌, refl, sym, ap, ◌∙◌}
use mathlib.Core.Bool.{Bool, true, false, not}
use mathlib.Core.List.{List}
use native.Mathlib.Omega.{arith}
use borrow.Author.Tests.{leb-true, not-false}
use Rattle.terms.specs.Ladder.{first, rung, all, ◌and◌, ◌or◌}
use Rattle.terms.specs.Terms.{plan_ok, opening_ok, slots_of}
use Rattle.terms.specs.declared.Ask.{Ask}
use Rattle.terms.specs.declared.Plan.{Plan}
use Rattle.terms.proofs.Plans.{plan_is}
use Rattle.terms.proofs.Rungs.{refusal_one, refusal_low}
use Rattle.terms.proofs.Down.{clear}
use Rattle.terms.specs.Stamp.{top}
use Rattle.std.proofs.Common.{None}
use Rattle.standing.specs.declared.Operation.{Operation}
use Rattle.standing.specs.declared.Operation.TheVariants.{Write, Read}
use Rattle.session.specs.declared.opening.Opened.{Opened}
use Rattle.rounds.specs.Rounds.{unheards, none_first}
use Rattle.standing.specs.Standing.{is_read, round_rules}
use Rattle.session.specs.Ranges.{standing_rules, in_range}
use Rattle.session.specs.Opening.{opening_ladder, fresh_of, opening_number, opens, Opens, no_session, open_with, OpenCall}
use Rattle.session.proofs.Checks.{first_map, none_applies, goes_on}
use Rattle.session.proofs.Made.{rest_unheards, none_unheards, few_unheards, slots_unheards, open_in_range}

-- the number tells the answer
pub opening_one : (x y : Result (Unit {0}) Refusal) → opening_number x ≡ opening_number y → x ≡ y
opening_one (Err r) (Err q) e = ap Err (refusal_one r q e)
opening_one (Err r) (Ok u) e = absurd (omega (arith, refusal_low r))
opening_one (Ok u) (Err r) e = absurd (omega (arith, refusal_low r))
opening_one (Ok u) (Ok v) e = refl

-- round 0 is in no range: every call that comes to its ranges refuses it 9
pub none_in_range : (op : Operation) (p : Plan) (d : List ℕ) → in_range p (no_session op) d ≡ false
unfolding in_range standing_rules round_rules all
none_in_range op p d = refl

counted : (op : Operation) → (is_read op or true) ≡ true
counted Write = refl
counted Read = refl

firsts : (op : Operation) → ((is_read op and true) or none_first unheards) ≡ true
firsts Write = none_unheards
firsts Read = refl

slots : (op : Operation) (x : Bool) → x ≡ true → (not (is_read op and true) or x) ≡ true
slots Write x e = refl
slots Read x e = e

fresh_in_range : (op : Operation) (p : Plan) (a : Ask) (d : List ℕ) → plan_ok p ≡ true → opening_ok p a.0 ≡ true → in_range p (fresh_of op 1 None a) d ≡ true
fresh_in_range op p a d k o =
    let q = plan_is p k in
    open_in_range p (fresh_of op 1 None a) d
    (record { low = omega arith; high = q.w_low; counted = counted op; bounded = refl; rest = rest_unheards p.n; opening = leb-true (a.0 + p.w) top o })
    (record { stamped = refl; firsts = firsts op; few = few_unheards p k; slots = slots op _ (slots_unheards d (slots_of p) None p.n) })

module _ (op : Operation) (p : Plan) (a : Ask) (r : Opened) (call : OpenCall op p a r) where
  number_is : opening_number r.answer ≡ first (opening_ladder p a.0) (λ (k : ℕ). k) 0
  unfolding open_with
  number_is =
      ap (λ (o : Opens). o.number) call.is
      ∙ first_map (λ (o : Opens). o.number) (opening_ladder p a.0) (λ (k : ℕ). opens k (no_session op)) (opens 0 (fresh_of op 1 None a))

  module _ (e : r.answer ≡ (Ok tt)) where
    nothing_refuses : first (opening_ladder p a.0) (λ (k : ℕ). k) 0 ≡ 0
    nothing_refuses = sym number_is ∙ ap opening_number e

    pub accepted_session : r.session ≡ fresh_of op 1 None a
    unfolding open_with
    accepted_session =
        ap (λ (o : Opens). o.session)
        (call.is ∙ sym (goes_on (λ (k : ℕ). opens k (no_session op)) (opens 0 (fresh_of op 1 None a)) (opening_ladder p a.0) refl nothing_refuses))

    past : (k : ℕ) → rung k (opening_ladder p a.0) ≡ false
    past = clear (opening_ladder p a.0) (none_applies (opening_ladder p a.0) refl nothing_refuses)

    pub accepted_plan : plan_ok p ≡ true
    accepted_plan = not-false (plan_ok p) (past 1)

    -- it is in its ranges, with any desk
    pub accepted_in_range : (d : List ℕ) → in_range p r.session d ≡ true
    accepted_in_range d = rw accepted_session (fresh_in_range op p a d accepted_plan (not-false (opening_ok p a.0) (past 13)))
