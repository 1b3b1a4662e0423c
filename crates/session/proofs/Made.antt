-- What it takes to be in range: the rules of refusal 9 as plain facts, what they come to of marks that are all unheard or of which one is
-- set, and of sessions that follow one in its ranges. Kept.antt has the calls. Assumes nothing.
use Prim.Native.Nat.{ℕ, zero, suc, ◌≤◌, ◌<◌}
use mathlib.Core.Path.{◌≡◌, refl, sym, ap}
use mathlib.Core.Bool.{Bool, true, false, not}
use mathlib.Core.List.{List, [], ◌∷◌}
use native.Mathlib.Omega.{arith}
use borrow.Author.Tests.{le-leb, lt-ltb}
use lib.Dec.{leb, ltb}
use lib.ListN.{get_or, set, drop, replicate}
use lib.Seq.{drop-set-lt}
use Rattle.terms.specs.Ladder.{all, ◌and◌, ◌or◌}
use Rattle.terms.specs.Terms.{plan_ok, slots_of}
use Rattle.terms.specs.declared.Plan.{Plan}
use Rattle.terms.specs.declared.Timestamp.{Timestamp}
use Rattle.terms.proofs.Facts.{facts}
use Rattle.terms.proofs.Rungs.{both}
use Rattle.terms.specs.declared.Slots.{Slots}
use Rattle.std.proofs.Common.{Option}
use Rattle.rounds.specs.declared.Heard.{Heard}
use Rattle.rounds.specs.declared.Heard.TheVariants.{Record}
use Rattle.rounds.specs.Rounds.{heard_count, unheard, unheards, every, is_unheard, is_not_first, rest_unheard, none_first, slot_fits, slots_fit}
use Rattle.session.specs.declared.Session.{Session}
use Rattle.standing.specs.Standing.{is_read, is_storing, is_ended, replies}
use Rattle.session.specs.Session.{read_round, ended_of, storing_of, round_open}
use Rattle.session.specs.Ranges.{standing_rules, open_rules, in_range}
use Rattle.standing.proofs.Rules.{holds, last}
use Rattle.session.proofs.Rules.{StandingIs, standing_facts, standing_back}

-- ---- the rules of refusal 9 that an open session meets, as plain facts
pub record OpenIs (p : Plan) (s : Session) (d : List ℕ) : Type 0 where
  pub stamped : (not (is_storing s.round.stage) or leb 1 s.stamp.time.0) ≡ true
  pub firsts : (read_round s or none_first s.marks) ≡ true
  pub few : round_open p s ≡ true
  pub slots : (not (read_round s) or slots_fit s.marks d (slots_of p) s.round.bound p.n) ≡ true

pub open_facts : (p : Plan) (s : Session) (d : List ℕ) → open_rules p s d ≡ true → OpenIs p s d
unfolding open_rules all
open_facts p s d e =
    let e1 = both (not (is_storing s.round.stage) or leb 1 s.stamp.time.0) _ e in
    let e2 = both (read_round s or none_first s.marks) _ e1.1 in
    let e3 = both (round_open p s) _ e2.1 in
    let e4 = both (not (read_round s) or slots_fit s.marks d (slots_of p) s.round.bound p.n) _ e3.1 in
    record { stamped = e1.0; firsts = e2.0; few = e3.0; slots = e4.0 }

module _ (p : Plan) (s : Session) where
  open_back : (d : List ℕ) → OpenIs p s d → open_rules p s d ≡ true
  unfolding open_rules
  open_back d q = sym (holds _ q.stamped (holds _ q.firsts (holds _ q.few (last (sym q.slots)))))

  pub ended_in_range : (d : List ℕ) → StandingIs p s → is_ended s.round.stage ≡ true → in_range p s d ≡ true
  unfolding in_range
  ended_in_range d q e = rw (standing_back p s q, e)

  pub open_in_range : (d : List ℕ) → StandingIs p s → OpenIs p s d → in_range p s d ≡ true
  unfolding in_range
  open_in_range d q o = rw (standing_back p s q, open_back d o) (go (is_ended s.round.stage))
    where
      go : (t : Bool) → (t or true) ≡ true
      go true = refl
      go false = refl

  -- a session in its ranges, and open
  pub in_range_facts : (d : List ℕ) → in_range p s d ≡ true → is_ended s.round.stage ≡ false → StandingIs p s × OpenIs p s d
  unfolding in_range
  in_range_facts d e f =
      let q = both (standing_rules p s) (is_ended s.round.stage or open_rules p s d) e in
      (standing_facts p s q.0, open_facts p s d (rw f at q.1))

-- ---- marks
every_same : (t : Heard → Bool) (m : Heard) (k n : ℕ) → t m ≡ true → every t (drop n (replicate k m)) ≡ true
unfolding every
every_same t m zero zero e = refl
every_same t m zero (suc n) e = refl
every_same t m (suc k) zero e = rw e (every_same t m k 0 e)
every_same t m (suc k) (suc n) e = every_same t m k n e

mark_same : (m : Heard) (k i : ℕ) → get_or (replicate k m) i m ≡ m
mark_same m zero i = refl
mark_same m (suc k) zero = refl
mark_same m (suc k) (suc i) = mark_same m k i

every_set : (t : Heard → Bool) (ms : List Heard) (i : ℕ) (m : Heard) → t m ≡ true → every t ms ≡ true → every t (set ms i m) ≡ true
unfolding every
every_set t [] i m e f = refl
every_set t (x ∷ ms) zero m e f = rw e (both (t x) (every t ms) f).1
every_set t (x ∷ ms) (suc i) m e f = let q = both (t x) (every t ms) f in rw q.0 (every_set t ms i m e q.1)

pub rest_unheards : (n : ℕ) → rest_unheard unheards n ≡ true
rest_unheards n = every_same is_unheard unheard 16 n refl

pub none_unheards : none_first unheards ≡ true
none_unheards = every_same is_not_first unheard 16 0 refl

pub few_unheards : (p : Plan) → plan_ok p ≡ true → ltb (heard_count unheards) (replies p) ≡ true
unfolding heard_count
few_unheards p e = let g = facts p e in lt-ltb 0 (replies p) (omega arith)

pub slots_unheards : (d : List ℕ) (slots : Slots) (b : Option Timestamp) (n : ℕ) → slots_fit unheards d slots b n ≡ true
unfolding slots_fit slot_fits
slots_unheards d slots b zero = refl
slots_unheards d slots b (suc n) = rw (slots_unheards d slots b n, mark_same unheard 16 n)

pub rest_set : (ms : List Heard) (n i : ℕ) (m : Heard) → i < n → rest_unheard (set ms i m) n ≡ rest_unheard ms n
rest_set ms n i m h = ap (every is_unheard) (drop-set-lt n ms i m h)

pub none_set : (ms : List Heard) (i : ℕ) → none_first ms ≡ true → none_first (set ms i Record) ≡ true
none_set ms i e = every_set is_not_first ms i Record refl e

-- ---- what follows a session in its ranges
pub end_stands : (p : Plan) (s : Session) → StandingIs p s → StandingIs p (ended_of s)
end_stands p s q = record { low = q.low; high = q.high; counted = q.counted; bounded = q.bounded; rest = q.rest; opening = q.opening }

-- a write or repair round that opens
pub storing_in_range : (p : Plan) (s : Session) (t : Timestamp) (d : List ℕ) → plan_ok p ≡ true → StandingIs p s → 1 ≤ t.time.0
    → in_range p (storing_of s t) d ≡ true
storing_in_range p s t d k q h =
    open_in_range p (storing_of s t) d
    (record { low = q.low; high = q.high; counted = q.counted; bounded = q.bounded; rest = rest_unheards p.n; opening = q.opening })
    (record { stamped = le-leb 1 t.time.0 h; firsts = side (is_read s.operation); few = few_unheards p k; slots = other (is_read s.operation) })
  where
    side : (b : Bool) → ((b and false) or none_first unheards) ≡ true
    side true = none_unheards
    side false = none_unheards

    other : (b : Bool) → (not (b and false) or slots_fit unheards d (slots_of p) s.round.bound p.n) ≡ true
    other true = refl
    other false = refl
