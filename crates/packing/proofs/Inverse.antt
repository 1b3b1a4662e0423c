-- Packing and unpacking are inverse. Of plans: plan_again (bytes that code a plan), plan_back (every accepted plan), no_plan (bytes that
-- code none are outside the rules). Of sessions: session_again (bytes that code a session), session_back (every session whose numbers have
-- the widths of their fields: Fits), no_session_lem (bytes that code none are in no range). What is read from bytes has its width: wide_at. Times fit that are zero (fits_zero), and with one of them set (fits_set).
-- Assumes nothing.
use Prim.{Unit, tt}
use Prim.Native.Nat.{ℕ, zero, suc, ◌+◌, ◌*◌, ◌≤◌, ◌<◌, ◌^◌}
use mathlib.Core.Path.{◌≡◌, refl, sym, ap, ◌∙◌}
use mathlib.Core.Bool.{Bool, true, false, cond}
use mathlib.Core.List.{List, [], ◌∷◌, ◌++◌, append_assoc, append-nil}
use native.Mathlib.Nat.{add-zero}
use native.Mathlib.Omega.{arith}
use borrow.Author.Tests.{le-leb, leb-true, eq-eqb, eqb-true}
use lib.ListN.{length, take, drop, set, length-append, length-set}
use lib.Seq.{take_at, take_all, drop_at, drop-drop}
use lib.Dec.{leb, eqb, lit<}
use Rattle.octets.specs.Bytes.{part, num, be, Octets}
use Rattle.octets.proofs.Laws.{length_be, part_all}
use Rattle.octets.proofs.Meaning.{num_be, part_small, be_part, part_add}
use Rattle.terms.specs.Ladder.{all}
use Rattle.terms.specs.Terms.{plan_ok, counts_ok}
use Rattle.terms.specs.Stamp.{stamp_number, stamp_at}
use Rattle.terms.specs.declared.Plan.{Plan}
use Rattle.terms.specs.declared.Member.{Member}
use Rattle.terms.specs.declared.Member.TheVariants.{Repairable, NonRepair}
use Rattle.terms.specs.declared.Clients.{Clients}
use Rattle.terms.specs.declared.Clients.TheVariants.{Crash, Byzantine}
use Rattle.terms.specs.declared.Time.{Time}
use Rattle.terms.specs.declared.Timestamp.{Timestamp}
use Rattle.terms.proofs.Plans.{plan_is, small}
use Rattle.terms.proofs.Rungs.{both}
use Rattle.terms.proofs.Stamps.{Words, stamp_bytes, stamp_at_number}
use Rattle.rounds.specs.declared.Heard.{Heard}
use Rattle.rounds.specs.declared.Heard.TheVariants.{Unheard, First, Record}
use Rattle.std.proofs.Common.{Option, None, Some}
use Rattle.clock.specs.Clock.{zero_times}
use Rattle.clock.proofs.Wide.{WideTimes, wide_zeros, wide_set}
use Rattle.standing.specs.declared.Operation.{Operation}
use Rattle.standing.specs.declared.Operation.TheVariants.{Write, Read}
use Rattle.standing.specs.declared.Stage.{Stage}
use Rattle.standing.specs.declared.Stage.TheVariants.{Asking, Storing, Ended}
use Rattle.standing.specs.declared.Round.{Round}
use Rattle.session.specs.declared.Session.{Session}
use Rattle.session.specs.Opening.{no_session}
use Rattle.session.specs.Ranges.{in_range}
use Rattle.session.proofs.Openings.{none_in_range}
use Rattle.packing.specs.PlanBytes.{field, member_byte, clients_byte, member_of, clients_of, plan_bytes, plan_shaped, plan_at, plan_of}
use Rattle.packing.specs.SessionBytes.{session_length, operation_byte, stage_byte, mark_byte, bound_bytes, times_bytes, mark_bytes, round_bytes, ask_bytes, heard_bytes, session_bytes, operation_of, stage_of, heard_of, bound_shaped, bound_of, times_at, marks_shaped, marks_of, session_shaped, round_at, session_at, session_of}
use Rattle.packing.proofs.Laws.{length_marks, length_session, plan_length, session_length_lem}

-- ---- fields that follow one another
-- a number that was laid out is read back, and what follows it
pub cut : (x : List ℕ) (at n to v : ℕ) (z : List ℕ) → at + n ≡ to → drop at x ≡ be n v ++ z → v < 256 ^ n → (field x at n ≡ v) × (drop to x ≡ z)
unfolding part
cut x at n to v z k e h = (
  ap (λ (l : List ℕ). num (take n l)) e ∙ ap num (take_at (be n v) z n (length_be n v)) ∙ num_be n v h,
  ap (λ (m : ℕ). drop m x) (sym k) ∙ sym (drop-drop n at x) ∙ ap (drop n) e ∙ drop_at (be n v) z n (length_be n v),
)

-- the number that was read, laid out
field_again : (x : List ℕ) (at n k : ℕ) → at + n ≤ length x → Octets x → k ≡ field x at n → be n k ≡ part x at n
field_again x at n k h o e = ap (be n) e ∙ be_part x at n h o

-- ---- timestamps
-- each word of it has 8 bytes
pub record Wide (t : Timestamp) : Type 0 where
  pub time : t.time.0 < 256 ^ 8
  pub first : t.verifier.0 < 256 ^ 8
  pub rest : Words t.verifier

-- as is what was read from bytes
pub wide_at : (x : List ℕ) (at : ℕ) → Octets x → Wide (stamp_at x at)
unfolding stamp_at
wide_at x at o =
    record {
      time = part_small x at 8 o;
      first = part_small x (at + 8) 8 o;
      rest = record { w1 = part_small x (at + 16) 8 o; w2 = part_small x (at + 24) 8 o; w3 = part_small x (at + 32) 8 o };
    }

pub cut_stamp : (x : List ℕ) (at : ℕ) (t : Timestamp) (z : List ℕ) → drop at x ≡ be 40 (stamp_number t) ++ z → Wide t → (stamp_at x at ≡ t) × (drop (at + 40) x ≡ z)
unfolding stamp_at
cut_stamp x at t z e w =
    let v = t.verifier in
    let z4 : List ℕ = be 8 v.3 ++ z in
    let z3 : List ℕ = be 8 v.2 ++ z4 in
    let z2 : List ℕ = be 8 v.1 ++ z3 in
    let z1 : List ℕ = be 8 v.0 ++ z2 in
    let e0 : drop at x ≡ be 8 t.time.0 ++ z1 = e ∙ ap (λ (l : List ℕ). l ++ z) (stamp_bytes t w.rest w.first) ∙ simp append_assoc in
    let c0 = cut x at 8 (at + 8) t.time.0 z1 refl e0 w.time in
    let c1 = cut x (at + 8) 8 (at + 16) v.0 z2 (omega arith) c0.1 w.first in
    let c2 = cut x (at + 16) 8 (at + 24) v.1 z3 (omega arith) c1.1 w.rest.w1 in
    let c3 = cut x (at + 24) 8 (at + 32) v.2 z4 (omega arith) c2.1 w.rest.w2 in
    let c4 = cut x (at + 32) 8 (at + 40) v.3 z (omega arith) c3.1 w.rest.w3 in
    (λ i. record { time = record { 0 = c0.0 i }; verifier = record { 0 = c1.0 i; 1 = c2.0 i; 2 = c3.0 i; 3 = c4.0 i } }, c4.1)

stamp_again : (x : List ℕ) (at : ℕ) → at + 40 ≤ length x → Octets x → be 40 (stamp_number (stamp_at x at)) ≡ part x at 40
stamp_again x at h o = field_again x at 40 (stamp_number (stamp_at x at)) h o (stamp_at_number x at h)

-- ---- times
-- one for each of 16 nodes, of 8 bytes each
pub record TimesFit (ts : List Time) : Type 0 where
  pub nodes : length ts ≡ 16
  pub wide : WideTimes ts

pub fits_zero : TimesFit zero_times
fits_zero = record { nodes = refl; wide = wide_zeros }

pub fits_set : (ts : List Time) (i : ℕ) (t : Time) → t.0 < 256 ^ 8 → TimesFit ts → TimesFit (set ts i t)
fits_set ts i t h w = record { nodes = length-set ts i t ∙ w.nodes; wide = wide_set ts i t h w.wide }

-- times that were laid out are read back, and what follows them
cut_times : (x : List ℕ) (at : ℕ) (ts : List Time) (z : List ℕ) → drop at x ≡ times_bytes ts ++ z → WideTimes ts → (times_at x at (length ts) ≡ ts) × (drop (at + 8 * length ts) x ≡ z)
unfolding times_bytes times_at
cut_times x at [] z e s = (refl, rw add-zero e)
cut_times x at (t ∷ ts) z e s =
    let c = cut x at 8 (at + 8) t.0 (times_bytes ts ++ z) refl (e ∙ append_assoc (be 8 t.0) (times_bytes ts) z) s.0 in
    let r = cut_times x (at + 8) ts z c.1 s.1 in
    let k : at + 8 * suc (length ts) ≡ at + 8 + 8 * length ts = omega arith in
    (λ i. record { 0 = c.0 i } ∷ r.0 i, ap (λ (n : ℕ). drop n x) k ∙ r.1)

-- the times that were read, laid out
times_again : (x : List ℕ) (at n : ℕ) → at + 8 * n ≤ length x → Octets x → times_bytes (times_at x at n) ≡ part x at (8 * n)
unfolding times_bytes times_at part
times_again x at zero h o = refl
times_again x at (suc n) h o =
    let k : 8 * suc n ≡ 8 + 8 * n = omega arith in
    (λ i. field_again x at 8 (field x at 8) (omega arith) o refl i ++ times_again x (at + 8) n (omega arith) o i)
    ∙ sym (part_add x at 8 (8 * n)) ∙ ap (part x at) (sym k)

-- ---- cases as bytes
-- a number at most 1, at most 2
most_1 : (P : ℕ → Type 0) (k : ℕ) → k ≤ 1 → P 0 → P 1 → P k
most_1 P zero h a b = a
most_1 P (suc zero) h a b = b
most_1 P (suc (suc k)) h a b = absurd (omega arith)

most_2 : (P : ℕ → Type 0) (k : ℕ) → k ≤ 2 → P 0 → P 1 → P 2 → P k
most_2 P zero h a b d = a
most_2 P (suc zero) h a b d = b
most_2 P (suc (suc zero)) h a b d = d
most_2 P (suc (suc (suc k))) h a b d = absurd (omega arith)

member_back : (x : Member) → member_of (member_byte x) ≡ x
unfolding member_of
member_back Repairable = refl
member_back NonRepair = refl

-- a byte is small enough for its width
member_most : (x : Member) (k : ℕ) → k ≡ member_byte x → k ≤ 1
member_most Repairable k e = omega arith
member_most NonRepair k e = omega arith

member_small : (x : Member) → member_byte x < 256 ^ 1
member_small x = let h = member_most x (member_byte x) refl in omega arith

clients_most : (x : Clients) (k : ℕ) → k ≡ clients_byte x → k ≤ 1
clients_most Crash k e = omega arith
clients_most Byzantine k e = omega arith

clients_small : (x : Clients) → clients_byte x < 256 ^ 1
clients_small x = let h = clients_most x (clients_byte x) refl in omega arith

clients_back : (x : Clients) → clients_of (clients_byte x) ≡ x
unfolding clients_of
clients_back Crash = refl
clients_back Byzantine = refl

operation_back : (x : Operation) → operation_of (operation_byte x) ≡ x
unfolding operation_of
operation_back Write = refl
operation_back Read = refl

stage_back : (x : Stage) → stage_of (stage_byte x) ≡ x
unfolding stage_of
stage_back Asking = refl
stage_back Storing = refl
stage_back Ended = refl

heard_back : (x : Heard) → heard_of (mark_byte x) ≡ x
unfolding heard_of
heard_back Unheard = refl
heard_back First = refl
heard_back Record = refl

member_again : (k : ℕ) → k ≤ 1 → member_byte (member_of k) ≡ k
unfolding member_of
member_again k h = most_1 (λ k. member_byte (member_of k) ≡ k) k h refl refl

clients_again : (k : ℕ) → k ≤ 1 → clients_byte (clients_of k) ≡ k
unfolding clients_of
clients_again k h = most_1 (λ k. clients_byte (clients_of k) ≡ k) k h refl refl

operation_again : (k : ℕ) → k ≤ 1 → operation_byte (operation_of k) ≡ k
unfolding operation_of
operation_again k h = most_1 (λ k. operation_byte (operation_of k) ≡ k) k h refl refl

stage_again : (k : ℕ) → k ≤ 2 → stage_byte (stage_of k) ≡ k
unfolding stage_of
stage_again k h = most_2 (λ k. stage_byte (stage_of k) ≡ k) k h refl refl refl

heard_again : (k : ℕ) → k ≤ 2 → mark_byte (heard_of k) ≡ k
unfolding heard_of
heard_again k h = most_2 (λ k. mark_byte (heard_of k) ≡ k) k h refl refl refl

-- ---- plans
-- bytes that code a plan are those of the plan that they code
pub plan_again : (x : List ℕ) → Octets x → plan_shaped x ≡ true → plan_bytes (plan_of x) ≡ x
unfolding plan_of plan_bytes plan_at plan_shaped all
plan_again x o e =
    let l : length x ≡ 11 = plan_length x e in
    let a = both (eqb (length x) 11) _ e in
    let b = both (leb (field x 7 1) 1) _ a.1 in
    let d = both (leb (field x 8 1) 1) _ b.1 in
    let f0 = field_again x 0 1 (field x 0 1) (omega arith) o refl in
    let f1 = field_again x 1 1 (field x 1 1) (omega arith) o refl in
    let f2 = field_again x 2 1 (field x 2 1) (omega arith) o refl in
    let f3 = field_again x 3 1 (field x 3 1) (omega arith) o refl in
    let f4 = field_again x 4 1 (field x 4 1) (omega arith) o refl in
    let f5 = field_again x 5 2 (field x 5 2) (omega arith) o refl in
    let f7 = field_again x 7 1 (member_byte (member_of (field x 7 1))) (omega arith) o (member_again (field x 7 1) (leb-true _ _ b.0)) in
    let f8 = field_again x 8 1 (clients_byte (clients_of (field x 8 1))) (omega arith) o (clients_again (field x 8 1) (leb-true _ _ d.0)) in
    let f9 = field_again x 9 2 (field x 9 2) (omega arith) o refl in
    rw (e, f0, f1, f2, f3, f4, f5, f7, f8, f9, ← part_add x 8 1 2, ← part_add x 7 1 3, ← part_add x 5 2 4, ← part_add x 4 1 6, ← part_add x 3 1 7, ← part_add x 2 1 8, ← part_add x 1 1 9, ← part_add x 0 1 10)
    (ap (part x 0) (sym l) ∙ part_all x)

-- bytes that code none are outside the rules
pub no_plan : (x : List ℕ) → plan_shaped x ≡ false → plan_ok (plan_of x) ≡ false
unfolding plan_of plan_ok counts_ok all
no_plan x e = rw e

-- every accepted plan is coded by its bytes
pub plan_back : (p : Plan) → plan_ok p ≡ true → plan_of (plan_bytes p) ≡ p
unfolding plan_of plan_at plan_shaped all plan_bytes
plan_back p ok =
    let q = plan_is p ok in
    let s = small p ok in
    let x = plan_bytes p in
    let z8 : List ℕ = be 2 p.w in
    let z7 : List ℕ = be 1 (clients_byte p.clients) ++ z8 in
    let z6 : List ℕ = be 1 (member_byte p.member) ++ z7 in
    let z5 : List ℕ = be 2 p.f ++ z6 in
    let z4 : List ℕ = be 1 p.m ++ z5 in
    let z3 : List ℕ = be 1 p.q ++ z4 in
    let z2 : List ℕ = be 1 p.b ++ z3 in
    let z1 : List ℕ = be 1 p.t ++ z2 in
    let c0 = cut x 0 1 1 p.n z1 refl refl (omega arith) in
    let c1 = cut x 1 1 2 p.t z2 refl c0.1 (omega arith) in
    let c2 = cut x 2 1 3 p.b z3 refl c1.1 (omega arith) in
    let c3 = cut x 3 1 4 p.q z4 refl c2.1 (omega arith) in
    let c4 = cut x 4 1 5 p.m z5 refl c3.1 (omega arith) in
    let c5 = cut x 5 2 7 p.f z6 refl c4.1 (omega arith) in
    let c7 = cut x 7 1 8 (member_byte p.member) z7 refl c5.1 (member_small p.member) in
    let c8 = cut x 8 1 9 (clients_byte p.clients) z8 refl c7.1 (clients_small p.clients) in
    let c9 = cut x 9 2 11 p.w [] refl (c8.1 ∙ sym (append-nil z8)) (omega arith) in
    let l : length x ≡ 11 = simp (length-append, length_be) in
    let member = ap member_of c7.0 ∙ member_back p.member in
    let clients = ap clients_of c8.0 ∙ clients_back p.clients in
    let mh : field x 7 1 ≤ 1 = member_most p.member (field x 7 1) c7.0 in
    let ch : field x 8 1 ≤ 1 = clients_most p.clients (field x 8 1) c8.0 in
    rw (eq-eqb (length x) 11 l, le-leb (field x 7 1) 1 mh, le-leb (field x 8 1) 1 ch)
    (λ i. record { n = c0.0 i; t = c1.0 i; b = c2.0 i; q = c3.0 i; m = c4.0 i; f = c5.0 i; member = member i; clients = clients i; w = c9.0 i })

-- ---- sessions
abbrev pub WideBound : Option Timestamp → Type 0
WideBound None = Unit {0}
WideBound (Some u) = Wide u

-- a session whose numbers have the widths of their fields
pub record Fits (s : Session) : Type 0 where
  pub round : s.round.number < 256 ^ 2
  pub bound : WideBound s.round.bound
  pub opening : s.opening.0 < 256 ^ 8
  pub times : TimesFit s.times
  pub stamp : Wide s.stamp
  pub marks : length s.marks ≡ 16

-- the bound read back, and what follows it
pub record BoundBack (x : List ℕ) (b : Option Timestamp) (z : List ℕ) : Type 0 where
  pub shaped : bound_shaped (field x 4 1) (field x 5 40) ≡ true
  pub is : bound_of (field x 4 1) (stamp_at x 5) ≡ b
  pub rest : drop 45 x ≡ z

cut_bound : (x : List ℕ) (b : Option Timestamp) (z : List ℕ) → drop 4 x ≡ bound_bytes b ++ z → WideBound b → BoundBack x b z
unfolding bound_bytes bound_shaped bound_of
cut_bound x None z e w =
    let c0 = cut x 4 1 5 0 (be 40 0 ++ z) refl (e ∙ append_assoc (be 1 0) (be 40 0) z) (omega arith) in
    let c1 = cut x 5 40 45 0 z refl c0.1 (lit< tt) in
    record { shaped = rw (c0.0, c1.0); is = rw c0.0; rest = c1.1 }
cut_bound x (Some u) z e w =
    let c0 = cut x 4 1 5 1 (be 40 (stamp_number u) ++ z) refl (e ∙ append_assoc (be 1 1) (be 40 (stamp_number u)) z) (omega arith) in
    let c1 = cut_stamp x 5 u z c0.1 w in
    record { shaped = rw c0.0; is = rw (c0.0, c1.0); rest = c1.1 }

bound_again : (x : List ℕ) → 45 ≤ length x → Octets x → bound_shaped (field x 4 1) (field x 5 40) ≡ true
    → bound_bytes (bound_of (field x 4 1) (stamp_at x 5)) ≡ part x 4 41
unfolding bound_bytes bound_shaped bound_of
bound_again x h o e = go (eqb (field x 4 1) 0) refl
  where
    halves : part x 4 1 ++ part x 5 40 ≡ part x 4 41
    halves = sym (part_add x 4 1 40)

    go : (t : Bool) → eqb (field x 4 1) 0 ≡ t → bound_bytes (cond t None (Some (stamp_at x 5))) ≡ part x 4 41
    go true f =
        let k : field x 4 1 ≡ 0 = eqb-true (field x 4 1) 0 f in
        let u : eqb (field x 5 40) 0 ≡ true = rw k at e in
        let v : field x 5 40 ≡ 0 = eqb-true (field x 5 40) 0 u in
        (λ i. field_again x 4 1 0 (omega arith) o (sym k) i ++ field_again x 5 40 0 h o (sym v) i) ∙ halves
    go false f =
        let u = both (eqb (field x 4 1) 1) true (rw f at e) in
        let k : field x 4 1 ≡ 1 = eqb-true (field x 4 1) 1 u.0 in
        (λ i. field_again x 4 1 1 (omega arith) o (sym k) i ++ stamp_again x 5 h o i) ∙ halves

marks_back : (ms : List Heard) → marks_of (mark_bytes ms) ≡ ms
unfolding marks_of mark_bytes
marks_back [] = refl
marks_back (m ∷ ms) = λ i. heard_back m i ∷ marks_back ms i

mark_most : (h : Heard) → leb (mark_byte h) 2 ≡ true
mark_most Unheard = refl
mark_most First = refl
mark_most Record = refl

marks_shape : (ms : List Heard) → marks_shaped (mark_bytes ms) ≡ true
unfolding marks_shaped mark_bytes
marks_shape [] = refl
marks_shape (m ∷ ms) = rw (mark_most m) (marks_shape ms)

marks_again : (l : List ℕ) → marks_shaped l ≡ true → mark_bytes (marks_of l) ≡ l
unfolding marks_shaped mark_bytes marks_of
marks_again [] e = refl
marks_again (x ∷ l) e =
    let q = both (leb x 2) (marks_shaped l) e in
    λ i. heard_again x (leb-true x 2 q.0) i ∷ marks_again l q.1 i

operation_most : (x : Operation) → leb (operation_byte x) 1 ≡ true
operation_most Write = refl
operation_most Read = refl

stage_most : (x : Stage) → leb (stage_byte x) 2 ≡ true
stage_most Asking = refl
stage_most Storing = refl
stage_most Ended = refl

-- bytes that code a session are those of the session that they code
pub session_again : (x : List ℕ) → Octets x → session_shaped x ≡ true → session_bytes (session_of x) ≡ x
unfolding session_of session_bytes ask_bytes heard_bytes round_bytes session_at round_at session_shaped all
session_again x o e =
    let l : length x ≡ session_length = session_length_lem x e in
    let a = both (eqb (length x) session_length) _ e in
    let b = both (leb (field x 0 1) 1) _ a.1 in
    let c = both (leb (field x 1 1) 2) _ b.1 in
    let d = both (bound_shaped (field x 4 1) (field x 5 40)) _ c.1 in
    let g = both (marks_shaped (part x 221 16)) _ d.1 in
    let f0 = field_again x 0 1 (operation_byte (operation_of (field x 0 1))) (omega arith) o (operation_again (field x 0 1) (leb-true _ _ b.0)) in
    let f1 = field_again x 1 1 (stage_byte (stage_of (field x 1 1))) (omega arith) o (stage_again (field x 1 1) (leb-true _ _ c.0)) in
    let f2 = field_again x 2 2 (field x 2 2) (omega arith) o refl in
    let f4 = bound_again x (omega arith) o d.0 in
    let f45 = field_again x 45 8 (field x 45 8) (omega arith) o refl in
    let f53 : times_bytes (times_at x 53 16) ≡ part x 53 128 = times_again x 53 16 (omega arith) o in
    let f181 = stamp_again x 181 (omega arith) o in
    let f221 = marks_again (part x 221 16) g.0 in
    rw (e, f0, f1, f2, f4, f45, f53, f181, f221, ← part_add x 2 2 41, ← part_add x 1 1 43, ← part_add x 1 44 8, ← part_add x 0 1 52, ← part_add x 181 40 16, ← part_add x 53 128 56, ← part_add x 0 53 184)
    (ap (part x 0) (sym l) ∙ part_all x)

-- the round read back, and what follows it
record RoundBack (x : List ℕ) (r : Round) (z : List ℕ) : Type 0 where
  stage : leb (field x 1 1) 2 ≡ true
  bound : bound_shaped (field x 4 1) (field x 5 40) ≡ true
  is : round_at x ≡ r
  rest : drop 45 x ≡ z

cut_round : (x : List ℕ) (r : Round) (z : List ℕ) → drop 1 x ≡ round_bytes r ++ z → r.number < 256 ^ 2 → WideBound r.bound → RoundBack x r z
unfolding round_bytes round_at
cut_round x r z e h w =
    let z3 : List ℕ = bound_bytes r.bound ++ z in
    let z2 : List ℕ = be 2 r.number ++ z3 in
    let hs : stage_byte r.stage ≤ 2 = leb-true _ _ (stage_most r.stage) in
    let apart : (be 1 (stage_byte r.stage) ++ (be 2 r.number ++ bound_bytes r.bound)) ++ z ≡ be 1 (stage_byte r.stage) ++ z2 = simp append_assoc in
    let c1 = cut x 1 1 2 (stage_byte r.stage) z2 refl (e ∙ apart) (omega arith) in
    let c2 = cut x 2 2 4 r.number z3 refl c1.1 h in
    let c3 = cut_bound x r.bound z c2.1 w in
    let stage = ap stage_of c1.0 ∙ stage_back r.stage in
    record {
      stage = ap (λ (k : ℕ). leb k 2) c1.0 ∙ stage_most r.stage;
      bound = c3.shaped;
      is = λ i. record { stage = stage i; number = c2.0 i; bound = c3.is i };
      rest = c3.rest;
    }

-- a session whose numbers have the widths of their fields is coded by its bytes
pub session_back : (s : Session) → Fits s → session_of (session_bytes s) ≡ s
unfolding session_of session_at session_shaped all session_bytes ask_bytes heard_bytes part
session_back s w =
    let x = session_bytes s in
    let z4 : List ℕ = mark_bytes s.marks in
    let z3 : List ℕ = be 40 (stamp_number s.stamp) ++ z4 in
    let z2 : List ℕ = times_bytes s.times ++ z3 in
    let z1 : List ℕ = be 8 s.opening.0 ++ z2 in
    let z0 : List ℕ = round_bytes s.round ++ z1 in
    let ho : operation_byte s.operation ≤ 1 = leb-true _ _ (operation_most s.operation) in
    let apart : (be 1 (operation_byte s.operation) ++ (round_bytes s.round ++ be 8 s.opening.0)) ++ z2 ≡ be 1 (operation_byte s.operation) ++ z0 = simp append_assoc in
    let c0 = cut x 0 1 1 (operation_byte s.operation) z0 refl apart (omega arith) in
    let c1 = cut_round x s.round z1 c0.1 w.round w.bound in
    let c2 = cut x 45 8 53 s.opening.0 z2 refl c1.rest w.opening in
    let c3 = cut_times x 53 s.times z3 c2.1 w.times.wide in
    let times = ap (times_at x 53) (sym w.times.nodes) ∙ c3.0 in
    let rest : drop 181 x ≡ z3 = ap (λ (n : ℕ). drop (53 + 8 * n) x) (sym w.times.nodes) ∙ c3.1 in
    let c4 = cut_stamp x 181 s.stamp z4 rest w.stamp in
    let marks_at : take 16 (drop 221 x) ≡ z4 = ap (take 16) c4.1 ∙ take_all 16 z4 (omega (arith, length_marks s.marks, w.marks)) in
    let operation = ap operation_of c0.0 ∙ operation_back s.operation in
    let marks = ap marks_of marks_at ∙ marks_back s.marks in
    let shaped0 = ap (λ (k : ℕ). leb k 1) c0.0 ∙ operation_most s.operation in
    let shaped4 = ap marks_shaped marks_at ∙ marks_shape s.marks in
    rw (eq-eqb (length x) session_length (length_session s w.times.nodes w.marks), shaped0, c1.stage, c1.bound, shaped4)
    (λ i. record { operation = operation i; round = c1.is i; opening = record { 0 = c2.0 i }; times = times i; stamp = c4.0 i; marks = marks i })

-- bytes that code no session are in no range
pub no_session_lem : (p : Plan) (x d : List ℕ) → session_shaped x ≡ false → in_range p (session_of x) d ≡ false
unfolding session_of
no_session_lem p x d e = ap (λ (t : Bool). in_range p (cond t (session_at x) (no_session Read)) d) e ∙ none_in_range Read p d
