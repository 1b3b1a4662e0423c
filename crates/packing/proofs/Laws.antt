-- Laws of a plan and a session as bytes, for the functions that read and write them. Assumes nothing.
use Prim.Native.Nat.{ℕ, zero, suc, ◌+◌, ◌*◌, ◌≤◌, ◌<◌}
use mathlib.Core.Path.{◌≡◌, refl, sym, ap, ◌∙◌}
use mathlib.Core.Bool.{Bool, true, false, cond, ◌&&◌}
use Rattle.std.specs.List.{list_all}
use mathlib.Core.List.{List, [], ◌∷◌, ◌++◌, append_assoc, append-nil}
use native.Mathlib.Numerals.{add-one}
use native.Mathlib.Omega.{arith}
use borrow.Author.Tests.{eq-eqb, ne_eqb, eqb-true}
use lib.ListN.{length, get_or, take, set, length-append}
use lib.Seq.{take-suc, take_all, take-suc-set, length-take-le}
use lib.Dec.{eqb, leb}
use Rattle.octets.specs.Bytes.{put, be}
use Rattle.octets.proofs.Laws.{length_be, put_snoc, put_nil, put_then}
use Rattle.octets.proofs.Meaning.{over_start, over_whole}
use Rattle.terms.specs.Ladder.{all}
use Rattle.terms.specs.Stamp.{stamp_number, stamp_at, zero_stamp}
use Rattle.terms.specs.declared.Time.{Time}
use Rattle.terms.specs.declared.Timestamp.{Timestamp}
use Rattle.terms.proofs.Rungs.{both}
use Rattle.terms.proofs.Stamps.{stamp_at_number, zero_number}
use Rattle.std.proofs.Common.{Option, None, Some}
use Rattle.std.specs.Prelude.{is_some, unwrap_or}
use Rattle.rounds.specs.declared.Heard.{Heard}
use Rattle.standing.specs.declared.Round.{Round}
use Rattle.session.specs.declared.Session.{Session}
use Rattle.standing.proofs.Rules.{or_last, and_last}
use Rattle.session.specs.Opening.{no_session}
use Rattle.standing.specs.declared.Operation.TheVariants.{Read}
use Rattle.packing.specs.PlanBytes.{field, plan_shaped, no_plan, plan_of}
use Rattle.packing.specs.SessionBytes.{session_length, operation_byte, stage_byte, mark_byte, bound_bytes, times_bytes, mark_bytes, round_bytes, ask_bytes, heard_bytes, session_bytes, heard_of, bound_shaped, marks_shaped, marks_of, times_at, session_shaped, session_of}

-- ---- a case by its number
module _ {A : Type 0} (k c : ℕ) (x y : A) where
  pub picks : k ≡ c → x ≡ cond (eqb k c) x y
  picks e = rw (eq-eqb k c e)

  pub passes : {z : A} → (k ≡ c → ⊥) → z ≡ y → z ≡ cond (eqb k c) x y
  passes h e = rw (ne_eqb k c h) e

-- ---- lengths that the shapes give
pub plan_length : (x : List ℕ) → plan_shaped x ≡ true → length x ≡ 11
unfolding plan_shaped all
plan_length x e = eqb-true _ _ (both (eqb (length x) 11) _ e).0

pub session_length_lem : (x : List ℕ) → session_shaped x ≡ true → length x ≡ session_length
unfolding session_shaped all
session_length_lem x e = eqb-true _ _ (both (eqb (length x) session_length) _ e).0

-- bytes that code no session or no plan, of their length or not
pub no_plan_coded : (x : List ℕ) → plan_shaped x ≡ false → no_plan ≡ plan_of x
unfolding plan_of
no_plan_coded x f = rw f

pub no_plan_long : (x : List ℕ) → (length x ≡ 11 → ⊥) → plan_shaped x ≡ false
unfolding plan_shaped all
no_plan_long x h = rw (ne_eqb (length x) 11 h)

pub no_code : (x : List ℕ) (s : Session) → s ≡ no_session Read → session_shaped x ≡ false → s ≡ session_of x
unfolding session_of
no_code x s e f = rw f e

pub not_long : (x : List ℕ) → (length x ≡ session_length → ⊥) → session_shaped x ≡ false
unfolding session_shaped all
not_long x h = rw (ne_eqb (length x) session_length h)

-- ---- the bound's shape, where it is 0
pub bound_zero : (k u : ℕ) → k ≡ 0 → {z : Bool} → z ≡ eqb u 0 → z ≡ bound_shaped k u
unfolding bound_shaped
bound_zero k u e f = or_last (ne_eqb k 1 (λ g. omega arith)) (and_last (eq-eqb k 0 e) f)

-- forty zeros, tested as a timestamp
pub zeros_tested : (x : List ℕ) (t z : Timestamp) {r : Bool} → 45 ≤ length x → t ≡ stamp_at x 5 → z ≡ zero_stamp → r ≡ eqb (stamp_number t) (stamp_number z)
    → r ≡ eqb (field x 5 40) 0
zeros_tested x t z h e f g =
    g ∙ (λ i. eqb (stamp_number (e i)) (stamp_number (f i))) ∙ (λ i. eqb (stamp_at_number x 5 h i) (zero_number i))

-- ---- marks
pub shaped_is : (l : List ℕ) → list_all (λ (k : ℕ). leb k 2) l ≡ marks_shaped l
unfolding marks_shaped
shaped_is [] = refl
shaped_is (x ∷ l) = elim (leb x 2) as (λ (b : Bool). (b && list_all (λ (k : ℕ). leb k 2) l) ≡ cond b (marks_shaped l) false) [ true ↦ shaped_is l | false ↦ refl ]

marks_of_snoc : (l : List ℕ) (x : ℕ) → marks_of (l ++ (x ∷ [])) ≡ marks_of l ++ (heard_of x ∷ [])
unfolding marks_of
marks_of_snoc [] x = refl
marks_of_snoc (y ∷ l) x = rw (marks_of_snoc l x)

pub marks_turn : (b : List ℕ) (ms : List Heard) (i : ℕ) (m : Heard) → i < length b → i < length ms → m ≡ heard_of (get_or b i 0)
    → take i ms ≡ marks_of (take i b) → take (i + 1) (set ms i m) ≡ marks_of (take (i + 1) b)
marks_turn b ms i m h k f e = rw (add-one, take-suc-set ms i m k, take-suc b i 0 h, marks_of_snoc, e, f)

pub marks_end : (b : List ℕ) (ms : List Heard) (i : ℕ) → length b ≤ i → length ms ≤ i → take i ms ≡ marks_of (take i b) → ms ≡ marks_of b
marks_end b ms i h k e = sym (take_all i ms k) ∙ e ∙ ap marks_of (take_all i b h)

mark_bytes_snoc : (ms : List Heard) (m : Heard) → mark_bytes (ms ++ (m ∷ [])) ≡ mark_bytes ms ++ (mark_byte m ∷ [])
unfolding mark_bytes
mark_bytes_snoc [] m = refl
mark_bytes_snoc (x ∷ ms) m = rw (mark_bytes_snoc ms m)

pub length_marks : (ms : List Heard) → length (mark_bytes ms) ≡ length ms
unfolding mark_bytes
length_marks [] = refl
length_marks (m ∷ ms) = ap suc (length_marks ms)

-- ---- a loop that writes a list: its start
pub write_start : {A : Type 0} (bytes : List A → List ℕ) (x : List ℕ) (l : List A) (at : ℕ) → bytes [] ≡ [] → x ≡ put x at (bytes (take 0 l))
write_start bytes x l at e = sym (ap (put x at) e ∙ put_nil x at)

-- its turn, of marks
pub write_turn_lem : (x x₀ : List ℕ) (ms : List Heard) (at i v : ℕ) (d : Heard) → i < length ms → at + i < length x₀ → v ≡ mark_byte (get_or ms i d)
    → x ≡ put x₀ at (mark_bytes (take i ms)) → set x (at + i) v ≡ put x₀ at (mark_bytes (take (i + 1) ms))
write_turn_lem x x₀ ms at i v d h k f e =
    let s : List ℕ = mark_bytes (take i ms) in
    let l : length s ≡ i = length_marks (take i ms) ∙ length-take-le i ms (omega arith) in
    rw (e, f, add-one, take-suc ms i d h, mark_bytes_snoc, ← put_snoc x₀ at s (mark_byte (get_or ms i d)) (rw l k), l)

-- ---- times
times_bytes_snoc : (ts : List Time) (t : Time) → times_bytes (ts ++ (t ∷ [])) ≡ times_bytes ts ++ be 8 t.0
unfolding times_bytes
times_bytes_snoc [] t = append-nil (be 8 t.0)
times_bytes_snoc (u ∷ ts) t = rw (times_bytes_snoc ts t) (sym (append_assoc (be 8 u.0) (times_bytes ts) (be 8 t.0)))

pub length_times : (ts : List Time) → length (times_bytes ts) ≡ 8 * length ts
unfolding times_bytes
length_times [] = refl
length_times (t ∷ ts) = simp (length-append, length_be, length_times ts) (omega arith)

pub write_time : (x x₀ x₁ : List ℕ) (ts : List Time) (at i : ℕ) (d : Time) → i < length ts → at ≤ length x₀ → x ≡ put x₀ at (times_bytes (take i ts))
    → x₁ ≡ put x (at + 8 * i) (be 8 (get_or ts i d).0) → x₁ ≡ put x₀ at (times_bytes (take (i + 1) ts))
write_time x x₀ x₁ ts at i d h k e g =
    let r : List ℕ = times_bytes (take i ts) in
    let l : length r ≡ 8 * i = length_times (take i ts) ∙ ap (λ (n : ℕ). 8 * n) (length-take-le i ts (omega arith)) in
    g ∙ rw (e, put_then x₀ at (at + 8 * i) r (be 8 (get_or ts i d).0) (ap (λ (n : ℕ). at + n) l) k, add-one, take-suc ts i d h, times_bytes_snoc)

pub times_from : (x : List ℕ) (at n : ℕ) (ts : List Time) → length ts ≡ n → ((i : ℕ) → i < n → (get_or ts i (record { 0 = 0 })).0 ≡ field x (at + 8 * i) 8) → ts ≡ times_at x at n
unfolding times_at
times_from x at zero [] e f = refl
times_from x at zero (t ∷ ts) e f = absurd (omega arith)
times_from x at (suc n) [] e f = absurd (omega arith)
times_from x at (suc n) (t ∷ ts) e f =
    let here : at + 8 * 0 ≡ at = omega arith in
    let h : t.0 ≡ field x at 8 = f 0 (omega arith) ∙ ap (λ (k : ℕ). field x k 8) here in
    λ j. record { 0 = h j } ∷ times_from x (at + 8) n ts (omega arith) (λ i l. let next : at + 8 * suc i ≡ (at + 8) + 8 * i = omega arith in f (suc i) (omega arith) ∙ ap (λ (k : ℕ). field x k 8) next) j

-- ---- the bound
pub length_bound : (b : Option Timestamp) → length (bound_bytes b) ≡ 41
unfolding bound_bytes
length_bound None = simp (length-append, length_be)
length_bound (Some u) = simp (length-append, length_be)

pub bound_put : (x x₁ x₂ : List ℕ) (k : ℕ) (t : Timestamp) → 45 ≤ length x → x₁ ≡ put x 4 (be 1 k) → x₂ ≡ put x₁ 5 (be 40 (stamp_number t))
    → x₂ ≡ put x 4 (be 1 k ++ be 40 (stamp_number t))
bound_put x x₁ x₂ k t h e f =
    f ∙ ap (λ (l : List ℕ). put l 5 (be 40 (stamp_number t))) e ∙ put_then x 4 5 (be 1 k) (be 40 (stamp_number t)) (simp length_be) (omega arith)

pub bound_laid : (x y : List ℕ) (b : Option Timestamp) (k : ℕ) (t z : Timestamp) → k ≡ cond (is_some b) 1 0 → t ≡ unwrap_or b z → z ≡ zero_stamp
    → y ≡ put x 4 (be 1 k ++ be 40 (stamp_number t)) → y ≡ put x 4 (bound_bytes b)
unfolding bound_bytes
bound_laid x y None k t z e f g h = h ∙ (λ i. put x 4 (be 1 (e i) ++ be 40 ((ap stamp_number (f ∙ g) ∙ zero_number) i)))
bound_laid x y (Some u) k t z e f g h = h ∙ (λ i. put x 4 (be 1 (e i) ++ be 40 (stamp_number (f i))))

-- ---- fields written one after the other
three : (x x₁ x₂ x₃ s t u : List ℕ) (a b c : ℕ) → a + length s ≡ b → b + length t ≡ c → a ≤ length x → x₁ ≡ put x a s → x₂ ≡ put x₁ b t → x₃ ≡ put x₂ c u
    → x₃ ≡ put x a (s ++ (t ++ u))
three x x₁ x₂ x₃ s t u a b c h k l e1 e2 e3 =
    let f2 : x₂ ≡ put x a (s ++ t) = e2 ∙ ap (λ (y : List ℕ). put y b t) e1 ∙ put_then x a b s t h l in
    e3 ∙ ap (λ (y : List ℕ). put y c u) f2 ∙ put_then x a c (s ++ t) u (simp length-append (omega arith)) l ∙ ap (put x a) (append_assoc s t u)

length_round : (r : Round) → length (round_bytes r) ≡ 44
unfolding round_bytes
length_round r = simp (length-append, length_be, length_bound)

length_ask : (s : Session) → length (ask_bytes s) ≡ 53
unfolding ask_bytes
length_ask s = simp (length-append, length_be, length_round)

pub length_session : (s : Session) → length s.times ≡ 16 → length s.marks ≡ 16 → length (session_bytes s) ≡ session_length
unfolding session_bytes heard_bytes
length_session s f e = simp (length-append, length_be, length_ask, length_times, length_marks, f, e)

pub round_put : (r : Round) (g : ℕ) (x x₁ x₂ x₃ : List ℕ) → 45 ≤ length x → g ≡ stage_byte r.stage → x₁ ≡ put x 1 (be 1 g) → x₂ ≡ put x₁ 2 (be 2 r.number)
    → x₃ ≡ put x₂ 4 (bound_bytes r.bound) → x₃ ≡ put x 1 (round_bytes r)
unfolding round_bytes
round_put r g x x₁ x₂ x₃ l eg e1 e2 e3 =
    three x x₁ x₂ x₃ (be 1 (stage_byte r.stage)) (be 2 r.number) (bound_bytes r.bound) 1 2 4 (simp length_be) (simp length_be) (omega arith)
    (e1 ∙ ap (λ (k : ℕ). put x 1 (be 1 k)) eg) e2 e3

pub asks_put : (s : Session) (o : ℕ) (x x₁ x₂ x₃ : List ℕ) → o ≡ operation_byte s.operation → x₁ ≡ put x 0 (be 1 o) → x₂ ≡ put x₁ 1 (round_bytes s.round)
    → x₃ ≡ put x₂ 45 (be 8 s.opening.0) → x₃ ≡ put x 0 (ask_bytes s)
unfolding ask_bytes
asks_put s o x x₁ x₂ x₃ eo e1 e2 e3 =
    three x x₁ x₂ x₃ (be 1 (operation_byte s.operation)) (round_bytes s.round) (be 8 s.opening.0) 0 1 45 (simp length_be) (simp length_round) (omega arith)
    (e1 ∙ ap (λ (k : ℕ). put x 0 (be 1 k)) eo) e2 e3

pub heard_put : (s : Session) (x x₁ x₂ x₃ : List ℕ) → length s.times ≡ 16 → session_length ≤ length x → x₁ ≡ put x 53 (times_bytes s.times)
    → x₂ ≡ put x₁ 181 (be 40 (stamp_number s.stamp)) → x₃ ≡ put x₂ 221 (mark_bytes s.marks) → x₃ ≡ put x 53 (heard_bytes s)
unfolding heard_bytes
heard_put s x x₁ x₂ x₃ k l e1 e2 e3 =
    three x x₁ x₂ x₃ (times_bytes s.times) (be 40 (stamp_number s.stamp)) (mark_bytes s.marks) 53 181 221 (simp (length_times, k)) (simp length_be) (omega arith) e1 e2 e3

pub session_put : (s : Session) (x x₁ x₂ : List ℕ) → length s.times ≡ 16 → length s.marks ≡ 16 → length x ≡ session_length → x₁ ≡ put x 0 (ask_bytes s)
    → x₂ ≡ put x₁ 53 (heard_bytes s) → x₂ ≡ session_bytes s
session_put s x x₁ x₂ j k l e1 e2 =
    let whole : ask_bytes s ++ heard_bytes s ≡ session_bytes s = unfold session_bytes in refl in
    e2 ∙ ap (λ (y : List ℕ). put y 53 (heard_bytes s)) e1 ∙ put_then x 0 53 (ask_bytes s) (heard_bytes s) (simp length_ask) (omega arith)
    ∙ ap (put x 0) whole ∙ over_start x (session_bytes s) ∙ over_whole (session_bytes s) x (l ∙ sym (length_session s j k))
