-- Laws of the writer: a round after a reply; the outcome. Assumes nothing.
use Rattle.frame.specs.declared.Header.{Header}
use Rattle.std.specs.Prelude.{Result, Err}
use Prim.Native.Nat.{ℕ}
use mathlib.Core.Path.{◌≡◌, refl, ap, ◌∙◌}
use mathlib.Core.Bool.{Bool, true, false}
use mathlib.Core.List.{List}
use borrow.Author.Tests.{not-true, not-false}
use lib.Dec.{eqb}
use lib.ListN.{length}
use Rattle.terms.specs.Ladder.{first}
use Rattle.terms.specs.Terms.{refusal_number}
use Rattle.terms.specs.Stamp.{time, top}
use Rattle.terms.specs.declared.Plan.{Plan}
use Rattle.terms.specs.declared.Refusal.{Refusal}
use Rattle.terms.specs.declared.Time.{Time}
use Rattle.terms.specs.declared.Timestamp.{Timestamp}
use Rattle.terms.proofs.Rungs.{both}
use Rattle.octets.specs.Bytes.{part, num}
use Rattle.frame.specs.Frame.{kind_of, ask_of, frame_node, body_of, framed, version_of, head_bytes}
use Rattle.frame.proofs.Frames.{length_2}
use Rattle.rounds.specs.declared.Heard.TheVariants.{Record}
use Rattle.session.specs.declared.Session.{Session}
use Rattle.standing.specs.declared.Operation.TheVariants.{Write}
use Rattle.standing.specs.Standing.{is_read, is_storing}
use Rattle.session.specs.Session.{ask_now, awaits_kind, round_open, marked_of, ended_of, storing_of, refused, still_open, done, clock_spent}
use Rattle.session.specs.Reply.{awaited, reply_ladder, taken_number}
use Rattle.recover.specs.Records.{stamp_for, records_for}
use Rattle.session.specs.Writer.{timed_of, kth_reply, new_time, leaves, time_end, time_turn, write_turn, accepted_write, write_reply}
use Rattle.session.proofs.Checks.{goes_on, check_failed}
use Rattle.session.proofs.Rules.{kind_timed}
use Rattle.session.proofs.Known.{Known, same, reply}

-- ---- a round after a reply: open, or over
module _ (p : Plan) (s : Session) (d : List ℕ) (x : Bool) (c : x ≡ round_open p s) where
  pub time_open : (i : List ℕ) → x ≡ true → leaves still_open s d ≡ time_turn p s d i
  unfolding time_turn
  time_open i h = rw (← c, h)

  pub write_open : x ≡ true → leaves still_open s d ≡ write_turn p s d
  unfolding write_turn
  write_open h = rw (← c, h)

  module _ (h : x ≡ false) where
    pub write_done : (y : Session) → y ≡ ended_of s → leaves (done s.stamp 0) y d ≡ write_turn p s d
    unfolding write_turn
    write_done y e = rw (← c, h, e)

    pub clock_spent_lem : (i : List ℕ) (x : ℕ) → x ≡ kth_reply p s → (t : Bool) → t ≡ eqb x top → t ≡ true → (y : Session) → y ≡ ended_of s → leaves clock_spent y d ≡ time_turn p s d i
    unfolding time_turn time_end
    clock_spent_lem i x k t q g y e = rw (← c, h, ← k, ← q, g, e)

    pub write_opens : (i : List ℕ) (x : ℕ) → x ≡ kth_reply p s → (z : Bool) → z ≡ eqb x top → z ≡ false → (y : Session) (t : Timestamp) (d₂ : List ℕ)
        → y ≡ storing_of s t → (t ≡ stamp_for p (new_time x) i) × (d₂ ≡ records_for p (new_time x) i) → leaves still_open y d₂ ≡ time_turn p s d i
    unfolding time_turn time_end
    write_opens i x k z u g y t d₂ e q =
        rw (← c, h, ← k, ← u, g)
        (λ j. leaves still_open ((e ∙ ap (storing_of s) q.0) j) (q.1 j))

-- a time round takes a time reply
-- the time at the start of a body
pub time_at : (f : List ℕ) (at x : ℕ) → at ≡ head_bytes (version_of f) → x ≡ num (part f at 8) → x ≡ time (body_of f)
unfolding part
time_at f at x e q = q ∙ ap (λ (n : ℕ). num (part f n 8)) e

pub time_there : (p : Plan) (s : Session) (f d : List ℕ) (item : ℕ) → Known (reply_ladder Write p s f d item) p s d → is_storing s.round.stage ≡ false → length f ≡ framed (version_of f) 8
unfolding awaited
time_there p s f d item q g =
    let a = both (eqb (ask_of f) (ask_now s)) _ (not-false (awaited s f) (q.past 10)) in
    let b = both (awaits_kind s (kind_of f)) _ a.1 in
    length_2 (reply Write p s f d item q).frame_is (kind_timed s (kind_of f) b.0 g (not-true (is_read s.operation) (same Write p s f d item q)))

-- ---- the outcome
module _ (p : Plan) (s : Session) (f d i : List ℕ) where
  module _ (x : Bool) (g : x ≡ is_storing s.round.stage) (n : ℕ) (m : n ≡ frame_node f) where
    pub in_write : x ≡ true → (u : Session) → u ≡ marked_of s n Record → write_turn p u d ≡ accepted_write p s f d i
    unfolding accepted_write
    in_write e u v = rw (← g, e, v, m)

    pub in_time : x ≡ false → (u : Session) (t : Time) → u ≡ timed_of s n t.0 → t.0 ≡ time (body_of f) → time_turn p u d i ≡ accepted_write p s f d i
    unfolding accepted_write
    in_time e u t v w = rw (← g, e, v, w, m)

  pub write_refused : (x : Result Header Refusal) → taken_number x ≡ first (reply_ladder Write p s f d (length i)) (λ (k : ℕ). k) 0 → (r : Refusal) → x ≡ Err r
      → leaves (refused (refusal_number r)) s d ≡ write_reply p s f d i
  unfolding write_reply
  write_refused x e r t = check_failed (reply_ladder Write p s f d (length i)) (taken_number x) e (λ (k : ℕ). leaves (refused k) s d) _ r (ap taken_number t)

  pub write_taken : first (reply_ladder Write p s f d (length i)) (λ (k : ℕ). k) 0 ≡ 0 → accepted_write p s f d i ≡ write_reply p s f d i
  unfolding write_reply
  write_taken e = goes_on (λ (k : ℕ). leaves (refused k) s d) _ (reply_ladder Write p s f d (length i)) refl e
