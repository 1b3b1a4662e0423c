-- Packing cuts nothing off what a call hands back: every number of the session has the width of its field, and so have the timestamp and the
-- rounds of an answer. It is so of an accepted opening (opened_lasts), and a reply keeps it (write_carried, read_carried). So an answer is read
-- back from its number and its ending (answer_back); a session that fits its bytes is (session_back of packing).
--   Lasts         a session that fits its 237 bytes; in a read round its desk is bytes, of which the next timestamp is read
--   WideAnswer    an answer that fits its number and its 42 bytes
--   Carried       what a call leaves of a session: such a session and such an answer, and the same session at a refusal
-- Assumes nothing.
use Rattle.std.specs.Prelude.{Result, Ok, Err}
use Prim.{Unit, tt}
use Prim.Native.Nat.{ℕ, ◌+◌, ◌*◌, ◌<◌, ◌^◌}
use mathlib.Core.Path.{◌≡◌, refl, sym, ap, ◌∙◌}
use mathlib.Core.Bool.{Bool, true, false, cond}
use mathlib.Core.List.{List, [], ◌++◌, append-nil}
use native.Mathlib.Omega.{arith}
use borrow.Author.Tests.{leb-true, leb-false, eqb-true, ne_eqb, not-false}
use lib.ListN.{length, length-set}
use lib.Dec.{leb, eqb, lit<}
use Rattle.octets.specs.Bytes.{be, put, Octets}
use Rattle.octets.proofs.Meaning.{octets_be, octets_append, octets_drop, octets_put}
use Rattle.sha256.proofs.Laws.{octets_sha256}
use Rattle.sha256.specs.Sha256.{sha256}
use Rattle.terms.specs.Ladder.{Rung, rung, Given, None, ◌and◌}
use Rattle.terms.specs.Terms.{plan_ok, opening_ok, record_length, slots_of, slot_at, thresholds_of, refusal_number, refusal_at}
use Rattle.terms.specs.Stamp.{stamp_at, stamp_number, zero_stamp, time, top}
use Rattle.terms.specs.declared.Plan.{Plan}
use Rattle.terms.specs.declared.Refusal.{Refusal}
use Rattle.terms.specs.declared.Timestamp.{Timestamp}
use Rattle.terms.specs.declared.Verdict.{Verdict}
use Rattle.terms.specs.declared.Verdict.TheVariants.{Complete, Repair, Aborted, Incomplete}
use Rattle.terms.proofs.Down.{clear}
use Rattle.terms.proofs.Ladders.{by_ladder}
use Rattle.terms.proofs.Picks.{either}
use Rattle.terms.proofs.Plans.{plan_is}
use Rattle.terms.proofs.Rungs.{both, clash, refusal_one}
use Rattle.terms.proofs.Stamps.{zero_number}
use Rattle.frame.specs.Frame.{frame_node, body_of, head_bytes, version_of}
use Rattle.std.proofs.Common.{Option}
use Rattle.std.specs.declared.option.Option.TheVariants as option
use Rattle.rounds.specs.declared.Heard.{Heard}
use Rattle.rounds.specs.declared.Heard.TheVariants.{First, Record}
use Rattle.rounds.specs.Rounds.{Closed, lead_of, close_with}
use Rattle.recover.specs.Records.{cross_for, stamp_for, records_for}
use Rattle.recover.specs.Recover.{sound, decoded, collected, repaired}
use Rattle.session.specs.declared.Answer.{Answer}
use Rattle.session.specs.declared.Answer.TheVariants as answers
use Rattle.session.specs.declared.Session.{Session}
use Rattle.standing.specs.declared.Operation.{Operation}
use Rattle.standing.specs.declared.Operation.TheVariants.{Write}
use Rattle.standing.specs.Standing.{is_read, is_asking, is_storing}
use Rattle.session.specs.Session.{marked_of, ended_of, next_of, storing_of, refused, still_open, rounds_spent, round_open, said_of, is_refused}
use Rattle.session.specs.Opening.{fresh_of}
use Rattle.session.specs.Ranges.{in_range}
use Rattle.session.specs.Reply.{bears, reply_ladder, read_ladder}
use Rattle.session.specs.Reader.{Outcome, outcome, failing, act_on, act_for, closed, settled, heard, stored, accepted, read_reply}
use Rattle.session.specs.Writer.{Leaves, leaves, timed_of, kth_reply, new_time, time_end, time_turn, write_turn, accepted_write, write_reply}
use Rattle.session.proofs.Kept.{time_small}
use Rattle.session.proofs.ReadKept.{asking}
use Rattle.packing.specs.PlanBytes.{field}
use Rattle.packing.proofs.Inverse.{Wide, Fits, fits_zero, fits_set, wide_at, cut, cut_stamp}
use Rattle.answers.specs.Answers.{answer_number, ending_bytes, ending_after, answer_of}
use Rattle.pasis.specs.Client.{with_item}
use Rattle.pasis.proofs.Laws.{numbers, of_given}

never : {A : Type 0} → false ≡ true → A
never z = absurd (clash (sym z))

-- ---- what is kept
pub record Lasts (s : Session) (d : List ℕ) : Type 0 where
  pub fits : Fits s
  pub desk : is_asking s.round.stage ≡ true → is_read s.operation ≡ true → Octets d

-- one of the document's refusals
abbrev is_refusal : ℕ → Bool
is_refusal k = eqb (refusal_number (refusal_at k)) k and (leb 1 k and leb k 100)

abbrev pub WideAnswer : Result Answer Refusal → Type 0
WideAnswer (Err r) = is_refusal (refusal_number r) ≡ true
WideAnswer (Ok answers.Open) = Unit {0}
WideAnswer (Ok (answers.Done t n)) = Wide t × (n < 256 ^ 2)
WideAnswer (Ok (answers.NeverWritten n)) = n < 256 ^ 2
WideAnswer (Ok (answers.Aborted n)) = n < 256 ^ 2
WideAnswer (Ok (answers.RoundsSpent n)) = n < 256 ^ 2
WideAnswer (Ok answers.ClockSpent) = Unit {0}

pub record Carried (s : Session) (o : Outcome) : Type 0 where
  pub lasts : Lasts o.session o.desk
  pub answer : Result Answer Refusal
  pub said : said_of answer ≡ o.said
  pub wide : WideAnswer answer
  pub stays : is_refused o.said ≡ true → o.session ≡ s

-- ---- sessions with one field set
module _ (s : Session) (w : Fits s) where
  fits_marked : (n : ℕ) (h : Heard) → Fits (marked_of s n h)
  fits_marked n h =
      record {
        round = w.round;
        bound = w.bound;
        opening = w.opening;
        times = w.times;
        stamp = w.stamp;
        marks = length-set s.marks n h ∙ w.marks;
      }

  fits_timed : (n t : ℕ) → t < 256 ^ 8 → Fits (timed_of s n t)
  fits_timed n t h =
      record {
        round = w.round;
        bound = w.bound;
        opening = w.opening;
        times = fits_set s.times n (record { 0 = t }) h w.times;
        stamp = w.stamp;
        marks = length-set s.marks n Record ∙ w.marks;
      }

  fits_ended : Fits (ended_of s)
  fits_ended =
      record { round = w.round; bound = w.bound; opening = w.opening; times = w.times; stamp = w.stamp; marks = w.marks }

  fits_next : (t : Timestamp) → Wide t → s.round.number + 1 < 256 ^ 2 → Fits (next_of s t)
  fits_next t h k = record { round = k; bound = h; opening = w.opening; times = w.times; stamp = w.stamp; marks = refl }

  fits_storing : (t : Timestamp) → Wide t → Fits (storing_of s t)
  fits_storing t h = record { round = w.round; bound = w.bound; opening = w.opening; times = w.times; stamp = h; marks = refl }

zero_wide : Wide zero_stamp
zero_wide =
    let z : 0 < 256 ^ 8 = lit< tt in
    record { time = z; first = z; rest = record { w1 = z; w2 = z; w3 = z } }

-- an accepted opening's: its ask number leaves room for W more
pub opened_lasts : (op : Operation) (p : Plan) (a : ℕ) (d : List ℕ) → opening_ok p a ≡ true → (is_read op ≡ true → Octets d)
    → Lasts (fresh_of op 1 option.None (record { 0 = a })) d
opened_lasts op p a d k o =
    let h = leb-true (a + p.w) top k in
    record {
      fits = record { round = lit< tt; bound = tt; opening = omega arith; times = fits_zero; stamp = zero_wide; marks = refl };
      desk = λ b. o;
    }

-- ---- timestamps: the one of a write, and a candidate's
stamp_wide : (p : Plan) (t : ℕ) (i : List ℕ) → Wide (stamp_for p t i)
unfolding stamp_for
stamp_wide p t i = wide_at _ 0 (octets_append (be 8 t) (sha256 (cross_for p i)) (octets_be 8 t) (octets_sha256 (cross_for p i)))

close_wide : (p : Plan) (s : Session) (d : List ℕ) → Octets d → Wide (closed p s d).stamp
unfolding close_with
close_wide p s d o = go (lead_of s.marks d (slots_of p) p.n)
  where
    go : (l : Option ℕ) → Wide (close_with s.marks d (slots_of p) p.member (thresholds_of p) l).stamp
    go option.None = zero_wide
    go (option.Some a) = wide_at d (slot_at (slots_of p) a) o

-- ---- answers
-- every refusal of a ladder is one of the document's
pub given_refusal : (l : List Rung) → numbers is_refusal l ≡ true → (k : ℕ) → Given l k → (is_refusal k ≡ true) × (refusal_number (refusal_at k) ≡ k)
given_refusal l e k g =
    let h = of_given is_refusal l e k g in
    (h, eqb-true (refusal_number (refusal_at k)) k (both (eqb (refusal_number (refusal_at k)) k) _ h).0)

module _ (s : Session) where
  refuses : (l : List Rung) → numbers is_refusal l ≡ true → (d i : List ℕ) → Lasts s d → (k : ℕ) → Given l k → Carried s (outcome (refused k) s d i)
  refuses l e d i w k g =
      let q = given_refusal l e k g in
      record { lasts = w; answer = Err (refusal_at k); said = ap refused q.1; wide = ap is_refusal q.1 ∙ q.0; stays = λ z. refl }

  opens : (u : Session) (d i : List ℕ) → Lasts u d → Carried s (outcome still_open u d i)
  opens u d i w = record { lasts = w; answer = (Ok answers.Open); said = refl; wide = tt; stays = never }

  -- a write or repair round opens
  stores : (u : Session) (t : Timestamp) (d i : List ℕ) → Fits u → Wide t → Carried s (outcome still_open (storing_of u t) d i)
  stores u t d i w h = opens (storing_of u t) d i (record { fits = fits_storing u w t h; desk = never })

  ends : (u : Session) (a : Result Answer Refusal) (d i : List ℕ) → is_refused (said_of a) ≡ false → WideAnswer a → Fits u → Carried s (outcome (said_of a) (ended_of u) d i)
  ends u a d i e h w =
      record { lasts = record { fits = fits_ended u w; desk = never }; answer = a; said = refl; wide = h; stays = λ z. never (sym e ∙ z) }

-- ---- a writer's
module _ (p : Plan) (s : Session) (i : List ℕ) where
  abbrev Leaving : Leaves → Type 0
  Leaving x = Carried s (with_item x i)

  module _ (u : Session) (d : List ℕ) (w : Lasts u d) where
    write_turn_lem : Leaving (write_turn p u d)
    unfolding write_turn
    write_turn_lem =
        either Leaving (round_open p u) (opens s u d i w)
        (ends s u (Ok (answers.Done u.stamp 0)) d i refl (w.fits.stamp, omega arith) w.fits)

    time_turn_lem : Leaving (time_turn p u d i)
    unfolding time_turn time_end
    time_turn_lem =
        either Leaving (round_open p u) (opens s u d i w)
        (either Leaving (eqb (kth_reply p u) top) (ends s u (Ok answers.ClockSpent) d i refl tt w.fits)
        (stores s u (stamp_for p (new_time (kth_reply p u)) i) (records_for p (new_time (kth_reply p u)) i) i w.fits (stamp_wide p (new_time (kth_reply p u)) i)))

  pub write_carried : (f d : List ℕ) → Octets f → Lasts s d → Carried s (with_item (write_reply p s f d i) i)
  unfolding write_reply accepted_write
  write_carried f d o w =
      by_ladder Leaving (reply_ladder Write p s f d (length i)) (λ (k : ℕ). leaves (refused k) s d) (accepted_write p s f d i)
      (refuses s (reply_ladder Write p s f d (length i)) refl d i w)
      (λ n. either Leaving (is_storing s.round.stage) (write_turn_lem (marked_of s (frame_node f) Record) d (record { fits = fits_marked s w.fits (frame_node f) Record; desk = w.desk }))
      (time_turn_lem (timed_of s (frame_node f) (time (body_of f))) d (record { fits = fits_timed s w.fits (frame_node f) _ (time_small f o); desk = w.desk })))

-- ---- a reader's
module _ (p : Plan) (ok : plan_ok p ≡ true) (s₀ s : Session) (w : Fits s) (i : List ℕ) where
  module _ (d : List ℕ) (o : Octets d) where
    fails : (t : Timestamp) → Wide t → Carried s₀ (failing p s t d i)
    unfolding failing
    fails t h = go (leb p.w s.round.number) refl
      where
        go : (c : Bool) → leb p.w s.round.number ≡ c → Carried s₀ (cond c (outcome (rounds_spent s.round.number) (ended_of s) d i) (outcome still_open (next_of s t) d i))
        go true e = ends s₀ s (Ok (answers.RoundsSpent s.round.number)) d i refl w.round w
        go false e =
            let k : s.round.number < p.w = leb-false p.w s.round.number e in
            let q = plan_is p ok in
            opens s₀ (next_of s t) d i (record { fits = fits_next s w t h (omega arith); desk = λ a b. o })

    acts : (v : Verdict) (c : Closed) (a : ℕ) → Wide c.stamp → Carried s₀ (act_on v p s c a d i)
    unfolding act_on
    acts Complete c a h =
        either (Carried s₀) (sound p c a d) (ends s₀ s (Ok (answers.Done c.stamp s.round.number)) d (decoded p c d i) refl (h, w.round) w) (fails c.stamp h)
    acts Repair c a h = either (Carried s₀) (sound p c a d) (stores s₀ s c.stamp (repaired p c a d) i w h) (fails c.stamp h)
    acts Aborted c a h = ends s₀ s (Ok (answers.Aborted s.round.number)) d i refl w.round w
    acts Incomplete c a h = fails c.stamp h

    acts_for : (l : Option ℕ) (c : Closed) → Wide c.stamp → Carried s₀ (act_for l p s c d i)
    unfolding act_for
    acts_for option.None c h = ends s₀ s (Ok (answers.NeverWritten s.round.number)) d i refl w.round w
    acts_for (option.Some a) c h = acts c.verdict c a h

    settles : Carried s₀ (settled p s d i)
    unfolding settled
    settles =
        either (Carried s₀) (round_open p s) (opens s₀ s d i (record { fits = w; desk = λ a b. o }))
        (acts_for (closed p s d).lead (closed p s d) (close_wide p s d o))

  rests : (d : List ℕ) → Lasts s d → Carried s₀ (stored p s d i)
  unfolding stored
  rests d l =
      either (Carried s₀) (round_open p s) (opens s₀ s d i l)
      (ends s₀ s (Ok (answers.Done s.stamp s.round.number)) d (collected p d i) refl (w.stamp, w.round) w)

module _ (p : Plan) (s : Session) (f d i : List ℕ) (o : Octets f) (w : Lasts s d) where
  accepts : None (read_ladder p s f d (length i)) → Carried s (accepted p s f d i)
  unfolding accepted heard
  accepts n = go (is_storing s.round.stage) refl
    where
      past : (k : ℕ) → rung k (read_ladder p s f d (length i)) ≡ false
      past = clear (read_ladder p s f d (length i)) n

      ok : plan_ok p ≡ true
      ok = not-false (plan_ok p) (past 1)

      reads : is_read s.operation ≡ true
      reads = (both (is_read s.operation) (in_range p s d) (not-false (is_read s.operation and in_range p s d) (past 9))).0

      marked : (h : Heard) → Fits (marked_of s (frame_node f) h)
      marked = fits_marked s w.fits (frame_node f)

      go : (c : Bool) → is_storing s.round.stage ≡ c → Carried s (cond c (stored p (marked_of s (frame_node f) Record) d i) (heard p s f d i))
      go true e = rests p ok s (marked_of s (frame_node f) Record) (marked Record) i d (record { fits = marked Record; desk = w.desk })
      go false e =
          let od : Octets d = w.desk (asking s.round.stage e (past 14)) reads in
          either (Carried s) (bears p f)
          (settles p ok s (marked_of s (frame_node f) Record) (marked Record) i (put d (frame_node f * record_length p) (body_of f))
          (octets_put d (frame_node f * record_length p) (body_of f) od (octets_drop (head_bytes (version_of f)) f o)))
          (settles p ok s (marked_of s (frame_node f) First) (marked First) i d od)

  pub read_carried : Carried s (read_reply p s f d i)
  unfolding read_reply
  read_carried =
      by_ladder (Carried s) (read_ladder p s f d (length i)) (λ (k : ℕ). outcome (refused k) s d i) (accepted p s f d i)
      (refuses s (read_ladder p s f d (length i)) refl d i w) accepts

-- ---- read back
-- an ending's timestamp and rounds
ending_back : (t : Timestamp) (n : ℕ) → Wide t → n < 256 ^ 2 → (stamp_at (ending_bytes (stamp_number t) n) 0 ≡ t) × (field (ending_bytes (stamp_number t) n) 40 2 ≡ n)
unfolding ending_bytes
ending_back t n h k =
    let x : List ℕ = be 40 (stamp_number t) ++ be 2 n in
    let c = cut_stamp x 0 t (be 2 n) refl h in
    (c.0, (cut x 40 2 42 n [] refl (c.1 ∙ sym (append-nil (be 2 n))) k).0)

rounds_back : (n : ℕ) → n < 256 ^ 2 → field (ending_bytes 0 n) 40 2 ≡ n
rounds_back n k = ap (λ (t : ℕ). field (ending_bytes t n) 40 2) (sym zero_number) ∙ (ending_back zero_stamp n zero_wide k).1

refusal_back : (r : Refusal) (e : List ℕ) → is_refusal (refusal_number r) ≡ true → answer_of (refusal_number r) e ≡ Err r
unfolding answer_of
refusal_back r e h =
    let k = refusal_number r in
    let q = both (eqb (refusal_number (refusal_at k)) k) _ h in
    let l = both (leb 1 k) (leb k 100) q.1 in
    let one = leb-true 1 k l.0 in
    rw (ne_eqb k 0 (λ z. omega arith), l.1) (ap Err (refusal_one (refusal_at k) r (eqb-true (refusal_number (refusal_at k)) k q.0)))

-- an answer is read back from its number and its ending
pub answer_back : (a : Result Answer Refusal) → WideAnswer a → (e : List ℕ) → answer_of (answer_number (said_of a)) (ending_after (said_of a) e) ≡ a
unfolding answer_of ending_after
answer_back (Err r) h e = refusal_back r e h
answer_back (Ok answers.Open) h e = refl
answer_back (Ok (answers.Done t n)) h e = let q = ending_back t n h.0 h.1 in λ j. Ok (answers.Done (q.0 j) (q.1 j))
answer_back (Ok (answers.NeverWritten n)) h e = ap (λ (m : ℕ). Ok (answers.NeverWritten m)) (rounds_back n h)
answer_back (Ok (answers.Aborted n)) h e = ap (λ (m : ℕ). Ok (answers.Aborted m)) (rounds_back n h)
answer_back (Ok (answers.RoundsSpent n)) h e = ap (λ (m : ℕ). Ok (answers.RoundsSpent m)) (rounds_back n h)
answer_back (Ok answers.ClockSpent) h e = refl
