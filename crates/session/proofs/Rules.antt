-- What is known of a session, and of a reply to it, where the rules hold. Assumes nothing.
use mathlib.Core.Path.{◌≡◌, refl, sym, ap, ◌∙◌}
use mathlib.Core.Bool.{Bool, true, false, not}
use mathlib.Core.List.{List}
use Prim.Native.Nat.{ℕ, ◌+◌, ◌≤◌, ◌<◌}
use native.Mathlib.Omega.{arith}
use borrow.Author.Tests.{leb-true, le-leb, eqb-true, ltb-true, ltb-false, lt-ltb, le-ltb}
use lib.ListN.{length}
use lib.Dec.{eqb}
use Rattle.terms.specs.Ladder.{all, ◌or◌}
use Rattle.terms.specs.declared.Plan.{Plan}
use Rattle.terms.specs.declared.Timestamp.{Timestamp}
use Rattle.terms.specs.Stamp.{stamp, stamp_number, stamp_at, top}
use Rattle.terms.proofs.Stamps.{stamp_at_number}
use Rattle.terms.proofs.Rungs.{both}
use Rattle.octets.specs.Bytes.{part, num}
use Rattle.frame.specs.Frame.{kind_of, body_of, write_reply_kind, time_reply_kind, framed, head_bytes, header_in, answers_to, version_of}
use Rattle.frame.proofs.Frames.{ReplyIs, length_4}
use Rattle.rounds.specs.Rounds.{rest_unheard, heard_count}
use Rattle.session.specs.declared.Session.{Session}
use Rattle.standing.proofs.Rules.{holds, last, and_fails, and_last, or_holds, or_last, round_facts, round_back}
use Rattle.standing.specs.Standing.{round_rules, is_read, is_storing, replies, bound_ok, awaits_in}
use Rattle.session.specs.Session.{ask_now, awaits_kind, round_open}
use Rattle.session.specs.Reply.{awaited}
use Rattle.terms.specs.Terms.{opening_ok}
use Rattle.frame.specs.declared.Header.{Header}
use Rattle.session.specs.Ranges.{standing_rules, in_range}

-- ---- the rules of refusal 9 that every session meets, as plain facts
pub record StandingIs (p : Plan) (s : Session) : Type 0 where
  pub low : 1 ≤ s.round.number
  pub high : s.round.number ≤ p.w
  pub counted : (is_read s.operation or eqb s.round.number 1) ≡ true
  pub bounded : bound_ok s.round.bound s.round.number ≡ true
  pub rest : rest_unheard s.marks p.n ≡ true
  pub opening : s.opening.0 + p.w ≤ top

pub standing_facts : (p : Plan) (s : Session) → standing_rules p s ≡ true → StandingIs p s
unfolding standing_rules all
standing_facts p s e =
    let e1 = both (round_rules p.w s.operation s.round) _ e in
    let e2 = both (rest_unheard s.marks p.n) _ e1.1 in
    let e3 = both (opening_ok p s.opening.0) _ e2.1 in
    let r = round_facts p.w s.operation s.round e1.0 in
    record { low = r.low; high = r.high; counted = r.counted; bounded = r.bounded; rest = e2.0; opening = leb-true _ _ e3.0 }

pub standing_back : (p : Plan) (s : Session) → StandingIs p s → standing_rules p s ≡ true
unfolding standing_rules
standing_back p s q =
    sym (holds _ (round_back p.w s.operation s.round (record { low = q.low; high = q.high; counted = q.counted; bounded = q.bounded }))
    (holds _ q.rest (last (sym (le-leb (s.opening.0 + p.w) top q.opening)))))

pub range_stands : (p : Plan) (s : Session) (d : List ℕ) → in_range p s d ≡ true → StandingIs p s
unfolding in_range
range_stands p s d e = standing_facts p s (both (standing_rules p s) _ e).0

-- the ask number of every round has room
pub ask_high : (p : Plan) (s : Session) → StandingIs p s → s.opening.0 + s.round.number ≤ top
ask_high p s q = omega (arith, q.high, q.opening)

-- a write reply bears a timestamp
pub reply_stamped : (p : Plan) (f : List ℕ) → ReplyIs p f → kind_of f ≡ write_reply_kind → framed 1 40 ≤ length f
reply_stamped p f r k = omega (arith, length_4 r.frame_is k)

pub header_stamped : (p : Plan) (f : List ℕ) (h : Header) → h ≡ header_in f → ReplyIs p f → h.kind ≡ write_reply_kind → framed h.version 40 ≤ length f
header_stamped p f h i r k = reply_stamped p f r (sym (ap (λ (x : Header). x.kind) i) ∙ k)

-- the timestamp that a body starts with
pub body_stamp : (f : List ℕ) → num (part f (head_bytes (version_of f)) 40) ≡ stamp (body_of f)
unfolding part
body_stamp f = refl

-- ---- the round is open, or over
module _ (p : Plan) (s : Session) where
  pub few_open : heard_count s.marks < replies p → round_open p s ≡ true
  few_open h = lt-ltb (heard_count s.marks) (replies p) h

  pub many_over : replies p ≤ heard_count s.marks → round_open p s ≡ false
  many_over h = le-ltb (heard_count s.marks) (replies p) h

  pub open_few : round_open p s ≡ true → heard_count s.marks < replies p
  open_few e = ltb-true (heard_count s.marks) (replies p) e

  pub over_many : round_open p s ≡ false → replies p ≤ heard_count s.marks
  over_many e = ltb-false (heard_count s.marks) (replies p) e

-- ---- the kinds that a round awaits
module _ (s : Session) (k : ℕ) (e : awaits_kind s k ≡ true) where
  pub kind_stored : is_storing s.round.stage ≡ true → k ≡ write_reply_kind
  unfolding awaits_in
  kind_stored g = eqb-true k write_reply_kind (rw g at e)

  pub kind_timed : is_storing s.round.stage ≡ false → is_read s.operation ≡ false → k ≡ time_reply_kind
  unfolding awaits_in
  kind_timed g h = eqb-true k time_reply_kind (rw (g, h) at e)

-- ---- what a round awaits, tested one after the other
module _ (s : Session) (f : List ℕ) (h : Header) (i : h ≡ header_in f) (ask : ℕ) (a : ask ≡ ask_now s) (w : Bool) (q : w ≡ answers_to h ask) where
  asked_is : w ≡ answers_to (header_in f) (ask_now s)
  asked_is = q ∙ (λ j. answers_to (i j) (a j))

  pub other_ask : w ≡ false → false ≡ awaited s f
  unfolding awaited
  other_ask e = and_fails _ (sym asked_is ∙ e)

  module _ (same : w ≡ true) (x : Bool) (k : x ≡ awaits_kind s h.kind) where
    asked : answers_to (header_in f) (ask_now s) ≡ true
    asked = sym asked_is ∙ same

    fits : x ≡ awaits_kind s (kind_of f)
    fits = k ∙ ap (λ (g : Header). awaits_kind s g.kind) i

    pub other_kind : x ≡ false → false ≡ awaited s f
    unfolding awaited
    other_kind e = and_last asked (and_fails _ (sym fits ∙ e))

    module _ (t : x ≡ true) (y : Bool) (g : y ≡ is_storing s.round.stage) where
      pub no_stamp : y ≡ false → true ≡ awaited s f
      unfolding awaited
      no_stamp e = and_last asked (and_last (sym fits ∙ t) (or_holds _ (ap not (sym g ∙ e))))

      -- a write reply bears a timestamp, which is compared
      pub stamp_there : y ≡ true → (h.kind ≡ write_reply_kind → framed h.version 40 ≤ length f) → framed h.version 40 ≤ length f
      stamp_there e l = l (kind_stored s h.kind (sym k ∙ t) (sym g ∙ e))

      pub stamp_told : y ≡ true → (at : ℕ) (u : Timestamp) (o : Bool) → at ≡ head_bytes h.version → u ≡ stamp_at f at → framed h.version 40 ≤ length f
          → o ≡ eqb (stamp_number u) (stamp_number s.stamp) → o ≡ awaited s f
      unfolding awaited
      stamp_told e at u o ea p l q =
          let n : stamp_number u ≡ stamp (body_of f) = ap stamp_number (p ∙ ap (stamp_at f) ea) ∙ stamp_at_number f (head_bytes h.version) l ∙ body_stamp f in
          and_last asked (and_last (sym fits ∙ t) (or_last (ap not (sym g ∙ e)) (q ∙ ap (λ (m : ℕ). eqb m (stamp_number s.stamp)) n)))
