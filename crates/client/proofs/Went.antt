-- WHAT A REPLY TO A READER COMES TO, one case an answer and a stage, each with its condition and all that it leaves. Assumes nothing.
--   Went went          the case that a call is
--   takes_none none_takes   a reply is not refused exactly where no refusal applies
use Prim.Native.Nat.{ℕ}
use mathlib.Core.Path.{◌≡◌, refl, sym, ap, ◌∙◌, subst}
use mathlib.Core.Bool.{Bool, true, false}
use mathlib.Core.List.{List}
use mathlib.Core.Logic.{inl, inr}
use lib.ListN.{length}
use Rattle.terms.specs.Ladder.{Rung, None, Given}
use Rattle.terms.specs.Terms.{complete_at, incomplete_at}
use Rattle.terms.specs.declared.Plan.{Plan}
use Rattle.terms.proofs.Ladders.{by_ladder, is_given, is_passed}
use Rattle.terms.proofs.Rungs.{clash}
use Rattle.frame.specs.Frame.{frame_node}
use Rattle.rounds.specs.declared.Heard.TheVariants.{Record}
use Rattle.rounds.specs.Rounds.{Closed}
use Rattle.recover.specs.Recover.{decoded, collected, repaired}
use Rattle.standing.specs.Standing.{is_storing}
use Rattle.session.specs.declared.Session.{Session}
use Rattle.session.specs.Session.{marked_of, ended_of, next_of, storing_of, Said, refused, still_open, done, never_written, aborted, rounds_spent, clock_spent, is_refused}
use Rattle.session.specs.Reader.{Outcome, outcome, closed, accepted, read_reply}
use Rattle.client.specs.Endings.{read_ladder, after_reply, desk_after, size, WhenNever, WhenAborted, WhenSpent, DoneByRead, DoneByRepair, Waits, NextOpens, RepairOpens, ReadGives}
use Rattle.client.proofs.Reading as reading

-- a refusal that is given, and none
pub given_none : (l : List Rung) (k : ℕ) → Given l k → None l → ⊥
given_none l k g n = clash (sym (is_given l (λ (j : ℕ). true) false k g) ∙ is_passed l (λ (j : ℕ). true) false n)

module _ (p : Plan) (s : Session) (f d i : List ℕ) where
  -- the session and the desk with this reply, and the close
  abbrev u : Session
  u = after_reply p s f

  abbrev e : List ℕ
  e = desk_after p f d

  abbrev c : Closed
  c = closed p u e

  pub data Went (o : Outcome) : Type 0 where
    refuses : (k : ℕ) → Given (read_ladder p s f d (length i)) k → o ≡ outcome (refused k) s d i → Went o
    hears : None (read_ladder p s f d (length i)) → is_storing s.round.stage ≡ false → o ≡ outcome still_open u e i → Went o
    stores : None (read_ladder p s f d (length i)) → is_storing s.round.stage ≡ true → o ≡ outcome still_open (marked_of s (frame_node f) Record) d i → Went o
    next : NextOpens p s f d (length i) → o ≡ outcome still_open (next_of u c.stamp) e i → Went o
    repairs : (w : RepairOpens p s f d (length i)) → o ≡ outcome still_open (storing_of u c.stamp) (repaired p c w.node e) i → Went o
    finds : DoneByRead p s f d (length i) c.stamp s.round.number → o ≡ outcome (done c.stamp s.round.number) (ended_of u) e (decoded p c e i) → Went o
    ends : DoneByRepair p s f d (length i) s.stamp s.round.number
        → o ≡ outcome (done s.stamp s.round.number) (ended_of (marked_of s (frame_node f) Record)) d (collected p d i) → Went o
    never : WhenNever p s f d (length i) s.round.number → o ≡ outcome (never_written s.round.number) (ended_of u) e i → Went o
    aborts : WhenAborted p s f d (length i) s.round.number → o ≡ outcome (aborted s.round.number) (ended_of u) e i → Went o
    spends : WhenSpent p s f d (length i) s.round.number → o ≡ outcome (rounds_spent s.round.number) (ended_of u) e i → Went o

  waits : (w : Waits p s f d (length i)) (x : Bool) → is_storing s.round.stage ≡ x → Went (read_reply p s f d i)
  waits w true q = stores w.accepted q (reading.waits_repair p s f d i w.accepted q (rw q at w.few))
  waits w false q = hears w.accepted q (reading.waits_read p s f d i w.accepted q (rw q at w.few))

  by : (a : Said) → ReadGives p s f d (length i) a → Went (read_reply p s f d i)
  by (refused j) g = refuses j g (reading.one_ladder p s f d i ∙ is_given (read_ladder p s f d (length i)) (λ (j : ℕ). outcome (refused j) s d i) _ j g)
  by still_open (inl w) = waits w (is_storing s.round.stage) refl
  by still_open (inr (inl w)) =
      let n = w.closes.accepted in
      next w (reading.closes_read p s f d i n w.closes.asks w.closes.enough ∙ reading.goes_on p s f d i n w.node w.candidate w.fails w.more)
  by still_open (inr (inr w)) =
      let v = reading.mended_is p.member (complete_at p) (incomplete_at p) (size p s f d w.node) w.high w.low w.member in
      repairs w (reading.closes_read p s f d i w.closes.accepted w.closes.asks w.closes.enough
      ∙ reading.is_mended p s f d i w.node w.candidate v w.validated)
  by (done stamp m) (inl w) =
      let v = reading.whole_is p.member (complete_at p) (incomplete_at p) (size p s f d w.node) w.full in
      finds
      (record { closes = w.closes; node = w.node; candidate = w.candidate; full = w.full; validated = w.validated; of = reading.stamp_is p s f d i w.node w.candidate; counted = refl })
      (reading.closes_read p s f d i w.closes.accepted w.closes.asks w.closes.enough ∙ reading.is_done p s f d i w.node w.candidate v w.validated)
  by (done stamp m) (inr w) =
      ends (record { accepted = w.accepted; stores = w.stores; enough = w.enough; of = refl; counted = refl })
      (reading.ends_repair p s f d i w.accepted w.stores w.enough)
  by (never_written m) w =
      let n = w.closes.accepted in
      never (record { closes = w.closes; first = w.first; counted = refl })
      (reading.closes_read p s f d i n w.closes.asks w.closes.enough ∙ reading.never p s f d i n w.first)
  by (aborted m) w =
      let n = w.closes.accepted in
      let v = reading.unsure_is p.member (complete_at p) (incomplete_at p) (size p s f d w.node) w.high w.low w.member in
      aborts (record { closes = w.closes; node = w.node; candidate = w.candidate; low = w.low; high = w.high; member = w.member; counted = refl })
      (reading.closes_read p s f d i n w.closes.asks w.closes.enough ∙ reading.is_aborted p s f d i w.node w.candidate v)
  by (rounds_spent m) w =
      let n = w.closes.accepted in
      spends (record { closes = w.closes; node = w.node; candidate = w.candidate; fails = w.fails; last = w.last; counted = refl })
      (reading.closes_read p s f d i n w.closes.asks w.closes.enough ∙ reading.spends p s f d i n w.node w.candidate w.fails w.last)
  by clock_spent w = absurd w

  pub went : Went (read_reply p s f d i)
  went = by (read_reply p s f d i).said (reading.gives p s f d i)

  pub takes_none : is_refused (read_reply p s f d i).said ≡ false → None (read_ladder p s f d (length i))
  takes_none h =
      by_ladder (λ (o : Outcome). is_refused o.said ≡ false → None (read_ladder p s f d (length i))) (read_ladder p s f d (length i))
      (λ (k : ℕ). outcome (refused k) s d i) (accepted p s f d i) (λ k g z. absurd (clash z)) (λ n z. n)
      (subst (λ (o : Outcome). is_refused o.said ≡ false) (reading.one_ladder p s f d i) h)

  pub none_takes : None (read_ladder p s f d (length i)) → is_refused (read_reply p s f d i).said ≡ false
  none_takes n = by_went (read_reply p s f d i) went
    where
      by_went : (o : Outcome) → Went o → is_refused o.said ≡ false
      by_went o (refuses k g z) = absurd (given_none (read_ladder p s f d (length i)) k g n)
      by_went o (hears m q z) = ap (λ (x : Outcome). is_refused x.said) z
      by_went o (stores m q z) = ap (λ (x : Outcome). is_refused x.said) z
      by_went o (next w z) = ap (λ (x : Outcome). is_refused x.said) z
      by_went o (repairs w z) = ap (λ (x : Outcome). is_refused x.said) z
      by_went o (finds w z) = ap (λ (x : Outcome). is_refused x.said) z
      by_went o (ends w z) = ap (λ (x : Outcome). is_refused x.said) z
      by_went o (never w z) = ap (λ (x : Outcome). is_refused x.said) z
      by_went o (aborts w z) = ap (λ (x : Outcome). is_refused x.said) z
      by_went o (spends w z) = ap (λ (x : Outcome). is_refused x.said) z
