-- WHAT A REPLY TO A WRITER COMES TO, one case an answer and a stage, each with its condition and all that it leaves. Assumes nothing.
--   Wrote wrote_so     the case that a call is
--   takes_none none_takes   a reply is not refused exactly where no refusal applies
use Prim.Native.Nat.{ℕ, ◌≤◌}
use mathlib.Core.Path.{◌≡◌, refl, sym, ap, subst}
use mathlib.Core.Bool.{Bool, true, false}
use mathlib.Core.List.{List}
use borrow.Author.Tests.{ltb-true, ltb-false, eqb-true, eqb-false}
use lib.Dec.{eqb}
use lib.ListN.{length}
use Rattle.terms.specs.Ladder.{None, Given}
use Rattle.terms.specs.Stamp.{time, top}
use Rattle.terms.specs.declared.Plan.{Plan}
use Rattle.terms.proofs.Ladders.{by_ladder}
use Rattle.terms.proofs.Rungs.{clash}
use Rattle.frame.specs.Frame.{frame_node, body_of}
use Rattle.rounds.specs.declared.Heard.TheVariants.{Record}
use Rattle.rounds.specs.Rounds.{heard_count}
use Rattle.recover.specs.Records.{stamp_for, records_for}
use Rattle.standing.specs.Standing.{is_storing, replies}
use Rattle.session.specs.declared.Session.{Session}
use Rattle.session.specs.Session.{round_open, marked_of, ended_of, storing_of, refused, still_open, done, clock_spent, is_refused}
use Rattle.session.specs.Writer.{Leaves, leaves, timed_of, kth_reply, new_time, accepted_write, write_reply}
use Rattle.client.specs.Endings.{write_ladder}
use Rattle.client.proofs.Writing as writing
use Rattle.client.proofs.Went.{given_none}

module _ (p : Plan) (s : Session) (f d i : List ℕ) where
  -- the session with this reply, in a time round and in a write round
  abbrev asked : Session
  asked = timed_of s (frame_node f) (time (body_of f))

  abbrev kept : Session
  kept = marked_of s (frame_node f) Record

  pub data Wrote (o : Leaves) : Type 0 where
    refuses : (k : ℕ) → Given (write_ladder p s f d (length i)) k → o ≡ leaves (refused k) s d → Wrote o
    hears : None (write_ladder p s f d (length i)) → is_storing s.round.stage ≡ false → o ≡ leaves still_open asked d → Wrote o
    spends : None (write_ladder p s f d (length i)) → is_storing s.round.stage ≡ false → o ≡ leaves clock_spent (ended_of asked) d → Wrote o
    opens : None (write_ladder p s f d (length i)) → is_storing s.round.stage ≡ false
        → o ≡ leaves still_open (storing_of asked (stamp_for p (new_time (kth_reply p asked)) i)) (records_for p (new_time (kth_reply p asked)) i) → Wrote o
    stores : None (write_ladder p s f d (length i)) → is_storing s.round.stage ≡ true → o ≡ leaves still_open kept d → Wrote o
    ends : None (write_ladder p s f d (length i)) → is_storing s.round.stage ≡ true → replies p ≤ heard_count kept.marks
        → o ≡ leaves (done s.stamp 0) (ended_of kept) d → Wrote o

  module _ (n : None (write_ladder p s f d (length i))) where
    full : (q : is_storing s.round.stage ≡ false) → replies p ≤ heard_count asked.marks → (x : Bool) → eqb (kth_reply p asked) top ≡ x → Wrote (write_reply p s f d i)
    full q h true g = spends n q (writing.spends_clock p s f d i n q h (eqb-true (kth_reply p asked) top g))
    full q h false g = opens n q (writing.opens_write p s f d i n q h (eqb-false (kth_reply p asked) top g))

    in_time : (q : is_storing s.round.stage ≡ false) (x : Bool) → round_open p asked ≡ x → Wrote (write_reply p s f d i)
    in_time q true h = hears n q (writing.waits_time p s f d i n q (ltb-true _ _ h))
    in_time q false h = full q (ltb-false _ _ h) (eqb (kth_reply p asked) top) refl

    in_write : (q : is_storing s.round.stage ≡ true) (x : Bool) → round_open p kept ≡ x → Wrote (write_reply p s f d i)
    in_write q true h = stores n q (writing.waits_write p s f d i n q (ltb-true _ _ h))
    in_write q false h = let z = ltb-false _ _ h in ends n q z (writing.ends_write p s f d i n q z)

    taken : (x : Bool) → is_storing s.round.stage ≡ x → Wrote (write_reply p s f d i)
    taken true q = in_write q (round_open p kept) refl
    taken false q = in_time q (round_open p asked) refl

  pub wrote_so : Wrote (write_reply p s f d i)
  wrote_so =
      subst Wrote (sym (writing.one_ladder p s f d i))
      (by_ladder Wrote (write_ladder p s f d (length i)) (λ (k : ℕ). leaves (refused k) s d) (accepted_write p s f d i) (λ k g. refuses k g refl)
      (λ n. subst Wrote (writing.is_accepted p s f d i n) (taken n (is_storing s.round.stage) refl)))

  pub takes_none : is_refused (write_reply p s f d i).said ≡ false → None (write_ladder p s f d (length i))
  takes_none h =
      by_ladder (λ (o : Leaves). is_refused o.said ≡ false → None (write_ladder p s f d (length i))) (write_ladder p s f d (length i))
      (λ (k : ℕ). leaves (refused k) s d) (accepted_write p s f d i) (λ k g z. absurd (clash z)) (λ n z. n)
      (subst (λ (o : Leaves). is_refused o.said ≡ false) (writing.one_ladder p s f d i) h)

  pub none_takes : None (write_ladder p s f d (length i)) → is_refused (write_reply p s f d i).said ≡ false
  none_takes n = by_wrote (write_reply p s f d i) wrote_so
    where
      by_wrote : (o : Leaves) → Wrote o → is_refused o.said ≡ false
      by_wrote o (refuses k g z) = absurd (given_none (write_ladder p s f d (length i)) k g n)
      by_wrote o (hears m q z) = ap (λ (x : Leaves). is_refused x.said) z
      by_wrote o (spends m q z) = ap (λ (x : Leaves). is_refused x.said) z
      by_wrote o (opens m q z) = ap (λ (x : Leaves). is_refused x.said) z
      by_wrote o (stores m q z) = ap (λ (x : Leaves). is_refused x.said) z
      by_wrote o (ends m q l z) = ap (λ (x : Leaves). is_refused x.said) z
