-- A read round of ours after a reply was heard: it stays open, or READ decides of its set what we do. Assumes nothing.
use Prim.{tt}
use Prim.Native.Nat.{ℕ, ◌*◌, ◌≤◌, ◌<◌}
use mathlib.Core.Path.{◌≡◌, refl, sym, ap, ◌∙◌, subst}
use mathlib.Core.Bool.{Bool, true, false, cond}
use mathlib.Core.List.{List, [], ◌∷◌}
use mathlib.Core.Logic.{inl, inr}
use native.Mathlib.Omega.{arith}
use borrow.Author.Tests.{ltb-true, ltb-false, leb-true, leb-false, eqb-true}
use lib.Dec.{ltb, leb, eqb}
use lib.ListN.{length}
use Rattle.terms.specs.Stamp.{stamp_number}
use Rattle.terms.specs.Terms.{plan_ok}
use Rattle.terms.specs.declared.Plan.{Plan}
use Rattle.rounds.specs.Rounds.{heard_count, unheards, rest_unheard}
use Rattle.session.specs.declared.Session.{Session}
use Rattle.standing.specs.declared.Stage.{Stage}
use Rattle.standing.specs.declared.Stage.TheVariants.{Asking}
use Rattle.standing.specs.Standing.{replies}
use Rattle.session.specs.Session.{still_open}
use Rattle.session.specs.Reader.{Outcome, outcome, acted, closed, settled}
use Rattle.session.proofs.Made.{few_unheards}
use Rattle.report.specs.Triple.{Message}
use Rattle.report.specs.Figure2.{acknowledged}
use Rattle.report.specs.Figure3.{Command, read_latest, read_previous, Decision, returned, repaired, abort, reading, do_read, loop, read, goes_on, gathered, response_set}
use Rattle.report.specs.Ours.{family, responses, command_of}
use Rattle.report.specs.Decides.{Decides}
use Rattle.report.specs.Run.{Polled, rolled, AllFull, Apart, AllApart}
use Rattle.report.proofs.Sets.{size_is}
use Rattle.report.proofs.Round.{Full, round_decides}
use Rattle.report.proofs.Marks.{none_heard, one_cross}
use Rattle.client.specs.Held.{Passed}
use Rattle.client.proofs.Slots.{mark_none, none_marked}
use Rattle.report.proofs.Gathers.{Marked, marked_none}
use Rattle.report.proofs.Keeps.{positive, Asks, KeepsAt, Leaves}

-- ---- a read round after a mark, w with the message that was heard
module _ (p : Plan) (s : Session) (d i : List ℕ) (w : Polled) (st : s.round.stage ≡ Asking) (k : Asks p s d w)
    (ok : plan_ok p ≡ true) (li : length i ≡ p.m * p.f) (rest : rest_unheard s.marks p.n ≡ true) (few : s.round.number ≤ p.w)
    (most : heard_count s.marks ≤ replies p) (sz : AllFull p w.rounds) where
  abbrev set_now : List Message
  set_now = responses p s.marks d p.n

  abbrev rolled_over : Polled
  rolled_over = record { rounds = w.now ∷ w.rounds; now = []; stored = w.stored }

  set_is : response_set (family p) w.rounds w.now ≡ set_now
  set_is = ap (λ (x : Decision). gathered (family p) x w.now) k.decision ∙ k.set

  count_is : length (do_read (family p) (command_of s.round.bound) w.now) ≡ heard_count s.marks
  count_is = ap length k.set ∙ size_is p s.marks d rest

  still : heard_count s.marks < replies p → Leaves p (outcome still_open s d i) w
  still l =
      record {
        keeps = subst (λ (x : Stage). KeepsAt x p s d w) (sym st) k;
        tells = inl (record { command = command_of s.round.bound; is = k.decision; few = omega (arith, count_is, l) });
        full = sz;
      }

  none_yet : heard_count unheards < replies p
  none_yet = ltb-true (heard_count unheards) (replies p) (few_unheards p ok)

  none_stored : Marked (λ (S : ℕ). S) unheards (acknowledged w.stored)
  none_stored = subst (λ (l : List ℕ). Marked (λ (S : ℕ). S) unheards (acknowledged l)) (sym k.unstored) (marked_none (λ (S : ℕ). S))

  module _ (enough : replies p ≤ heard_count s.marks) (apart : AllApart p (w.now ∷ w.rounds)) where
    full_round : Full p s d i
    full_round =
        record {
          plan = ok;
          desk = k.desk;
          octets = k.octets;
          item = li;
          enough = enough;
          rest = rest;
          times = λ j h m. (k.passed j h m).timed;
          cross = one_cross p s.marks d k.desk k.octets k.passed (subst Apart set_is apart.0);
        }

    loop_next : read (family p) (w.now ∷ w.rounds) ≡ loop (family p) set_now
    unfolding read
    loop_next = ap (λ (x : Decision). goes_on (family p) x w.now) k.decision ∙ ap (loop (family p)) k.set

    full_now : AllFull p (w.now ∷ w.rounds)
    full_now = (record { command = command_of s.round.bound; asked = k.decision; full = count_is ∙ omega (arith, most, enough) }, sz)

    counted : s.round.number ≡ length (w.now ∷ w.rounds)
    counted = k.rounds

    by_decision : (o : Outcome) (x : Decision) → read (family p) (w.now ∷ w.rounds) ≡ x → Decides p s d i o x → Leaves p o rolled_over
    unfolding do_read heard_count
    by_decision o (returned ts Data) e c = go (eqb ts 0) refl
      where
        go : (t : Bool) → eqb ts 0 ≡ t → Leaves p o rolled_over
        go true z =
            let v = c.never (eqb-true ts 0 z) in
            subst (λ (y : Outcome). Leaves p y rolled_over) (sym v.1)
            (record { keeps = tt; tells = (e ∙ (λ j. returned (eqb-true ts 0 z j) (v.0 j)), counted); full = full_now })
        go false z = subst (λ (y : Outcome). Leaves p y rolled_over) (sym (c.value (positive ts z)))
            (record { keeps = tt; tells = (inl (rw c.number e), counted); full = full_now })
    by_decision o (repaired sent ts Data) e c =
        let is : read (family p) (w.now ∷ w.rounds) ≡ repaired sent (stamp_number c.stamp) Data = e ∙ ap (λ (x : ℕ). repaired sent x Data) (sym c.number) in
        subst (λ (y : Outcome). Leaves p y rolled_over) (sym c.is)
        (record {
          keeps = record { sent = sent; Data = Data; decision = is; sends = c.sends; holds = c.holds; rounds = counted; size = refl; marked = none_stored; reads = k.reads };
          tells = inr (record { sent = sent; ts = stamp_number c.stamp; Data = Data; is = is; few = omega (arith, none_stored.count, none_yet) });
          full = full_now;
        })
    by_decision o abort e c = subst (λ (y : Outcome). Leaves p y rolled_over) (sym c) (record { keeps = tt; tells = (e, counted); full = full_now })
    by_decision o (reading read_latest) e c = absurd c
    by_decision o (reading (read_previous ts)) e c = go (leb p.w s.round.number) refl
      where
        go : (t : Bool) → leb p.w s.round.number ≡ t → Leaves p o rolled_over
        go true z =
            let l = leb-true p.w s.round.number z in
            subst (λ (y : Outcome). Leaves p y rolled_over) (sym (c.cut l))
            (record { keeps = tt; tells = (record { ts = ts; is = e; cut = omega (arith, few, l) }, counted); full = full_now })
        go false z =
            let l = leb-false p.w s.round.number z in
            let is : read (family p) (w.now ∷ w.rounds) ≡ reading (read_previous (stamp_number c.stamp)) = e ∙ ap (λ (x : ℕ). reading (read_previous x)) (sym c.number) in
            subst (λ (y : Outcome). Leaves p y rolled_over) (sym (c.next l))
            (record {
              keeps =
                  record {
                    decision = is;
                    rounds = omega (arith, counted);
                    set = nothing_heard (read_previous (stamp_number c.stamp));
                    desk = k.desk;
                    octets = k.octets;
                    size = refl;
                    passed = none_marked (Passed p) p d;
                    unstored = k.unstored;
                    reads = k.reads;
                  };
              tells = inl (record { command = read_previous (stamp_number c.stamp); is = is; few = waits (stamp_number c.stamp) });
              full = full_now;
            })
          where
            nothing_heard : (command : Command) → do_read (family p) command [] ≡ responses p unheards d p.n
            nothing_heard command = sym (none_heard p unheards d (mark_none 16) p.n)

            waits : (x : ℕ) → length (do_read (family p) (read_previous x) []) < replies p
            waits x = omega (arith, none_yet)

    closes : Leaves p (acted p s (closed p s d) d i) rolled_over
    closes = by_decision (acted p s (closed p s d) d i) (loop (family p) set_now) loop_next (round_decides p s d i full_round)

  pub rolled_is : rolled p w ≡ cond (ltb (heard_count s.marks) (replies p)) w rolled_over
  rolled_is = ap (λ (n : ℕ). cond (ltb n (replies p)) w rolled_over) (ap length set_is ∙ size_is p s.marks d rest)

  pub settles : AllApart p (rolled p w).rounds → Leaves p (settled p s d i) (rolled p w)
  unfolding settled
  settles apart =
      subst (λ (x : Polled). Leaves p (settled p s d i) x) (sym rolled_is)
      (go (ltb (heard_count s.marks) (replies p)) refl (subst (λ (x : Polled). AllApart p x.rounds) rolled_is apart))
    where
      go : (t : Bool) → ltb (heard_count s.marks) (replies p) ≡ t → AllApart p (cond t w rolled_over).rounds
          → Leaves p (cond t (outcome still_open s d i) (acted p s (closed p s d) d i)) (cond t w rolled_over)
      go true e a = still (ltb-true (heard_count s.marks) (replies p) e)
      go false e a = closes (ltb-false (heard_count s.marks) (replies p) e) a
