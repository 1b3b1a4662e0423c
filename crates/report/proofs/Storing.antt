-- A repair round of ours after a reply was heard. Assumes nothing.
use Prim.{tt}
use Prim.Native.Nat.{ℕ, ◌*◌, ◌≤◌, ◌<◌}
use mathlib.Core.Path.{◌≡◌, refl, sym, ap, ◌∙◌, subst}
use mathlib.Core.Bool.{Bool, true, false, cond}
use mathlib.Core.List.{List, ◌∷◌}
use mathlib.Core.Logic.{inr}
use native.Mathlib.Omega.{arith}
use borrow.Author.Tests.{ltb-true, ltb-false, lt-ltb}
use lib.Dec.{ltb}
use lib.ListN.{length, set, length-set}
use Rattle.octets.proofs.Laws.{slot_fits}
use Rattle.terms.specs.Stamp.{stamp_number}
use Rattle.terms.specs.Terms.{plan_ok, record_length, slots_of}
use Rattle.terms.specs.declared.Plan.{Plan}
use Rattle.terms.proofs.Facts.{facts}
use Rattle.fragments.specs.Fragments.{from, regenerated, Sources}
use Rattle.fragments.proofs.Laws.{among_from, length_from, get_d_from, itself, length_regenerated}
use Rattle.frame.specs.Frame.{frame_node}
use Rattle.record.specs.Desk.{fragment_in}
use Rattle.record.proofs.Desks.{fragment_in_lem}
use Rattle.terms.proofs.Places.{record_length_lem}
use Rattle.rounds.specs.declared.Heard.TheVariants.{Record}
use Rattle.rounds.specs.Rounds.{heard_count, mark_of}
use Rattle.rounds.proofs.Laws.{not_heard, count_set}
use Rattle.session.specs.declared.Session.{Session}
use Rattle.standing.specs.declared.Stage.{Stage}
use Rattle.standing.specs.declared.Stage.TheVariants.{Storing}
use Rattle.standing.specs.Standing.{replies}
use Rattle.session.specs.Session.{marked_of, ended_of, still_open, done}
use Rattle.session.specs.Reply.{is_heard}
use Rattle.recover.specs.Recover.{collected}
use Rattle.session.specs.Reader.{outcome, stored}
use Rattle.report.specs.Triple.{strung}
use Rattle.report.specs.Figure2.{acknowledged}
use Rattle.report.specs.Figure3.{repaired}
use Rattle.report.specs.Run.{Polled, AllFull}
use Rattle.report.proofs.Lists.{strung_same}
use Rattle.report.proofs.Erasure.{laid_is}
use Rattle.report.proofs.Gathers.{put_in, Marked, marked_more}
use Rattle.report.proofs.Keeps.{Stores, KeepsAt, Leaves}

-- ---- a repair round
module _ (p : Plan) (d i : List ℕ) (ok : plan_ok p ≡ true) (ld : length d ≡ p.n * record_length p) (li : length i ≡ p.m * p.f) where
  src : Sources d (slots_of p) (from 0 p.m)
  src k l =
      let f = facts p ok in
      let h : k < p.m = omega (arith, length_from 0 p.m) in
      rw (get_d_from 0 p.m k h) (omega (arith, slot_fits k p.n (record_length p) (omega arith), ld, record_length_lem p))

  -- "after a repair round the item is read from the desk's first m slots"
  collected_is : collected p d i ≡ strung (fragment_in p d) p.m
  unfolding collected
  collected_is =
      laid_is d (slots_of p) (from 0 p.m) (λ k. length_regenerated d (slots_of p) (from 0 p.m) k src) p.m i li
      ∙ strung_same (regenerated d (slots_of p) (from 0 p.m)) (fragment_in p d) p.m own
    where
      own : (k : ℕ) → k < p.m → regenerated d (slots_of p) (from 0 p.m) k ≡ fragment_in p d k
      own k h = sym (itself d (slots_of p) (from 0 p.m) k (sym (among_from k p.m ∙ lt-ltb k p.m h))) ∙ fragment_in_lem p d k

  -- a response of a node that was not heard
  module _ (s : Session) (f : List ℕ) (w : Polled) (st : s.round.stage ≡ Storing) (k : Stores p s d w) (sz : AllFull p w.rounds)
      (u : is_heard s (frame_node f) ≡ false) (low : frame_node f < 16) (few : heard_count s.marks < replies p) where
    abbrev with_response : Polled
    with_response = record { rounds = w.rounds; now = w.now; stored = frame_node f ∷ w.stored }

    marked_now : Marked (λ (S : ℕ). S) (set s.marks (frame_node f) Record) (acknowledged (frame_node f ∷ w.stored))
    unfolding is_heard
    marked_now =
        subst (Marked (λ (S : ℕ). S) (set s.marks (frame_node f) Record))
        (sym (put_in (λ (S : ℕ). S) (frame_node f) w.stored (k.marked.names (frame_node f) ∙ u)))
        (marked_more (λ (S : ℕ). S) s.marks (acknowledged w.stored) (frame_node f) (frame_node f) refl (omega (arith, low, k.size))
        (not_heard (mark_of s.marks (frame_node f)) u) k.marked)

    pub stores : Leaves p (stored p (marked_of s (frame_node f) Record) d i) with_response
    unfolding stored is_heard
    stores = go (ltb (heard_count (marked_of s (frame_node f) Record).marks) (replies p)) refl
      where
        most : heard_count (marked_of s (frame_node f) Record).marks ≤ replies p
        most =
            omega (
              arith,
              few,
              count_set s.marks (frame_node f) Record (omega (arith, low, k.size)) (not_heard (mark_of s.marks (frame_node f)) u) refl,
            )

        go : (t : Bool) → ltb (heard_count (marked_of s (frame_node f) Record).marks) (replies p) ≡ t
            → Leaves p (cond t (outcome still_open (marked_of s (frame_node f) Record) d i)
            (outcome (done s.stamp s.round.number) (ended_of (marked_of s (frame_node f) Record)) d (collected p d i))) with_response
        go true e =
            record {
              keeps = subst (λ (x : Stage). KeepsAt x p (marked_of s (frame_node f) Record) d with_response) (sym st)
                  (record {
                    sent = k.sent;
                    Data = k.Data;
                    decision = k.decision;
                    sends = k.sends;
                    holds = k.holds;
                    rounds = k.rounds;
                    size = length-set s.marks (frame_node f) Record ∙ k.size;
                    marked = marked_now;
                    reads = k.reads;
                  });
              tells = inr (record {
                sent = k.sent;
                ts = stamp_number s.stamp;
                Data = k.Data;
                is = k.decision;
                few = omega (arith, marked_now.count, ltb-true (heard_count (marked_of s (frame_node f) Record).marks) (replies p) e);
              });
              full = sz;
            }
        go false e =
            let l = ltb-false (heard_count (marked_of s (frame_node f) Record).marks) (replies p) e in
            record {
              keeps = tt;
              tells = (
                inr (record {
                  sent = k.sent;
                  is = k.decision ∙ ap (repaired k.sent (stamp_number s.stamp)) (sym k.holds ∙ sym collected_is);
                  enough_stored = omega (arith, marked_now.count, most, l);
                }),
                k.rounds,
              );
              full = sz;
            }
