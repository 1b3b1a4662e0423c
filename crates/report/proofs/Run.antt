-- A WHOLE READ IS FIGURE 3'S. Over any calls from opening, each answer is what READ says of the messages received in the rounds closed so far,
-- and an open one that it has not returned (read_run, opened_read). Each frame that is a message of the round is a turn of DO_READ's loop, whether
-- the call accepts it or refuses it 6, 11 or 12 (message_right). Assumes nothing.
use Rattle.std.specs.Prelude.{Ok}
use Prim.{tt}
use Prim.Native.Nat.{ℕ, ◌*◌}
use mathlib.Core.Path.{◌≡◌, refl, sym, ap, ◌∙◌, subst}
use mathlib.Core.List.{List, [], ◌∷◌}
use lib.ListN.{length}
use Rattle.octets.specs.Bytes.{Octets}
use Rattle.terms.specs.Stamp.{stamp_number}
use Rattle.terms.specs.Terms.{record_length}
use Rattle.terms.specs.declared.Plan.{Plan}
use Rattle.terms.specs.declared.Ask.{Ask}
use Rattle.std.proofs.Common.{None}
use Rattle.rounds.specs.Rounds.{unheards}
use Rattle.session.specs.declared.Session.{Session}
use Rattle.standing.specs.declared.Stage.{Stage}
use Rattle.standing.specs.declared.Stage.TheVariants.{Storing}
use Rattle.standing.specs.declared.Operation.TheVariants.{Read}
use Rattle.session.specs.Session.{said_of}
use Rattle.session.specs.Reader.{Outcome, outcome}
use Rattle.session.proofs.Openings.{accepted_session}
use Rattle.session.specs.declared.opening.Opened.{Opened}
use Rattle.session.specs.Opening.{OpenCall, fresh_of}
use Rattle.report.specs.Triple.{Message}
use Rattle.report.specs.Figure3.{repaired, do_read, read}
use Rattle.client.specs.Turns as turns
use Rattle.report.specs.Run.{Polled, unpolled, polls, polled_over, Repairing, EachTells, AllFull, AllApart}
use Rattle.report.proofs.Marks.{none_heard}
use Rattle.client.specs.Turns.{ReadTurn, Calls}
use Rattle.client.specs.Sessions.{last_session, last_desk}
use Rattle.client.specs.Held.{Passed}
use Rattle.client.proofs.Slots.{mark_none, none_marked}
use Rattle.report.proofs.Keeps.{Stores, KeepsAt, Keeps, Leaves}
use Rattle.report.proofs.Frames.{call_leaves, fewer}

-- ---- the run
runs_fewer : (p : Plan) (s : Session) (d : List ℕ) (w : Polled) (cs : List turns.Turn) → AllApart p (polled_over p s d w cs).rounds → AllApart p w.rounds
runs_fewer p s d w [] a = a
runs_fewer p s d w (c ∷ cs) a =
    fewer p s c.reply d c.item w (runs_fewer p c.took.session c.desk_left (polls p s c.reply d (length c.item) w) cs a)

repairing : (p : Plan) (s : Session) (d : List ℕ) (w : Polled) → s.round.stage ≡ Storing → Keeps p s d w → Repairing p s d w.rounds
repairing p s d w e k =
    let q : Stores p s d w = subst (λ (x : Stage). KeepsAt x p s d w) e k in
    record { Data = q.Data; is = q.decision ∙ ap (λ (l : List Message). repaired l (stamp_number s.stamp) q.Data) (sym q.sends) }

-- EACH CALL OF A READ TELLS WHAT FIGURE 3'S READ DECIDES OF WHAT WAS RECEIVED SO FAR, cut at W; and what is known after them
pub record Ran (p : Plan) (s : Session) (d : List ℕ) (w : Polled) (cs : List turns.Turn) : Type 0 where
  pub tells : EachTells p s d w cs
  pub full : AllFull p (polled_over p s d w cs).rounds
  pub keeps : Keeps p (last_session s cs) (last_desk d cs) (polled_over p s d w cs)

pub read_run : (p : Plan) (s : Session) (d : List ℕ) (w : Polled) (cs : List turns.Turn) → Keeps p s d w → AllFull p w.rounds
    → Calls (ReadTurn p) s d cs → AllApart p (polled_over p s d w cs).rounds → Ran p s d w cs
read_run p s d w [] k sz r a = record { tells = tt; full = sz; keeps = k }
read_run p s d w (c ∷ cs) k sz r a =
    let v : Polled = polls p s c.reply d (length c.item) w in
    let q : Leaves p (outcome (said_of c.took.answer) c.took.session c.desk_left c.item_left) v =
    subst (λ (o : Outcome). Leaves p o v) (sym r.0.1.is)
    (call_leaves p s c.reply d c.item w k sz r.0.0 (runs_fewer p c.took.session c.desk_left v cs a)) in
    let t = read_run p c.took.session c.desk_left v cs q.keeps q.full r.1 a in
    record {
      tells = (q.tells, (λ e. repairing p c.took.session c.desk_left v e q.keeps), t.tells);
      full = t.full;
      keeps = t.keeps;
    }

-- FROM OPENING: nothing was received yet
pub opened_run : (p : Plan) (a : Ask) (r : Opened) (d : List ℕ) (cs : List turns.Turn) → OpenCall Read p a r → r.answer ≡ (Ok tt)
    → length d ≡ p.n * record_length p → Octets d → Calls (ReadTurn p) r.session d cs → AllApart p (polled_over p r.session d unpolled cs).rounds
    → Ran p r.session d unpolled cs
opened_run p a r d cs call e ld od h apart = read_run p r.session d unpolled cs start tt h apart
  where
    fresh : Keeps p (fresh_of Read 1 None a) d unpolled
    fresh =
        record {
          decision = unfold read in refl;
          rounds = refl;
          set = unfold do_read in sym (none_heard p unheards d (mark_none 16) p.n);
          desk = ld;
          octets = od;
          size = refl;
          passed = none_marked (Passed p) p d;
          unstored = refl;
          reads = refl;
        }

    start : Keeps p r.session d unpolled
    start = subst (λ (x : Session). Keeps p x d unpolled) (sym (accepted_session Read p a r call e)) fresh

pub opened_read : (p : Plan) (a : Ask) (r : Opened) (d : List ℕ) (cs : List turns.Turn) → OpenCall Read p a r → r.answer ≡ (Ok tt)
    → length d ≡ p.n * record_length p → Octets d → Calls (ReadTurn p) r.session d cs → AllApart p (polled_over p r.session d unpolled cs).rounds
    → EachTells p r.session d unpolled cs × AllFull p (polled_over p r.session d unpolled cs).rounds
opened_read p a r d cs call e ld od h apart = let q = opened_run p a r d cs call e ld od h apart in (q.tells, q.full)
