-- WHAT THE CLIENT SENDS IS WHAT THE FIGURES SEND. In every state that calls of a read, or of a write, reach from an opening, an accepted request owed
-- to node S is the frame of what READ or WRITE has to send to S then, and it is refused 11 exactly where S is in the response set (read_owes,
-- write_owes). Assumes nothing.
use Rattle.terms.specs.declared.Refusal.{Refusal}
use Prim.{tt}
use Rattle.std.specs.Prelude.{Result, Ok}
use Prim.Native.Nat.{ℕ, zero, suc, ◌*◌, ◌<◌}
use mathlib.Core.Path.{◌≡◌, refl, sym, ap, ◌∙◌, subst}
use mathlib.Core.Bool.{Bool, true, false, cond}
use mathlib.Core.List.{List, [], ◌∷◌, ◌++◌}
use mathlib.Core.Logic.{inl, inr}
use native.Mathlib.Decide.{ℕ_discrete}
use native.Mathlib.Omega.{arith}
use borrow.Author.Tests.{ltb-true, not-false}
use lib.Dec.{ltb}
use lib.ListN.{length}
use Rattle.octets.specs.Bytes.{over, Octets}
use Rattle.terms.specs.Ladder.{Rung, None, upto}
use Rattle.terms.specs.Terms.{record_length}
use Rattle.terms.specs.declared.Ask.{Ask}
use Rattle.terms.specs.declared.Plan.{Plan}
use Rattle.terms.proofs.Down.{clear}
use Rattle.terms.proofs.Ladders.{by_ladder}
use Rattle.terms.proofs.Rungs.{clash}
use Rattle.terms.proofs.Small.{strict}
use Rattle.rounds.proofs.Laws.{not_heard}
use Rattle.std.proofs.Common.{Option}
use Rattle.std.specs.declared.option.Option.TheVariants as option
use Rattle.terms.specs.declared.Timestamp.{Timestamp}
use Rattle.rounds.specs.Rounds.{mark_of, heard_at}
use Rattle.record.specs.Desk.{slot_of}
use Rattle.frame.specs.Frame.{time_request_kind, write_request_kind, frame}
use Rattle.session.specs.declared.Session.{Session}
use Rattle.standing.specs.declared.Stage.{Stage}
use Rattle.standing.specs.declared.Stage.TheVariants.{Asking, Storing, Ended}
use Rattle.standing.specs.declared.Operation.TheVariants.{Write, Read}
use Rattle.standing.specs.Standing.{is_read, is_storing, is_ended, read_request}
use Rattle.session.specs.Session.{ask_now}
use Rattle.session.specs.Reply.{is_heard}
use Rattle.session.specs.Owed.{owed_ladder, request_of, refused, written, due_of, Dues, dues, owed_to, OwedCall}
use Rattle.report.specs.Triple.{Message, In, up_to}
use Rattle.report.specs.Figure3.{has, read}
use Rattle.report.specs.Ours.{family, bearing, sending, responses, command_of}
use Rattle.report.specs.Sent.{read_frame, SendsOwn, Commands, WriteCommands, in_response_set, in_write_set, Frame, Owes}
use Rattle.report.proofs.Lists.{in_append}
use Rattle.report.proofs.Hears.{heard_has, unheard_has}
use Rattle.client.specs.Turns as turns
use Rattle.client.specs.Turns.{ReadTurn, WriteTurn, Calls}
use Rattle.client.specs.Sessions.{last_session, last_desk}
use Rattle.session.specs.declared.opening.Opened.{Opened}
use Rattle.session.specs.Opening.{OpenCall}
use Rattle.report.specs.Figure2.{write}
use Rattle.report.specs.Figure3.{Decision, gathered}
use Rattle.report.specs.Run.{Polled, unpolled, polled_over, AllApart}
use Rattle.report.specs.WriteRun.{Responses, untimed, timed_over}
use Rattle.report.proofs.Keeps as reads
use Rattle.report.proofs.Run.{opened_run}
use Rattle.report.proofs.Write as writes

-- ---- the call
module _ (p : Plan) (s : Session) (S : ℕ) (d q : List ℕ) (o : Result ℕ Refusal) (q₂ : List ℕ) (call : OwedCall p s S d q o q₂) where
  abbrev ladder : List Rung
  ladder = owed_ladder p s S d (length q)

  not_written : (k n : ℕ) → refused k ≡ written n → ⊥
  not_written k n e = let z : ◌≡◌ {A = ℕ} 0 1 = cc in omega arith

  -- from what is commanded where nothing refuses
  owes : (C : List ℕ → Type 0) (in_set : Bool) → (None ladder → C (request_of p s S d)) → (None (upto 11 ladder) → is_heard s S ≡ in_set)
      → Owes C ladder in_set (due_of o) q q₂
  unfolding owed_to
  owes C in_set c h =
      record {
        sends = λ n e.
            by_ladder (λ (x : Dues). dues (due_of o) q₂ ≡ x → Frame C q q₂) ladder (λ (k : ℕ). dues (refused k) q)
            (dues (written (length (request_of p s S d))) (over (request_of p s S d) q))
            (λ k g z. absurd (not_written k n (sym (ap (λ (x : Dues). x.due) z) ∙ e)))
            (λ m z. record { frame = request_of p s S d; is = c m; bytes = ap (λ (x : Dues). x.request) z })
            call.is;
        heard = h;
      }

-- node k's own member
in_upto : {A : Type 0} (f : ℕ → A) (n k : ℕ) → k < n → In (f k) (up_to f n)
unfolding up_to
in_upto f zero k h = absurd (omega arith)
in_upto f (suc n) k h = go (ℕ_discrete k n) (in_upto f n k)
  where
    go : Dec (k ≡ n) → (k < n → In (f k) (up_to f n)) → In (f k) (up_to f n ++ (f n ∷ []))
    go (yes e) more = in_append (f k) (up_to f n) (f n ∷ []) (inr (inl (ap f e)))
    go (no e) more = in_append (f k) (up_to f n) (f n ∷ []) (inl (more (strict k n (omega arith) e)))

own : (p : Plan) (d : List ℕ) (sent : List Message) (S ask : ℕ) → S < p.n → sending p d ≡ sent → SendsOwn p sent S ask (frame write_request_kind S ask (slot_of p d S))
own p d sent S ask h e = record { rec = slot_of p d S; is = refl; own = subst (In (bearing p d S)) e (in_upto (bearing p d) p.n S h) }

-- ---- a read
module _ (p : Plan) (s : Session) (d : List ℕ) (w : Polled) (keep : reads.Keeps p s d w) (S : ℕ) (q : List ℕ) where
  commanded : None (owed_ladder p s S d (length q)) → Commands p (read (family p) w.rounds) S (ask_now s) (request_of p s S d)
  unfolding request_of read_request
  commanded n = go s.round.stage refl
    where
      low : S < p.n
      low = ltb-true S p.n (not-false (ltb S p.n) (clear (owed_ladder p s S d (length q)) n 4))

      by_bound : (b : Option Timestamp) → read_request b S (ask_now s) ≡ read_frame (command_of b) S (ask_now s)
      by_bound option.None = refl
      by_bound (option.Some u) = refl

      go : (x : Stage) → s.round.stage ≡ x → Commands p (read (family p) w.rounds) S (ask_now s)
          (cond (is_storing x) (frame write_request_kind S (ask_now s) (slot_of p d S)) (cond (is_read s.operation) (read_request s.round.bound S (ask_now s)) (frame time_request_kind S (ask_now s) [])))
      go Asking st =
          let k : reads.Asks p s d w = subst (λ (x : Stage). reads.KeepsAt x p s d w) st keep in
          subst (λ (x : Decision). Commands p x S (ask_now s) (cond (is_read s.operation) (read_request s.round.bound S (ask_now s)) (frame time_request_kind S (ask_now s) []))) (sym k.decision)
          (rw k.reads (by_bound s.round.bound))
      go Storing st =
          let k : reads.Stores p s d w = subst (λ (x : Stage). reads.KeepsAt x p s d w) st keep in
          subst (λ (x : Decision). Commands p x S (ask_now s) (frame write_request_kind S (ask_now s) (slot_of p d S))) (sym k.decision) (own p d k.sent S (ask_now s) low k.sends)
      go Ended st = absurd (clash (sym (ap is_ended st) ∙ clear (owed_ladder p s S d (length q)) n 14))

  in_set_is : None (upto 11 (owed_ladder p s S d (length q))) → is_heard s S ≡ in_response_set p s.round.stage w S
  unfolding is_heard
  in_set_is n = go s.round.stage refl
    where
      low : S < p.n
      low = ltb-true S p.n (not-false (ltb S p.n) (clear (upto 11 (owed_ladder p s S d (length q))) n 4))

      by_mark : (t : Bool) → heard_at s.marks S ≡ t → t ≡ has S (responses p s.marks d p.n)
      by_mark true e = sym (heard_has p s.marks d S p.n low e)
      by_mark false e = sym (unheard_has p s.marks d S p.n (not_heard (mark_of s.marks S) e))

      go : (x : Stage) → s.round.stage ≡ x → heard_at s.marks S ≡ in_response_set p x w S
      go Asking st =
          let k : reads.Asks p s d w = subst (λ (x : Stage). reads.KeepsAt x p s d w) st keep in
          by_mark (heard_at s.marks S) refl
          ∙ ap (has S) (sym (ap (λ (x : Decision). gathered (family p) x w.now) k.decision ∙ k.set))
      go Storing st =
          let k : reads.Stores p s d w = subst (λ (x : Stage). reads.KeepsAt x p s d w) st keep in
          sym (k.marked.names S)
      go Ended st = absurd (clash (sym (ap is_ended st) ∙ clear (upto 11 (owed_ladder p s S d (length q))) n 14))

-- FROM OPENING, after any calls
pub read_owes : (p : Plan) (a : Ask) (r : Opened) (d : List ℕ) (cs : List turns.Turn) → OpenCall Read p a r → r.answer ≡ (Ok tt)
    → length d ≡ p.n * record_length p → Octets d → Calls (ReadTurn p) r.session d cs → AllApart p (polled_over p r.session d unpolled cs).rounds
    → (S : ℕ) (q : List ℕ) (o : Result ℕ Refusal) (q₂ : List ℕ) → OwedCall p (last_session r.session cs) S (last_desk d cs) q o q₂
    → Owes (Commands p (read (family p) (polled_over p r.session d unpolled cs).rounds) S (ask_now (last_session r.session cs)))
    (owed_ladder p (last_session r.session cs) S (last_desk d cs) (length q))
    (in_response_set p (last_session r.session cs).round.stage (polled_over p r.session d unpolled cs) S) (due_of o) q q₂
read_owes p a r d cs opens e ld od h apart S q o q₂ call =
    let k = (opened_run p a r d cs opens e ld od h apart).keeps in
    owes p (last_session r.session cs) S (last_desk d cs) q o q₂ call _ _
    (commanded p (last_session r.session cs) (last_desk d cs) (polled_over p r.session d unpolled cs) k S q)
    (in_set_is p (last_session r.session cs) (last_desk d cs) (polled_over p r.session d unpolled cs) k S q)

-- ---- a write
module _ (p : Plan) (s : Session) (d : List ℕ) (w : Responses) (keep : writes.Keeps p s d w) (S : ℕ) (q : List ℕ) where
  write_commanded : None (owed_ladder p s S d (length q)) → WriteCommands p s.round.stage w S (ask_now s) (request_of p s S d)
  unfolding request_of
  write_commanded n = go s.round.stage refl
    where
      low : S < p.n
      low = ltb-true S p.n (not-false (ltb S p.n) (clear (owed_ladder p s S d (length q)) n 4))

      go : (x : Stage) → s.round.stage ≡ x → WriteCommands p x w S (ask_now s)
          (cond (is_storing x) (frame write_request_kind S (ask_now s) (slot_of p d S)) (cond (is_read s.operation) (read_request s.round.bound S (ask_now s)) (frame time_request_kind S (ask_now s) [])))
      go Asking st =
          let k : writes.Asks p s w = subst (λ (x : Stage). writes.KeepsAt x p s d w) st keep in
          rw k.writes
      go Storing st =
          let k : writes.Stores p s d w = subst (λ (x : Stage). writes.KeepsAt x p s d w) st keep in
          own p d (write (family p) w.Data w.times) S (ask_now s) low k.sends.sends
      go Ended st = absurd (clash (sym (ap is_ended st) ∙ clear (owed_ladder p s S d (length q)) n 14))

  write_set_is : None (upto 11 (owed_ladder p s S d (length q))) → is_heard s S ≡ in_write_set s.round.stage w S
  unfolding is_heard
  write_set_is n = go s.round.stage refl
    where
      go : (x : Stage) → s.round.stage ≡ x → heard_at s.marks S ≡ in_write_set x w S
      go Asking st = let k : writes.Asks p s w = subst (λ (x : Stage). writes.KeepsAt x p s d w) st keep in sym (k.marked.names S)
      go Storing st = let k : writes.Stores p s d w = subst (λ (x : Stage). writes.KeepsAt x p s d w) st keep in sym (k.marked.names S)
      go Ended st = absurd (clash (sym (ap is_ended st) ∙ clear (upto 11 (owed_ladder p s S d (length q))) n 14))

pub write_owes : (p : Plan) (a : Ask) (r : Opened) (d : List ℕ) (cs : List turns.Turn) → OpenCall Write p a r → r.answer ≡ (Ok tt)
    → Calls (WriteTurn p) r.session d cs → (S : ℕ) (q : List ℕ) (o : Result ℕ Refusal) (q₂ : List ℕ)
    → OwedCall p (last_session r.session cs) S (last_desk d cs) q o q₂
    → Owes (WriteCommands p (last_session r.session cs).round.stage (timed_over p r.session d untimed cs) S (ask_now (last_session r.session cs)))
    (owed_ladder p (last_session r.session cs) S (last_desk d cs) (length q))
    (in_write_set (last_session r.session cs).round.stage (timed_over p r.session d untimed cs) S) (due_of o) q q₂
write_owes p a r d cs opens e h S q o q₂ call =
    let k = (writes.opened_write_run p a r d cs opens e h).keeps in
    owes p (last_session r.session cs) S (last_desk d cs) q o q₂ call _ _
    (write_commanded p (last_session r.session cs) (last_desk d cs) (timed_over p r.session d untimed cs) k S q)
    (write_set_is p (last_session r.session cs) (last_desk d cs) (timed_over p r.session d untimed cs) k S q)
