-- THE NODES' SHARE: what the read takes of a node that executed the write, asked without a bound or below one above the write, is a record of its timestamp or
-- a greater one (all_heed). The reply was written by a call of that node, for a request that the read owed in the round that it is in; and not early. Assumes nothing.
use Prim.{tt}
use Prim.Native.Nat.{ℕ, ◌<◌}
use mathlib.Core.Path.{◌≡◌, refl, sym, ap, ◌∙◌, subst}
use mathlib.Core.Bool.{Bool, true, false}
use mathlib.Core.List.{List, [], ◌∷◌, ◌++◌, append_assoc}
use mathlib.Core.Logic.{◌⊎◌, inl, inr}
use native.Mathlib.Omega.{arith}
use borrow.Author.Tests.{not-false, eqb-true}
use lib.ListN.{length, take}
use Rattle.octets.specs.Bytes.{be}
use Rattle.terms.specs.Ladder.{None}
use Rattle.terms.specs.Stamp.{stamp, stamp_number}
use Rattle.terms.specs.declared.Plan.{Plan}
use Rattle.terms.proofs.Down.{clear}
use Rattle.terms.proofs.Rungs.{both, clash}
use Rattle.frame.specs.Frame.{frame_node, kind_of, ask_of, body_of, header_in, answers_to, header_of, read_latest_kind, read_previous_kind}
use Rattle.frame.proofs.Built as built
use Rattle.standing.specs.declared.Round.{Round}
use Rattle.standing.specs.declared.Stage.{Stage}
use Rattle.standing.specs.declared.Stage.TheVariants.{Asking, Storing, Ended}
use Rattle.standing.specs.Standing.{is_read, is_asking, is_storing, is_ended}
use Rattle.session.specs.declared.Session.{Session}
use Rattle.session.specs.Session.{ask_now, is_refused}
use Rattle.session.specs.Reader.{Outcome}
use Rattle.session.specs.Reply.{awaited}
use Rattle.store.specs.History.{Call, ExecutedAt, Wrote}
use Rattle.store.proofs.Latest.{Seeks}
use Rattle.store.proofs.Lives.{each_one}
use Rattle.client.specs.Endings.{read_ladder}
use Rattle.client.specs.Sessions.{last_session, last_desk}
use Rattle.client.specs.Turns.{Turn, ReadTurn, Calls}
use Rattle.client.specs.Older.{Above, AtLeast, Heeds}
use Rattle.client.proofs.Reading.{taken}
use Rattle.client.proofs.Went.{takes_none}
use Rattle.report.proofs.Exchange as exchange
use Rattle.report.proofs.Exchange.{time_due, latest_due, previous_due, record_due}
use Rattle.safety.specs.Run.{Life, Nodes, life_of, Reading, Stands, Owes}
use Rattle.safety.specs.Safety.{Before, OwnNumbers, OwnAsks, HonestLives}
use Rattle.safety.proofs.Rounds.{each_at, calls_on, session_on, desk_on}
use Rattle.safety.proofs.Requests.{own_request}
use Rattle.safety.proofs.Answers.{split_moment, Side, late_answers}

-- ---- the request of a read round
not_storing : (x : Stage) → is_asking x ≡ true → is_storing x ≡ true → ⊥
not_storing Asking e q = clash (sym q)
not_storing Storing e q = clash (sym e)
not_storing Ended e q = clash (sym q)

request_seeks : (p : Plan) (s : Session) (S : ℕ) (d f : List ℕ) (ts : ℕ) → exchange.Owes p s S d f → is_read s.operation ≡ true → is_asking s.round.stage ≡ true
    → Above ts s.round.bound → Seeks ts f
request_seeks p s S d f ts (time_due a b e) r q u = absurd (clash (sym r ∙ b))
request_seeks p s S d f ts (latest_due a b c e) r q u = inl (ap (λ (x : List ℕ). kind_of x) e ∙ built.kind_frame (header_of read_latest_kind S (ask_now s)) [] (omega arith))
request_seeks p s S d f ts (previous_due a b v c e) r q u =
    let h = header_of read_previous_kind S (ask_now s) in
    let body = be 40 (stamp_number v) in
    inr (
      ap (λ (x : List ℕ). kind_of x) e ∙ built.kind_frame h body (omega arith),
      subst (λ (x : List ℕ). ts < stamp x) (sym (ap body_of e ∙ built.body_frame h body)) (subst (Above ts) c u),
    )
request_seeks p s S d f ts (record_due a e) r q u = absurd (not_storing s.round.stage q a)

-- ---- a reply that is taken
takes_ask : (p : Plan) (s : Session) (f d : List ℕ) (item : ℕ) → None (read_ladder p s f d item) → ask_of f ≡ ask_now s
unfolding awaited
takes_ask p s f d item n =
    let b = both (answers_to (header_in f) (ask_now s)) _ (not-false (awaited s f) (clear (read_ladder p s f d item) n 10)) in
    eqb-true (ask_of f) (ask_now s) b.0

module _ {p : Plan} (N : Nodes) (r : Reading p) (before : Before N r) (lives : HonestLives p N) (numbers : OwnNumbers N r (life_of N)) (asks : OwnAsks N r)
    (ts : ℕ) (executed : ℕ → Bool) (honest : (i : ℕ) → i < p.n → executed i ≡ true → N.honest i ≡ true)
    (each : (i : ℕ) → i < p.n → executed i ≡ true → ExecutedAt ts (N.early i)) where
  abbrev s₀ : Session
  s₀ = r.opened.session

  abbrev d₀ : List ℕ
  d₀ = r.desk

  -- one call
  heeds : (a : List Turn) (t : Turn) (b : List Turn) → r.turns ≡ a ++ (t ∷ b) → Heeds p ts executed (last_session s₀ a) (last_desk d₀ a) t
  heeds a t b e takes reads above x =
      let s = last_session s₀ a in
      let d = last_desk d₀ a in
      let i = frame_node t.reply in
      let call : ReadTurn p s d t = (calls_on (ReadTurn p) s₀ d₀ a (t ∷ b) (subst (Calls (ReadTurn p) s₀ d₀) e r.calls)).0 in
      let n = takes_none p s t.reply d t.item (subst (λ (o : Outcome). is_refused o.said ≡ false) call.1.is takes) in
      let low : i < p.n = (taken p s t.reply d (length t.item) n).node in
      let going : is_ended s.round.stage ≡ false = clear (read_ladder p s t.reply d (length t.item)) n 14 in
      let h = honest i low x in
      let life = lives i low h in
      let here : Stands r s d = record { before = a; after = t ∷ b; is = e; session = refl; desk = refl } in
      let w : Wrote t.reply (life_of N i) = each_at _ a t b r.turns e numbers takes h in
      let asked = own_request N r lives asks s d here going i low h t.reply w (takes_ask p s t.reply d (length t.item) n) in
      let own = asked.own in
      let one = asked.one.asks in
      let q = both (is_read s.operation) (is_asking s.round.stage) reads in
      let seeks : Seeks ts w.at.call.request =
      request_seeks p own.session own.node own.desk w.at.call.request ts own.due (ap is_read one.operation ∙ q.0)
      (ap (λ (y : Round). is_asking y.stage) one.round ∙ q.1)
      (subst (λ (y : Round). Above ts y.bound) (sym one.round) above) in
      late i low h x life w asked.owes seeks (split_moment (N.early i) (N.late i) w.at)
    where
      late : (i : ℕ) (low : i < p.n) (h : N.honest i ≡ true) (x : executed i ≡ true) → Life p i (life_of N i) → (w : Wrote t.reply (life_of N i)) → Owes r w.at.call.request
          → Seeks ts w.at.call.request → Side (N.early i) w.at.call ⊎ Side (N.late i) w.at.call → AtLeast p ts t.reply
      late i low h x life w owes seeks (inl k) =
          absurd (each_one _ (N.early i) (before i low h) k.at w.size (ap (λ (c : Call). c.answer) k.is ∙ w.replied)
          (subst (λ (c : Call). Owes r c.request) (sym k.is) owes))
      late i low h x life w owes seeks (inr k) =
          let y = k.at in
          let v = each i low x in
          let z = v.of in
          let g = late_answers p i (N.early i) (N.late i) life v.rec v.executed y w.size (ap (λ (c : Call). c.answer) k.is ∙ w.replied)
          (subst (λ (m : ℕ). Seeks m y.call.request) (sym z) (subst (λ (c : Call). Seeks ts c.request) (sym k.is) seeks)) in
          subst (AtLeast p ts) (sym w.is)
          (subst (λ (c : Call). AtLeast p ts (take w.size c.reply_left)) k.is (subst (λ (m : ℕ). AtLeast p m (take w.size y.call.reply_left)) z g))

  along : (a b : List Turn) → r.turns ≡ a ++ b → Calls (Heeds p ts executed) (last_session s₀ a) (last_desk d₀ a) b
  along a [] e = tt
  along a (t ∷ b) e =
      let h = along (a ++ (t ∷ [])) b (e ∙ sym (append_assoc a (t ∷ []) b)) in (
        heeds a t b e,
        subst (λ (d : List ℕ). Calls (Heeds p ts executed) t.took.session d b) (desk_on d₀ a (t ∷ []))
            (subst (λ (s : Session). Calls (Heeds p ts executed) s (last_desk d₀ (a ++ (t ∷ []))) b) (session_on s₀ a (t ∷ [])) h),
      )

  pub all_heed : Calls (Heeds p ts executed) s₀ d₀ r.turns
  all_heed = along [] r.turns refl
