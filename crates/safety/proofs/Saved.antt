-- A WRITE OF OURS THAT IS DONE WAS EXECUTED, record by record, by N-t-b or more honest nodes (saved_is_written): each reply that it took in its write round was
-- written for a request of that round, which bears the node's record from the desk, and the desk holds the N records of the item. Assumes nothing.
use Prim.{tt}
use Prim.Native.Nat.{ℕ, ◌^◌, ◌<◌}
use mathlib.Core.Path.{◌≡◌, refl, sym, ap, ◌∙◌, subst}
use mathlib.Core.Bool.{Bool, true, false, not, cond}
use mathlib.Core.List.{List, [], ◌∷◌, ◌++◌, append_assoc}
use mathlib.Core.Logic.{◌⊎◌, inl, inr}
use native.Mathlib.Omega.{arith}
use borrow.Author.Tests.{not-false, eqb-true, eq-eqb}
use lib.Dec.{eqb}
use lib.ListN.{length}
use Rattle.terms.specs.Ladder.{None, ◌and◌}
use Rattle.terms.specs.Stamp.{stamp, stamp_number}
use Rattle.terms.specs.declared.Plan.{Plan}
use Rattle.terms.specs.declared.Timestamp.{Timestamp}
use Rattle.terms.proofs.Down.{clear}
use Rattle.terms.proofs.Plans.{plan_is}
use Rattle.terms.proofs.Rungs.{both, clash}
use Rattle.terms.proofs.Facts.{facts}
use Rattle.frame.specs.Frame.{frame_node, kind_of, ask_of, body_of, header_in, header_of, answers_to, write_request_kind, write_reply_kind, read_reply_kind, time_reply_kind}
use Rattle.frame.proofs.Built as built
use Rattle.frame.proofs.Frames.{request_is}
use Rattle.record.specs.Desk.{slot_of}
use Rattle.book.specs.Book.{node_of}
use Rattle.recover.specs.Records.{cross_for, stamp_for, records_for}
use Rattle.standing.specs.declared.Operation.TheVariants.{Write}
use Rattle.standing.specs.declared.Round.{Round}
use Rattle.standing.specs.Standing.{is_read, is_storing, same_operation, awaits_in, replies}
use Rattle.session.specs.declared.Session.{Session}
use Rattle.session.specs.Session.{ask_now, awaits_kind, is_refused}
use Rattle.session.specs.Reply.{awaited, bears}
use Rattle.session.specs.Writer.{Leaves}
use Rattle.session.proofs.Openings.{accepted_plan}
use Rattle.store.specs.History.{Call, Executed, Wrote}
use Rattle.store.proofs.Node as calls
use Rattle.client.specs.Endings.{write_ladder}
use Rattle.client.specs.Sessions.{last_session, last_desk}
use Rattle.client.specs.Turns.{Turn, WriteTurn, Calls, Takes}
use Rattle.client.specs.Repair.{EachTurn}
use Rattle.client.proofs.Quorums.{Tells, write_quorum}
use Rattle.client.proofs.Wrote.{takes_none}
use Rattle.client.proofs.Bytes.{same_time, stamp_for_lem}
use Rattle.client.proofs.Quorums.{awaits_stamp}
use Rattle.report.proofs.Exchange as exchange
use Rattle.report.proofs.Exchange.{time_due, latest_due, previous_due, record_due}
use Rattle.report.proofs.Sendable as sendable
use Rattle.safety.specs.Run.{Life, Nodes, life_of, Ours, Stands}
use Rattle.safety.specs.Safety.{OwnNumbers, OwnAsks, HonestLives, FewOthers}
use Rattle.safety.specs.Done.{Saved, WrittenBy}
use Rattle.safety.proofs.Rounds.{each_of, each_at, calls_of, calls_on}
use Rattle.safety.proofs.Answers.{book_at, book_node, replied_call}
use Rattle.safety.proofs.Requests.{own_request}
use Rattle.safety.proofs.Done.{few_left}
use Rattle.safety.proofs.After.{saved_made}

-- ---- the node of a life: the node that its requests are for
request_node : (p : Plan) (i : ℕ) (life : List Call) (l : Life p i life) (f : List ℕ) (w : Wrote f life) → frame_node w.at.call.request ≡ i
request_node p i life l f w =
    let x = w.at in
    let c = x.call in
    let b = book_at p i life l x in
    let call = replied_call p i life l x w.size w.replied in
    let q = calls.clear p c.request b c.reply (calls.replied_is p c.request b c.reply w.size c.book_left c.reply_left call).0 in
    (request_is p (node_of b) c.request q.request).node_is ∙ book_node p i life l x

-- ---- a write's reply that is taken and is no time reply: in its write round
in_write : (p : Plan) (s : Session) (f d : List ℕ) (item : ℕ) → None (write_ladder p s f d item) → (kind_of f ≡ time_reply_kind → ⊥) → is_storing s.round.stage ≡ true
unfolding awaited awaits_in
in_write p s f d item n ne =
    let o = (both (same_operation Write s.operation) _ (not-false _ (clear (write_ladder p s f d item) n 9))).0 in
    let a = both (answers_to (header_in f) (ask_now s)) _ (not-false (awaited s f) (clear (write_ladder p s f d item) n 10)) in
    let k = (both (awaits_kind s (kind_of f)) _ a.1).0 in
    go (is_storing s.round.stage) refl (is_read s.operation) refl o k
  where
    go : (x : Bool) → is_storing s.round.stage ≡ x → (y : Bool) → is_read s.operation ≡ y → not y ≡ true
        → cond x (eqb (kind_of f) write_reply_kind) (cond y (eqb (kind_of f) 7) (eqb (kind_of f) time_reply_kind)) ≡ true → is_storing s.round.stage ≡ true
    go true q y r o k = q
    go false q true r o k = absurd (clash (sym o))
    go false q false r o k = absurd (ne (eqb-true (kind_of f) time_reply_kind k))

module _ {p : Plan} (N : Nodes) (save : Ours Write p) (item : List ℕ) (v : Timestamp) (lives : HonestLives p N) (few : FewOthers p N) (saved : Saved save item v)
    (numbers : OwnNumbers N save N.early) (asks : OwnAsks N save) where
  abbrev s₀ : Session
  s₀ = save.opened.session

  abbrev d₀ : List ℕ
  d₀ = save.desk

  -- node k executed its record of the item, at a time whose timestamp is x
  record Kept (k x : ℕ) : Type 0 where
    at : ℕ
    high : at < 256 ^ 8
    of : x ≡ stamp_number (stamp_for p at item)
    executed : Executed (slot_of p (records_for p at item) k) (N.early k)

  abbrev Tale : ℕ → ℕ → Type 0
  Tale k x = N.honest k ≡ true → Kept k x

  -- one call
  module _ (a : List Turn) (t : Turn) (b : List Turn) (e : save.turns ≡ a ++ (t ∷ b)) where
    abbrev s : Session
    s = last_session s₀ a

    abbrev d : List ℕ
    d = last_desk d₀ a

    abbrev i : ℕ
    i = frame_node t.reply

    met : WriteTurn p s d t
    met = (calls_on (WriteTurn p) s₀ d₀ a (t ∷ b) (subst (Calls (WriteTurn p) s₀ d₀) e save.calls)).0

    here : Stands save s d
    here = record { before = a; after = t ∷ b; is = e; session = refl; desk = refl }

    made : is_storing s.round.stage ≡ true → sendable.Wrote (λ (x : List ℕ). x ≡ item) p s d
    made =
        sendable.write_made (λ (x : List ℕ). x ≡ item) p save.ask save.opened d₀ a save.opens save.accepted saved.long
        (calls_of (WriteTurn p) s₀ d₀ a (t ∷ b) (subst (Calls (WriteTurn p) s₀ d₀) e save.calls))
        (each_of (λ (c : Turn). c.item ≡ item) a (t ∷ b) (subst (EachTurn (λ (c : Turn). c.item ≡ item)) e saved.lent))

    module _ (takes : Takes t) (ne : kind_of t.reply ≡ time_reply_kind → ⊥) (low : i < p.n) (h : N.honest i ≡ true) where
      n : None (write_ladder p s t.reply d (length t.item))
      n = takes_none p s t.reply d t.item (subst (λ (o : Leaves). is_refused o.said ≡ false) met.1.is takes)

      storing : is_storing s.round.stage ≡ true
      storing = in_write p s t.reply d (length t.item) n ne

      await : awaited s t.reply ≡ true
      await = not-false (awaited s t.reply) (clear (write_ladder p s t.reply d (length t.item)) n 10)

      ask : ask_of t.reply ≡ ask_now s
      unfolding awaited
      ask = eqb-true (ask_of t.reply) (ask_now s) (both (answers_to (header_in t.reply) (ask_now s)) _ await).0

      wrote : Wrote t.reply (N.early i)
      wrote = each_at _ a t b save.turns e numbers takes h

      -- the same, in the whole life
      in_life : Wrote t.reply (life_of N i)
      in_life =
          let m = wrote.at in
          record {
            at = record {
              before = m.before;
              call = m.call;
              after = m.after ++ N.late i;
              is = ap (λ (l : List Call). l ++ N.late i) m.is ∙ append_assoc m.before (m.call ∷ m.after) (N.late i);
            };
            size = wrote.size;
            replied = wrote.replied;
            is = wrote.is;
          }

      kept : Kept i (stamp (body_of t.reply))
      unfolding in_life
      kept =
          let w = own_request N save lives asks s d here (clear (write_ladder p s t.reply d (length t.item)) n 14) i low h t.reply in_life ask in
          let m = made storing in
          by w.own.session w.own.node w.own.desk w.own.due (ap (λ (r : Round). is_storing r.stage) w.one.asks.round ∙ storing) w.own.low (w.one.desk storing) m
        where
          by : (u : Session) (S : ℕ) (e₂ : List ℕ) → exchange.Owes p u S e₂ wrote.at.call.request → is_storing u.round.stage ≡ true → S < p.n → e₂ ≡ d
              → sendable.Wrote (λ (x : List ℕ). x ≡ item) p s d → Kept i (stamp (body_of t.reply))
          by u S e₂ (time_due x y z) q l g m = absurd (clash (sym q ∙ x))
          by u S e₂ (latest_due x y c z) q l g m = absurd (clash (sym q ∙ x))
          by u S e₂ (previous_due x y c o z) q l g m = absurd (clash (sym q ∙ x))
          by u S e₂ (record_due x z) q l g m =
              let r = header_of write_request_kind S (ask_now u) in
              let node : S ≡ i = sym (built.node_frame r (slot_of p e₂ S) (omega (arith, l, (plan_is p (accepted_plan Write p save.ask save.opened save.opens save.accepted)).n_high)))
              ∙ sym (ap frame_node z) ∙ request_node p i (life_of N i) (lives i low h) t.reply in_life in
              let body : body_of wrote.at.call.request ≡ slot_of p (records_for p m.at item) i =
              ap body_of z ∙ built.body_frame r (slot_of p e₂ S) ∙ ap (slot_of p e₂) node ∙ ap (λ (y : List ℕ). slot_of p y i) (g ∙ m.desk ∙ ap (records_for p m.at) m.lent) in
              record {
                at = m.at;
                high = m.high;
                of = (awaits_stamp s t.reply await storing).1 ∙ ap stamp_number (m.stamped ∙ ap (stamp_for p m.at) m.lent);
                executed = record {
                  at = wrote.at;
                  kind = eq-eqb _ _ (ap kind_of z ∙ built.kind_frame r (slot_of p e₂ S) (omega arith));
                  body = body;
                  size = wrote.size;
                  replied = wrote.replied;
                };
              }

  tells : EachTurn (Tells p Tale) save.turns
  unfolding bears
  tells = go [] save.turns refl
    where
      not_time : (f : List ℕ) → (bears p f ≡ true) ⊎ (kind_of f ≡ write_reply_kind) → kind_of f ≡ time_reply_kind → ⊥
      not_time f (inl x) k = let z = eqb-true (kind_of f) read_reply_kind (both (eqb (kind_of f) read_reply_kind) _ x).0 in omega arith
      not_time f (inr x) k = omega arith

      go : (a b : List Turn) → save.turns ≡ a ++ b → EachTurn (Tells p Tale) b
      go a [] e = tt
      go a (t ∷ b) e = (
        λ x l y h. kept a t b e x (not_time t.reply y) l h,
        go (a ++ (t ∷ [])) b (e ∙ sym (append_assoc a (t ∷ []) b)),
      )

  -- A WRITE OF OURS THAT IS DONE WAS EXECUTED BY N-t-b OR MORE HONEST NODES, each its own record of the item
  pub saved_is_written : WrittenBy p N item v
  saved_is_written =
      let z = saved.done in
      let m = saved_made save item v saved in
      let q = each_at _ z.before z.last [] save.turns z.is
      (write_quorum p Tale save.ask save.opened save.opens save.accepted d₀ save.turns save.calls tells) v z.rounds z.says in
      let ok = accepted_plan Write p save.ask save.opened save.opens save.accepted in
      let enough = few_left p N few q.test (replies p) q.enough in
      record {
        write = record { item = item; time = m.at; size = m.size; bytes = saved.bytes; low = m.low; high = omega (arith, m.high) };
        of_item = refl;
        of_stamp = sym m.is;
        executed = λ k. q.test k and N.honest k;
        many = enough;
        by = record {
          enough = omega (arith, enough, (facts p ok).honest_quorum);
          honest = λ i l e. (both (q.test i) (N.honest i) e).1;
          each = λ i l e.
              let w = both (q.test i) (N.honest i) e in
              let k = q.each i l w.0 w.1 in
              let one : k.at ≡ m.at = same_time k.at m.at (cross_for p item) (cross_for p item) k.high m.high
              (sym (stamp_for_lem p k.at item) ∙ sym k.of ∙ ap stamp_number m.is ∙ stamp_for_lem p m.at item) in
              subst (λ (x : ℕ). Executed (slot_of p (records_for p x item) i) (N.early i)) one k.executed;
        };
      }
