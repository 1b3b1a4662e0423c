-- WHAT DONE MEANS, IN HONEST NODES (corollaries of document 02's Q-5). Assumes nothing.
--   life_of            an early part of a life is a life
--   reply_tells        what a reply of an honest node tells: a record that it bears or acknowledges was executed
--   done_had_executed  the timestamp that a read ends with had been executed by an honest node before it answered
--   done_is_executed   a read that is done: by Q or more honest nodes
--   saved_is_executed  a write that is done: by N-t-b or more honest nodes
use Prim.{tt}
use Prim.Native.Nat.{ℕ, ◌-◌, ◌≤◌, ◌<◌}
use mathlib.Core.Path.{◌≡◌, refl, sym, ap, ◌∙◌, subst}
use mathlib.Core.Bool.{Bool, true, false, not}
use mathlib.Core.List.{List, [], ◌∷◌, ◌++◌}
use mathlib.Core.Logic.{◌⊎◌, inl, inr}
use native.Mathlib.Omega.{arith}
use borrow.Author.Tests.{eqb-true}
use lib.Dec.{eqb}
use lib.ListN.{length, take}
use Rattle.octets.specs.Bytes.{part, num}
use Rattle.octets.proofs.Laws.{part_part}
use Rattle.terms.specs.Ladder.{◌and◌}
use Rattle.terms.specs.Stamp.{stamp, stamp_number}
use Rattle.terms.specs.Terms.{record_length, slots_of, complete_at}
use Rattle.terms.specs.declared.Plan.{Plan}
use Rattle.terms.specs.declared.Timestamp.{Timestamp}
use Rattle.terms.proofs.Facts.{facts}
use Rattle.terms.proofs.Rungs.{both, clash}
use Rattle.frame.specs.Frame.{frame_node, kind_of, body_of, read_reply_kind, write_reply_kind}
use Rattle.rounds.specs.Numbers.{number_of}
use Rattle.rounds.specs.Rounds.{joins_of, mark_of}
use Rattle.rounds.proofs.Numbers.{number_both, number_not, number_left}
use Rattle.standing.specs.declared.Operation.{Operation}
use Rattle.standing.specs.declared.Operation.TheVariants.{Write}
use Rattle.standing.specs.Standing.{replies}
use Rattle.session.specs.Reply.{bears}
use Rattle.session.proofs.Openings.{accepted_plan}
use Rattle.session.proofs.Slots.{long_body}
use Rattle.store.specs.History.{Call, History, Executed, ExecutedAt, Wrote}
use Rattle.store.proofs.Latest.{borne_held, acked_write}
use Rattle.store.proofs.Lives.{history_of, each_before, within, held_executed, executed_more}
use Rattle.client.specs.Turns.{Turn, Takes}
use Rattle.client.specs.Repair.{EachTurn}
use Rattle.client.proofs.Slots.{EachBrings}
use Rattle.client.proofs.Held.{each_turn, each_finds, start}
use Rattle.client.proofs.Sets.{member, set_counts}
use Rattle.client.proofs.Quorums.{Tells, Quorum, read_quorum, write_quorum}
use Rattle.safety.specs.Run.{Served, Life, Nodes, Honest, Ours, Reading}
use Rattle.safety.specs.Safety.{OwnNumbers, FewOthers}
use Rattle.safety.specs.Done.{Done, HadExecuted, HonestQuorum}
use Rattle.safety.proofs.Rounds.{each_at}
use Rattle.safety.proofs.Answers.{fresh_good, book_at, replied_call}

-- ---- an early part of a life is a life
pub life_of : (p : Plan) (i : ℕ) (early late : List Call) → Life p i (early ++ late) → Life p i early
life_of p i early late l =
    record { lent = l.lent; book = l.book; fresh = l.fresh; calls = history_of l.book early late l.calls; served = each_before (Served p) early late l.served }

-- ---- what a reply of an honest node tells
module _ (p : Plan) (i : ℕ) (life : List Call) (l : Life p i life) (f : List ℕ) (w : Wrote f life) where
  abbrev sent : List ℕ
  sent = take w.size w.at.call.reply_left

  -- a record that it bears was executed before
  borne_executed : bears p f ≡ true → (kind_of sent ≡ read_reply_kind) × Executed (body_of sent) w.at.before
  unfolding bears
  borne_executed b =
      let c = w.at.call in
      let k : kind_of sent ≡ read_reply_kind = ap kind_of (sym w.is) ∙ eqb-true (kind_of f) read_reply_kind (both (eqb (kind_of f) read_reply_kind) _ b).0 in
      let z : length (body_of sent) ≡ record_length p = ap (λ (x : List ℕ). length (body_of x)) (sym w.is) ∙ long_body p f b in
      let g = (within p l.book life (fresh_good p i life l) l.calls w.at).good in
      let m = borne_held p c.request (book_at p i life l w.at) c.reply g w.size c.book_left c.reply_left (replied_call p i life l w.at w.size w.replied) k z in
      (k, held_executed p i l.lent l.book (body_of sent) w.at.before l.fresh (history_of l.book w.at.before (c ∷ w.at.after) (subst (History l.book) w.at.is l.calls)) m)

  -- a record whose timestamp it acknowledges was executed by it
  acked_executed : kind_of f ≡ write_reply_kind → ExecutedAt (stamp (body_of f)) life
  acked_executed k =
      let c = w.at.call in
      let g = (within p l.book life (fresh_good p i life l) l.calls w.at).good in
      let a = acked_write p c.request (book_at p i life l w.at) c.reply g w.size c.book_left c.reply_left (replied_call p i life l w.at w.size w.replied) (ap kind_of (sym w.is) ∙ k) in
      record {
        rec = body_of c.request;
        of = ap num (sym (part_part (body_of c.request) 0 40 0 40 (omega arith))) ∙ ap (λ (x : List ℕ). stamp x) (sym a.1) ∙ ap (λ (x : List ℕ). stamp (body_of x)) (sym w.is);
        executed = record { at = w.at; kind = a.0; body = refl; size = w.size; replied = w.replied };
      }

  pub reply_tells : (bears p f ≡ true) ⊎ (kind_of f ≡ write_reply_kind) → ExecutedAt (stamp (body_of f)) life
  reply_tells (inr k) = acked_executed k
  reply_tells (inl b) =
      record {
        rec = body_of sent;
        of = ap (λ (x : List ℕ). stamp (body_of x)) (sym w.is);
        executed = executed_more (body_of sent) life w.at.before (w.at.call ∷ w.at.after) w.at.is (borne_executed b).1;
      }

-- ---- of many nodes at most b are not honest
pub few_left : (p : Plan) (N : Nodes) → FewOthers p N → (test : ℕ → Bool) (many : ℕ) → many ≤ number_of test p.n → many - p.b ≤ number_of (λ (k : ℕ). test k and N.honest k) p.n
few_left p N few test many h = omega (arith, few, h, number_both test N.honest p.n, number_not N.honest p.n)

module _ {op : Operation} {p : Plan} (N : Nodes) (o : Ours op p) (part : ℕ → List Call) (lives : Honest p N (λ (i : ℕ). Life p i (part i))) (few : FewOthers p N)
    (numbers : OwnNumbers N o part) where
  -- of a node and a timestamp
  abbrev Tale : ℕ → ℕ → Type 0
  Tale k x = N.honest k ≡ true → ExecutedAt x (part k)

  tells : EachTurn (Tells p Tale) o.turns
  tells = go o.turns numbers
    where
      go : (cs : List Turn) → EachTurn (λ (t : Turn). Takes t → N.honest (frame_node t.reply) ≡ true → Wrote t.reply (part (frame_node t.reply))) cs → EachTurn (Tells p Tale) cs
      go [] n = tt
      go (c ∷ cs) n = (
        λ t l b h. reply_tells p (frame_node c.reply) (part (frame_node c.reply)) (lives (frame_node c.reply) l h) c.reply (n.0 t h) b,
        go cs n.1,
      )

  honest_of : (many x : ℕ) → Quorum p Tale many x → HonestQuorum p N part (many - p.b) x
  honest_of many x w =
      record {
        executed = λ k. w.test k and N.honest k;
        enough = few_left p N few w.test many w.enough;
        honest = λ i l e. (both (w.test i) (N.honest i) e).1;
        each = λ i l e. let q = both (w.test i) (N.honest i) e in w.each i l q.0 q.1;
      }

-- A READ OF OURS THAT IS DONE WITH A TIMESTAMP: Q OR MORE HONEST NODES EXECUTED A RECORD OF IT
pub done_is_executed : {p : Plan} (N : Nodes) (r : Reading p) (part : ℕ → List Call) → Honest p N (λ (i : ℕ). Life p i (part i)) → FewOthers p N → OwnNumbers N r part
    → (v : Timestamp) → Done r v → HonestQuorum p N part p.q (stamp_number v)
done_is_executed {p} N r part lives few numbers v w =
    let q = each_at _ w.before w.last [] r.turns w.is
    (read_quorum p (Tale N r part lives few numbers) r.ask r.opened r.opens r.accepted r.desk r.turns r.calls (tells N r part lives few numbers)) v w.rounds w.says in
    let h = honest_of N r part lives few numbers (complete_at p) (stamp_number v) q in
    record { executed = h.executed; enough = omega (arith, h.enough); honest = h.honest; each = h.each }

-- A WRITE OF OURS THAT IS DONE: N-t-b OR MORE HONEST NODES, and that is Q or more
pub saved_is_executed : {p : Plan} (N : Nodes) (o : Ours Write p) (part : ℕ → List Call) → Honest p N (λ (i : ℕ). Life p i (part i)) → FewOthers p N → OwnNumbers N o part
    → (v : Timestamp) → Done o v → HonestQuorum p N part (p.n - p.t - p.b) (stamp_number v) × (p.q ≤ p.n - p.t - p.b)
saved_is_executed {p} N o part lives few numbers v w =
    let q = each_at _ w.before w.last [] o.turns w.is
    (write_quorum p (Tale N o part lives few numbers) o.ask o.opened o.opens o.accepted o.desk o.turns o.calls (tells N o part lives few numbers)) v w.rounds w.says in
    (honest_of N o part lives few numbers (replies p) (stamp_number v) q, (facts p (accepted_plan Write p o.ask o.opened o.opens o.accepted)).honest_quorum)

-- ---- before it answered
module _ {p : Plan} (N : Nodes) (r : Reading p) (part : ℕ → List Call) (lives : Honest p N (λ (i : ℕ). Life p i (part i))) (few : FewOthers p N) (numbers : OwnNumbers N r part) where
  abbrev Had : List Turn → ℕ → List ℕ → Type 0
  Had turns k rec = k < p.n → N.honest k ≡ true → HadExecuted p N part turns (stamp rec)

  one_had : (c : Turn) (cs : List Turn) → Takes c → (low : frame_node c.reply < p.n) → (h : N.honest (frame_node c.reply) ≡ true) → Wrote c.reply (part (frame_node c.reply))
      → bears p c.reply ≡ true → HadExecuted p N part (c ∷ cs) (stamp (body_of c.reply))
  one_had c cs t low h w b =
      let i = frame_node c.reply in
      let x = borne_executed p i (part i) (lives i low h) c.reply w b in
      record {
        node = i;
        low = low;
        honest = h;
        at = w.at;
        size = w.size;
        replied = w.replied;
        kind = x.0;
        of = ap (λ (y : List ℕ). stamp (body_of y)) (sym w.is);
        taken = inl (t, w.is);
        executed = x.1;
      }

  -- the same, of one call more
  had_more : (c : Turn) (cs : List Turn) (x : ℕ) → HadExecuted p N part cs x → HadExecuted p N part (c ∷ cs) x
  had_more c cs x h =
      record {
        node = h.node;
        low = h.low;
        honest = h.honest;
        at = h.at;
        size = h.size;
        replied = h.replied;
        kind = h.kind;
        of = h.of;
        taken = inr h.taken;
        executed = h.executed;
      }

  brings : (cs : List Turn) → EachTurn (λ (t : Turn). Takes t → N.honest (frame_node t.reply) ≡ true → Wrote t.reply (part (frame_node t.reply))) cs → EachBrings (Had cs) p cs
  brings [] n = tt
  brings (c ∷ cs) n = (
    λ t b l q low h. one_had c cs t low h (n.0 t h) b,
    each_turn _ _ (λ e f t b l q low h. had_more c cs (stamp (body_of e.reply)) (f t b l q low h)) cs (brings cs n.1),
  )

  -- THE TIMESTAMP THAT A READ ENDS WITH HAD BEEN EXECUTED BY AN HONEST NODE WHEN THAT NODE ANSWERED: its set was not incomplete, and INCOMPLETE is above b
  pub done_had_executed : (v : Timestamp) → Done r v → HadExecuted p N part r.turns (stamp_number v)
  done_had_executed v w =
      let H : ℕ → List ℕ → Type 0 = Had r.turns in
      let f = each_at _ w.before w.last [] r.turns w.is
      (each_finds H p r.opened.session r.desk r.turns (start H p r.ask r.opened r.opens r.accepted r.desk) r.calls (brings r.turns numbers)) v w.rounds w.says in
      let u = f.session in
      let e = f.desk in
      let a = f.node in
      let c = f.closing in
      let l = number_left (λ (k : ℕ). joins_of e (slots_of p) a k (mark_of u.marks k)) (λ (k : ℕ). not (N.honest k)) p.n
      (omega (arith, few, f.many, set_counts H p u e a c, (facts p c.plan).liars_short)) in
      let m = member H p u e a c l.node l.low l.is in
      subst (HadExecuted p N part r.turns) (m.1 ∙ ap stamp_number (sym f.stamped)) (m.0 l.low (is_honest (N.honest l.node) l.not_other))
    where
      is_honest : (x : Bool) → not x ≡ false → x ≡ true
      is_honest true e = refl
      is_honest false e = absurd (clash e)
