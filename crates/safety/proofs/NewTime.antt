-- A COMPLETE WRITE IS STILL PASSED, over lives (document 02, Q-2; report/proofs/NewTime.antt has it of single calls): the new time of a write of ours is above the
-- time of a write that Q honest nodes executed before they told their times. Assumes nothing.
use Rattle.std.specs.Prelude.{Ok}
use Prim.Native.Nat.{ℕ, ◌<◌}
use mathlib.Core.Path.{◌≡◌, sym, ap, ◌∙◌, subst}
use mathlib.Core.Bool.{Bool}
use mathlib.Core.List.{List, ◌∷◌, ◌++◌, append_assoc}
use native.Mathlib.Omega.{arith}
use borrow.Author.Tests.{eqb-true, ltb-true, lt-ltb}
use lib.Dec.{ltb}
use Rattle.octets.specs.Bytes.{Octets}
use Rattle.terms.specs.Ladder.{◌and◌}
use Rattle.terms.specs.Stamp.{time}
use Rattle.terms.specs.declared.Plan.{Plan}
use Rattle.terms.proofs.Rungs.{both}
use Rattle.frame.specs.Frame.{kind_of, write_request_kind}
use Rattle.node.specs.Node.{NodeCall}
use Rattle.rounds.proofs.Numbers.{number_more}
use Rattle.store.specs.History.{Call, History, last_book, Moment, Executed}
use Rattle.store.proofs.Latest.{told_time}
use Rattle.store.proofs.Lives.{history_of, history_on, last_on, within}
use Rattle.report.specs.Figure2.{Clock}
use Rattle.report.specs.WriteRun.{clock_of}
use Rattle.report.specs.NewTime.{ToWrite, new_time_of, AnswersAfter}
use Rattle.report.proofs.NewTime.{passes_what_is_complete}
use Rattle.safety.specs.Run.{Life, Nodes}
use Rattle.safety.specs.Safety.{HonestLives}
use Rattle.safety.specs.Done.{TimeExecuted, OwnTime, Told}
use Rattle.safety.proofs.Answers.{fresh_good, book_node, replied_call}

-- ---- one node: it executed a record, and told its time later
module _ (p : Plan) (N : Nodes) (x : Clock) (l : Life p x.S (N.early x.S ++ N.late x.S)) (rec : List ℕ) (ex : Executed rec (N.early x.S)) (own : OwnTime N x) where
  abbrev early : List Call
  early = N.early x.S

  abbrev late : List Call
  late = N.late x.S

  -- the call that executed it and the one that told the time, with the calls between them
  abbrev e : Moment early
  e = ex.at

  abbrev y : Moment late
  y = own.wrote.at

  abbrev b : List ℕ
  b = last_book l.book e.before

  abbrev between : List Call
  between = e.after ++ y.before

  first_line : early ++ late ≡ e.before ++ (e.call ∷ (e.after ++ late))
  first_line = ap (λ (c : List Call). c ++ late) e.is ∙ append_assoc e.before (e.call ∷ e.after) late

  abbrev did : Moment (early ++ late)
  did = record { before = e.before; call = e.call; after = e.after ++ late; is = first_line }

  -- the life in one line
  line : early ++ late ≡ (early ++ y.before) ++ (y.call ∷ y.after)
  line = ap (λ (c : List Call). early ++ c) y.is ∙ sym (append_assoc early y.before (y.call ∷ y.after))

  abbrev told : Moment (early ++ late)
  told = record { before = early ++ y.before; call = y.call; after = y.after; is = line }

  joined : early ++ y.before ≡ e.before ++ (e.call ∷ between)
  joined = ap (λ (c : List Call). c ++ y.before) e.is ∙ append_assoc e.before (e.call ∷ e.after) y.before

  book_told : last_book l.book (early ++ y.before) ≡ last_book e.call.book_left between
  book_told = ap (last_book l.book) joined ∙ last_on l.book e.before (e.call ∷ between)

  history : History e.call.book_left between
  history =
      let h = history_of l.book (early ++ y.before) (y.call ∷ y.after) (subst (History l.book) line l.calls) in
      (history_on l.book e.before (e.call ∷ between) (subst (History l.book) joined h)).2

  answers_after : AnswersAfter p (time rec) x
  answers_after =
      let w = within p l.book (early ++ late) (fresh_good p x.S (early ++ late) l) l.calls did in
      let v = within p l.book (early ++ late) (fresh_good p x.S (early ++ late) l) l.calls told in
      let c = y.call in
      let call = replied_call p x.S (early ++ late) l told own.wrote.size own.wrote.replied in
      let before = last_book l.book (early ++ y.before) in
      record {
        book = b;
        good = w.good;
        own = book_node p x.S (early ++ late) l did;
        bytes = w.bytes;
        write = e.call.request;
        is_write = eqb-true (kind_of e.call.request) write_request_kind ex.kind;
        of = ap (λ (z : List ℕ). time z) ex.body;
        room = e.call.reply;
        size = ex.size;
        book_left = e.call.book_left;
        room_left = e.call.reply_left;
        executed = replied_call p x.S (early ++ late) l did ex.size ex.replied;
        later = between;
        history = history;
        last_bytes = subst (λ (u : List ℕ). Octets u) book_told v.bytes;
        request = c.request;
        is_time = told_time p c.request before c.reply v.good own.wrote.size c.book_left c.reply_left call (ap kind_of (sym own.wrote.is) ∙ own.kind);
        buffer = c.reply;
        length = own.wrote.size;
        book_after = c.book_left;
        buffer_left = c.reply_left;
        answered = subst (λ (u : List ℕ). NodeCall p c.request u c.reply (Ok own.wrote.size) c.book_left c.reply_left) book_told call;
        is = ap clock_of (sym own.wrote.is) ∙ own.is;
      }

pub lives_pass_what_is_complete : (p : Plan) (N : Nodes) (w : ToWrite p) (written : ℕ) → HonestLives p N → TimeExecuted p N written → Told N w → written < new_time_of w
lives_pass_what_is_complete p N w written lives x told =
    passes_what_is_complete p w inside written
    (omega (arith, x.enough, number_more x.executed inside p.n (λ k l e. rw (e, lt-ltb k p.n l))))
    (λ c i e.
    let q = both (x.executed c.S) (ltb c.S p.n) e in
    let low : c.S < p.n = ltb-true c.S p.n q.1 in
    let h = x.honest c.S low q.0 in
    subst (λ (t : ℕ). AnswersAfter p t c) (x.of c.S low q.0)
    (answers_after p N c (lives c.S low h) (x.rec c.S low q.0) (x.each c.S low q.0) (told c i h)))
  where
    inside : ℕ → Bool
    inside k = x.executed k and ltb k p.n
