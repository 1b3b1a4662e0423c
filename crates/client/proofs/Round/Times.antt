-- The read clause of the third demand with a time round in the place of a read round: from one session and desk, a time round that opens there
-- and hears the same N-t acceptable replies, one a node, each lent the same item, ends alike in whichever order they come.
--   times                  a time round, of the kinds of round of Run.antt
--   any_order_time_calls   the same of whatever calls met their contracts, none of them refused in the one run, and of fewer replies too
--   any_order_times        the clause itself
-- Assumes nothing.
use mathlib.Core.Path.{◌≡◌, refl, sym, ap, ◌∙◌, subst}
use mathlib.Core.Bool.{true, false, not}
use mathlib.Core.List.{List, [], ◌∷◌}
use Prim.{tt}
use Prim.Native.Nat.{ℕ, ◌≤◌, ◌<◌}
use native.Mathlib.Omega.{arith}
use borrow.Author.Tests.{not-true}
use lib.Dec.{eqb}
use lib.ListN.{length}
use lib.Seq.{set_comm}
use Rattle.terms.specs.Ladder.{None, ◌and◌}
use Rattle.terms.specs.Stamp.{time, top}
use Rattle.terms.specs.declared.Plan.{Plan}
use Rattle.terms.proofs.Down.{clear}
use Rattle.terms.proofs.Picks.{either}
use Rattle.terms.proofs.Plans.{plan_is}
use Rattle.terms.proofs.Rungs.{clash}
use Rattle.frame.specs.Frame.{frame_node, body_of}
use Rattle.rounds.specs.declared.Heard.TheVariants.{Record}
use Rattle.standing.specs.declared.Operation.TheVariants.{Write}
use Rattle.standing.specs.declared.Stage.{Stage}
use Rattle.standing.specs.declared.Stage.TheVariants.{Asking, Storing, Ended}
use Rattle.standing.specs.Standing.{is_read, is_asking, is_storing, same_operation, replies}
use Rattle.session.specs.declared.Session.{Session}
use Rattle.session.specs.Session.{read_round, with_times, with_marks, Said, refused, still_open, said_of, is_refused, round_open}
use Rattle.session.specs.Ranges.{in_range}
use Rattle.session.specs.Reply.{awaited, is_heard}
use Rattle.session.specs.Reader.{Outcome}
use Rattle.session.specs.Writer.{timed_of, kth_reply, Leaves, leaves, time_end, time_turn, accepted_write, write_reply}
use Rattle.session.proofs.Made.{open_in_range}
use Rattle.session.proofs.Known.{Known, known_reply, same, reply}
use Rattle.session.proofs.Kept.{heard_stands, heard_open}
use Rattle.client.specs.Endings.{write_ladder}
use Rattle.client.specs.Turns.{Turn, WriteTurn, Calls}
use Rattle.client.specs.Round.{round_at, ending_by, said_by, Accepted, Each, OneANode, SameReplies, replies_of, answers_of}
use Rattle.client.specs.TimeRound.{TimeRoundOpens, handed, write_call, AcceptableTime, LentEach, last_leaves}
use Rattle.terms.proofs.Ladders as ladders
use Rattle.client.proofs.Writing as writing
use Rattle.client.proofs.Round.Run.{others_stay, Kind}
use Rattle.client.proofs.Round.Run as run
use Rattle.client.proofs.Round.Order.{same_all}

abbrev after_time : Session → List ℕ → Session
after_time s f = timed_of s (frame_node f) (time (body_of f))

-- times kept by node: those of two nodes come to the same in both orders
times_comm : (s : Session) (f g : List ℕ) → (frame_node g ≡ frame_node f → ⊥) → after_time (after_time s f) g ≡ after_time (after_time s g) f
times_comm s f g n =
    (λ j.
    with_marks (with_times s (set_comm s.times (frame_node f) (frame_node g) (record { 0 = time (body_of f) }) (record { 0 = time (body_of g) }) (λ e. n (sym e)) j))
    (set_comm s.marks (frame_node f) (frame_node g) Record Record (λ e. n (sym e)) j))

module _ (p : Plan) (i : List ℕ) where
  time_open : (s : Session) (d : List ℕ) → round_open p s ≡ true → handed i (time_turn p s d i) ≡ round_at s d i
  unfolding time_turn
  time_open s d h = rw h

  -- an accepted reply is not refused, whatever it comes to
  time_said : (s : Session) (d : List ℕ) → is_refused (time_turn p s d i).said ≡ false
  unfolding time_turn time_end
  time_said s d = either Well (round_open p s) refl (either Well (eqb (kth_reply p s) top) refl refl)
    where
      Well : Leaves → Type 0
      Well o = is_refused o.said ≡ false

  -- ---- one reply, in a time round
  module _ (s : Session) (d f : List ℕ) where
    -- not refused: none of the seven conditions holds
    not_refused : AcceptableTime p s d i f → None (write_ladder p s f d (length i))
    not_refused e =
        ladders.by_ladder (λ (o : Leaves). is_refused o.said ≡ false → None (write_ladder p s f d (length i))) (write_ladder p s f d (length i))
        (λ (k : ℕ). leaves (refused k) s d) (accepted_write p s f d i) (λ k g h. absurd (clash h)) (λ n h. n)
        (subst (λ (o : Leaves). is_refused o.said ≡ false) (writing.one_ladder p s f d i) e)

    comes_to : is_storing s.round.stage ≡ false → None (write_ladder p s f d (length i)) → write_reply p s f d i ≡ time_turn p (after_time s f) d i
    unfolding accepted_write
    comes_to q n = writing.is_accepted p s f d i n ∙ rw q

    acceptable : is_storing s.round.stage ≡ false → None (write_ladder p s f d (length i)) → AcceptableTime p s d i f
    acceptable q n = ap (λ (o : Leaves). is_refused o.said) (comes_to q n) ∙ time_said (after_time s f) d

    known : None (write_ladder p s f d (length i)) → Known (write_ladder p s f d (length i)) p s d
    known n = known_reply Write p s f d (length i) (ladders.is_passed (write_ladder p s f d (length i)) (λ (k : ℕ). k) 0 n)

    node_low : None (write_ladder p s f d (length i)) → frame_node f < p.n
    node_low n = (reply Write p s f d (length i) (known n)).node_low

    -- while it is open the round is in its ranges
    stays : None (write_ladder p s f d (length i)) → round_open p (after_time s f) ≡ true
        → not (same_operation Write s.operation and in_range p (after_time s f) d) ≡ false
    stays n o =
        let w = known n in
        let e = same Write p s f d (length i) w in
        let r : read_round s ≡ false = rw (not-true (is_read s.operation) e) in
        let range : in_range p (after_time s f) d ≡ true =
        open_in_range p (after_time s f) d (heard_stands p s (frame_node f) Record (after_time s f).times (node_low n) w.stands)
        (heard_open p s (frame_node f) (after_time s f).times d r w.opens o) in
        rw (e, range)

    -- a reply of another node is asked the same behind it and before it
    module _ (g : List ℕ) (a : frame_node g ≡ frame_node f → ⊥) (n : None (write_ladder p s f d (length i))) where
      then_none : round_open p (after_time s f) ≡ true → None (write_ladder p s g d (length i)) → None (write_ladder p (after_time s f) g d (length i))
      unfolding awaited is_heard
      then_none o m =
          let e = others_stay s.marks (frame_node f) Record (frame_node g) a in
          (m.0, (m.1.0, (stays n o, (m.1.1.1.0, (m.1.1.1.1.0, (m.1.1.1.1.1.0, (e ∙ m.1.1.1.1.1.1.0, tt)))))))

      none_before : None (write_ladder p (after_time s f) g d (length i)) → None (write_ladder p s g d (length i))
      unfolding awaited is_heard
      none_before m =
          let e = others_stay s.marks (frame_node f) Record (frame_node g) a in
          (m.0, (m.1.0, (n.1.1.0, (m.1.1.1.0, (m.1.1.1.1.0, (m.1.1.1.1.1.0, (sym e ∙ m.1.1.1.1.1.1.0, tt)))))))

  -- ---- a time round, of the kinds of round
  abbrev times : Kind p i
  times =
      record {
        call = write_call p;
        Asks = λ s. is_storing s.round.stage ≡ false;
        mark = λ f. Record;
        after = after_time;
        filed = λ d f. d;
        settles = λ s d. handed i (time_turn p s d i);
        bit = λ f. refl;
        marks = λ s f. refl;
        asks_on = λ s f q. q;
        waits = time_open;
        said_so = time_said;
        low = λ s d f q a. (let n = not_refused s d f a in let h = (plan_is p (known s d f n).plan_is_ok).n_high in omega (arith, node_low s d f n));
        fresh = λ s d f q a. clear (write_ladder p s f d (length i)) (not_refused s d f a) 11;
        accepts = λ s d f q a. ap (handed i) (comes_to s d f q (not_refused s d f a));
        later = λ s d f g q a b n o. acceptable (after_time s f) d g q (then_none s d f g n (not_refused s d f a) o (not_refused s d g b));
        before = λ s d f g q a b n. acceptable s d g q (none_before s d f g n (not_refused s d f a) (not_refused (after_time s f) d g b));
        same = λ s d f fs gs q r a o. (λ j. handed i (time_turn p (same_all after_time times_comm r s o j) (same_all (λ (x z : List ℕ). x) (λ x y z h. refl) r d o j) i));
      }

  -- what calls that met their contracts leave and answer is what the definition gives
  calls_are : (ts : List Turn) (x : Leaves) → Calls (WriteTurn p) x.session x.desk ts → LentEach i ts
      → (handed i (last_leaves x ts) ≡ ending_by (write_call p) (handed i x) (replies_of ts)) × (answers_of ts ≡ said_by (write_call p) (handed i x) (replies_of ts))
  unfolding ending_by said_by
  calls_are [] x h l = (refl, refl)
  calls_are (t ∷ ts) x h l =
      let y : Leaves = leaves (said_of t.took.answer) t.took.session t.desk_left in
      let e : y ≡ write_reply p x.session t.reply x.desk i = h.0.1.is ∙ ap (write_reply p x.session t.reply x.desk) l.0 in
      let r = calls_are ts y h.1 l.1 in (
        r.0 ∙ ap (λ (z : Leaves). ending_by (write_call p) (handed i z) (replies_of ts)) e,
        ap (λ (z : List Said). y.said ∷ z) r.1 ∙ ap (λ (z : Leaves). z.said ∷ said_by (write_call p) (handed i z) (replies_of ts)) e,
      )

asking : (g : Stage) → is_asking g ≡ true → is_storing g ≡ false
asking Asking e = refl
asking Storing e = absurd (clash (sym e))
asking Ended e = refl

-- Two runs of calls on a time round that opens, each lent the same item, over the same replies and at most N-t of them: if none was refused in the
-- one, the other left the same answer, session and desk, and every call of it answered as the call in its place.
pub any_order_time_calls : (p : Plan) (s : Session) (d i : List ℕ) (one other : List Turn) → TimeRoundOpens s → Calls (WriteTurn p) s d one → LentEach i one
    → Calls (WriteTurn p) s d other → LentEach i other → length (replies_of one) ≤ replies p → Accepted (answers_of one) → SameReplies (replies_of one) (replies_of other)
    → (last_leaves (leaves still_open s d) other ≡ last_leaves (leaves still_open s d) one) × (answers_of other ≡ answers_of one)
any_order_time_calls p s d i one other q h l h₂ l₂ few a e =
    let x = calls_are p i one (leaves still_open s d) h l in
    let y = calls_are p i other (leaves still_open s d) h₂ l₂ in
    let r = run.any_order p i (times p i) s d (asking s.round.stage q.asks) q.marks (replies_of one) (replies_of other) few (subst Accepted x.1 a) e in
    (ap (λ (z : Outcome). leaves z.said z.session z.desk) (y.0 ∙ r.0 ∙ sym x.0), y.1 ∙ r.1 ∙ sym x.1)

-- The same as the demand words it of read rounds: N-t replies, each acceptable where the round opens, one a node.
pub any_order_times : (p : Plan) (s : Session) (d i : List ℕ) (one other : List Turn) → TimeRoundOpens s → Calls (WriteTurn p) s d one → LentEach i one
    → Calls (WriteTurn p) s d other → LentEach i other → length (replies_of one) ≡ replies p → Each (AcceptableTime p s d i) (replies_of one)
    → OneANode (replies_of one) → SameReplies (replies_of one) (replies_of other)
    → (last_leaves (leaves still_open s d) other ≡ last_leaves (leaves still_open s d) one) × (answers_of other ≡ answers_of one)
any_order_times p s d i one other q h l h₂ l₂ size a o e =
    any_order_time_calls p s d i one other q h l h₂ l₂ (omega arith)
    (subst Accepted (sym (calls_are p i one (leaves still_open s d) h l).1)
    (run.in_turn p i (times p i) s d (asking s.round.stage q.asks) q.marks (replies_of one) (omega arith) a o)) e
