-- One reply of a read round: what it is to be accepted (taken), and what an accepted reply comes to (accepts). Assumes nothing.
use mathlib.Core.Path.{◌≡◌, refl, sym, ap, ◌∙◌, subst}
use mathlib.Core.Bool.{true, false, not}
use mathlib.Core.List.{List}
use Prim.{tt}
use Prim.Native.Nat.{ℕ}
use borrow.Author.Tests.{not-false}
use lib.ListN.{length}
use Rattle.terms.specs.Ladder.{◌and◌, None}
use Rattle.terms.specs.Terms.{plan_ok}
use Rattle.terms.specs.Stamp.{stamp}
use Rattle.terms.specs.declared.Plan.{Plan}
use Rattle.terms.proofs.Down.{clear}
use Rattle.terms.proofs.Rungs.{both, clash}
use Rattle.frame.specs.Frame.{frame_node, body_of, good_reply}
use Rattle.record.specs.Record.{hashes_ok, time_zero}
use Rattle.rounds.specs.Rounds.{under_of}
use Rattle.session.specs.declared.Session.{Session}
use Rattle.standing.specs.declared.Stage.{Stage}
use Rattle.standing.specs.declared.Stage.TheVariants.{Asking, Storing, Ended}
use Rattle.standing.specs.Standing.{is_read, is_asking, is_storing, is_ended, lengths_ok}
use Rattle.session.specs.Session.{read_round, refused, is_refused, round_open}
use Rattle.session.specs.Ranges.{in_range}
use Rattle.session.specs.Reply.{awaited, is_heard, bears, record_ladder}
use Rattle.session.specs.Reader.{Outcome, outcome, closed, settled, accepted, read_reply}
use Rattle.session.proofs.Made.{OpenIs, in_range_facts, open_in_range}
use Rattle.client.specs.Endings.{read_ladder, after_reply, desk_after}
use Rattle.client.specs.Round.{Acceptable}
use Rattle.terms.proofs.Ladders as ladders
use Rattle.session.proofs.Closings as shapes
use Rattle.session.proofs.Rules.{StandingIs}
use Rattle.client.proofs.Reading as reading

-- ---- what it is to be accepted
-- of the reply, whoever else was heard
pub record Fits (p : Plan) (s : Session) (f : List ℕ) : Type 0 where
  pub good : good_reply p f ≡ true
  pub await : awaited s f ≡ true
  pub timed : (bears p f and time_zero (body_of f)) ≡ false
  pub hashed : (bears p f and not (hashes_ok p (frame_node f) (body_of f))) ≡ false
  pub under : (bears p f and not (under_of s.round.bound (stamp (body_of f)))) ≡ false

-- of the round, whatever the reply
pub record Ready (p : Plan) (s : Session) (d i : List ℕ) : Type 0 where
  pub plan : plan_ok p ≡ true
  pub lengths : lengths_ok p (length d) (length i) ≡ true
  pub round : read_round s ≡ true
  pub standing : StandingIs p s
  pub slots : OpenIs p s d

-- the stage of a read round
record Asks (s : Session) : Type 0 where
  reads : is_read s.operation ≡ true
  storing : is_storing s.round.stage ≡ false
  ended : is_ended s.round.stage ≡ false

asks : (s : Session) → read_round s ≡ true → Asks s
asks s e =
    let q = both (is_read s.operation) (is_asking s.round.stage) e in
    record { reads = q.0; storing = (go s.round.stage q.1).0; ended = (go s.round.stage q.1).1 }
  where
    go : (t : Stage) → is_asking t ≡ true → (is_storing t ≡ false) × (is_ended t ≡ false)
    go Asking h = (refl, refl)
    go Storing h = (absurd (clash (sym h)), refl)
    go Ended h = (refl, absurd (clash (sym h)))

-- not refused: none of the ten conditions holds
not_refused : (p : Plan) (s : Session) (f d i : List ℕ) → Acceptable p s d i f → None (read_ladder p s f d (length i))
not_refused p s f d i e =
    ladders.by_ladder (λ (o : Outcome). is_refused o.said ≡ false → None (read_ladder p s f d (length i))) (read_ladder p s f d (length i))
    (λ (k : ℕ). outcome (refused k) s d i) (accepted p s f d i) (λ k g h. absurd (clash h)) (λ n h. n)
    (subst (λ (o : Outcome). is_refused o.said ≡ false) (reading.one_ladder p s f d i) e)

-- accepted: of both, and the node is not yet heard
pub record Taken (p : Plan) (s : Session) (f d i : List ℕ) : Type 0 where
  pub ready : Ready p s d i
  pub fits : Fits p s f
  pub fresh : is_heard s (frame_node f) ≡ false

module _ (p : Plan) (s : Session) (f d i : List ℕ) where
  pub taken : read_round s ≡ true → Acceptable p s d i f → Taken p s f d i
  taken r e =
      let a = not_refused p s f d i e in
      let range = (both (is_read s.operation) (in_range p s d) (not-false (is_read s.operation and in_range p s d) (clear (read_ladder p s f d (length i)) a 9))).1 in
      let k = in_range_facts p s d range (clear (read_ladder p s f d (length i)) a 14) in
      record {
        ready = record {
          plan = not-false (plan_ok p) (clear (read_ladder p s f d (length i)) a 1);
          lengths = not-false (lengths_ok p (length d) (length i)) (clear (read_ladder p s f d (length i)) a 2);
          round = r;
          standing = k.0;
          slots = k.1;
        };
        fits = record {
          good = not-false (good_reply p f) (clear (read_ladder p s f d (length i)) a 4);
          await = not-false (awaited s f) (clear (read_ladder p s f d (length i)) a 10);
          timed = clear (read_ladder p s f d (length i)) a 5;
          hashed = clear (read_ladder p s f d (length i)) a 6;
          under = clear (read_ladder p s f d (length i)) a 12;
        };
        fresh = clear (read_ladder p s f d (length i)) a 11;
      }

  pub accepts : Taken p s f d i → read_reply p s f d i ≡ settled p (after_reply p s f) (desk_after p f d) i
  unfolding accepted
  accepts k =
      let g = k.ready in
      let q = k.fits in
      let a = asks s g.round in
      let range : in_range p s d ≡ true = open_in_range p s d g.standing g.slots in
      let ranged : not (is_read s.operation and in_range p s d) ≡ false = rw (a.reads, range) in
      let late : None (record_ladder p s f) = (q.timed, (q.hashed, (q.under, tt))) in
      reading.is_accepted p s f d i
      (ap not g.plan, (ap not g.lengths, (ranged, (a.ended, (ap not q.good, (ap not q.await, (k.fresh, late)))))))
      ∙ rw a.storing (reading.heard_settles p s f d i)

-- an accepted reply is not refused, whatever it comes to
pub settled_taken : (p : Plan) (s : Session) (d i : List ℕ) → is_refused (settled p s d i).said ≡ false
unfolding settled
settled_taken p s d i =
    shapes.pick Well (round_open p s) refl
    (shapes.goes Well p s (closed p s d) d i (record { finds = λ t x. refl; never = refl; aborts = refl; spends = λ g. refl; next = λ a l g. refl; repairs = λ a l v. refl }))
  where
    Well : Outcome → Type 0
    Well o = is_refused o.said ≡ false

pub acceptable : (p : Plan) (s : Session) (f d i : List ℕ) → Taken p s f d i → Acceptable p s d i f
acceptable p s f d i k = ap (λ (o : Outcome). is_refused o.said) (accepts p s f d i k) ∙ settled_taken p (after_reply p s f) (desk_after p f d) i
