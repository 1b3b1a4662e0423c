-- Every session that a reply to a reader leaves is in its ranges with the desk handed back, where the one before was (read_kept): so, with
-- opened_kept and write_kept of Kept.antt, is every session that the library makes, and no round is above W (round_kept). Assumes nothing.
use Prim.Native.Nat.{ℕ, ◌+◌, ◌*◌, ◌≤◌, ◌<◌}
use mathlib.Core.Path.{◌≡◌, refl, sym, ◌∙◌, subst}
use mathlib.Core.Bool.{Bool, true, false, cond}
use mathlib.Core.List.{List}
use native.Mathlib.Omega.{arith}
use borrow.Author.Tests.{le-leb, lt-ltb, not-false}
use lib.ListN.{length}
use Rattle.octets.specs.Bytes.{put}
use Rattle.terms.specs.Ladder.{first, None, ◌and◌}
use Rattle.terms.proofs.Down.{clear}
use Rattle.terms.specs.Terms.{record_length, slots_of}
use Rattle.terms.specs.Stamp.{stamp}
use Rattle.terms.specs.declared.Plan.{Plan}
use Rattle.frame.specs.Frame.{frame_node, body_of}
use Rattle.rounds.specs.declared.Heard.{Heard}
use Rattle.rounds.specs.declared.Heard.TheVariants.{First, Record}
use Rattle.std.proofs.Common.{Some}
use Rattle.rounds.specs.Rounds.{under_of, slots_fit}
use Rattle.rounds.proofs.Closes.{candidate}
use Rattle.session.specs.declared.Session.{Session}
use Rattle.session.specs.declared.Took.{Took}
use Rattle.standing.specs.declared.Stage.{Stage}
use Rattle.standing.specs.declared.Stage.TheVariants.{Asking, Storing, Ended}
use Rattle.standing.specs.declared.Operation.TheVariants.{Read}
use Rattle.standing.specs.Standing.{is_read, is_asking, is_storing, is_ended}
use Rattle.session.specs.Session.{marked_of, ended_of, next_of, refused, still_open, done, round_open}
use Rattle.session.specs.Reply.{bears, reply_ladder, record_ladder}
use Rattle.recover.specs.Recover.{collected}
use Rattle.session.specs.Reader.{Outcome, outcome, acted, closed, settled, heard, stored, accepted, read_reply, ReadReplyCall}
use Rattle.session.proofs.Checks.{none_applies, outcome_all}
use Rattle.session.proofs.Rules.{range_stands, StandingIs}
use Rattle.session.proofs.Known.{Known, known_reply, same, reply}
use Rattle.session.proofs.Made.{ended_in_range, open_in_range, end_stands, storing_in_range, rest_unheards, few_unheards, slots_unheards}
use Rattle.session.proofs.Slots.{lead_time, long_after, slots_after}
use Rattle.session.proofs.Kept.{Kept, heard_stands, heard_open}
use Rattle.session.proofs.Closings.{Led, led, lead_low, sized, long_repaired, goes}

pub asking : (x : Stage) → is_storing x ≡ false → is_ended x ≡ false → is_asking x ≡ true
asking Asking a b = refl
asking Storing a b = sym a
asking Ended a b = sym b

pub not_asking : (x : Stage) → is_storing x ≡ true → is_asking x ≡ false
not_asking Asking e = sym e
not_asking Storing e = refl
not_asking Ended e = refl

-- ---- the call
module _ (p : Plan) (s : Session) (f d i : List ℕ) (k : Kept p s d) where
  -- what the call leaves is kept
  abbrev Good : Outcome → Type 0
  Good x = Kept p x.session x.desk

  module _ (q : Known (reply_ladder Read p s f d (length i)) p s d) where
    reads : is_read s.operation ≡ true
    reads = same Read p s f d (length i) q

    low : frame_node f < p.n
    low = (reply Read p s f d (length i) q).node_low

    module _ (m : Heard) where
      abbrev u : Session
      u = marked_of s (frame_node f) m

      stood : StandingIs p u
      stood = heard_stands p s (frame_node f) m s.times low q.stands

      module _ (e : List ℕ) (long : length e ≡ p.n * record_length p) where
        ended : Kept p (ended_of u) e
        ended = record { range = ended_in_range p (ended_of u) e (end_stands p u stood) refl; desk_is = long; clock = k.clock }

        module _ (ask : is_asking s.round.stage ≡ true) (fits : slots_fit u.marks e (slots_of p) s.round.bound p.n ≡ true) where
          still : round_open p u ≡ true → Kept p u e
          still c =
              record {
                range = open_in_range p u e stood (record { stamped = q.opens.stamped; firsts = rw (reads, ask); few = c; slots = rw (reads, ask) fits });
                desk_is = long;
                clock = k.clock;
              }

          stamped : (a : ℕ) → (closed p u e).lead ≡ Some a → 1 ≤ (closed p u e).stamp.time.0
          stamped a l =
              let g : Led p u e a = led p u e a l in
              let best = candidate u.marks e (slots_of p) p.n a g.leads in
              rw g.stamp_is (lead_time u.marks e (slots_of p) s.round.bound p.n a fits (lead_low p u e a g) best.marked)

          next : (a : ℕ) → (closed p u e).lead ≡ Some a → u.round.number < p.w → Kept p (next_of u (closed p u e).stamp) e
          next a l h =
              record {
                range =
                    open_in_range p (next_of u (closed p u e).stamp) e
                    (record {
                      low = omega arith;
                      high = omega arith;
                      counted = rw reads;
                      bounded = rw (lt-ltb 1 (u.round.number + 1) (omega (arith, q.stands.low))) (le-leb 1 (closed p u e).stamp.time.0 (stamped a l));
                      rest = rest_unheards p.n;
                      opening = q.stands.opening;
                    })
                    (record {
                      stamped = refl;
                      firsts = rw reads;
                      few = few_unheards p q.plan_is_ok;
                      slots = rw reads (slots_unheards e (slots_of p) _ p.n);
                    });
                desk_is = long;
                clock = k.clock;
              }

          settles : Good (settled p u e i)
          unfolding settled
          settles = go (round_open p u) refl
            where
              go : (c : Bool) → round_open p u ≡ c → Good (cond c (outcome still_open u e i) (acted p u (closed p u e) e i))
              go true c = still c
              go false c =
                  goes Good p u (closed p u e) e i
                  (record {
                    finds = λ x y. ended;
                    never = ended;
                    aborts = ended;
                    spends = λ h. ended;
                    next = next;
                    repairs = λ a l v.
                        let g : Led p u e a = led p u e a l in
                        record {
                          range = storing_in_range p u (closed p u e).stamp _ q.plan_is_ok stood (stamped a l);
                          desk_is = long_repaired p u e a g q.plan_is_ok long (sized p u e a g q.plan_is_ok v) ∙ long;
                          clock = k.clock;
                        };
                  })

    in_repair : is_storing s.round.stage ≡ true → Good (stored p (marked_of s (frame_node f) Record) d i)
    unfolding stored
    in_repair t = go (round_open p (u Record)) refl
      where
        no_read : (x : Stage) → is_storing x ≡ true → (is_read s.operation and is_asking x) ≡ false
        no_read Storing e = rw reads
        no_read Asking e = rw reads (sym e)
        no_read Ended e = rw reads

        go : (c : Bool) → round_open p (u Record) ≡ c
            → Good (cond c (outcome still_open (u Record) d i) (outcome (done s.stamp s.round.number) (ended_of (u Record)) d (collected p d i)))
        go true c =
            record {
              range = open_in_range p (u Record) d (stood Record) (heard_open p s (frame_node f) s.times d (no_read s.round.stage t) q.opens c);
              desk_is = k.desk_is;
              clock = k.clock;
            }
        go false c = ended Record d k.desk_is

    in_read : is_storing s.round.stage ≡ false → None (record_ladder p s f) → Good (heard p s f d i)
    unfolding heard
    in_read t n = go (bears p f) refl
      where
        ask : is_asking s.round.stage ≡ true
        ask = asking s.round.stage t q.going

        fits : (b : Bool) → bears p f ≡ b
            → slots_fit (u (cond b Record First)).marks (cond b (put d (frame_node f * record_length p) (body_of f)) d) (slots_of p) s.round.bound p.n ≡ true
        fits = slots_after p f d low q.desk_is s.marks s.round.bound (λ c. rw c at (clear (record_ladder p s f) n 5))
            (λ c. not-false (under_of s.round.bound (stamp (body_of f))) (rw c at (clear (record_ladder p s f) n 12))) (rw (reads, ask) at q.opens.slots)

        go : (b : Bool) → bears p f ≡ b
            → Good (cond b (settled p (u Record) (put d (frame_node f * record_length p) (body_of f)) i) (settled p (u First) d i))
        go true c =
            settles Record (put d (frame_node f * record_length p) (body_of f)) (long_after p f d low q.desk_is c) ask (fits true c)
        go false c = settles First d q.desk_is ask (fits false c)

  accepts : first (reply_ladder Read p s f d (length i)) (λ (j : ℕ). j) 0 ≡ 0 → first (record_ladder p s f) (λ (j : ℕ). j) 0 ≡ 0 → Good (accepted p s f d i)
  unfolding accepted
  accepts e g = go (is_storing s.round.stage) refl
    where
      go : (c : Bool) → is_storing s.round.stage ≡ c → Good (cond c (stored p (marked_of s (frame_node f) Record) d i) (heard p s f d i))
      go true c = in_repair (known_reply Read p s f d (length i) e) c
      go false c = in_read (known_reply Read p s f d (length i) e) c (none_applies (record_ladder p s f) refl g)

  pub read_kept : (t : Took) (d₂ i₂ : List ℕ) → ReadReplyCall p s f d i t d₂ i₂ → Kept p t.session d₂
  unfolding read_reply first
  read_kept t d₂ i₂ c =
      subst Good (sym c.is)
      (outcome_all Good (reply_ladder Read p s f d (length i)) (λ (j : ℕ). outcome (refused j) s d i) _ (λ j. k)
      (λ e. outcome_all Good (record_ladder p s f) (λ (j : ℕ). outcome (refused j) s d i) (accepted p s f d i) (λ j. k) (accepts e)))

-- the round of every such session is 1 to W
pub round_kept : (p : Plan) (s : Session) (d : List ℕ) → Kept p s d → (1 ≤ s.round.number) × (s.round.number ≤ p.w)
round_kept p s d k = let q = range_stands p s d k.range in (q.low, q.high)
