-- Every session that opening and writing make is in its ranges with the desk handed back: an accepted opening's (opened_kept), and what a
-- reply to a writer leaves of one that was (write_kept). ReadKept.antt has the replies to a reader. Assumes nothing.
use Prim.{tt}
use Rattle.std.specs.Prelude.{Ok}
use Prim.Native.Nat.{ℕ, ◌+◌, ◌*◌, ◌^◌, ◌≤◌, ◌<◌}
use mathlib.Core.Path.{◌≡◌, refl, sym, ◌∙◌, subst}
use mathlib.Core.Bool.{Bool, true, false, cond}
use mathlib.Core.List.{List}
use native.Mathlib.Omega.{arith}
use borrow.Author.Tests.{eqb-false, not-true}
use lib.Dec.{eqb}
use lib.ListN.{length, set}
use Rattle.octets.specs.Bytes.{Octets}
use Rattle.octets.proofs.Meaning.{part_small, octets_drop}
use Rattle.terms.specs.Ladder.{first}
use Rattle.terms.specs.Terms.{record_length}
use Rattle.terms.specs.Stamp.{time, stamp_at, top}
use Rattle.terms.specs.declared.Plan.{Plan}
use Rattle.terms.specs.declared.Ask.{Ask}
use Rattle.terms.specs.declared.Time.{Time}
use Rattle.frame.specs.Frame.{frame_node, body_of, version_of, head_bytes}
use Rattle.record.proofs.Desks.{time_made}
use Rattle.clock.proofs.Wide.{WideTimes, wide_zeros, wide_set, kth_wide}
use Rattle.rounds.specs.declared.Heard.{Heard}
use Rattle.rounds.specs.declared.Heard.TheVariants.{Record}
use Rattle.session.specs.declared.Session.{Session}
use Rattle.session.specs.declared.Took.{Took}
use Rattle.standing.specs.declared.Operation.{Operation}
use Rattle.session.specs.declared.opening.Opened.{Opened}
use Rattle.session.specs.Opening.{OpenCall}
use Rattle.standing.specs.declared.Operation.TheVariants.{Write}
use Rattle.standing.specs.Standing.{is_storing, is_read}
use Rattle.session.specs.Session.{read_round, with_times, with_marks, marked_of, ended_of, storing_of, refused, still_open, done, clock_spent, round_open}
use Rattle.session.specs.Ranges.{in_range}
use Rattle.session.specs.Reply.{reply_ladder}
use Rattle.recover.specs.Records.{cross_for, stamp_for, records_for}
use Rattle.session.specs.Writer.{timed_of, kth_reply, new_time, leaves, Leaves, time_end, time_turn, write_turn, accepted_write, write_reply, WriteReplyCall}
use Rattle.session.proofs.Checks.{outcome_all}
use Rattle.session.proofs.Made.{OpenIs, ended_in_range, open_in_range, end_stands, storing_in_range, rest_set, none_set}
use Rattle.session.proofs.Openings.{accepted_session, accepted_in_range}
use Rattle.recover.proofs.Records.{length_records}
use Rattle.session.proofs.Known.{Known, known_reply, same, item_is, reply}
use Rattle.session.proofs.Rules.{StandingIs}

-- a session in its ranges with its desk, which is N·R bytes; its times have 8 bytes each
pub record Kept (p : Plan) (s : Session) (d : List ℕ) : Type 0 where
  pub range : in_range p s d ≡ true
  pub desk_is : length d ≡ p.n * record_length p
  pub clock : WideTimes s.times

-- so is an accepted opening's, with any desk of that length
pub opened_kept : (op : Operation) (p : Plan) (a : Ask) (r : Opened) → OpenCall op p a r → r.answer ≡ (Ok tt) → (d : List ℕ)
    → length d ≡ p.n * record_length p → Kept p r.session d
opened_kept op p a r call e d l =
    record { range = accepted_in_range op p a r call e d; desk_is = l; clock = rw (accepted_session op p a r call e) wide_zeros }

-- ---- times, timestamps and records as they are made
pub time_small : (f : List ℕ) → Octets f → time (body_of f) < 256 ^ 8
time_small f o = part_small (body_of f) 0 8 (octets_drop (head_bytes (version_of f)) f o)

-- the (b+1)-th greatest of times that have 8 bytes has 8 too
pub reply_wide : (p : Plan) (s : Session) → WideTimes s.times → kth_reply p s < 256 ^ 8
reply_wide p s w = unfold kth_reply in kth_wide (p.b + 1) s.marks s.times w

stamp_low : (p : Plan) (t : ℕ) (i : List ℕ) → 1 ≤ t → t < 256 ^ 8 → 1 ≤ (stamp_for p t i).time.0
unfolding stamp_for stamp_at
stamp_low p t i h k = rw (time_made t (cross_for p i) k) h

-- ---- a node heard: in a time round it gives a time
abbrev pub heard_of : Session → ℕ → Heard → List Time → Session
heard_of s n m g = with_marks (with_times s g) (set s.marks n m)

pub heard_stands : (p : Plan) (s : Session) (n : ℕ) (m : Heard) (g : List Time) → n < p.n → StandingIs p s → StandingIs p (heard_of s n m g)
heard_stands p s n m g h q =
    record {
      low = q.low;
      high = q.high;
      counted = q.counted;
      bounded = q.bounded;
      rest = rest_set s.marks p.n n m h ∙ q.rest;
      opening = q.opening;
    }

-- a time, write or repair round that stays open
pub heard_open : (p : Plan) (s : Session) (n : ℕ) (g : List Time) (d : List ℕ) → read_round s ≡ false → OpenIs p s d
    → round_open p (heard_of s n Record g) ≡ true → OpenIs p (heard_of s n Record g) d
heard_open p s n g d w o e =
    record {
      stamped = o.stamped;
      firsts = rw w (none_set s.marks n (rw w at o.firsts));
      few = e;
      slots = rw w;
    }

-- ---- the call
module _ (p : Plan) (s : Session) (f d i : List ℕ) (o : Octets f) (k : Kept p s d) where
  -- what the call leaves is kept
  abbrev Good : Leaves → Type 0
  Good x = Kept p x.session x.desk

  module _ (e : first (reply_ladder Write p s f d (length i)) (λ (j : ℕ). j) 0 ≡ 0) where
    q : Known (reply_ladder Write p s f d (length i)) p s d
    q = known_reply Write p s f d (length i) e

    no_read : read_round s ≡ false
    no_read = rw (not-true (is_read s.operation) (same Write p s f d (length i) q))

    module _ (g : List Time) (small : WideTimes g) where
      abbrev u : Session
      u = heard_of s (frame_node f) Record g

      stands : StandingIs p u
      stands = heard_stands p s (frame_node f) Record g (reply Write p s f d (length i) q).node_low q.stands

      still : round_open p u ≡ true → Kept p u d
      still c =
          record {
            range = open_in_range p u d stands (heard_open p s (frame_node f) g d no_read q.opens c);
            desk_is = k.desk_is;
            clock = small;
          }

      ends : Kept p (ended_of u) d
      ends = record { range = ended_in_range p (ended_of u) d (end_stands p u stands) refl; desk_is = k.desk_is; clock = small }

      in_write : Good (write_turn p u d)
      unfolding write_turn
      in_write = go (round_open p u) refl
        where
          go : (c : Bool) → round_open p u ≡ c → Good (cond c (leaves still_open u d) (leaves (done u.stamp 0) (ended_of u) d))
          go true c = still c
          go false c = ends

      in_time : Good (time_turn p u d i)
      unfolding time_turn time_end
      in_time = go (round_open p u) (eqb (kth_reply p u) top) refl refl
        where
          go : (c m : Bool) → round_open p u ≡ c → eqb (kth_reply p u) top ≡ m
              → Good (cond c (leaves still_open u d)
              (cond m (leaves clock_spent (ended_of u) d) (leaves still_open (storing_of u (stamp_for p (new_time (kth_reply p u)) i)) (records_for p (new_time (kth_reply p u)) i))))
          go true m c v = still c
          go false true c v = ends
          go false false c v =
              let z = eqb-false (kth_reply p u) top v in
              let w = reply_wide p u small in
              record {
                range = storing_in_range p u (stamp_for p (new_time (kth_reply p u)) i) _ q.plan_is_ok stands (stamp_low p (new_time (kth_reply p u)) i (omega arith) (omega arith));
                desk_is = length_records p (new_time (kth_reply p u)) i (item_is Write p s f d (length i) q);
                clock = small;
              }

    accepted : Good (accepted_write p s f d i)
    unfolding accepted_write
    accepted = go (is_storing s.round.stage) refl
      where
        go : (c : Bool) → is_storing s.round.stage ≡ c
            → Good (cond c (write_turn p (marked_of s (frame_node f) Record) d) (time_turn p (timed_of s (frame_node f) (time (body_of f))) d i))
        go true c = in_write s.times k.clock
        go false c =
            in_time (set s.times (frame_node f) (record { 0 = time (body_of f) }))
            (wide_set s.times (frame_node f) _ (time_small f o) k.clock)

  pub write_kept : (t : Took) (d₂ : List ℕ) → WriteReplyCall p s f d i t d₂ → Kept p t.session d₂
  unfolding write_reply
  write_kept t d₂ c =
      subst Good (sym c.is)
      (outcome_all Good (reply_ladder Write p s f d (length i)) (λ (j : ℕ). leaves (refused j) s d) (accepted_write p s f d i) (λ j. k) accepted)
