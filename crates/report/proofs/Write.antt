-- A WHOLE WRITE IS FIGURE 2'S. Over any calls from opening, the write round sends what WRITE sends for the responses of the time round and the
-- item, done bears WRITE's timestamp, and open says that it has not returned (write_run, opened_write). Each frame that is a response is a turn of
-- READ_TIMESTAMP's or DO_WRITE's loop, whether the call accepts it or refuses it 11 (response_right). Assumes nothing.
use Rattle.std.specs.Prelude.{Ok}
use Prim.{Unit, tt}
use Prim.Native.Nat.{ℕ, ◌+◌, ◌*◌, ◌^◌, ◌≤◌, ◌<◌}
use mathlib.Core.Path.{◌≡◌, refl, sym, ap, ◌∙◌, subst}
use mathlib.Core.Bool.{Bool, true, false, cond, not}
use mathlib.Core.Logic.{inl, inr}
use mathlib.Core.List.{List, [], ◌∷◌, ◌++◌, append-nil, append_assoc}
use native.Mathlib.Omega.{arith}
use borrow.Author.Tests.{ltb-true, ltb-false, eqb-true, eqb-false, not-false}
use lib.Dec.{ltb, leb, eqb}
use lib.ListN.{length, set, length-append, length-set}
use Rattle.octets.specs.Bytes.{part, num, be, Octets}
use Rattle.octets.proofs.Laws.{length_be, part_all, part_middle}
use Rattle.sha256.specs.Sha256.{sha256}
use Rattle.sha256.proofs.Laws.{sha256_length}
use Rattle.terms.specs.Ladder.{Rung, ◌and◌, rung}
use Rattle.terms.specs.Stamp.{stamp, stamp_at, time, stamp_number, top}
use Rattle.terms.specs.declared.Plan.{Plan}
use Rattle.terms.specs.declared.Ask.{Ask}
use Rattle.terms.specs.Terms.{plan_ok, slots_of}
use Rattle.terms.proofs.Down.{Down, stop}
use Rattle.terms.proofs.Ladders.{by_ladder, is_passed}
use Rattle.terms.proofs.Rungs.{both, clash}
use Rattle.terms.proofs.Plans.{plan_is}
use Rattle.terms.proofs.Facts.{facts}
use Rattle.terms.proofs.Small.{strict}
use Rattle.terms.proofs.Stamps.{stamp_at_number}
use Rattle.terms.specs.Terms.{slots_of}
use Rattle.fragments.specs.Fragments.{fragment}
use Rattle.fragments.proofs.Theorems.{length_fragment}
use Rattle.record.specs.Record.{cross_of, fragment_of, fragment_hash, prefix_of}
use Rattle.record.specs.Desk.{slot_of, cross_made, stamp_made}
use Rattle.record.proofs.Desks.{length_cross, time_made}
use Rattle.frame.specs.Frame.{frame_node, body_of, good_reply}
use Rattle.frame.proofs.Frames.{reply_is}
use Rattle.rounds.specs.declared.Heard.TheVariants.{Unheard, Record}
use Rattle.std.proofs.Common.{None}
use Rattle.rounds.specs.Rounds.{heard_count, mark_of, unheards}
use Rattle.rounds.proofs.Laws.{not_heard, count_set}
use Rattle.clock.specs.Clock.{times_heard, or_more}
use Rattle.clock.proofs.Kth.{kth_same}
use Rattle.clock.proofs.Hear.{heard_one, heard_many}
use Rattle.clock.proofs.Wide.{WideTimes, wide_zeros, wide_set}
use Rattle.session.specs.declared.Session.{Session}
use Rattle.standing.specs.declared.Stage.{Stage}
use Rattle.standing.specs.declared.Stage.TheVariants.{Asking, Storing, Ended}
use Rattle.standing.specs.declared.Operation.TheVariants.{Write}
use Rattle.session.specs.declared.opening.Opened.{Opened}
use Rattle.session.specs.Opening.{OpenCall, fresh_of}
use Rattle.standing.specs.Standing.{is_read, is_storing, is_ended, replies, lengths_ok}
use Rattle.session.specs.Session.{marked_of, ended_of, storing_of, refused, still_open, done, clock_spent, said_of}
use Rattle.session.specs.Ranges.{in_range}
use Rattle.session.specs.Reply.{is_heard, reply_ladder}
use Rattle.recover.specs.Records.{cross_for, stamp_for, records_for}
use Rattle.session.specs.Writer.{timed_of, kth_reply, new_time, Leaves, leaves, time_end, time_turn, write_turn, accepted_write, write_reply}
use Rattle.session.proofs.Made.{in_range_facts, few_unheards}
use Rattle.session.proofs.Kept.{time_small, reply_wide}
use Rattle.standing.proofs.Rules.{Lengths, lengths_are}
use Rattle.session.proofs.Openings.{accepted_session}
use Rattle.recover.proofs.Records.{record_is}
use Rattle.report.specs.Triple.{Triple, Message, each}
use Rattle.report.specs.Figure2.{in_set_of, gathered, Clock, clocks, Times, acknowledged, read_timestamp, make_cross_checksum, make_timestamp, do_write, ts_written, write}
use Rattle.report.specs.Ours.{family, stamped_as, bearing, sending}
use Rattle.client.specs.Turns as turns
use Rattle.report.specs.WriteRun.{Responses, untimed, is_response, clock_of, timing, timed_over, Wrote, Sending, EachWrites}
use Rattle.report.proofs.Gathers.{listed, off, all_off, put_in, kept_out, Marked, marked_none, marked_more}
use Rattle.report.proofs.Lists.{strung_row, listed_same}
use Rattle.client.specs.Turns.{WriteTurn, Calls}
use Rattle.client.specs.Sessions.{last_session, last_desk}

-- ---- the records of an item at a time are what DO_WRITE sends
module _ (p : Plan) (t : ℕ) (i : List ℕ) (l : length i ≡ p.m * p.f) where
  abbrev CC : List ℕ
  CC = make_cross_checksum (family p) (fragment p.m p.f i)

  abbrev ts : ℕ
  ts = make_timestamp (family p) t CC

  pub cross_is : cross_for p i ≡ CC
  unfolding cross_for cross_made fragment_hash prefix_of make_cross_checksum
  cross_is = sym (strung_row (λ (k : ℕ). sha256 (fragment p.m p.f i k)) p.n)

  abbrev bytes : List ℕ
  bytes = stamp_made t (cross_for p i)

  length_bytes : length bytes ≡ 40
  length_bytes = simp (length-append, length_be, sha256_length)

  bytes_are : num bytes ≡ ts
  unfolding make_timestamp stamped_as
  bytes_are = ap (λ (c : List ℕ). num (be 8 t ++ sha256 c)) cross_is

  pub stamp_is : stamp_number (stamp_for p t i) ≡ ts
  unfolding stamp_for
  stamp_is =
      stamp_at_number bytes 0 (omega (arith, length_bytes))
      ∙ ap num (ap (part bytes 0) (sym length_bytes) ∙ part_all bytes) ∙ bytes_are

  length_crossed : length (cross_for p i) ≡ 32 * p.n
  unfolding cross_for
  length_crossed = length_cross p (fragment p.m p.f i) p.n

  abbrev message : ℕ → Triple → Message
  message k x = record { S = k; Response = x }

  sends_one : (k : ℕ) → k < p.n → bearing p (records_for p t i) k ≡ message k (record { ts = ts; D = fragment p.m p.f i k; CC = CC })
  sends_one k h = λ j. message k (record { ts = stamped j; D = body j; CC = crossed j })
    where
      x : List ℕ
      x = slot_of p (records_for p t i) k

      is : slot_of p (records_for p t i) k ≡ bytes ++ (cross_for p i ++ fragment p.m p.f i k)
      is = record_is p t i l k h

      stamped : stamp (slot_of p (records_for p t i) k) ≡ ts
      stamped = ap num (part_middle (slot_of p (records_for p t i) k) [] bytes (cross_for p i ++ fragment p.m p.f i k) 0 40 is refl length_bytes) ∙ bytes_are

      crossed : cross_of p (slot_of p (records_for p t i) k) ≡ CC
      crossed = part_middle (slot_of p (records_for p t i) k) bytes (cross_for p i) (fragment p.m p.f i k) 40 (32 * p.n) is length_bytes length_crossed ∙ cross_is

      body : fragment_of p (slot_of p (records_for p t i) k) ≡ fragment p.m p.f i k
      body =
          part_middle (slot_of p (records_for p t i) k) (bytes ++ cross_for p i) (fragment p.m p.f i k) [] (slots_of p).head p.f
          (is ∙ sym (append_assoc bytes (cross_for p i) (fragment p.m p.f i k)) ∙ ap (λ (y : List ℕ). (bytes ++ cross_for p i) ++ y) (sym (append-nil (fragment p.m p.f i k))))
          (length-append bytes (cross_for p i) ∙ omega (arith, length_bytes, length_crossed)) (length_fragment p.m p.f i l k)

  pub sends_are : sending p (records_for p t i) ≡ do_write (family p) (fragment p.m p.f i) ts CC
  unfolding do_write
  sends_are =
      listed_same (bearing p (records_for p t i)) (λ (k : ℕ). message k (record { ts = ts; D = fragment p.m p.f i k; CC = CC })) p.n sends_one

-- ---- what is known between two calls
-- in the time round: the times that are heard and the marks are those of READ_TIMESTAMP's response set
pub record Asks (p : Plan) (s : Session) (w : Responses) : Type 0 where
  pub timed : (v : ℕ) → or_more v (times_heard s.marks s.times) ≡ or_more v (Times (clocks w.times))
  pub wide : WideTimes s.times
  pub places : length s.times ≡ 16
  pub marked : Marked (λ (x : Clock). x.S) s.marks (clocks w.times)
  pub size : length s.marks ≡ 16
  pub unstored : w.stored ≡ []
  pub writes : is_read s.operation ≡ false

-- in the write round: the desk holds what DO_WRITE sends, under READ_TIMESTAMP's time, and the marks are those of its response set
pub record Stores (p : Plan) (s : Session) (d : List ℕ) (w : Responses) : Type 0 where
  pub sends : Sending p s d w
  pub at : s.stamp.time.0 ≡ read_timestamp (family p) w.times
  pub marked : Marked (λ (S : ℕ). S) s.marks (acknowledged w.stored)
  pub size : length s.marks ≡ 16
  pub writes : is_read s.operation ≡ false

abbrev pub KeepsAt : Stage → Plan → Session → List ℕ → Responses → Type 0
KeepsAt Asking p s d w = Asks p s w
KeepsAt Storing p s d w = Stores p s d w
KeepsAt Ended p s d w = Unit {0}

abbrev pub Keeps : Plan → Session → List ℕ → Responses → Type 0
Keeps p s d w = KeepsAt s.round.stage p s d w

pub record Right (p : Plan) (o : Leaves) (w : Responses) : Type 0 where
  pub keeps : Keeps p o.session o.desk w
  pub wrote : Wrote p o.said w

-- ---- a time round after a mark; no more than N-t were heard
module _ (p : Plan) (s : Session) (d i : List ℕ) (ts : List Clock) (sd : List ℕ) (st : s.round.stage ≡ Asking) (ok : plan_ok p ≡ true)
    (li : length i ≡ p.m * p.f) (few : heard_count s.marks ≤ replies p) where
  abbrev with_item : Responses
  with_item = record { times = ts; stored = sd; Data = i }

  module _ (k : Asks p s with_item) where
    none_stored : Marked (λ (S : ℕ). S) unheards (acknowledged sd)
    none_stored = subst (λ (l : List ℕ). Marked (λ (S : ℕ). S) unheards (acknowledged l)) (sym k.unstored) (marked_none (λ (S : ℕ). S))

    -- Q-2: the (b+1)-th greatest of the replies is that of the response set, whose order is another
    picked : replies p ≤ heard_count s.marks → kth_reply p s ≡ (family p).greatest_of (Times (clocks ts))
    unfolding kth_reply
    picked l =
        let z = facts p ok in
        kth_same (p.b + 1) (times_heard s.marks s.times) (Times (clocks ts)) k.timed (omega arith)
        (omega (arith, heard_many s.marks s.times (k.size ∙ sym k.places), z.liars_short, z.low_high, z.high_replies))

    sending_so : replies p ≤ heard_count s.marks
        → Sending p (storing_of s (stamp_for p (new_time (kth_reply p s)) i)) (records_for p (new_time (kth_reply p s)) i) with_item
    unfolding ts_written write read_timestamp
    sending_so l =
        let e : new_time (kth_reply p s) ≡ (family p).greatest_of (Times (clocks ts)) + 1 = ap (λ (x : ℕ). x + 1) (picked l) in
        record {
          times = omega (arith, k.marked.count, few, l);
          stamp = stamp_is p (new_time (kth_reply p s)) i li ∙ ap (λ (x : ℕ). make_timestamp (family p) x (CC p (new_time (kth_reply p s)) i li)) e;
          sends = sends_are p (new_time (kth_reply p s)) i li
              ∙ ap (λ (x : ℕ). do_write (family p) (fragment p.m p.f i) (make_timestamp (family p) x (CC p (new_time (kth_reply p s)) i li)) (CC p (new_time (kth_reply p s)) i li)) e;
        }

    stored_at : replies p ≤ heard_count s.marks → (kth_reply p s ≡ top → ⊥) → (stamp_for p (new_time (kth_reply p s)) i).time.0 ≡ read_timestamp (family p) ts
    unfolding stamp_for stamp_at read_timestamp
    stored_at l n =
        time_made (new_time (kth_reply p s)) (cross_for p i)
        (strict (new_time (kth_reply p s)) (256 ^ 8) (omega (arith, reply_wide p s k.wide)) (λ z. n (omega arith)))
        ∙ ap (λ (x : ℕ). x + 1) (picked l)

    time_ends : replies p ≤ heard_count s.marks → Right p (time_end p s d i) with_item
    unfolding time_end
    time_ends l = go (eqb (kth_reply p s) top) refl
      where
        go : (t : Bool) → eqb (kth_reply p s) top ≡ t
            → Right p (cond t (leaves clock_spent (ended_of s) d)
            (leaves still_open (storing_of s (stamp_for p (new_time (kth_reply p s)) i)) (records_for p (new_time (kth_reply p s)) i))) with_item
        go true e = record { keeps = tt; wrote = (sym (picked l) ∙ eqb-true (kth_reply p s) top e, (sending_so l).times) }
        go false e =
            record {
              keeps = record { sends = sending_so l; at = stored_at l (eqb-false (kth_reply p s) top e); marked = none_stored; size = refl; writes = k.writes };
              wrote = inr ((sending_so l).times, omega (arith, none_stored.count, ltb-true (heard_count unheards) (replies p) (few_unheards p ok)));
            }

    times_on : Right p (time_turn p s d i) with_item
    unfolding time_turn
    times_on = go (ltb (heard_count s.marks) (replies p)) refl
      where
        go : (t : Bool) → ltb (heard_count s.marks) (replies p) ≡ t → Right p (cond t (leaves still_open s d) (time_end p s d i)) with_item
        go true e =
            record {
              keeps = subst (λ (x : Stage). KeepsAt x p s d with_item) (sym st) k;
              wrote = inl (omega (arith, k.marked.count, ltb-true (heard_count s.marks) (replies p) e));
            }
        go false e = time_ends (ltb-false (heard_count s.marks) (replies p) e)

-- ---- a write round after a mark
writes_on : (p : Plan) (s : Session) (d : List ℕ) (w : Responses) → s.round.stage ≡ Storing → Stores p s d w
    → heard_count s.marks ≤ replies p → Right p (write_turn p s d) w
unfolding write_turn
writes_on p s d w st k most = go (ltb (heard_count s.marks) (replies p)) refl
  where
    go : (t : Bool) → ltb (heard_count s.marks) (replies p) ≡ t
        → Right p (cond t (leaves still_open s d) (leaves (done s.stamp 0) (ended_of s) d)) w
    go true e =
        record {
          keeps = subst (λ (x : Stage). KeepsAt x p s d w) (sym st) k;
          wrote = inr (k.sends.times, omega (arith, k.marked.count, ltb-true (heard_count s.marks) (replies p) e));
        }
    go false e =
        let l = ltb-false (heard_count s.marks) (replies p) e in
        record { keeps = tt; wrote = (k.sends.stamp, omega (arith, k.marked.count, most, l)) }

-- ---- a frame
module _ (p : Plan) (s : Session) (f d i : List ℕ) (w : Responses) (bytes : Octets f) where
  abbrev ladder : List Rung
  ladder = reply_ladder Write p s f d (length i)

  abbrev refuse : ℕ → Leaves
  refuse j = leaves (refused j) s d

  abbrev node : ℕ
  node = frame_node f

  -- a response to the open round
  module _ (g : is_response ladder ≡ true) where
    c : (k : ℕ) → listed k (1 ∷ 2 ∷ 9 ∷ 14 ∷ 4 ∷ 10 ∷ []) ≡ true → rung k ladder ≡ false
    c = off (1 ∷ 2 ∷ 9 ∷ 14 ∷ 4 ∷ 10 ∷ []) ladder g

    plan_is_ok : plan_ok p ≡ true
    plan_is_ok = not-false (plan_ok p) (c 1 refl)

    lengths : Lengths p (length d) (length i)
    lengths = lengths_are p (length d) (length i) (not-false (lengths_ok p (length d) (length i)) (c 2 refl))

    few : heard_count s.marks < replies p
    few =
        let r = both (not (is_read s.operation)) (in_range p s d) (not-false (not (is_read s.operation) and in_range p s d) (c 9 refl)) in
        ltb-true (heard_count s.marks) (replies p) (in_range_facts p s d r.1 (c 14 refl)).1.few

    low : node < 16
    low = let n16 = (plan_is p plan_is_ok).n_high in omega (arith, (reply_is p f (not-false (good_reply p f) (c 4 refl))).node_low)

    again : is_heard s node ≡ true → refuse 11 ≡ write_reply p s f d i
    unfolding write_reply
    again h =
        let at : Down {S = Unit {0}} (λ (u : Unit {0}). ladder) 11 =
        record { start = tt; none = (c 1 refl, (c 2 refl, (c 9 refl, (c 14 refl, (c 4 refl, (c 10 refl, tt)))))) } in
        stop refuse (accepted_write p s f d i) at h refl

    taken : is_heard s node ≡ false → write_reply p s f d i ≡ accepted_write p s f d i
    unfolding write_reply
    taken h = is_passed ladder refuse (accepted_write p s f d i) (c 1 refl, (c 2 refl, (c 9 refl, (c 14 refl, (c 4 refl, (c 10 refl, (h, tt)))))))

    module _ (h : is_heard s node ≡ false) (l : length s.marks ≡ 16) where
      unmarked : mark_of s.marks node ≡ Unheard
      unfolding is_heard
      unmarked = not_heard (mark_of s.marks node) h

      most : heard_count (set s.marks node Record) ≤ replies p
      most = omega (arith, few, count_set s.marks node Record (omega (arith, low, l)) unmarked refl)

    -- in the time round
    module _ (st : s.round.stage ≡ Asking) (k : Asks p s w) where
      abbrev with_time : Responses
      with_time =
          record {
            times = clock_of f ∷ w.times;
            stored = w.stored;
            Data = cond (in_set_of (λ (x : Clock). x.S) node (clocks w.times)) w.Data i;
          }

      time_again : is_heard s node ≡ true → Right p (refuse 11) with_time
      unfolding is_heard
      time_again h =
          let e = kept_out (λ (x : Clock). x.S) (clock_of f) w.times (k.marked.names node ∙ h) in
          record {
            keeps = subst (λ (x : Stage). KeepsAt x p s d with_time) (sym st)
                (record {
                  timed = λ v. k.timed v ∙ ap (λ (l : List Clock). or_more v (Times l)) (sym e);
                  wide = k.wide;
                  places = k.places;
                  marked = subst (Marked (λ (x : Clock). x.S) s.marks) (sym e) k.marked;
                  size = k.size;
                  unstored = k.unstored;
                  writes = k.writes;
                });
            wrote = tt;
          }

      time_right : is_heard s node ≡ false → Right p (time_turn p (timed_of s node (time (body_of f))) d i) with_time
      unfolding is_heard Times each or_more
      time_right h =
          let u = k.marked.names node ∙ h in
          let e = put_in (λ (x : Clock). x.S) (clock_of f) w.times u in
          subst (λ (t : Bool). Right p (time_turn p (timed_of s node (time (body_of f))) d i)
          (record { times = clock_of f ∷ w.times; stored = w.stored; Data = cond t w.Data i })) (sym u)
          (times_on p (timed_of s node (time (body_of f))) d i (clock_of f ∷ w.times) w.stored st plan_is_ok lengths.item_is (most h k.size)
          (record {
            timed = λ v.
                heard_one v s.marks s.times node (record { 0 = time (body_of f) }) (omega (arith, low, k.size)) (k.size ∙ sym k.places) (unmarked h k.size)
                ∙ ap (λ (n : ℕ). cond (leb v (time (body_of f))) 1 0 + n) (k.timed v) ∙ ap (λ (l : List Clock). or_more v (Times l)) (sym e);
            wide = wide_set s.times node _ (time_small f bytes) k.wide;
            places = length-set s.times node (record { 0 = time (body_of f) }) ∙ k.places;
            marked = subst (Marked (λ (x : Clock). x.S) (set s.marks node Record)) (sym e)
                (marked_more (λ (x : Clock). x.S) s.marks (clocks w.times) (clock_of f) node refl (omega (arith, low, k.size)) (unmarked h k.size) k.marked);
            size = length-set s.marks node Record ∙ k.size;
            unstored = k.unstored;
            writes = k.writes;
          }))

    -- in the write round
    module _ (st : s.round.stage ≡ Storing) (k : Stores p s d w) where
      abbrev with_ack : Responses
      with_ack = record { times = w.times; stored = node ∷ w.stored; Data = w.Data }

      ack_again : is_heard s node ≡ true → Right p (refuse 11) with_ack
      unfolding is_heard
      ack_again h =
          record {
            keeps = subst (λ (x : Stage). KeepsAt x p s d with_ack) (sym st)
                (record {
                  sends = record { times = k.sends.times; stamp = k.sends.stamp; sends = k.sends.sends };
                  at = k.at;
                  marked = subst (Marked (λ (S : ℕ). S) s.marks) (sym (kept_out (λ (S : ℕ). S) node w.stored (k.marked.names node ∙ h))) k.marked;
                  size = k.size;
                  writes = k.writes;
                });
            wrote = tt;
          }

      ack_right : is_heard s node ≡ false → Right p (write_turn p (marked_of s node Record) d) with_ack
      unfolding is_heard
      ack_right h =
          writes_on p (marked_of s node Record) d with_ack st
          (record {
            sends = record { times = k.sends.times; stamp = k.sends.stamp; sends = k.sends.sends };
            at = k.at;
            marked = subst (Marked (λ (S : ℕ). S) (set s.marks node Record))
                (sym (put_in (λ (S : ℕ). S) node w.stored (k.marked.names node ∙ h)))
                (marked_more (λ (S : ℕ). S) s.marks (acknowledged w.stored) node node refl (omega (arith, low, k.size)) (unmarked h k.size) k.marked);
            size = length-set s.marks node Record ∙ k.size;
            writes = k.writes;
          })
          (most h k.size)

    response_right : Keeps p s d w
        → Right p (write_reply p s f d i)
        (cond (is_storing s.round.stage) (record { times = w.times; stored = node ∷ w.stored; Data = w.Data })
        (record { times = clock_of f ∷ w.times; stored = w.stored; Data = cond (in_set_of (λ (x : Clock). x.S) node (clocks w.times)) w.Data i }))
    unfolding accepted_write
    response_right keep = go s.round.stage refl (is_heard s node) refl
      where
        go : (x : Stage) → s.round.stage ≡ x → (t : Bool) → is_heard s node ≡ t
            → Right p (write_reply p s f d i)
            (cond (is_storing x) (record { times = w.times; stored = node ∷ w.stored; Data = w.Data })
            (record { times = clock_of f ∷ w.times; stored = w.stored; Data = cond (in_set_of (λ (x : Clock). x.S) node (clocks w.times)) w.Data i }))
        go Asking st true h =
            let k : Asks p s w = subst (λ (x : Stage). KeepsAt x p s d w) st keep in
            subst (λ (o : Leaves). Right p o (with_time st k)) (again h) (time_again st k h)
        go Asking st false h =
            let k : Asks p s w = subst (λ (x : Stage). KeepsAt x p s d w) st keep in
            subst (λ (o : Leaves). Right p o (with_time st k)) (sym (taken h ∙ rw (ap is_storing st))) (time_right st k h)
        go Storing st true h =
            let k : Stores p s d w = subst (λ (x : Stage). KeepsAt x p s d w) st keep in
            subst (λ (o : Leaves). Right p o (with_ack st k)) (again h) (ack_again st k h)
        go Storing st false h =
            let k : Stores p s d w = subst (λ (x : Stage). KeepsAt x p s d w) st keep in
            subst (λ (o : Leaves). Right p o (with_ack st k)) (sym (taken h ∙ rw (ap is_storing st))) (ack_right st k h)
        go Ended st t h = absurd (clash (sym (ap is_ended st) ∙ c 14 refl))

  -- any other frame is refused
  other_right : is_response ladder ≡ false → Keeps p s d w → Right p (write_reply p s f d i) w
  unfolding write_reply
  other_right e keep =
      by_ladder (λ (o : Leaves). Right p o w) ladder refuse (accepted_write p s f d i) (λ j h. record { keeps = keep; wrote = tt })
      (λ n. absurd (clash (sym (all_off (1 ∷ 2 ∷ 9 ∷ 14 ∷ 4 ∷ 10 ∷ []) ladder n) ∙ e)))

  call_right : Keeps p s d w → Right p (write_reply p s f d i) (timing p s f d i w)
  unfolding timing
  call_right keep = go (is_response ladder) refl
    where
      go : (t : Bool) → is_response ladder ≡ t
          → Right p (write_reply p s f d i)
          (cond t
          (cond (is_storing s.round.stage) (record { times = w.times; stored = node ∷ w.stored; Data = w.Data })
          (record { times = clock_of f ∷ w.times; stored = w.stored; Data = cond (in_set_of (λ (x : Clock). x.S) node (clocks w.times)) w.Data i }))
          w)
      go true e = response_right e keep
      go false e = other_right e keep

-- ---- the run
sent : (p : Plan) (s : Session) (d : List ℕ) (w : Responses) → s.round.stage ≡ Storing → Keeps p s d w → Sending p s d w
sent p s d w e k = let q : Stores p s d w = subst (λ (y : Stage). KeepsAt y p s d w) e k in q.sends

-- EACH CALL OF A WRITE SENDS AND TELLS WHAT FIGURE 2'S WRITE DOES; and what is known after them
pub record Ran (p : Plan) (s : Session) (d : List ℕ) (w : Responses) (cs : List turns.Turn) : Type 0 where
  pub tells : EachWrites p s d w cs
  pub keeps : Keeps p (last_session s cs) (last_desk d cs) (timed_over p s d w cs)

pub write_run : (p : Plan) (s : Session) (d : List ℕ) (w : Responses) (cs : List turns.Turn) → Keeps p s d w → Calls (WriteTurn p) s d cs → Ran p s d w cs
write_run p s d w [] k r = record { tells = tt; keeps = k }
write_run p s d w (c ∷ cs) k r =
    let v : Responses = timing p s c.reply d c.item w in
    let q : Right p (leaves (said_of c.took.answer) c.took.session c.desk_left) v =
    subst (λ (o : Leaves). Right p o v) (sym r.0.1.is) (call_right p s c.reply d c.item w r.0.0 k) in
    let t = write_run p c.took.session c.desk_left v cs q.keeps r.1 in
    record { tells = (q.wrote, (λ e. sent p c.took.session c.desk_left v e q.keeps), t.tells); keeps = t.keeps }

-- FROM OPENING: nothing was received yet
pub opened_write_run : (p : Plan) (a : Ask) (r : Opened) (d : List ℕ) (cs : List turns.Turn) → OpenCall Write p a r → r.answer ≡ (Ok tt)
    → Calls (WriteTurn p) r.session d cs → Ran p r.session d untimed cs
opened_write_run p a r d cs call e h = write_run p r.session d untimed cs start h
  where
    fresh : Keeps p (fresh_of Write 1 None a) d untimed
    fresh = record { timed = λ v. unfold Times each gathered or_more times_heard in refl; wide = wide_zeros; places = refl; marked = marked_none (λ (x : Clock). x.S); size = refl; unstored = refl; writes = refl }

    start : Keeps p r.session d untimed
    start = subst (λ (x : Session). Keeps p x d untimed) (sym (accepted_session Write p a r call e)) fresh

pub opened_write : (p : Plan) (a : Ask) (r : Opened) (d : List ℕ) (cs : List turns.Turn) → OpenCall Write p a r → r.answer ≡ (Ok tt)
    → Calls (WriteTurn p) r.session d cs → EachWrites p r.session d untimed cs
opened_write p a r d cs call e h = (opened_write_run p a r d cs call e h).tells
