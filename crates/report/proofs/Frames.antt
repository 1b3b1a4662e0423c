-- Each frame that is a message of the round is a turn of DO_READ's loop, whether the call accepts it or refuses it 6, 11 or 12
-- (message_right); one that is none changes nothing. Assumes nothing.
use Prim.{Unit, tt}
use Prim.Native.Nat.{ℕ, ◌*◌, ◌≤◌, ◌<◌}
use mathlib.Core.Path.{◌≡◌, refl, sym, ap, ◌∙◌, subst}
use mathlib.Core.Bool.{Bool, true, false, cond}
use mathlib.Core.List.{List, [], ◌∷◌}
use native.Mathlib.Omega.{arith}
use borrow.Author.Tests.{ltb-true, eqb-true, ne_eqb, lt-ltb, not-false}
use lib.Dec.{ltb, eqb}
use lib.ListN.{length, set, length-set}
use Rattle.octets.specs.Bytes.{put, Octets}
use Rattle.octets.proofs.Laws.{length_put, slot_fits}
use Rattle.octets.proofs.Meaning.{octets_drop, octets_put}
use Rattle.terms.specs.Ladder.{Rung, ◌and◌, None, rung, upto}
use Rattle.terms.specs.Stamp.{stamp, time}
use Rattle.terms.specs.Terms.{plan_ok, record_length}
use Rattle.terms.specs.declared.Plan.{Plan}
use Rattle.terms.proofs.Down.{Down, clear, stop}
use Rattle.terms.proofs.Ladders.{by_ladder, is_passed}
use Rattle.terms.proofs.Rungs.{both, clash}
use Rattle.terms.proofs.Plans.{plan_is}
use Rattle.frame.specs.Frame.{write_reply_kind, read_reply_kind, head_bytes, version_of, kind_of, frame_node, ask_of, body_of, good_reply}
use Rattle.frame.proofs.Frames.{reply_is}
use Rattle.record.specs.Record.{hashes_ok, time_zero}
use Rattle.terms.proofs.Places.{record_length_lem}
use Rattle.rounds.specs.declared.Heard.TheVariants.{Unheard, First, Record}
use Rattle.rounds.specs.declared.Heard.{Heard}
use Rattle.rounds.specs.Rounds.{bit_of, heard_count, mark_of, under_of}
use Rattle.rounds.proofs.Laws.{not_heard, count_set}
use Rattle.session.specs.declared.Session.{Session}
use Rattle.standing.specs.declared.Stage.{Stage}
use Rattle.standing.specs.declared.Stage.TheVariants.{Asking, Storing, Ended}
use Rattle.standing.specs.Standing.{is_read, is_asking, is_storing, is_ended, replies, lengths_ok, awaits_in}
use Rattle.session.specs.Session.{ask_now, awaits_kind, marked_of, refused}
use Rattle.session.specs.Ranges.{in_range}
use Rattle.session.specs.Reply.{bears, awaited, is_heard, read_ladder}
use Rattle.session.specs.Reader.{Outcome, outcome, settled, heard, stored, accepted, read_reply}
use Rattle.session.proofs.Made.{OpenIs, in_range_facts, rest_set}
use Rattle.standing.proofs.Rules.{Lengths, lengths_are}
use Rattle.session.proofs.Rules.{StandingIs}
use Rattle.session.proofs.Slots.{long_body}
use Rattle.report.specs.Triple.{Message}
use Rattle.report.specs.Figure2.{enough}
use Rattle.report.specs.Figure3.{validate, in_time, with_it, receives, do_read, response_set}
use Rattle.report.specs.Ours.{family, responses, command_of}
use Rattle.report.specs.Run.{Polled, message_of, is_message, rolled, polls, AllFull, AllApart}
use Rattle.report.proofs.Hears.{puts, heard_hears, hash_hears, late_hears, said_by, said_first, valid_record, valid_first, in_time_is, first_in_time, unheard_has, heard_has, record_after, first_after}
use Rattle.client.specs.Held.{EverySlot, Passed}
use Rattle.client.proofs.Reading.{one_ladder}
use Rattle.client.proofs.Held.{is_asking_lem, at_storing}
use Rattle.client.proofs.Slots.{first_heard, record_heard}
use Rattle.report.specs.WriteRun.{none_of, is_response}
use Rattle.report.proofs.Gathers.{listed, off, all_off, kept_out, Marked}
use Rattle.report.proofs.Keeps.{positive, Asks, Stores, KeepsAt, Keeps, Leaves}
use Rattle.report.proofs.Asking.{rolled_is, settles}
use Rattle.report.proofs.Storing.{stores}

-- ---- a frame
module _ (p : Plan) (s : Session) (f d i : List ℕ) (w : Polled) where
  abbrev ladder : List Rung
  ladder = read_ladder p s f d (length i)

  abbrev refuse : ℕ → Outcome
  refuse j = outcome (refused j) s d i

  abbrev node : ℕ
  node = frame_node f

  abbrev with_message : Polled
  with_message = record { rounds = w.rounds; now = message_of p f ∷ w.now; stored = w.stored }

  down_to : (k : ℕ) → None (upto k ladder) → Down {S = Unit {0}} (λ (u : Unit {0}). ladder) k
  down_to k n = record { start = tt; none = n }

  -- a message came in a read round, and seven of the refusals do not apply
  record IsMessage : Type 0 where
    asks : is_asking s.round.stage ≡ true
    clears : none_of (1 ∷ 2 ∷ 9 ∷ 14 ∷ 4 ∷ 10 ∷ 5 ∷ []) ladder ≡ true

  module _ (m : IsMessage) (keep : Keeps p s d w) (sz : AllFull p w.rounds) where
    r : (k : ℕ) → listed k (1 ∷ 2 ∷ 9 ∷ 14 ∷ 4 ∷ 10 ∷ 5 ∷ []) ≡ true → rung k ladder ≡ false
    r = off (1 ∷ 2 ∷ 9 ∷ 14 ∷ 4 ∷ 10 ∷ 5 ∷ []) ladder m.clears

    plan_is_ok : plan_ok p ≡ true
    plan_is_ok = not-false (plan_ok p) (r 1 refl)

    lengths : Lengths p (length d) (length i)
    lengths = lengths_are p (length d) (length i) (not-false (lengths_ok p (length d) (length i)) (r 2 refl))

    ranges : StandingIs p s × OpenIs p s d
    ranges =
        in_range_facts p s d (both (is_read s.operation) (in_range p s d) (not-false (is_read s.operation and in_range p s d) (r 9 refl))).1 (r 14 refl)

    node_low : node < p.n
    node_low = (reply_is p f (not-false (good_reply p f) (r 4 refl))).node_low

    st : s.round.stage ≡ Asking
    st = is_asking_lem s.round.stage m.asks

    k : Asks p s d w
    k = subst (λ (x : Stage). KeepsAt x p s d w) st keep

    few : heard_count s.marks < replies p
    few = ltb-true (heard_count s.marks) (replies p) ranges.1.few

    abbrev before : List Message
    before = responses p s.marks d p.n

    next_set : do_read (family p) (command_of s.round.bound) (message_of p f ∷ w.now) ≡ receives (family p) (command_of s.round.bound) before (message_of p f)
    unfolding do_read
    next_set = ap (λ (R : List Message). receives (family p) (command_of s.round.bound) R (message_of p f)) k.set

    -- a message that DO_READ leaves out, and a call that refuses it
    left_out : (j : ℕ) → receives (family p) (command_of s.round.bound) before (message_of p f) ≡ before → Leaves p (refuse j) (rolled p with_message)
    left_out j e =
        subst (λ (x : Polled). Leaves p (refuse j) x) (sym waits)
        (record {
          keeps = subst (λ (x : Stage). KeepsAt x p s d with_message) (sym st) after;
          tells = tt;
          full = sz;
        })
      where
        after : Asks p s d with_message
        after =
            record {
              decision = k.decision;
              rounds = k.rounds;
              set = next_set ∙ e;
              desk = k.desk;
              octets = k.octets;
              size = k.size;
              passed = k.passed;
              unstored = k.unstored;
              reads = k.reads;
            }

        waits : rolled p with_message ≡ with_message
        waits =
            rolled_is p s d i with_message st after plan_is_ok lengths.item_is ranges.0.rest ranges.0.high (omega (arith, few)) sz
            ∙ rw (lt-ltb (heard_count s.marks) (replies p) few)

    -- 11: heard already
    heard_again : is_heard s node ≡ true → Leaves p (read_reply p s f d i) (rolled p with_message)
    unfolding is_heard read_reply
    heard_again h =
        subst (λ (o : Outcome). Leaves p o (rolled p with_message))
        (stop refuse (accepted p s f d i) (down_to 11 (r 1 refl, (r 2 refl, (r 9 refl, (r 14 refl, (r 4 refl, (r 10 refl, tt))))))) h refl)
        (left_out 11 (heard_hears p (command_of s.round.bound) before (message_of p f) (heard_has p s.marks d node p.n node_low h)))

    module _ (h : is_heard s node ≡ false) where
      unmarked : mark_of s.marks node ≡ Unheard
      unfolding is_heard
      unmarked = not_heard (mark_of s.marks node) h

      inside : node < length s.marks
      inside = let n16 = (plan_is p plan_is_ok).n_high in omega (arith, node_low, k.size)

      -- the state after a mark, with the slot as the desk has it then
      module _ (mark : Heard) (one : bit_of mark ≡ 1) (e : List ℕ)
          (hears : responses p (set s.marks node mark) e p.n ≡ with_it (message_of p f) before)
          (valid : validate (family p) (message_of p f) ≡ true) (timely : in_time (command_of s.round.bound) (message_of p f).Response.ts ≡ true)
          (long : length e ≡ p.n * record_length p) (bytes : Octets e)
          (passed : EverySlot (Passed p) p (set s.marks node mark) e) where
        marked : Asks p (marked_of s node mark) e with_message
        marked =
            record {
              decision = k.decision;
              rounds = k.rounds;
              set = next_set ∙ puts p (command_of s.round.bound) before (message_of p f) valid timely (unheard_has p s.marks d node p.n unmarked) ∙ sym hears;
              desk = long;
              octets = bytes;
              size = length-set s.marks node mark ∙ k.size;
              passed = passed;
              unstored = k.unstored;
              reads = k.reads;
            }

        settled_so : AllApart p (rolled p with_message).rounds → Leaves p (settled p (marked_of s node mark) e i) (rolled p with_message)
        settled_so =
            settles p (marked_of s node mark) e i with_message st marked plan_is_ok lengths.item_is (rest_set s.marks p.n node mark node_low ∙ ranges.0.rest)
            ranges.0.high
            (let n16 = (plan_is p plan_is_ok).n_high in omega (arith, count_set s.marks node mark inside unmarked one, few)) sz

      accepts : None ladder → Leaves p (heard p s f d i) (rolled p with_message) → Leaves p (read_reply p s f d i) (rolled p with_message)
      unfolding accepted
      accepts n q =
          subst (λ (o : Outcome). Leaves p o (rolled p with_message))
          (sym (one_ladder p s f d i ∙ is_passed ladder refuse (accepted p s f d i) n ∙ ap (λ (x : Stage). cond (is_storing x) (stored p (marked_of s node Record) d i) (heard p s f d i)) st)) q

      -- a first triple
      first_right : bears p f ≡ false → AllApart p (rolled p with_message).rounds → Leaves p (read_reply p s f d i) (rolled p with_message)
      unfolding heard
      first_right b a =
          accepts
          (r 1 refl, (r 2 refl, (r 9 refl, (r 14 refl, (r 4 refl, (r 10 refl, (h, (r 5 refl, (rw b, (rw b, tt))))))))))
          (subst (λ (x : Bool). Leaves p (cond x (settled p (marked_of s node Record) (put d (node * record_length p) (body_of f)) i) (settled p (marked_of s node First) d i)) (rolled p with_message))
          (sym b)
          (settled_so First refl d
          (first_after p s.marks d node node_low inside unmarked ∙ ap (λ (x : Message). with_it x before) (sym says))
          (ap (validate (family p)) says ∙ valid_first p node)
          (ap (λ (x : Message). in_time (command_of s.round.bound) x.Response.ts) says ∙ first_in_time s.round.bound s.round.number ranges.0.bounded)
          k.desk k.octets (first_heard (Passed p) p s.marks d k.passed node) a))
        where
          says : message_of p f ≡ said_first node
          says = rw b

      -- a record: 6, 12, or put in its slot
      module _ (of : Octets f) (b : bears p f ≡ true) where
        says_record : message_of p f ≡ said_by p node (body_of f)
        says_record = rw b

        timed : 1 ≤ time (body_of f)
        unfolding time_zero
        timed = positive (time (body_of f)) (rw b at (r 5 refl))

        valid_is : validate (family p) (message_of p f) ≡ hashes_ok p node (body_of f)
        valid_is =
            ap (validate (family p)) says_record
            ∙ valid_record p node (body_of f) (omega (arith, long_body p f b, record_length_lem p)) (octets_drop (head_bytes (version_of f)) f of) timed

        timely_is : in_time (command_of s.round.bound) (message_of p f).Response.ts ≡ under_of s.round.bound (stamp (body_of f))
        timely_is = ap (λ (x : Message). in_time (command_of s.round.bound) x.Response.ts) says_record ∙ in_time_is s.round.bound (stamp (body_of f))

        bad_hash : hashes_ok p node (body_of f) ≡ false → Leaves p (read_reply p s f d i) (rolled p with_message)
        unfolding read_reply
        bad_hash e =
            subst (λ (o : Outcome). Leaves p o (rolled p with_message))
            (stop refuse (accepted p s f d i) (down_to 6 (r 1 refl, (r 2 refl, (r 9 refl, (r 14 refl, (r 4 refl, (r 10 refl, (h, (r 5 refl, tt))))))))) (rw (b, e)) refl)
            (left_out 6 (hash_hears p (command_of s.round.bound) before (message_of p f) (valid_is ∙ e)))

        module _ (v : hashes_ok p node (body_of f) ≡ true) where
          too_late : under_of s.round.bound (stamp (body_of f)) ≡ false → Leaves p (read_reply p s f d i) (rolled p with_message)
          unfolding read_reply
          too_late e =
              subst (λ (o : Outcome). Leaves p o (rolled p with_message))
              (stop refuse (accepted p s f d i) (down_to 12 (r 1 refl, (r 2 refl, (r 9 refl, (r 14 refl, (r 4 refl, (r 10 refl, (h, (r 5 refl, (rw (b, v), tt)))))))))) (rw (b, e)) refl)
              (left_out 12 (late_hears p (command_of s.round.bound) before (message_of p f) (timely_is ∙ e)))

          abbrev desk_after : List ℕ
          desk_after = put d (node * record_length p) (body_of f)

          record_right : under_of s.round.bound (stamp (body_of f)) ≡ true → AllApart p (rolled p with_message).rounds
              → Leaves p (read_reply p s f d i) (rolled p with_message)
          unfolding heard
          record_right u a =
              accepts
              (r 1 refl, (r 2 refl, (r 9 refl, (r 14 refl, (r 4 refl, (r 10 refl, (h, (r 5 refl, (rw (b, v), (rw (b, u), tt))))))))))
              (subst (λ (x : Bool). Leaves p (cond x (settled p (marked_of s node Record) desk_after i) (settled p (marked_of s node First) d i)) (rolled p with_message)) (sym b)
              (settled_so Record refl desk_after
              (record_after p s.marks d node node_low inside unmarked (body_of f) k.desk (long_body p f b) ∙ ap (λ (x : Message). with_it x before) (sym says_record))
              (valid_is ∙ v) (timely_is ∙ u)
              (length_put d (node * record_length p) (body_of f) (omega (arith, long_body p f b, slot_fits node p.n (record_length p) node_low, k.desk)) ∙ k.desk)
              (octets_put d (node * record_length p) (body_of f) k.octets (octets_drop (head_bytes (version_of f)) f of))
              (record_heard (Passed p) p s.marks d k.passed node (body_of f) node_low k.desk (long_body p f b) (record { timed = timed; hashes = v })) a))

    -- A MESSAGE OF THE ROUND IS A TURN OF DO_READ'S LOOP, and the call that it comes to leaves what READ decides then
    message_right : Octets f → AllApart p (rolled p with_message).rounds → Leaves p (read_reply p s f d i) (rolled p with_message)
    message_right of a = by_heard (is_heard s node) refl
      where
        by_bound : (h : is_heard s node ≡ false) (b : bears p f ≡ true) (v : hashes_ok p node (body_of f) ≡ true)
            → (t : Bool) → under_of s.round.bound (stamp (body_of f)) ≡ t → Leaves p (read_reply p s f d i) (rolled p with_message)
        by_bound h b v true e = record_right h of b v e a
        by_bound h b v false e = too_late h of b v e

        by_hash : (h : is_heard s node ≡ false) (b : bears p f ≡ true) → (t : Bool) → hashes_ok p node (body_of f) ≡ t
            → Leaves p (read_reply p s f d i) (rolled p with_message)
        by_hash h b true e = by_bound h b e (under_of s.round.bound (stamp (body_of f))) refl
        by_hash h b false e = bad_hash h of b e

        by_body : (h : is_heard s node ≡ false) → (t : Bool) → bears p f ≡ t → Leaves p (read_reply p s f d i) (rolled p with_message)
        by_body h true e = by_hash h e (hashes_ok p node (body_of f)) refl
        by_body h false e = first_right h e a

        by_heard : (t : Bool) → is_heard s node ≡ t → Leaves p (read_reply p s f d i) (rolled p with_message)
        by_heard true e = heard_again e
        by_heard false e = by_body e (bears p f) refl

  -- a frame that is no message: a response of a repair round
  module _ (keep : Keeps p s d w) (sz : AllFull p w.rounds) where
    abbrev with_ack : Polled
    with_ack = record { rounds = w.rounds; now = w.now; stored = node ∷ w.stored }

    -- a write reply bears no record
    no_record : is_storing s.round.stage ≡ true → awaited s f ≡ true → bears p f ≡ false
    unfolding awaited awaits_in bears
    no_record t a =
        let k : eqb (kind_of f) write_reply_kind ≡ true = rw t at (both (awaits_kind s (kind_of f)) _ (both (eqb (ask_of f) (ask_now s)) _ a).1).0 in
        let e : kind_of f ≡ write_reply_kind = eqb-true (kind_of f) write_reply_kind k in
        rw (ne_eqb (kind_of f) read_reply_kind (λ z. omega (arith, e, z)))

    stored_right : is_storing s.round.stage ≡ true → is_response ladder ≡ true → Leaves p (read_reply p s f d i) with_ack
    unfolding read_reply accepted is_heard
    stored_right t g = by_heard (is_heard s node) refl
      where
        c : (k : ℕ) → listed k (1 ∷ 2 ∷ 9 ∷ 14 ∷ 4 ∷ 10 ∷ []) ≡ true → rung k ladder ≡ false
        c = off (1 ∷ 2 ∷ 9 ∷ 14 ∷ 4 ∷ 10 ∷ []) ladder g

        k : Stores p s d w
        k = subst (λ (x : Stage). KeepsAt x p s d w) (at_storing s.round.stage t) keep

        plan_so : plan_ok p ≡ true
        plan_so = not-false (plan_ok p) (c 1 refl)

        fits : Lengths p (length d) (length i)
        fits = lengths_are p (length d) (length i) (not-false (lengths_ok p (length d) (length i)) (c 2 refl))

        few : heard_count s.marks < replies p
        few =
            ltb-true (heard_count s.marks) (replies p)
            (in_range_facts p s d (both (is_read s.operation) (in_range p s d) (not-false (is_read s.operation and in_range p s d) (c 9 refl))).1 (c 14 refl)).1.few

        low : node < 16
        low = let n16 = (plan_is p plan_so).n_high in omega (arith, (reply_is p f (not-false (good_reply p f) (c 4 refl))).node_low)

        b : bears p f ≡ false
        b = no_record t (not-false (awaited s f) (c 10 refl))

        by_heard : (x : Bool) → is_heard s node ≡ x → Leaves p (read_reply p s f d i) with_ack
        by_heard true h =
            subst (λ (o : Outcome). Leaves p o with_ack)
            (stop refuse (accepted p s f d i) (down_to 11 (c 1 refl, (c 2 refl, (c 9 refl, (c 14 refl, (c 4 refl, (c 10 refl, tt))))))) h refl)
            (record {
              keeps = subst (λ (x : Stage). KeepsAt x p s d with_ack) (sym (at_storing s.round.stage t))
                  (record {
                    sent = k.sent;
                    Data = k.Data;
                    decision = k.decision;
                    sends = k.sends;
                    holds = k.holds;
                    rounds = k.rounds;
                    size = k.size;
                    marked = subst (Marked (λ (S : ℕ). S) s.marks) (sym (kept_out (λ (S : ℕ). S) node w.stored (k.marked.names node ∙ h))) k.marked;
                    reads = k.reads;
                  });
              tells = tt;
              full = sz;
            })
        by_heard false h =
            subst (λ (o : Outcome). Leaves p o with_ack)
            (sym (one_ladder p s f d i
            ∙ is_passed ladder refuse (accepted p s f d i)
            (c 1 refl, (c 2 refl, (c 9 refl, (c 14 refl, (c 4 refl, (c 10 refl, (h, (rw b, (rw b, (rw b, tt)))))))))) ∙ rw t))
            (stores p d i plan_so fits.desk_is fits.item_is s f w (at_storing s.round.stage t) k sz h low few)

    -- any other is refused
    other_right : is_message p s f d (length i) ≡ false → (is_storing s.round.stage and is_response ladder) ≡ false → Leaves p (read_reply p s f d i) w
    other_right e g =
        subst (λ (o : Outcome). Leaves p o w) (sym (one_ladder p s f d i))
        (by_ladder (λ (o : Outcome). Leaves p o w) ladder refuse (accepted p s f d i) (λ j h. record { keeps = keep; tells = tt; full = sz })
        (λ n. absurd (go n s.round.stage refl)))
      where
        go : None ladder → (x : Stage) → s.round.stage ≡ x → ⊥
        go n Asking a = clash (sym (rw (ap is_asking a) (all_off (1 ∷ 2 ∷ 9 ∷ 14 ∷ 4 ∷ 10 ∷ 5 ∷ []) ladder n)) ∙ e)
        go n Storing a = clash (sym (rw (ap is_storing a) (all_off (1 ∷ 2 ∷ 9 ∷ 14 ∷ 4 ∷ 10 ∷ []) ladder n)) ∙ g)
        go n Ended a = clash (sym (ap is_ended a) ∙ clear ladder n 14)

    pub call_leaves : Octets f → AllApart p (polls p s f d (length i) w).rounds → Leaves p (read_reply p s f d i) (polls p s f d (length i) w)
    unfolding polls
    call_leaves of = go (is_message p s f d (length i)) (is_storing s.round.stage and is_response ladder) refl refl
      where
        go : (t v : Bool) → is_message p s f d (length i) ≡ t → (is_storing s.round.stage and is_response ladder) ≡ v
            → AllApart p (cond t (rolled p with_message) (cond v (record { rounds = w.rounds; now = w.now; stored = node ∷ w.stored }) w)).rounds
            → Leaves p (read_reply p s f d i) (cond t (rolled p with_message) (cond v (record { rounds = w.rounds; now = w.now; stored = node ∷ w.stored }) w))
        go true v e g a = message_right (let q = both (is_asking s.round.stage) _ e in record { asks = q.0; clears = q.1 }) keep sz of a
        go false true e g a = let q = both (is_storing s.round.stage) (is_response ladder) g in stored_right q.0 q.1
        go false false e g a = other_right e g

  -- the closed rounds are added to
  pub fewer : AllApart p (polls p s f d (length i) w).rounds → AllApart p w.rounds
  unfolding polls
  fewer = go (is_message p s f d (length i)) (is_storing s.round.stage and is_response ladder) (ltb (length (response_set (family p) w.rounds (message_of p f ∷ w.now))) (enough (family p)))
    where
      go : (t u v : Bool)
          → AllApart p (cond t (cond v with_message (record { rounds = (message_of p f ∷ w.now) ∷ w.rounds; now = []; stored = w.stored })) (cond u (record { rounds = w.rounds; now = w.now; stored = node ∷ w.stored }) w)).rounds
          → AllApart p w.rounds
      go true u true a = a
      go true u false a = a.1
      go false true v a = a
      go false false v a = a
