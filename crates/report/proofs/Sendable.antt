-- What is known of a session and its desk where a request is owed, over the calls of a write and of a read: the writer's slots are the records that it
-- made (write_sendable); a reader's bound is the timestamp of some bytes, of a time of 1 or more, and in a repair round its slots are records that
-- pass, where they fit the cross checksum (read_sendable). Assumes nothing.
use Rattle.std.specs.Prelude.{Ok}
use Prim.{Unit, tt}
use Prim.Native.Nat.{ℕ, ◌+◌, ◌*◌, ◌^◌, ◌≤◌, ◌<◌}
use mathlib.Core.Path.{◌≡◌, refl, sym, ap, ◌∙◌, subst}
use mathlib.Core.Bool.{Bool, true, false, cond}
use mathlib.Core.List.{List, [], ◌∷◌}
use native.Mathlib.Omega.{arith}
use borrow.Author.Tests.{eqb-false, not-false, leb-true}
use lib.Dec.{eqb, leb, ltb}
use lib.ListN.{length, length-append}
use Rattle.octets.specs.Bytes.{part, put, num, be, alike, Octets}
use Rattle.octets.proofs.Laws.{length_be, part_part, part_left, slot_room}
use Rattle.octets.proofs.Meaning.{be_part, octets_drop, octets_put, alike_is, is_alike}
use Rattle.sha256.specs.Sha256.{sha256}
use Rattle.sha256.proofs.Laws.{sha256_length}
use Rattle.terms.specs.Ladder.{None}
use Rattle.terms.specs.Stamp.{stamp, time, stamp_at, stamp_number, top}
use Rattle.terms.specs.Terms.{record_length, slots_of, slot_at}
use Rattle.terms.specs.declared.Ask.{Ask}
use Rattle.terms.specs.declared.Clients.{Clients}
use Rattle.terms.specs.declared.Clients.TheVariants.{Crash, Byzantine}
use Rattle.terms.specs.declared.Plan.{Plan}
use Rattle.terms.proofs.Plans.{plan_is}
use Rattle.fragments.specs.Fragments.{fragment, regenerated}
use Rattle.terms.specs.declared.Timestamp.{Timestamp}
use Rattle.terms.proofs.Down.{clear}
use Rattle.terms.proofs.Ladders.{by_ladder}
use Rattle.terms.proofs.Places.{record_length_lem}
use Rattle.terms.proofs.Rungs.{both, clash}
use Rattle.terms.proofs.Small.{strict}
use Rattle.terms.proofs.Stamps.{stamp_at_number}
use Rattle.frame.specs.Frame.{frame_node, body_of, head_bytes, version_of}
use Rattle.record.specs.Record.{verifier_of, cross_of, entry_of, fragment_hash, hashes_ok}
use Rattle.record.specs.Desk.{slot_of, fragment_in, cross_made, stamp_made}
use Rattle.record.proofs.Desks.{time_made, cross_same, entry_of_lem}
use Rattle.std.proofs.Common.{Option}
use Rattle.std.specs.declared.option.Option.TheVariants as option
use Rattle.rounds.specs.declared.Heard.TheVariants.{Record}
use Rattle.recover.specs.Recover.{lowest, validates, trusted, sound, collected}
use Rattle.recover.specs.Records.{cross_for, stamp_for, records_for}
use Rattle.recover.proofs.Records.{record_is, record_passes}
use Rattle.standing.specs.Standing.{bound_ok, is_asking, is_ended, is_read, is_storing, lengths_ok}
use Rattle.standing.proofs.Rules.{lengths_are}
use Rattle.session.specs.declared.Session.{Session}
use Rattle.standing.specs.declared.Operation.TheVariants.{Write, Read}
use Rattle.session.specs.declared.opening.Opened.{Opened}
use Rattle.session.specs.Opening.{OpenCall}
use Rattle.session.specs.Session.{marked_of, ended_of, storing_of, round_open, still_open, done, refused, clock_spent}
use Rattle.session.specs.Ranges.{in_range}
use Rattle.session.specs.Reply.{bears}
use Rattle.session.specs.Writer.{Leaves, leaves, kth_reply, new_time, timed_of, time_end, time_turn, write_turn, accepted_write, write_reply}
use Rattle.session.specs.Reader.{Outcome, outcome, acted, closed, settled, heard, stored, accepted, read_reply}
use Rattle.session.proofs.Closings.{Ways, goes, led, lead_low}
use Rattle.session.proofs.Kept.{Kept, opened_kept, write_kept, reply_wide}
use Rattle.clock.proofs.Wide.{WideTimes}
use Rattle.session.proofs.Openings.{accepted_session}
use Rattle.session.proofs.ReadKept.{asking, not_asking}
use Rattle.session.proofs.Rules.{range_stands}
use Rattle.client.specs.Endings.{read_ladder, write_ladder, after_reply, desk_after}
use Rattle.client.specs.Held.{Passed}
use Rattle.client.specs.Repair.{EachTurn}
use Rattle.client.proofs.Held.{Closing, Mended, run_mended}
use Rattle.client.proofs.Bytes.{written_stamp}
use Rattle.client.proofs.Slots.{EachBrings}
use Rattle.client.proofs.Repair.{head_is, fragment_held}
use Rattle.client.specs.SameStamp.{NoClash}
use Rattle.client.proofs.Sets.{lead_slot, lead_number}
use Rattle.client.proofs.SameStamp.{Fair, all_fair}
use Rattle.client.proofs.Validation.{pieces, cross_so}
use Rattle.report.specs.Together.{RepairFits}
use Rattle.client.specs.Sessions.{last_session, last_desk}
use Rattle.client.specs.Turns.{Turn, ReadTurn, WriteTurn, Calls}
use Rattle.client.proofs.Reading as reading
use Rattle.client.proofs.Writing as writing
use Rattle.client.proofs.Round.Order.{length_after}
use Rattle.report.proofs.Exchange.{Sendable}

-- ---- a write
-- the desk is the N records that our writer made of an item at a time; P holds of each item that is lent
pub record Wrote (P : List ℕ → Type 0) (p : Plan) (s : Session) (d : List ℕ) : Type 0 where
  pub at : ℕ
  pub item : List ℕ
  pub lent : P item
  pub whole : length item ≡ p.m * p.f
  pub low : 1 ≤ at
  pub high : at < 256 ^ 8
  pub desk : d ≡ records_for p at item
  pub stamped : s.stamp ≡ stamp_for p at item

-- so is every slot a record of the timestamp being written, whose hashes hold
module _ (p : Plan) (t : ℕ) (i : List ℕ) (whole : length i ≡ p.m * p.f) (low : 1 ≤ t) (high : t < 256 ^ 8) (k : ℕ) (h : k < p.n) where
  abbrev made : List ℕ
  made = stamp_made t (cross_for p i)

  abbrev rec : List ℕ
  rec = slot_of p (records_for p t i) k

  long_made : length made ≡ 40
  long_made = simp (length-append, length_be, sha256_length)

  slot_time : time rec ≡ t
  slot_time =
      ap num (ap (λ (l : List ℕ). part l 0 8) (record_is p t i whole k h) ∙ part_left made _ 0 8 (omega (arith, long_made))) ∙ time_made t (cross_for p i) high

  made_fine : Passed p k rec × (stamp rec ≡ stamp_number (stamp_for p t i))
  made_fine = (record { timed = omega (arith, slot_time); hashes = record_passes p t i whole k h }, written_stamp p t i whole k h)

-- what holds of what a call left: the operation stays, and in the write round the desk is written
abbrev Keeps : (List ℕ → Type 0) → Plan → Session → List ℕ → Type 0
Keeps P p s d = (is_read s.operation ≡ false) × (is_storing s.round.stage ≡ true → Wrote P p s d)

module _ (P : List ℕ → Type 0) (p : Plan) (s : Session) (f d i : List ℕ) (lent : P i) (k : Keeps P p s d) where
  abbrev Good : Leaves → Type 0
  Good o = WideTimes o.session.times → Keeps P p o.session o.desk

  -- a session that ended, or is in its time round
  away : (u : Session) (e : List ℕ) → is_read u.operation ≡ false → is_storing u.round.stage ≡ false → Keeps P p u e
  away u e r x = (r, λ y. absurd (clash (sym y ∙ x)))

  in_write : is_storing s.round.stage ≡ true → Good (write_turn p (marked_of s (frame_node f) Record) d)
  unfolding write_turn
  in_write x = go (round_open p (marked_of s (frame_node f) Record))
    where
      go : (t : Bool) → Good (cond t (leaves still_open (marked_of s (frame_node f) Record) d) (leaves (done s.stamp 0) (ended_of (marked_of s (frame_node f) Record)) d))
      go true c =
          let w = k.1 x in
          (k.0, λ y. record { at = w.at; item = w.item; lent = w.lent; whole = w.whole; low = w.low; high = w.high; desk = w.desk; stamped = w.stamped })
      go false c = away (ended_of (marked_of s (frame_node f) Record)) d k.0 refl

  -- the write round opens: the time has 8 bytes, since the one that it is above is not the last
  opens : length i ≡ p.m * p.f → (u : Session) → is_read u.operation ≡ false → (t : Bool) → eqb (kth_reply p u) top ≡ t
      → Good (cond t (leaves clock_spent (ended_of u) d) (leaves still_open (storing_of u (stamp_for p (new_time (kth_reply p u)) i)) (records_for p (new_time (kth_reply p u)) i)))
  opens l u r true e c = away (ended_of u) d r refl
  opens l u r false e c = (
    r,
    λ y.
        let n = eqb-false (kth_reply p u) top e in
        record {
          at = new_time (kth_reply p u);
          item = i;
          lent = lent;
          whole = l;
          low = omega arith;
          high = strict (new_time (kth_reply p u)) (256 ^ 8) (omega (arith, reply_wide p u c)) (λ z. n (omega arith));
          desk = refl;
          stamped = refl;
        },
  )

  in_time : is_storing s.round.stage ≡ false → length i ≡ p.m * p.f → (u : Session) → is_read u.operation ≡ false → is_storing u.round.stage ≡ false → Good (time_turn p u d i)
  unfolding time_turn time_end
  in_time x l u r y = go (round_open p u)
    where
      go : (t : Bool) → Good (cond t (leaves still_open u d) (time_end p u d i))
      go true c = away u d r y
      go false c = opens l u r (eqb (kth_reply p u) top) refl c

  taken : None (write_ladder p s f d (length i)) → Good (accepted_write p s f d i)
  unfolding accepted_write
  taken n = go (is_storing s.round.stage) refl
    where
      l : length i ≡ p.m * p.f
      l = (lengths_are p (length d) (length i) (not-false (lengths_ok p (length d) (length i)) (clear (write_ladder p s f d (length i)) n 2))).item_is

      go : (t : Bool) → is_storing s.round.stage ≡ t
          → Good (cond t (write_turn p (marked_of s (frame_node f) Record) d) (time_turn p (timed_of s (frame_node f) (time (body_of f))) d i))
      go true x = in_write x
      go false x = in_time x l (timed_of s (frame_node f) (time (body_of f))) k.0 x

  call_writes : Good (write_reply p s f d i)
  call_writes =
      subst Good (sym (writing.one_ladder p s f d i))
      (by_ladder Good (write_ladder p s f d (length i)) (λ (j : ℕ). leaves (refused j) s d) (accepted_write p s f d i) (λ j g c. k) taken)

run_writes : (P : List ℕ → Type 0) (p : Plan) (s : Session) (d : List ℕ) (cs : List Turn) → Kept p s d → Keeps P p s d → Calls (WriteTurn p) s d cs → EachTurn (λ (c : Turn). P c.item) cs
    → Keeps P p (last_session s cs) (last_desk d cs)
run_writes P p s d [] g k h l = k
run_writes P p s d (c ∷ cs) g k h l =
    let v = write_kept p s c.reply d c.item h.0.0 g c.took c.desk_left h.0.1 in
    run_writes P p c.took.session c.desk_left cs v
    (subst (Good P p s c.reply d c.item l.0 k) (sym h.0.1.is) (call_writes P p s c.reply d c.item l.0 k) v.clock) h.1 l.1

opened_writes : (P : List ℕ → Type 0) (p : Plan) (a : Ask) (r : Opened) (d : List ℕ) (cs : List Turn) → OpenCall Write p a r → r.answer ≡ (Ok tt)
    → length d ≡ p.n * record_length p → Calls (WriteTurn p) r.session d cs → EachTurn (λ (c : Turn). P c.item) cs → Keeps P p (last_session r.session cs) (last_desk d cs)
opened_writes P p a r d cs opens e ld h l =
    let start : Keeps P p r.session d = subst (λ (x : Session). Keeps P p x d) (sym (accepted_session Write p a r opens e)) (refl, λ y. absurd (clash (sym y))) in
    run_writes P p r.session d cs (opened_kept Write p a r opens e d ld) start h l

-- IN A WRITE ROUND THE DESK IS THE N RECORDS OF AN ITEM THAT WAS LENT, at the time of the timestamp being written
pub write_made : (P : List ℕ → Type 0) (p : Plan) (a : Ask) (r : Opened) (d : List ℕ) (cs : List Turn) → OpenCall Write p a r → r.answer ≡ (Ok tt)
    → length d ≡ p.n * record_length p → Calls (WriteTurn p) r.session d cs → EachTurn (λ (c : Turn). P c.item) cs
    → is_storing (last_session r.session cs).round.stage ≡ true → Wrote P p (last_session r.session cs) (last_desk d cs)
write_made P p a r d cs opens e ld h l = (opened_writes P p a r d cs opens e ld h l).1

any_item : (cs : List Turn) → EachTurn (λ (c : Turn). Unit {0}) cs
any_item [] = tt
any_item (c ∷ cs) = (tt, any_item cs)

-- FROM AN ACCEPTED OPENING, after any calls of a write
pub write_sendable : (p : Plan) (a : Ask) (r : Opened) (d : List ℕ) (cs : List Turn) → OpenCall Write p a r → r.answer ≡ (Ok tt)
    → length d ≡ p.n * record_length p → Calls (WriteTurn p) r.session d cs → Sendable p (last_session r.session cs) (last_desk d cs)
write_sendable p a r d cs opens e ld h =
    let k = opened_writes (λ (i : List ℕ). Unit {0}) p a r d cs opens e ld h (any_item cs) in
    record {
      bound = λ y x u b. absurd (clash (sym x ∙ k.0));
      slots = λ x j l.
          let w = k.1 x in
          let m = made_fine p w.at w.item w.whole w.low w.high j l in (
            subst (λ (y : List ℕ). Passed p j (slot_of p y j)) (sym w.desk) m.0,
            ap (λ (y : List ℕ). stamp (slot_of p y j)) w.desk ∙ m.1 ∙ ap stamp_number (sym w.stamped),
          );
    }

-- ---- a read
-- a timestamp that some bytes hold
record OfBytes (u : Timestamp) : Type 0 where
  bytes : List ℕ
  at : ℕ
  octets : Octets bytes
  room : at + 40 ≤ length bytes
  is : u ≡ stamp_at bytes at

-- its 40 bytes are those
bound_sends : (u : Timestamp) → OfBytes u → 1 ≤ u.time.0 → (1 ≤ time (be 40 (stamp_number u))) × (stamp (be 40 (stamp_number u)) ≡ stamp_number u)
unfolding stamp_at
bound_sends u q l =
    let x : List ℕ = part q.bytes q.at 40 in
    let z : q.at + 0 ≡ q.at = omega arith in
    let n : stamp_number u ≡ num x = ap stamp_number q.is ∙ stamp_at_number q.bytes q.at q.room in
    let b : be 40 (stamp_number u) ≡ x = ap (be 40) n ∙ be_part q.bytes q.at 40 q.room q.octets in
    let t : time (be 40 (stamp_number u)) ≡ u.time.0 =
    ap (λ (y : List ℕ). time y) b ∙ ap num (part_part q.bytes q.at 40 0 8 (omega arith)) ∙ ap (λ (y : ℕ). num (part q.bytes y 8)) z
    ∙ ap (λ (y : Timestamp). y.time.0) (sym q.is) in (
      omega (arith, t, l),
      ap (λ (y : List ℕ). stamp y) b ∙ ap num (part_part q.bytes q.at 40 0 40 (omega arith)) ∙ ap (λ (y : ℕ). num (part q.bytes y 40)) z ∙ sym n,
    )

abbrev Bounded : Option Timestamp → Type 0
Bounded option.None = Unit {0}
Bounded (option.Some u) = OfBytes u

-- in a read round
abbrev Reads : Session → List ℕ → Type 0
Reads s d = is_asking s.round.stage ≡ true → Octets d × Bounded s.round.bound

module _ (p : Plan) (s : Session) (f d i : List ℕ) (of : Octets f) (k : Reads s d) where
  abbrev Asks : Outcome → Type 0
  Asks o = Reads o.session o.desk

  abbrev u : Session
  u = after_reply p s f

  abbrev e : List ℕ
  e = desk_after p f d

  in_repair : is_storing s.round.stage ≡ true → Asks (stored p (marked_of s (frame_node f) Record) d i)
  unfolding stored
  in_repair x = go (round_open p (marked_of s (frame_node f) Record))
    where
      go : (t : Bool) → Asks (cond t (outcome still_open (marked_of s (frame_node f) Record) d i) (outcome (done s.stamp s.round.number) (ended_of (marked_of s (frame_node f) Record)) d (collected p d i)))
      go true y = absurd (clash (sym y ∙ not_asking s.round.stage x))
      go false y = absurd (clash (sym y))

  octets_after : Octets d → Octets e
  octets_after o = go (bears p f)
    where
      go : (t : Bool) → Octets (cond t (put d (frame_node f * record_length p) (body_of f)) d)
      go true = octets_put d (frame_node f * record_length p) (body_of f) o (octets_drop (head_bytes (version_of f)) f of)
      go false = o

  -- "the next round opens", below the timestamp in the lead's slot
  ways : length e ≡ p.n * record_length p → Octets e → Ways Asks p u (closed p u e) e i
  ways l o =
      record {
        finds = λ stamp item y. absurd (clash (sym y));
        never = λ y. absurd (clash (sym y));
        aborts = λ y. absurd (clash (sym y));
        spends = λ w y. absurd (clash (sym y));
        next = λ a h w y.
            let g = led p u e a h in
            let m = slot_room a p.n (record_length p) (length e) (lead_low p u e a g) (omega arith) in
            (o, record { bytes = e; at = slot_at (slots_of p) a; octets = o; room = omega (arith, m, record_length_lem p); is = g.stamp_is });
        repairs = λ a h w y. absurd (clash (sym y));
      }

  in_read : is_storing s.round.stage ≡ false → None (read_ladder p s f d (length i)) → Asks (settled p u e i)
  unfolding settled
  in_read x n = go (round_open p u)
    where
      t : reading.Taken p s f d (length i)
      t = reading.taken p s f d (length i) n

      asks : is_asking s.round.stage ≡ true
      asks = asking s.round.stage x (clear (read_ladder p s f d (length i)) n 14)

      o : Octets e
      o = octets_after (k asks).0

      go : (t : Bool) → Asks (cond t (outcome still_open u e i) (acted p u (closed p u e) e i))
      go true y = (o, (k asks).1)
      go false y = goes Asks p u (closed p u e) e i (ways (length_after p d f t.node t.desk) o) y

  heard_reads : None (read_ladder p s f d (length i)) → Asks (accepted p s f d i)
  unfolding accepted
  heard_reads n = go (is_storing s.round.stage) refl
    where
      go : (t : Bool) → is_storing s.round.stage ≡ t → Asks (cond t (stored p (marked_of s (frame_node f) Record) d i) (heard p s f d i))
      go true x = in_repair x
      go false x = subst Asks (sym (reading.heard_settles p s f d i)) (in_read x n)

  call_reads : Asks (read_reply p s f d i)
  call_reads =
      subst Asks (sym (reading.one_ladder p s f d i))
      (by_ladder Asks (read_ladder p s f d (length i)) (λ (j : ℕ). outcome (refused j) s d i) (accepted p s f d i) (λ j g. k) heard_reads)

run_reads : (p : Plan) (s : Session) (d : List ℕ) (cs : List Turn) → Reads s d → Calls (ReadTurn p) s d cs → Reads (last_session s cs) (last_desk d cs)
run_reads p s d [] k h = k
run_reads p s d (c ∷ cs) k h =
    run_reads p c.took.session c.desk_left cs
    (subst (Asks p s c.reply d c.item h.0.0 k) (sym h.0.1.is) (call_reads p s c.reply d c.item h.0.0 k)) h.1

-- FROM AN ACCEPTED OPENING, after any calls of a read: a bound is of bytes, and of a time of 1 or more
read_bound : (p : Plan) (a : Ask) (r : Opened) (d : List ℕ) (cs : List Turn) → OpenCall Read p a r → r.answer ≡ (Ok tt) → Octets d
    → Calls (ReadTurn p) r.session d cs → in_range p (last_session r.session cs) (last_desk d cs) ≡ true → is_asking (last_session r.session cs).round.stage ≡ true
    → (u : Timestamp) → (last_session r.session cs).round.bound ≡ option.Some u
    → (1 ≤ time (be 40 (stamp_number u))) × (stamp (be 40 (stamp_number u)) ≡ stamp_number u)
read_bound p a r d cs opens e od h range asks u b =
    let z = accepted_session Read p a r opens e in
    let start : Reads r.session d = subst (λ (x : Session). Reads x d) (sym z) (λ y. (od, tt)) in
    let k = (run_reads p r.session d cs start h asks).1 in
    let w = (range_stands p (last_session r.session cs) (last_desk d cs) range).bounded in
    let low = both (ltb 1 (last_session r.session cs).round.number) (leb 1 u.time.0)
    (subst (λ (x : Option Timestamp). bound_ok x (last_session r.session cs).round.number ≡ true) b w) in
    bound_sends u (subst Bounded b k) (leb-true 1 u.time.0 low.1)

-- ---- a repair: the desk was filled from a set
module _ (P : ℕ → List ℕ → Type 0) (p : Plan) (s : Session) (d : List ℕ) (m : Mended P p s d) where
  abbrev c : Closing P p m.session m.desk m.node
  c = m.closing

  abbrev old : List ℕ
  old = slot_of p m.desk m.node

  abbrev regained : ℕ → List ℕ
  regained k = regenerated m.desk (slots_of p) (lowest p (closed p m.session m.desk)) k

  -- its heads are that of the lead's slot
  head_so : (k : ℕ) → k < p.n → (at n : ℕ) → at + n ≤ (slots_of p).head → part (slot_of p d k) at n ≡ part old at n
  head_so k h at n l =
      ap (λ (x : List ℕ). part (slot_of p x k) at n) m.filled
      ∙ head_is p m.session m.desk m.node c.plan c.long c.leads c.size k h m.node at n refl l

  fragment_so : (k : ℕ) → k < p.n → fragment_in p d k ≡ regained k
  fragment_so k h =
      ap (λ (x : List ℕ). fragment_in p x k) m.filled ∙ fragment_held p m.session m.desk m.node c.plan c.long c.leads c.size k h

  low : 0 < p.n
  low = omega (arith, (plan_is p c.plan).n_low)

  -- the cross checksum that the fragments make is the desk's, where it is that of the lead's slot
  from_lead : (fragments : ℕ → List ℕ) → ((k : ℕ) → k < p.n → regained k ≡ fragments k) → cross_made p fragments p.n ≡ cross_of p old
      → cross_made p (fragment_in p d) p.n ≡ cross_of p (slot_of p d 0)
  from_lead fragments same e =
      cross_same (fragment_in p d) fragments p.n (λ k h. fragment_so k h ∙ same k h) p ∙ e ∙ sym (head_so 0 low 40 (32 * p.n) (omega arith))

-- a set that validates, or fits
module _ (p : Plan) (s : Session) (d : List ℕ) (m : Mended (Passed p) p s d) (stores : is_storing s.round.stage ≡ true) (fits : RepairFits p s d) where
  -- under Byzantine clients by validation
  validated : p.clients ≡ Byzantine → cross_made p (fragment_in p d) p.n ≡ cross_of p (slot_of p d 0)
  unfolding sound validates
  validated b =
      let v : validates p m.desk (lowest p (closed p m.session m.desk)) m.node ≡ true =
      sym (ap (λ (x : Clients). trusted x (validates p m.desk (lowest p (closed p m.session m.desk)) m.node)) b) ∙ m.validates in
      from_lead (Passed p) p s d m (regained (Passed p) p s d m) (λ k h. refl)
      (alike_is _ _ v ∙ sym (part_part m.desk (m.node * record_length p) (record_length p) 40 (32 * p.n) (omega (arith, record_length_lem p))))

  crossed : cross_made p (fragment_in p d) p.n ≡ cross_of p (slot_of p d 0)
  crossed = by p.clients refl
    where
      by : (x : Clients) → p.clients ≡ x → cross_made p (fragment_in p d) p.n ≡ cross_of p (slot_of p d 0)
      by Crash e = fits e stores
      by Byzantine e = validated e

  mended_passes : (k : ℕ) → k < p.n → Passed p k (slot_of p d k) × (stamp (slot_of p d k) ≡ stamp_number s.stamp)
  unfolding hashes_ok
  mended_passes k h =
      let q : Passed p m.node (slot_of p m.desk m.node) = lead_slot (Passed p) p m.session m.desk m.node m.closing in
      let x : cross_of p (slot_of p d k) ≡ cross_of p (slot_of p m.desk m.node) = head_so (Passed p) p s d m k h 40 (32 * p.n) (omega arith) in
      let v : verifier_of (slot_of p d k) ≡ verifier_of (slot_of p m.desk m.node) = head_so (Passed p) p s d m k h 8 32 (omega arith) in
      let z : cross_of p (slot_of p d k) ≡ cross_made p (fragment_in p d) p.n = x ∙ sym (head_so (Passed p) p s d m 0 (low (Passed p) p s d m) 40 (32 * p.n) (omega arith)) ∙ sym crossed in
      let one : alike (sha256 (cross_of p (slot_of p d k))) (verifier_of (slot_of p d k)) ≡ true =
      (λ i. alike (sha256 (x i)) (v i)) ∙ (both (alike (sha256 (cross_of p (slot_of p m.desk m.node))) (verifier_of (slot_of p m.desk m.node))) _ q.hashes).0 in
      let two : alike (fragment_hash p k (fragment_in p d k)) (entry_of k (cross_of p (slot_of p d k))) ≡ true =
      is_alike _ _ (sym (ap (entry_of k) z ∙ entry_of_lem p (fragment_in p d) k p.n h)) in
      let t : time (slot_of p d k) ≡ time (slot_of p m.desk m.node) = ap num (head_so (Passed p) p s d m k h 0 8 (omega arith)) in (
        record { timed = omega (arith, t, q.timed); hashes = rw (one, two) },
        ap num (head_so (Passed p) p s d m k h 0 40 (omega arith)) ∙ sym (lead_number (Passed p) p m.session m.desk m.node m.closing) ∙ ap stamp_number (sym m.stamped),
      )

all_pass : (p : Plan) (cs : List Turn) → EachBrings (Passed p) p cs
all_pass p [] = tt
all_pass p (e ∷ cs) = ((λ t b l q. q), all_pass p cs)

-- FROM AN ACCEPTED OPENING, after any calls of a read that has not ended
pub read_sendable : (p : Plan) (a : Ask) (r : Opened) (d : List ℕ) (cs : List Turn) → OpenCall Read p a r → r.answer ≡ (Ok tt) → Octets d
    → Calls (ReadTurn p) r.session d cs → in_range p (last_session r.session cs) (last_desk d cs) ≡ true → is_ended (last_session r.session cs).round.stage ≡ false
    → RepairFits p (last_session r.session cs) (last_desk d cs) → Sendable p (last_session r.session cs) (last_desk d cs)
read_sendable p a r d cs opens e od h range going fits =
    record {
      bound = λ x y u b. read_bound p a r d cs opens e od h range (asking (last_session r.session cs).round.stage x going) u b;
      slots = λ x. mended_passes p (last_session r.session cs) (last_desk d cs) (run_mended (Passed p) p a r opens e d cs h (all_pass p cs) x) x fits;
    }

-- A REPAIR OF THE TIMESTAMP OF A WRITE FITS, under either client model: its set is of the records that were written, where the records that the replies bore
-- do not clash with them
pub written_fits : (p : Plan) (a : Ask) (r : Opened) (d : List ℕ) (cs : List Turn) → OpenCall Read p a r → r.answer ≡ (Ok tt) → Calls (ReadTurn p) r.session d cs
    → (t : ℕ) (i : List ℕ) → Octets i → length i ≡ p.m * p.f → (last_session r.session cs).stamp ≡ stamp_for p t i → NoClash p t i cs
    → RepairFits p (last_session r.session cs) (last_desk d cs)
unfolding cross_for
written_fits p a r d cs opens e h t i bytes whole stamped unlike crash stores =
    let F : ℕ → List ℕ → Type 0 = Fair p t i bytes whole in
    let m = run_mended F p a r opens e d cs h (all_fair p t i bytes whole r.session d cs h unlike) stores in
    let z : stamp_number (closed p m.session m.desk).stamp ≡ stamp_number (stamp_for p t i) = ap stamp_number (sym m.stamped ∙ stamped) in
    let n16 = (plan_is p m.closing.plan).n_high in
    from_lead F p (last_session r.session cs) (last_desk d cs) m (fragment p.m p.f i)
    (λ k l. pieces p t i bytes whole m.session m.desk m.node m.closing z k (omega (arith, n16, l)))
    (sym (cross_so p t i bytes whole m.session m.desk m.node m.closing z))
