-- What the slots of a read round hold, over the calls of a read: each slot that is marked record holds a record that passed the two hash checks at its
-- node, and that a reply of that node bore; whatever else came.
--   Closing            a read round that closed on a set of m nodes or more, with what holds of its slots
--   Found              the item of a read that ended done is decoded from such a set that validates, whether it was complete or repaired
--   lead_of            a candidate leads the close
--   run_finds run_slots   so after any calls, of whatever the records that the replies bring have in common
--   run_mended every_slot   the desk of a repair round, and the slots of the round that is open, after any calls
-- Assumes nothing.
use Rattle.std.specs.Prelude.{Ok}
use Prim.{Unit, tt}
use Prim.Native.Nat.{ℕ, ◌*◌, ◌≤◌}
use native.Mathlib.Omega.{arith}
use mathlib.Core.Path.{◌≡◌, refl, sym, ap, ◌∙◌, subst}
use mathlib.Core.Bool.{true, false}
use mathlib.Core.List.{List, [], ◌∷◌}
use mathlib.Core.Logic.{inl, inr}
use borrow.Author.Tests.{not-false}
use lib.ListN.{length}
use Rattle.terms.specs.Ladder.{Rung, None}
use Rattle.terms.specs.Terms.{plan_ok, record_length, complete_at, incomplete_at, slots_of, thresholds_of}
use Rattle.terms.specs.declared.Ask.{Ask}
use Rattle.terms.specs.declared.Plan.{Plan}
use Rattle.terms.specs.declared.Timestamp.{Timestamp}
use Rattle.terms.proofs.Down.{clear}
use Rattle.terms.proofs.Facts.{facts}
use Rattle.terms.proofs.Rungs.{clash}
use Rattle.frame.specs.Frame.{frame_node}
use Rattle.rounds.specs.declared.Heard.TheVariants.{Record}
use Rattle.std.proofs.Common.{Option, Some}
use Rattle.rounds.specs.Rounds.{close_with}
use Rattle.recover.specs.Recover.{sound, decoded, collected, repaired}
use Rattle.session.specs.declared.Session.{Session}
use Rattle.standing.specs.declared.Stage.{Stage}
use Rattle.standing.specs.declared.Stage.TheVariants.{Asking, Storing, Ended}
use Rattle.standing.specs.declared.Operation.TheVariants.{Read}
use Rattle.session.specs.declared.opening.Opened.{Opened}
use Rattle.session.specs.Opening.{OpenCall}
use Rattle.standing.specs.Standing.{is_asking, is_storing, is_ended, lengths_ok}
use Rattle.session.specs.Session.{marked_of, ended_of, next_of, storing_of, Said, refused, still_open, done, never_written, aborted, rounds_spent, said_of, is_refused}
use Rattle.session.specs.Reader.{Outcome, outcome, closed}
use Rattle.session.proofs.Closings.{led, sized, sized_whole}
use Rattle.session.proofs.Openings.{accepted_session}
use Rattle.standing.proofs.Rules.{lengths_are}
use Rattle.client.specs.Endings.{read_ladder, after_reply, desk_after, Candidate, size, DoneByRead, DoneByRepair, RepairOpens}
use Rattle.client.specs.Turns.{Turn, ReadTurn, Calls, Takes, last_said}
use Rattle.client.specs.Sessions.{last_session, last_desk, last_item}
use Rattle.client.specs.Repair.{EachTurn}
use Rattle.client.specs.Held.{EverySlot, Held}
use Rattle.client.proofs.Endings.{is_done}
use Rattle.client.proofs.Reading as reading
use Rattle.client.proofs.Went as went
use Rattle.client.proofs.Went.{Went, went, none_takes, refuses, hears, stores, next, finds, ends, never, aborts, spends}
use Rattle.client.proofs.Reading.{Taken, taken}
use Rattle.client.proofs.Repair.{repaired_item}
use Rattle.client.proofs.Round.Order.{length_after}
use Rattle.client.proofs.Slots.{none_marked, Brings, EachBrings, reply_heard}

-- a candidate leads the close
pub lead_of : (p : Plan) (s : Session) (f d : List ℕ) (a : ℕ) → Candidate p s f d a → (closed p (after_reply p s f) (desk_after p f d)).lead ≡ Some a
unfolding close_with
lead_of p s f d a h = ap (λ (x : Option ℕ). (close_with (after_reply p s f).marks (desk_after p f d) (slots_of p) p.member (thresholds_of p) x).lead) h

-- ---- a read round that closed on a set of m nodes or more: the session and the desk with its last reply, and the node that leads the set
pub record Closing (P : ℕ → List ℕ → Type 0) (p : Plan) (u : Session) (e : List ℕ) (a : ℕ) : Type 0 where
  pub plan : plan_ok p ≡ true
  pub long : length e ≡ p.n * record_length p
  pub leads : (closed p u e).lead ≡ Some a
  pub size : p.m ≤ length (closed p u e).nodes
  pub slots : EverySlot P p u.marks e

-- an item that was decoded from such a set that validates, of this timestamp, into a buffer of m·F bytes
pub record Found (P : ℕ → List ℕ → Type 0) (p : Plan) (stamp : Timestamp) (item : List ℕ) : Type 0 where
  pub session : Session
  pub desk : List ℕ
  pub node : ℕ
  pub closing : Closing P p session desk node
  pub many : incomplete_at p ≤ length (closed p session desk).nodes
  pub validates : sound p (closed p session desk) node desk ≡ true
  pub stamped : stamp ≡ (closed p session desk).stamp
  pub lent : List ℕ
  pub room : length lent ≡ p.m * p.f
  pub is : item ≡ decoded p (closed p session desk) desk lent

-- the desk was filled for repair from such a set that validates, and its timestamp is the one being written
pub record Mended (P : ℕ → List ℕ → Type 0) (p : Plan) (s : Session) (d : List ℕ) : Type 0 where
  pub session : Session
  pub desk : List ℕ
  pub node : ℕ
  pub closing : Closing P p session desk node
  pub many : incomplete_at p ≤ length (closed p session desk).nodes
  pub validates : sound p (closed p session desk) node desk ≡ true
  pub stamped : s.stamp ≡ (closed p session desk).stamp
  pub filled : d ≡ repaired p (closed p session desk) node desk

-- what is known between two calls, by the stage
abbrev pub KeepsAt : Stage → (ℕ → List ℕ → Type 0) → Plan → Session → List ℕ → Type 0
KeepsAt Asking P p s d = EverySlot P p s.marks d
KeepsAt Storing P p s d = Mended P p s d
KeepsAt Ended P p s d = Unit {0}

abbrev pub Keeps : (ℕ → List ℕ → Type 0) → Plan → Session → List ℕ → Type 0
Keeps P p s d = KeepsAt s.round.stage P p s d

pub is_asking_lem : (x : Stage) → is_asking x ≡ true → x ≡ Asking
is_asking_lem Asking e = refl
is_asking_lem Storing e = absurd (clash (sym e))
is_asking_lem Ended e = absurd (clash (sym e))

pub at_asking : (x : Stage) → is_storing x ≡ false → is_ended x ≡ false → x ≡ Asking
at_asking Asking e g = refl
at_asking Storing e g = absurd (clash e)
at_asking Ended e g = absurd (clash g)

pub at_storing : (x : Stage) → is_storing x ≡ true → x ≡ Storing
at_storing Asking e = absurd (clash (sym e))
at_storing Storing e = refl
at_storing Ended e = absurd (clash (sym e))

-- ---- one call
module _ (P : ℕ → List ℕ → Type 0) (p : Plan) (s : Session) (f d i : List ℕ) (k : Keeps P p s d) (brings : None (read_ladder p s f d (length i)) → Brings P p f) where
  abbrev ladder : List Rung
  ladder = read_ladder p s f d (length i)

  abbrev u : Session
  u = after_reply p s f

  abbrev e : List ℕ
  e = desk_after p f d

  pub record Leaves (o : Outcome) : Type 0 where
    pub keeps : Keeps P p o.session o.desk
    pub finds : (stamp : Timestamp) (n : ℕ) → o.said ≡ done stamp n → Found P p stamp o.item

  -- it is no ending with an item
  other : (a : Said) → is_done a ≡ false → (x : Session) (y : List ℕ) → Keeps P p x y → Leaves (outcome a x y i)
  other a h x y z = record { keeps = z; finds = λ stamp n q. absurd (clash (sym (ap is_done q) ∙ h)) }

  -- an accepted reply
  module _ (n : None ladder) where
    t : Taken p s f d (length i)
    t = taken p s f d (length i) n

    item_is : length i ≡ p.m * p.f
    item_is = (lengths_are p (length d) (length i) (not-false (lengths_ok p (length d) (length i)) (clear ladder n 2))).item_is

    long : length e ≡ p.n * record_length p
    long = length_after p d f t.node t.desk

    -- in a read round: every slot is of the kind P with this reply, too
    module _ (asks : is_storing s.round.stage ≡ false) where
      stage : s.round.stage ≡ Asking
      stage = at_asking s.round.stage asks (clear ladder n 14)

      before : EverySlot P p s.marks d
      before = subst (λ (x : Stage). KeepsAt x P p s d) stage k

      every : EverySlot P p u.marks e
      every = reply_heard P p s f d (length i) n before (brings n)

      closing : (a : ℕ) → Candidate p s f d a → p.m ≤ length (closed p u e).nodes → Closing P p u e a
      closing a h m = record { plan = t.plan; long = long; leads = lead_of p s f d a h; size = m; slots = every }

    -- in a repair round: the desk stays
    module _ (storing : is_storing s.round.stage ≡ true) where
      mended : Mended P p s d
      mended = subst (λ (x : Stage). KeepsAt x P p s d) (at_storing s.round.stage storing) k

      still : Keeps P p (marked_of s (frame_node f) Record) d
      still =
          let m = mended in
          subst (λ (x : Stage). KeepsAt x P p (marked_of s (frame_node f) Record) d) (sym (at_storing s.round.stage storing))
          (record { session = m.session; desk = m.desk; node = m.node; closing = m.closing; many = m.many; validates = m.validates; stamped = m.stamped; filled = m.filled })

  repairs : (w : RepairOpens p s f d (length i)) → Leaves (outcome still_open (storing_of u (closed p u e).stamp) (repaired p (closed p u e) w.node e) i)
  repairs w =
      let n = w.closes.accepted in
      let a = w.node in
      let v = reading.mended_is p.member (complete_at p) (incomplete_at p) (size p s f d a) w.high w.low w.member in
      let g = led p u e a (lead_of p s f d a w.candidate) in
      other still_open refl (storing_of u (closed p u e).stamp) (repaired p (closed p u e) a e)
      (record {
        session = u;
        desk = e;
        node = a;
        closing = closing n w.closes.asks a w.candidate (sized p u e a g (t n).plan (g.verdict_is ∙ v));
        many = omega (arith, w.low, ap length g.nodes_are);
        validates = w.validated;
        stamped = refl;
        filled = refl;
      })

  by_read : (stamp : Timestamp) (m : ℕ) → DoneByRead p s f d (length i) stamp m → Leaves (outcome (done (closed p u e).stamp m) (ended_of u) e (decoded p (closed p u e) e i))
  by_read stamp m w =
      let n = w.closes.accepted in
      let a = w.node in
      let v = reading.whole_is p.member (complete_at p) (incomplete_at p) (size p s f d a) w.full in
      let g = led p u e a (lead_of p s f d a w.candidate) in
      record {
        keeps = tt;
        finds = λ x y z.
            record {
              session = u;
              desk = e;
              node = a;
              closing = closing n w.closes.asks a w.candidate (sized_whole p u e a g (t n).plan (g.verdict_is ∙ v));
              many = omega (arith, w.full, ap length g.nodes_are, (facts p (t n).plan).low_high);
              validates = w.validated;
              stamped = cc;
              lent = i;
              room = item_is n;
              is = refl;
            };
      }

  by_repair : (stamp : Timestamp) (m : ℕ) → DoneByRepair p s f d (length i) stamp m → (x : Session) → x.round.stage ≡ Ended → Leaves (outcome (done s.stamp m) x d (collected p d i))
  by_repair stamp m w x g =
      let n = w.accepted in
      let h = mended n w.stores in
      let c = h.closing in
      record {
        keeps = subst (λ (y : Stage). KeepsAt y P p x d) (sym g) tt;
        finds = λ v y z.
            let one : v ≡ s.stamp = cc in
            record {
              session = h.session;
              desk = h.desk;
              node = h.node;
              closing = c;
              many = h.many;
              validates = h.validates;
              stamped = one ∙ h.stamped;
              lent = i;
              room = item_is n;
              is = ap (λ (l : List ℕ). collected p l i) h.filled
                  ∙ repaired_item p h.session h.desk h.node c.plan c.long c.leads c.size i;
            };
      }

  pub leaves : (o : Outcome) → Went p s f d i o → Leaves o
  leaves o (refuses j g z) = subst Leaves (sym z) (other (refused j) refl s d k)
  leaves o (hears n q z) = subst Leaves (sym z) (other still_open refl u e (subst (λ (x : Stage). KeepsAt x P p u e) (sym (stage n q)) (every n q)))
  leaves o (stores n q z) = subst Leaves (sym z) (other still_open refl (marked_of s (frame_node f) Record) d (still n q))
  leaves o (next w z) = subst Leaves (sym z) (other still_open refl (next_of u (closed p u e).stamp) e (none_marked P p e))
  leaves o (went.repairs w z) = subst Leaves (sym z) (repairs w)
  leaves o (finds w z) = subst Leaves (sym z) (by_read (closed p u e).stamp s.round.number w)
  leaves o (ends w z) = subst Leaves (sym z) (by_repair s.stamp s.round.number w (ended_of (marked_of s (frame_node f) Record)) refl)
  leaves o (never w z) = subst Leaves (sym z) (other (never_written s.round.number) refl (ended_of u) e tt)
  leaves o (aborts w z) = subst Leaves (sym z) (other (aborted s.round.number) refl (ended_of u) e tt)
  leaves o (spends w z) = subst Leaves (sym z) (other (rounds_spent s.round.number) refl (ended_of u) e tt)

-- ---- calls one after another
module _ (P : ℕ → List ℕ → Type 0) (p : Plan) where
  abbrev pub left : Turn → Outcome
  left c = outcome (said_of c.took.answer) c.took.session c.desk_left c.item_left

  -- a reply that meets no refusal is taken
  pub is_taken : (s : Session) (d : List ℕ) (c : Turn) → ReadTurn p s d c → None (read_ladder p s c.reply d (length c.item)) → Takes c
  is_taken s d c h n = subst (λ (o : Outcome). is_refused o.said ≡ false) (sym h.1.is) (none_takes p s c.reply d c.item n)

  abbrev Left : (s : Session) (d : List ℕ) (c : Turn) → Keeps P p s d → (Takes c → Brings P p c.reply) → ReadTurn p s d c → Type 0
  Left s d c k b h = Leaves P p s c.reply d c.item k (λ n. b (is_taken s d c h n)) (left c)

  pub one : (s : Session) (d : List ℕ) (c : Turn) (k : Keeps P p s d) (b : Takes c → Brings P p c.reply) (h : ReadTurn p s d c) → Left s d c k b h
  one s d c k b h = leaves P p s c.reply d c.item k (λ n. b (is_taken s d c h n)) (left c) (subst (Went p s c.reply d c.item) (sym h.1.is) (went p s c.reply d c.item))

  pub run_keeps : (s : Session) (d : List ℕ) (cs : List Turn) → Keeps P p s d → Calls (ReadTurn p) s d cs → EachBrings P p cs
      → Keeps P p (last_session s cs) (last_desk d cs)
  run_keeps s d [] k h b = k
  run_keeps s d (c ∷ cs) k h b = run_keeps c.took.session c.desk_left cs (one s d c k b.0 h.0).keeps h.1 b.1

  -- of each call that answers done
  abbrev pub Finds : Turn → Type 0
  Finds c = (stamp : Timestamp) (n : ℕ) → said_of c.took.answer ≡ done stamp n → Found P p stamp c.item_left

  pub each_finds : (s : Session) (d : List ℕ) (cs : List Turn) → Keeps P p s d → Calls (ReadTurn p) s d cs → EachBrings P p cs → EachTurn Finds cs
  each_finds s d [] k h b = tt
  each_finds s d (c ∷ cs) k h b = let w = one s d c k b.0 h.0 in (w.finds, each_finds c.took.session c.desk_left cs w.keeps h.1 b.1)

  last_finds : (c : Turn) (cs : List Turn) → EachTurn Finds (c ∷ cs) → (stamp : Timestamp) (n : ℕ) → last_said c cs ≡ done stamp n → Found P p stamp (last_item c cs)
  last_finds c [] w = w.0
  last_finds c (v ∷ cs) w = last_finds v cs w.1

  -- from an accepted opening
  module _ (a : Ask) (r : Opened) (opens : OpenCall Read p a r) (accepted : r.answer ≡ (Ok tt)) (d : List ℕ) where
    pub start : Keeps P p r.session d
    start = subst (λ (x : Session). Keeps P p x d) (sym (accepted_session Read p a r opens accepted)) (none_marked P p d)

    -- A READ THAT ENDS DONE LEAVES WHAT A CLOSED SET DECODES TO, complete or repaired, of the timestamp that it says; the slots of that set are of the
    -- kind that the records of its replies are
    pub run_finds : (c : Turn) (cs : List Turn) → Calls (ReadTurn p) r.session d (c ∷ cs) → EachBrings P p (c ∷ cs)
        → (stamp : Timestamp) (n : ℕ) → last_said c cs ≡ done stamp n → Found P p stamp (last_item c cs)
    run_finds c cs h b = last_finds c cs (each_finds r.session d (c ∷ cs) start h b)

    pub run_slots : (cs : List Turn) → Calls (ReadTurn p) r.session d cs → EachBrings P p cs
        → is_asking (last_session r.session cs).round.stage ≡ true → EverySlot P p (last_session r.session cs).marks (last_desk d cs)
    run_slots cs h b asks = go (last_session r.session cs).round.stage asks (run_keeps r.session d cs start h b)
      where
        go : (x : Stage) → is_asking x ≡ true → KeepsAt x P p (last_session r.session cs) (last_desk d cs)
            → EverySlot P p (last_session r.session cs).marks (last_desk d cs)
        go Asking e k = k
        go Storing e k = absurd (clash (sym e))
        go Ended e k = absurd (clash (sym e))

    -- the desk of a repair round
    pub run_mended : (cs : List Turn) → Calls (ReadTurn p) r.session d cs → EachBrings P p cs
        → is_storing (last_session r.session cs).round.stage ≡ true → Mended P p (last_session r.session cs) (last_desk d cs)
    run_mended cs h b storing =
        subst (λ (x : Stage). KeepsAt x P p (last_session r.session cs) (last_desk d cs)) (at_storing (last_session r.session cs).round.stage storing)
        (run_keeps r.session d cs start h b)

-- ---- each of some calls is one of them
pub each_turn : (P Q : Turn → Type 0) → ((c : Turn) → P c → Q c) → (cs : List Turn) → EachTurn P cs → EachTurn Q cs
each_turn P Q f [] h = tt
each_turn P Q f (c ∷ cs) h = (f c h.0, each_turn P Q f cs h.1)

-- what its reply brings is held
pub all_brought : (p : Plan) (cs : List Turn) → EachBrings (Held p cs) p cs
all_brought p [] = tt
all_brought p (c ∷ cs) = (
  λ t b l q. record { passed = q; came = inl (record { taken = t; bore = b; node = refl; is = refl }) },
  each_turn (λ (e : Turn). Takes e → Brings (Held p cs) p e.reply) (λ (e : Turn). Takes e → Brings (Held p (c ∷ cs)) p e.reply)
      (λ e h t b l q. let w = h t b l q in record { passed = w.passed; came = inr w.came }) cs (all_brought p cs),
)

-- THE SLOTS OF A READ ROUND, over any calls from an accepted opening on: each that is marked record holds a record of a time of 1 or more whose two
-- hash checks hold at its node, and one of the replies, of that node, bore it
pub every_slot : (p : Plan) (a : Ask) (r : Opened) → OpenCall Read p a r → r.answer ≡ (Ok tt) → (d : List ℕ) (cs : List Turn)
    → Calls (ReadTurn p) r.session d cs → is_asking (last_session r.session cs).round.stage ≡ true
    → EverySlot (Held p cs) p (last_session r.session cs).marks (last_desk d cs)
every_slot p a r opens accepted d cs h = run_slots (Held p cs) p a r opens accepted d cs h (all_brought p cs)
