-- WHAT DONE MEANS, IN NODES. Take something that holds of a node and a timestamp wherever the node's reply, taken, bears a record of that timestamp or
-- acknowledges it. Then it holds of COMPLETE or more nodes and the timestamp that a read is done with (read_quorum): its set was complete, or its repair was
-- acknowledged by N-t; and of N-t or more and the timestamp that a write is done with (write_quorum).
--   Tells              the same of one call
--   Quorum             of so many nodes and a timestamp
--   Acks               the nodes that are marked in a write or repair round acknowledged the timestamp being written
-- Assumes nothing.
use Rattle.std.specs.Prelude.{Ok}
use Prim.{tt}
use Prim.Native.Nat.{ℕ, ◌≤◌, ◌<◌}
use mathlib.Core.Path.{◌≡◌, refl, sym, ap, ◌∙◌, subst}
use mathlib.Core.Bool.{Bool, true, false}
use mathlib.Core.List.{List, [], ◌∷◌}
use mathlib.Core.Logic.{◌⊎◌, inl, inr}
use native.Mathlib.Decide.{ℕ_discrete}
use native.Mathlib.Omega.{arith}
use borrow.Author.Tests.{not-false, eqb-true}
use lib.Dec.{eqb}
use lib.ListN.{length, length-set, set}
use Rattle.terms.specs.Ladder.{None, ◌and◌}
use Rattle.terms.specs.Stamp.{stamp, stamp_number}
use Rattle.terms.specs.Terms.{plan_ok, slots_of, complete_at}
use Rattle.terms.specs.declared.Ask.{Ask}
use Rattle.terms.specs.declared.Plan.{Plan}
use Rattle.terms.specs.declared.Timestamp.{Timestamp}
use Rattle.terms.proofs.Down.{clear}
use Rattle.terms.proofs.Facts.{facts}
use Rattle.terms.proofs.Plans.{plan_is}
use Rattle.terms.proofs.Rungs.{both, clash}
use Rattle.frame.specs.Frame.{frame_node, kind_of, body_of, header_in, answers_to, good_reply, write_reply_kind}
use Rattle.frame.proofs.Frames.{reply_is}
use Rattle.rounds.specs.declared.Heard.{Heard}
use Rattle.rounds.specs.declared.Heard.TheVariants.{Unheard, Record}
use Rattle.rounds.specs.Rounds.{unheards, heard_count, heard_at, bit_of, mark_of, joins_of, rest_unheard}
use Rattle.rounds.specs.Numbers.{number_of}
use Rattle.rounds.proofs.Laws.{mark_other}
use Rattle.rounds.proofs.Numbers.{heard_number}
use Rattle.standing.specs.declared.Stage.{Stage}
use Rattle.standing.specs.declared.Operation.TheVariants.{Write, Read}
use Rattle.standing.specs.Standing.{is_storing, replies, same_operation, awaits_in}
use Rattle.session.specs.declared.Session.{Session}
use Rattle.session.specs.declared.opening.Opened.{Opened}
use Rattle.session.specs.Opening.{OpenCall}
use Rattle.session.specs.Session.{ask_now, awaits_kind, marked_of, Said, done, said_of, is_refused}
use Rattle.session.specs.Ranges.{in_range}
use Rattle.session.specs.Reader.{Outcome, closed}
use Rattle.session.specs.Reply.{awaited, bears}
use Rattle.session.specs.Writer.{Leaves}
use Rattle.session.proofs.Closings.{led}
use Rattle.session.proofs.Made.{rest_set}
use Rattle.session.proofs.Openings.{accepted_session}
use Rattle.session.proofs.Rules.{range_stands}
use Rattle.client.specs.Endings.{read_ladder, write_ladder, after_reply, desk_after, DoneByRead}
use Rattle.client.specs.Turns.{Turn, ReadTurn, WriteTurn, Calls, Takes}
use Rattle.client.specs.Repair.{EachTurn}
use Rattle.client.proofs.Endings.{is_done}
use Rattle.client.proofs.Reading.{taken}
use Rattle.client.proofs.Round.Order.{length_after}
use Rattle.client.proofs.Slots.{mark_none, EachBrings, reply_heard}
use Rattle.client.proofs.Held.{lead_of, at_asking, Closing, KeepsAt, Keeps, is_taken, one, start}
use Rattle.client.proofs.Sets.{member, set_counts}
use Rattle.client.proofs.Went as went
use Rattle.client.proofs.Went.{Went}
use Rattle.client.proofs.Wrote as wrote
use Rattle.client.proofs.Wrote.{Wrote}

-- a reply that a write or repair round takes: a write reply, of the timestamp being written
pub awaits_stamp : (s : Session) (f : List ℕ) → awaited s f ≡ true → is_storing s.round.stage ≡ true → (kind_of f ≡ write_reply_kind) × (stamp (body_of f) ≡ stamp_number s.stamp)
unfolding awaited awaits_in
awaits_stamp s f e q =
    let a = both (answers_to (header_in f) (ask_now s)) _ e in
    let b = both (awaits_kind s (kind_of f)) _ a.1 in
    (eqb-true (kind_of f) write_reply_kind (rw q at b.0), eqb-true (stamp (body_of f)) (stamp_number s.stamp) (rw q at b.1))

module _ (p : Plan) (A : ℕ → ℕ → Type 0) where
  abbrev pub Tells : Turn → Type 0
  Tells c =
      Takes c → frame_node c.reply < p.n → (bears p c.reply ≡ true) ⊎ (kind_of c.reply ≡ write_reply_kind) → A (frame_node c.reply) (stamp (body_of c.reply))

  -- of many nodes and the timestamp x
  pub record Quorum (many x : ℕ) : Type 0 where
    pub test : ℕ → Bool
    pub enough : many ≤ number_of test p.n
    pub each : (k : ℕ) → k < p.n → test k ≡ true → A k x

  pub record Acks (s : Session) : Type 0 where
    pub wide : length s.marks ≡ 16
    pub acked : is_storing s.round.stage ≡ true → (k : ℕ) → heard_at s.marks k ≡ true → A k (stamp_number s.stamp)

  -- where no write or repair round is open
  away : (u : Session) → length u.marks ≡ 16 → is_storing u.round.stage ≡ false → Acks u
  away u w q = record { wide = w; acked = λ z. absurd (clash (sym z ∙ q)) }

  -- where one opens
  fresh : (u : Session) → u.marks ≡ unheards → Acks u
  fresh u e =
      record {
        wide = ap length e;
        acked = λ z k h.
            let y : eqb (bit_of Unheard) 1 ≡ true = ap (λ (x : Heard). eqb (bit_of x) 1) (sym (mark_none 16 k) ∙ ap (λ (m : List Heard). mark_of m k) (sym e)) ∙ h in
            absurd (clash (sym y));
      }

  -- a write reply that is taken
  module _ (s : Session) (f : List ℕ) (a : Acks s) (q : is_storing s.round.stage ≡ true) (tells : A (frame_node f) (stamp_number s.stamp)) where
    marked : Acks (marked_of s (frame_node f) Record)
    marked =
        record {
          wide = length-set s.marks (frame_node f) Record ∙ a.wide;
          acked = λ z k h. by k h (ℕ_discrete k (frame_node f));
        }
      where
        by : (k : ℕ) → heard_at (set s.marks (frame_node f) Record) k ≡ true → Dec (k ≡ frame_node f) → A k (stamp_number s.stamp)
        by k h (yes e) = subst (λ (x : ℕ). A x (stamp_number s.stamp)) (sym e) tells
        by k h (no e) = a.acked q k (ap (λ (x : Heard). eqb (bit_of x) 1) (sym (mark_other s.marks (frame_node f) k Record e)) ∙ h)

    full : (d : List ℕ) → plan_ok p ≡ true → in_range p s d ≡ true → frame_node f < p.n → replies p ≤ heard_count (marked_of s (frame_node f) Record).marks
        → Quorum (replies p) (stamp_number s.stamp)
    full d ok range low many =
        let ms = (marked_of s (frame_node f) Record).marks in
        let rest : rest_unheard ms p.n ≡ true = rest_set s.marks p.n (frame_node f) Record low ∙ (range_stands p s d range).rest in
        record {
          test = heard_at ms;
          enough = omega (arith, many, heard_number ms p.n (omega (arith, marked.wide, (plan_is p ok).n_high)) rest);
          each = λ k l h. marked.acked q k h;
        }

  -- ---- a read
  abbrev Kind : ℕ → List ℕ → Type 0
  Kind k rec = A k (stamp rec)

  brings : (cs : List Turn) → EachTurn Tells cs → EachBrings Kind p cs
  brings [] t = tt
  brings (c ∷ cs) t = (λ k b l q. t.0 k l (inl b), brings cs t.1)

  module _ (s : Session) (f d i : List ℕ) (a : Acks s) (keeps : Keeps Kind p s d)
      (tells : None (read_ladder p s f d (length i)) → frame_node f < p.n → (bears p f ≡ true) ⊎ (kind_of f ≡ write_reply_kind) → A (frame_node f) (stamp (body_of f))) where
    abbrev u : Session
    u = after_reply p s f

    abbrev e : List ℕ
    e = desk_after p f d

    heard_wide : length u.marks ≡ 16
    heard_wide = length-set s.marks (frame_node f) _ ∙ a.wide

    kept_wide : length (marked_of s (frame_node f) Record).marks ≡ 16
    kept_wide = length-set s.marks (frame_node f) Record ∙ a.wide

    told : (n : None (read_ladder p s f d (length i))) → is_storing s.round.stage ≡ true → A (frame_node f) (stamp_number s.stamp)
    told n q =
        let w = awaits_stamp s f (not-false (awaited s f) (clear (read_ladder p s f d (length i)) n 10)) q in
        subst (A (frame_node f)) w.1 (tells n (taken p s f d (length i) n).node (inr w.0))

    read_acks : (o : Outcome) → Went p s f d i o → Acks o.session
    read_acks o (went.refuses k g z) = subst (λ (x : Outcome). Acks x.session) (sym z) a
    read_acks o (went.hears n q z) = subst (λ (x : Outcome). Acks x.session) (sym z) (away u heard_wide q)
    read_acks o (went.stores n q z) = subst (λ (x : Outcome). Acks x.session) (sym z) (marked s f a q (told n q))
    read_acks o (went.next w z) = subst (λ (x : Outcome). Acks x.session) (sym z) (fresh _ refl)
    read_acks o (went.repairs w z) = subst (λ (x : Outcome). Acks x.session) (sym z) (fresh _ refl)
    read_acks o (went.finds w z) = subst (λ (x : Outcome). Acks x.session) (sym z) (away _ heard_wide refl)
    read_acks o (went.ends w z) = subst (λ (x : Outcome). Acks x.session) (sym z) (away _ kept_wide refl)
    read_acks o (went.never w z) = subst (λ (x : Outcome). Acks x.session) (sym z) (away _ heard_wide refl)
    read_acks o (went.aborts w z) = subst (λ (x : Outcome). Acks x.session) (sym z) (away _ heard_wide refl)
    read_acks o (went.spends w z) = subst (λ (x : Outcome). Acks x.session) (sym z) (away _ heard_wide refl)

    -- a complete set
    whole : (w : DoneByRead p s f d (length i) (closed p u e).stamp s.round.number) → Quorum (complete_at p) (stamp_number (closed p u e).stamp)
    whole w =
        let n = w.closes.accepted in
        let b = w.node in
        let t = taken p s f d (length i) n in
        let leads = lead_of p s f d b w.candidate in
        let size = ap length (led p u e b leads).nodes_are in
        let c : Closing Kind p u e b =
        record {
          plan = t.plan;
          long = length_after p d f t.node t.desk;
          leads = leads;
          size = omega (arith, w.full, size, (facts p t.plan).high_decodes);
          slots = reply_heard Kind p s f d (length i) n
              (subst (λ (x : Stage). KeepsAt x Kind p s d) (at_asking s.round.stage w.closes.asks (clear (read_ladder p s f d (length i)) n 14)) keeps) (λ h l z. tells n l (inl h));
        } in
        record {
          test = λ k. joins_of e (slots_of p) b k (mark_of u.marks k);
          enough = omega (arith, w.full, size, set_counts Kind p u e b c);
          each = λ k l h. let m = member Kind p u e b c k l h in subst (A k) m.1 m.0;
        }

    less : (x : ℕ) → plan_ok p ≡ true → Quorum (replies p) x → Quorum (complete_at p) x
    less x ok w = record { test = w.test; enough = omega (arith, w.enough, (facts p ok).high_replies); each = w.each }

    done_one : (t v : Timestamp) (m n : ℕ) → ◌≡◌ {A = Said} (done t m) (done v n) → t ≡ v
    done_one t v m n z = cc

    abbrev DoneBy : Outcome → Type 0
    DoneBy o = (v : Timestamp) (m : ℕ) → o.said ≡ done v m → Quorum (complete_at p) (stamp_number v)

    not_done : (o : Outcome) (x : Outcome) → o ≡ x → is_done x.said ≡ false → DoneBy o
    not_done o x z h v m w = absurd (clash (ap is_done (sym w ∙ ap (λ (y : Outcome). y.said) z) ∙ h))

    read_done : (o : Outcome) → Went p s f d i o → DoneBy o
    read_done o (went.refuses k g z) v m y = not_done o _ z refl v m y
    read_done o (went.hears n q z) v m y = not_done o _ z refl v m y
    read_done o (went.stores n q z) v m y = not_done o _ z refl v m y
    read_done o (went.next w z) v m y = not_done o _ z refl v m y
    read_done o (went.repairs w z) v m y = not_done o _ z refl v m y
    read_done o (went.finds w z) v m y =
        let t = done_one _ v _ m (sym (ap (λ (x : Outcome). x.said) z) ∙ y) in
        subst (λ (x : Timestamp). Quorum (complete_at p) (stamp_number x)) t
        (whole w)
    read_done o (went.ends w z) v m y =
        let n = w.accepted in
        let g = taken p s f d (length i) n in
        let t = done_one _ v _ m (sym (ap (λ (x : Outcome). x.said) z) ∙ y) in
        subst (λ (x : Timestamp). Quorum (complete_at p) (stamp_number x)) t
        (less (stamp_number s.stamp) g.plan (full s f a w.stores (told n w.stores) d g.plan g.range g.node w.enough))
    read_done o (went.never w z) v m y = not_done o _ z refl v m y
    read_done o (went.aborts w z) v m y = not_done o _ z refl v m y
    read_done o (went.spends w z) v m y = not_done o _ z refl v m y

  -- of each call that answers done
  abbrev pub Dones : ℕ → Turn → Type 0
  Dones many c = (v : Timestamp) (m : ℕ) → said_of c.took.answer ≡ done v m → Quorum many (stamp_number v)

  read_calls : (s : Session) (d : List ℕ) (cs : List Turn) → Acks s → Keeps Kind p s d → Calls (ReadTurn p) s d cs → EachTurn Tells cs → EachTurn (Dones (complete_at p)) cs
  read_calls s d [] a k h t = tt
  read_calls s d (c ∷ cs) a k h t =
      let takes = is_taken Kind p s d c h.0 in
      let w = subst (Went p s c.reply d c.item) (sym h.0.1.is) (went.went p s c.reply d c.item) in (
        read_done s c.reply d c.item a k (λ n. t.0 (takes n)) _ w,
        read_calls c.took.session c.desk_left cs (read_acks s c.reply d c.item a k (λ n. t.0 (takes n)) _ w)
            (one Kind p s d c k (λ x b l q. t.0 x l (inl b)) h.0).keeps h.1 t.1,
      )

  -- A READ THAT IS DONE: of COMPLETE or more nodes
  pub read_quorum : (a : Ask) (r : Opened) → OpenCall Read p a r → r.answer ≡ (Ok tt) → (d : List ℕ) (cs : List Turn) → Calls (ReadTurn p) r.session d cs
      → EachTurn Tells cs → EachTurn (Dones (complete_at p)) cs
  read_quorum a r opens e d cs h t =
      read_calls r.session d cs (subst Acks (sym (accepted_session Read p a r opens e)) (fresh _ refl)) (start Kind p a r opens e d) h t

  -- ---- a write
  module _ (s : Session) (f d i : List ℕ) (a : Acks s)
      (tells : None (write_ladder p s f d (length i)) → frame_node f < p.n → (bears p f ≡ true) ⊎ (kind_of f ≡ write_reply_kind) → A (frame_node f) (stamp (body_of f))) where
    low : None (write_ladder p s f d (length i)) → frame_node f < p.n
    low n = (reply_is p f (not-false (good_reply p f) (clear (write_ladder p s f d (length i)) n 4))).node_low

    stored : (n : None (write_ladder p s f d (length i))) → is_storing s.round.stage ≡ true → A (frame_node f) (stamp_number s.stamp)
    stored n q =
        let w = awaits_stamp s f (not-false (awaited s f) (clear (write_ladder p s f d (length i)) n 10)) q in
        subst (A (frame_node f)) w.1 (tells n (low n) (inr w.0))

    wide_after : (x : Heard) → length (set s.marks (frame_node f) x) ≡ 16
    wide_after x = length-set s.marks (frame_node f) x ∙ a.wide

    write_acks : (o : Leaves) → Wrote p s f d i o → Acks o.session
    write_acks o (wrote.refuses k g z) = subst (λ (x : Leaves). Acks x.session) (sym z) a
    write_acks o (wrote.hears n q z) = subst (λ (x : Leaves). Acks x.session) (sym z) (away _ (wide_after _) q)
    write_acks o (wrote.spends n q z) = subst (λ (x : Leaves). Acks x.session) (sym z) (away _ (wide_after _) refl)
    write_acks o (wrote.opens n q z) = subst (λ (x : Leaves). Acks x.session) (sym z) (fresh _ refl)
    write_acks o (wrote.stores n q z) = subst (λ (x : Leaves). Acks x.session) (sym z) (marked s f a q (stored n q))
    write_acks o (wrote.ends n q m z) = subst (λ (x : Leaves). Acks x.session) (sym z) (away _ (wide_after _) refl)

    abbrev WriteDoneBy : Leaves → Type 0
    WriteDoneBy o = (v : Timestamp) (m : ℕ) → o.said ≡ done v m → Quorum (replies p) (stamp_number v)

    no_write : (o : Leaves) (x : Leaves) → o ≡ x → is_done x.said ≡ false → WriteDoneBy o
    no_write o x z h v m w = absurd (clash (ap is_done (sym w ∙ ap (λ (y : Leaves). y.said) z) ∙ h))

    write_done : (o : Leaves) → Wrote p s f d i o → WriteDoneBy o
    write_done o (wrote.refuses k g z) v m y = no_write o _ z refl v m y
    write_done o (wrote.hears n q z) v m y = no_write o _ z refl v m y
    write_done o (wrote.spends n q z) v m y = no_write o _ z refl v m y
    write_done o (wrote.opens n q z) v m y = no_write o _ z refl v m y
    write_done o (wrote.stores n q z) v m y = no_write o _ z refl v m y
    write_done o (wrote.ends n q many z) v m y =
        let l = write_ladder p s f d (length i) in
        let t : s.stamp ≡ v = let x : done s.stamp 0 ≡ done v m = sym (ap (λ (x : Leaves). x.said) z) ∙ y in cc in
        let range = (both (same_operation Write s.operation) (in_range p s d) (not-false (same_operation Write s.operation and in_range p s d) (clear l n 9))).1 in
        subst (λ (x : Timestamp). Quorum (replies p) (stamp_number x)) t (full s f a q (stored n q) d (not-false (plan_ok p) (clear l n 1)) range (low n) many)

  write_calls : (s : Session) (d : List ℕ) (cs : List Turn) → Acks s → Calls (WriteTurn p) s d cs → EachTurn Tells cs → EachTurn (Dones (replies p)) cs
  write_calls s d [] a h t = tt
  write_calls s d (c ∷ cs) a h t =
      let takes : None (write_ladder p s c.reply d (length c.item)) → Takes c =
      λ n. subst (λ (o : Leaves). is_refused o.said ≡ false) (sym h.0.1.is) (wrote.none_takes p s c.reply d c.item n) in
      let w = subst (Wrote p s c.reply d c.item) (sym h.0.1.is) (wrote.wrote_so p s c.reply d c.item) in (
        write_done s c.reply d c.item a (λ n. t.0 (takes n)) _ w,
        write_calls c.took.session c.desk_left cs (write_acks s c.reply d c.item a (λ n. t.0 (takes n)) _ w) h.1 t.1,
      )

  -- A WRITE THAT IS DONE: of N-t or more nodes
  pub write_quorum : (a : Ask) (r : Opened) → OpenCall Write p a r → r.answer ≡ (Ok tt) → (d : List ℕ) (cs : List Turn) → Calls (WriteTurn p) r.session d cs
      → EachTurn Tells cs → EachTurn (Dones (replies p)) cs
  write_quorum a r opens e d cs h t = write_calls r.session d cs (subst Acks (sym (accepted_session Write p a r opens e)) (fresh _ refl)) h t
