-- NEVER BELOW A TIMESTAMP: the client's share of "never an older sheet". Q nodes have executed a write of timestamp ts, and of each record that the read takes of
-- them, asked without a bound or below one above ts, the timestamp is ts or a greater one. Then no round closes below ts: INCOMPLETE or more of the N-t that a
-- round heard executed it (heard_executors), so its candidate is at or above ts (high_candidate); and where it is ts, the set is not incomplete
-- (not_few) and validates, so that the next round, if there is one, is asked below a bound above ts.
--   Holds              what is known between two calls
--   never_below        the core, over all calls of a read
-- P is what is known of the records that replies bring: they are bytes, those of ts have one cross checksum, and a set of ts validates. Assumes nothing.
use Prim.{Unit, tt}
use Prim.Native.Nat.{ℕ, ◌+◌, ◌*◌, ◌≤◌, ◌<◌, ◌^◌}
use mathlib.Core.Path.{◌≡◌, refl, sym, ap, ◌∙◌, subst}
use mathlib.Core.Bool.{Bool, true, false}
use mathlib.Core.List.{List, [], ◌∷◌, ◌++◌}
use mathlib.Core.Logic.{inl, inr}
use native.Mathlib.Decide.{ℕ_discrete}
use native.Mathlib.Omega.{arith}
use borrow.Author.Tests.{not-false}
use lib.Dec.{eqb}
use lib.ListN.{length, length-set}
use Rattle.octets.specs.Bytes.{part, num, be, Octets}
use Rattle.octets.proofs.Laws.{part_part, part_all, length_be, slot_room}
use Rattle.octets.proofs.Meaning.{part_add, is_alike, num_be, part_small}
use Rattle.terms.specs.Ladder.{None, ◌and◌}
use Rattle.terms.specs.Stamp.{stamp, stamp_number}
use Rattle.terms.specs.Terms.{plan_ok, record_length, slots_of, incomplete_at}
use Rattle.terms.specs.declared.Plan.{Plan}
use Rattle.terms.proofs.Down.{clear}
use Rattle.terms.proofs.Facts.{facts}
use Rattle.terms.proofs.Places.{record_length_lem}
use Rattle.terms.proofs.Plans.{plan_is}
use Rattle.terms.proofs.Rungs.{both, clash}
use Rattle.terms.proofs.Stamps.{stamp_at_number}
use Rattle.frame.specs.Frame.{frame_node}
use Rattle.record.specs.Record.{stamp_of, cross_of}
use Rattle.record.specs.Desk.{slot_of}
use Rattle.record.proofs.Records.{stamp_at_lem}
use Rattle.recover.specs.Recover.{sound}
use Rattle.rounds.specs.declared.Heard.{Heard}
use Rattle.rounds.specs.declared.Heard.TheVariants.{Unheard, First, Record}
use Rattle.std.specs.declared.option.Option.TheVariants as option
use Rattle.rounds.specs.Rounds.{unheards, heard_count, heard_at, bit_of, mark_of, slot_stamp, joins_of, set_of, rest_unheard}
use Rattle.rounds.specs.Numbers.{number_of}
use Rattle.rounds.proofs.Closes.{candidate}
use Rattle.rounds.proofs.Laws.{mark_set, mark_other}
use Rattle.rounds.proofs.Numbers.{number_none, number_both, number_more, number_left, heard_number, set_number}
use Rattle.standing.specs.declared.Stage.{Stage}
use Rattle.standing.specs.declared.Stage.TheVariants.{Asking, Storing, Ended}
use Rattle.standing.specs.declared.Operation.TheVariants.{Read}
use Rattle.standing.specs.Standing.{is_read, is_asking, is_storing, replies, same_operation}
use Rattle.session.specs.declared.Session.{Session}
use Rattle.session.specs.Session.{read_round, marked_of, next_of, said_of}
use Rattle.session.specs.Ranges.{in_range}
use Rattle.session.specs.Reader.{Outcome, closed}
use Rattle.session.proofs.Closings.{led, lead_low}
use Rattle.session.proofs.Made.{rest_set}
use Rattle.session.proofs.Rules.{range_stands}
use Rattle.client.specs.Endings.{read_ladder, heard_as, after_reply, desk_after, Candidate, size, valid, Fails}
use Rattle.client.specs.Turns.{Turn, ReadTurn, Calls}
use Rattle.client.specs.Repair.{EachTurn}
use Rattle.client.specs.Held.{EverySlot}
use Rattle.client.specs.Older.{Above, AtLeast, Heeds, OpensAbove, NotBelow}
use Rattle.client.proofs.Bytes.{one_stamp}
use Rattle.client.proofs.Reading.{Taken, taken}
use Rattle.client.proofs.Round.Order.{length_after}
use Rattle.client.proofs.Slots.{mark_none, long_slot, none_marked, Brings, EachBrings, reply_heard}
use Rattle.client.proofs.Held.{lead_of, is_asking_lem, at_asking, at_storing, Closing, KeepsAt, Keeps, left, is_taken, one}
use Rattle.client.proofs.Went as went
use Rattle.client.proofs.Went.{Went}

-- ---- marks
first_record : First ≡ Record → ⊥
first_record z = let y : ◌≡◌ {A = ℕ} 0 1 = cc in omega arith

unheard_first : Unheard ≡ First → ⊥
unheard_first z = let y : ◌≡◌ {A = ℕ} 0 1 = cc in omega arith

is_record : (h : Heard) → eqb (bit_of h) 1 ≡ true → (h ≡ First → ⊥) → h ≡ Record
is_record Unheard e n = absurd (clash (sym e))
is_record First e n = absurd (n refl)
is_record Record e n = refl

module _ (p : Plan) (ok : plan_ok p ≡ true) (ts : ℕ) (executed : ℕ → Bool) (enough : p.q ≤ number_of executed p.n) where
  -- the record of a node that executed the write
  abbrev High : ℕ → List ℕ → Type 0
  High k rec = executed k ≡ true → ts ≤ stamp rec

  -- a read round: of those nodes none is marked first triple, and a slot that is marked record holds ts or a greater one
  pub record Asked (s : Session) (d : List ℕ) : Type 0 where
    pub wide : length s.marks ≡ 16
    pub firsts : (k : ℕ) → executed k ≡ true → mark_of s.marks k ≡ First → ⊥
    pub high : EverySlot High p s.marks d
    pub above : Above ts s.round.bound

  opens_asked : (s : Session) (d : List ℕ) → s.marks ≡ unheards → Above ts s.round.bound → Asked s d
  opens_asked s d e a =
      record {
        wide = ap length e;
        firsts = λ k x z. unheard_first (sym (mark_none 16 k) ∙ ap (λ (m : List Heard). mark_of m k) (sym e) ∙ z);
        high = subst (λ (m : List Heard). EverySlot High p m d) (sym e) (none_marked High p d);
        above = a;
      }

  -- by the stage
  abbrev HoldsAt : Stage → Session → List ℕ → Type 0
  HoldsAt Asking s d = Asked s d
  HoldsAt Storing s d = ts ≤ stamp_number s.stamp
  HoldsAt Ended s d = Unit {0}

  abbrev pub Holds : Session → List ℕ → Type 0
  Holds s d = HoldsAt s.round.stage s d

  -- ---- an accepted reply of a read round
  module _ (s : Session) (f d : List ℕ) (item : ℕ) (n : None (read_ladder p s f d item)) (k : Asked s d) (heeds : executed (frame_node f) ≡ true → AtLeast p ts f) where
    t : Taken p s f d item
    t = taken p s f d item n

    inside : frame_node f < length s.marks
    inside = omega (arith, k.wide, (plan_is p ok).n_high, t.node)

    still_asked : Asked (after_reply p s f) (desk_after p f d)
    still_asked =
        record {
          wide = length-set s.marks (frame_node f) (heard_as p f) ∙ k.wide;
          firsts = λ j x z. by j x z (ℕ_discrete j (frame_node f));
          high = reply_heard High p s f d item n k.high (λ b l q x. (heeds x).high);
          above = k.above;
        }
      where
        heard : executed (frame_node f) ≡ true → heard_as p f ≡ Record
        heard x = rw (heeds x).borne

        by : (j : ℕ) → executed j ≡ true → mark_of (after_reply p s f).marks j ≡ First → Dec (j ≡ frame_node f) → ⊥
        by j x z (yes q) =
            first_record (sym z ∙ ap (mark_of (after_reply p s f).marks) q ∙ mark_set s.marks (frame_node f) (heard_as p f) inside ∙ heard (sym (ap executed q) ∙ x))
        by j x z (no q) = k.firsts j x (sym (mark_other s.marks (frame_node f) j (heard_as p f) q) ∙ z)

    rest_so : rest_unheard (after_reply p s f).marks p.n ≡ true
    rest_so = rest_set s.marks p.n (frame_node f) (heard_as p f) t.node ∙ (range_stands p s d t.range).rest

  -- ---- the close of a read round
  module _ (P : ℕ → List ℕ → Type 0) (octets : (k : ℕ) (rec : List ℕ) → P k rec → Octets rec)
      (one_cross : (j k : ℕ) (x y : List ℕ) → P j x → P k y → stamp x ≡ ts → stamp y ≡ ts → 40 ≤ length x → 40 ≤ length y → cross_of p x ≡ cross_of p y)
      (validates : (u : Session) (e : List ℕ) (a : ℕ) → Closing P p u e a → stamp_number (closed p u e).stamp ≡ ts → sound p (closed p u e) a e ≡ true) where
    module _ (u : Session) (e : List ℕ) (long : length e ≡ p.n * record_length p) (k : Asked u e) (rest : rest_unheard u.marks p.n ≡ true)
        (slots : EverySlot P p u.marks e) (full : replies p ≤ heard_count u.marks) where
      both_so : ℕ → Bool
      both_so j = executed j and heard_at u.marks j

      -- INCOMPLETE OR MORE OF THE HEARD EXECUTED IT
      heard_executors : incomplete_at p ≤ number_of both_so p.n
      unfolding both_so
      heard_executors =
          let z = facts p ok in
          let h = heard_number u.marks p.n (omega (arith, k.wide, (plan_is p ok).n_high)) rest in
          omega (arith, number_both executed (heard_at u.marks) p.n, h, full, enough, z.liars_short, z.faults_short)

      is_marked : (j : ℕ) → both_so j ≡ true → (executed j ≡ true) × (mark_of u.marks j ≡ Record)
      unfolding both_so
      is_marked j x =
          let q = both (executed j) (heard_at u.marks j) x in
          (q.0, is_record (mark_of u.marks j) q.1 (k.firsts j q.0))

      stamp_in : (j : ℕ) → slot_stamp e (slots_of p) j ≡ stamp (slot_of p e j)
      unfolding slot_stamp
      stamp_in j = sym (stamp_at_lem p e (j * record_length p))

      -- one of them
      record Some : Type 0 where
        node : ℕ
        low : node < p.n
        marked : mark_of u.marks node ≡ Record
        high : ts ≤ stamp (slot_of p e node)

      some : Some
      some =
          let l = number_left both_so (λ (j : ℕ). false) p.n (omega (arith, number_none p.n, heard_executors, (facts p ok).liars_short)) in
          let m = is_marked l.node l.is in
          record { node = l.node; low = l.low; marked = m.1; high = k.high l.node l.low m.1 m.0 }

      -- THE CANDIDATE IS AT OR ABOVE ts
      module _ (a : ℕ) (leads : (closed p u e).lead ≡ option.Some a) where
        low : a < p.n
        low = lead_low p u e a (led p u e a leads)

        greatest : (j : ℕ) → j < p.n → mark_of u.marks j ≡ Record → stamp (slot_of p e j) ≤ stamp (slot_of p e a)
        greatest j l m =
            let g = (candidate u.marks e (slots_of p) p.n a (led p u e a leads).leads).greatest j l m in
            omega (arith, g, stamp_in j, stamp_in a)

        number : stamp_number (closed p u e).stamp ≡ stamp (slot_of p e a)
        number =
            ap stamp_number (led p u e a leads).stamp_is
            ∙ stamp_at_number e (a * record_length p) (omega (arith, slot_room a p.n (record_length p) (length e) low (omega (arith, long)), record_length_lem p))
            ∙ sym (stamp_at_lem p e (a * record_length p))

        high_candidate : ts ≤ stamp_number (closed p u e).stamp
        high_candidate = let x = some in omega (arith, number, greatest x.node x.low x.marked, x.high)

        marked_lead : mark_of u.marks a ≡ Record
        marked_lead = (candidate u.marks e (slots_of p) p.n a (led p u e a leads).leads).marked

        -- its bound, in a request, is its number
        bound_number : stamp (be 40 (stamp_number (closed p u e).stamp)) ≡ stamp_number (closed p u e).stamp
        bound_number =
            let x = stamp_number (closed p u e).stamp in
            let o = octets a (slot_of p e a) (slots a low marked_lead) in
            let h : x < 256 ^ 40 = subst (λ (y : ℕ). y < 256 ^ 40) (sym number) (part_small (slot_of p e a) 0 40 o) in
            ap num (ap (part (be 40 x) 0) (sym (length_be 40 x)) ∙ part_all (be 40 x)) ∙ num_be 40 x h

        -- where it is ts, all of them are in the set
        module _ (same : stamp_number (closed p u e).stamp ≡ ts) where
          head : (j : ℕ) → part e (j * record_length p) (slots_of p).head ≡ stamp_of (slot_of p e j) ++ cross_of p (slot_of p e j)
          head j =
              let z : j * record_length p ≡ j * record_length p + 0 = omega arith in
              ap (λ (y : ℕ). part e y (slots_of p).head) z
              ∙ sym (part_part e (j * record_length p) (record_length p) 0 (slots_of p).head (omega (arith, record_length_lem p)))
              ∙ part_add (slot_of p e j) 0 40 (32 * p.n)

          head_same : (j : ℕ) → j < p.n → mark_of u.marks j ≡ Record → stamp (slot_of p e j) ≡ ts
              → part e (j * record_length p) (slots_of p).head ≡ part e (a * record_length p) (slots_of p).head
          head_same j l m h =
              let x = slots j l m in
              let y = slots a low marked_lead in
              let g : stamp (slot_of p e a) ≡ ts = sym number ∙ same in
              let b = one_stamp (slot_of p e j) (slot_of p e a) (octets j _ x) (octets a _ y) (omega (arith, long_slot p e j long l, record_length_lem p)) (omega (arith, long_slot p e a long low, record_length_lem p)) (h ∙ sym g) in
              let c = one_cross j a _ _ x y h g (omega (arith, long_slot p e j long l, record_length_lem p)) (omega (arith, long_slot p e a long low, record_length_lem p)) in
              head j ∙ (λ i. b i ++ c i) ∙ sym (head a)

          joins : (j : ℕ) → j < p.n → both_so j ≡ true → joins_of e (slots_of p) a j (mark_of u.marks j) ≡ true
          unfolding joins_of
          joins j l x =
              let m = is_marked j x in
              let h : stamp (slot_of p e j) ≡ ts = omega (arith, k.high j l m.1 m.0, greatest j l m.1, number, same) in
              rw m.1 (is_alike _ _ (head_same j l m.1 h))

          not_few : incomplete_at p ≤ length (set_of u.marks e (slots_of p) a p.n)
          not_few =
              omega (
                arith,
                heard_executors,
                set_number u.marks e (slots_of p) a p.n,
                number_more both_so (λ (j : ℕ). joins_of e (slots_of p) a j (mark_of u.marks j)) p.n joins,
              )

          -- and it validates
          is_valid : p.m ≤ length (closed p u e).nodes → sound p (closed p u e) a e ≡ true
          is_valid m = validates u e a (record { plan = ok; long = long; leads = leads; size = m; slots = slots }) same

    -- ---- one call
    abbrev Good : Outcome → Type 0
    Good o = NotBelow ts o.said × Holds o.session o.desk

    module _ (s : Session) (f d i : List ℕ) (hold : Holds s d) (keeps : Keeps P p s d) (brings : None (read_ladder p s f d (length i)) → Brings P p f)
        (heeds : None (read_ladder p s f d (length i)) → read_round s ≡ true → Above ts s.round.bound → executed (frame_node f) ≡ true → AtLeast p ts f) where
      abbrev u : Session
      u = after_reply p s f

      abbrev e : List ℕ
      e = desk_after p f d

      module _ (n : None (read_ladder p s f d (length i))) where
        in_repair : is_storing s.round.stage ≡ true → ts ≤ stamp_number s.stamp
        in_repair q = subst (λ (x : Stage). HoldsAt x s d) (at_storing s.round.stage q) hold

        module _ (q : is_storing s.round.stage ≡ false) where
          stage : s.round.stage ≡ Asking
          stage = at_asking s.round.stage q (clear (read_ladder p s f d (length i)) n 14)

          asked : Asked s d
          asked = subst (λ (x : Stage). HoldsAt x s d) stage hold

          reads : read_round s ≡ true
          reads =
              let b = both (same_operation Read s.operation) (in_range p s d)
              (not-false (same_operation Read s.operation and in_range p s d) (clear (read_ladder p s f d (length i)) n 9)) in
              rw (b.0, stage)

          now : Asked u e
          now = still_asked s f d (length i) n asked (heeds n reads asked.above)

          slots : EverySlot P p u.marks e
          slots = reply_heard P p s f d (length i) n (subst (λ (x : Stage). KeepsAt x P p s d) stage keeps) (brings n)

          long : length e ≡ p.n * record_length p
          long = let t = taken p s f d (length i) n in length_after p d f t.node t.desk

          rest : rest_unheard u.marks p.n ≡ true
          rest = rest_so s f d (length i) n asked (heeds n reads asked.above)

          module _ (full : replies p ≤ heard_count u.marks) where
            at_candidate : (a : ℕ) → Candidate p s f d a → ts ≤ stamp_number (closed p u e).stamp
            at_candidate a c = high_candidate u e long now rest slots full a (lead_of p s f d a c)

            -- a round that is incomplete or does not validate is above ts
            fails_above : (a : ℕ) → Candidate p s f d a → Fails p (size p s f d a) (valid p s f d a) → ts < stamp_number (closed p u e).stamp
            fails_above a c w = go (ℕ_discrete (stamp_number (closed p u e).stamp) ts)
              where
                sized_so : p.m ≤ size p s f d a → p.m ≤ length (closed p u e).nodes
                sized_so m = omega (arith, ap length (led p u e a (lead_of p s f d a c)).nodes_are, m)

                never : stamp_number (closed p u e).stamp ≡ ts → Fails p (size p s f d a) (valid p s f d a) → ⊥
                never q (inl l) = omega (arith, l, not_few u e long now rest slots full a (lead_of p s f d a c) q)
                never q (inr (v, inl l)) =
                    clash (sym (is_valid u e long now rest slots full a (lead_of p s f d a c) q (sized_so (omega (arith, l, (facts p ok).high_decodes)))) ∙ v)
                never q (inr (v, inr (l, m))) =
                    clash (sym (is_valid u e long now rest slots full a (lead_of p s f d a c) q (sized_so (omega (arith, l, (facts p ok).low_decodes m)))) ∙ v)

                go : Dec (stamp_number (closed p u e).stamp ≡ ts) → ts < stamp_number (closed p u e).stamp
                go (yes q) = absurd (never q w)
                go (no q) = omega (arith, at_candidate a c, q)

            next_asked : (a : ℕ) → Candidate p s f d a → Fails p (size p s f d a) (valid p s f d a) → Asked (next_of u (closed p u e).stamp) e
            next_asked a c w =
                opens_asked (next_of u (closed p u e).stamp) e refl
                (omega (arith, fails_above a c w, bound_number u e long now rest slots full a (lead_of p s f d a c)))

            never_not : ((k : ℕ) → k < p.n → mark_of u.marks k ≡ Record → ⊥) → ⊥
            never_not h = let x = some u e long now rest slots full in h x.node x.low x.marked

      good : (o : Outcome) → Went p s f d i o → Good o
      good o (went.refuses k g z) = subst Good (sym z) (tt, hold)
      good o (went.hears n q z) = subst Good (sym z) (tt, subst (λ (x : Stage). HoldsAt x u e) (sym (stage n q)) (now n q))
      good o (went.stores n q z) =
          subst Good (sym z) (tt, subst (λ (x : Stage). HoldsAt x (marked_of s (frame_node f) Record) d) (sym (at_storing s.round.stage q)) (in_repair n q))
      good o (went.next w z) = let c = w.closes in subst Good (sym z) (tt, next_asked c.accepted c.asks c.enough w.node w.candidate w.fails)
      good o (went.repairs w z) = let c = w.closes in subst Good (sym z) (tt, at_candidate c.accepted c.asks c.enough w.node w.candidate)
      good o (went.finds w z) = let c = w.closes in subst Good (sym z) (at_candidate c.accepted c.asks c.enough w.node w.candidate, tt)
      good o (went.ends w z) = subst Good (sym z) (in_repair w.accepted w.stores, tt)
      good o (went.never w z) = let c = w.closes in absurd (never_not c.accepted c.asks c.enough w.first)
      good o (went.aborts w z) = subst Good (sym z) (tt, tt)
      good o (went.spends w z) = subst Good (sym z) (tt, tt)

    -- ---- all calls
    abbrev Safe : Turn → Type 0
    Safe c = NotBelow ts (said_of c.took.answer)

    all_calls : (s : Session) (d : List ℕ) (cs : List Turn) → Holds s d → Keeps P p s d → Calls (ReadTurn p) s d cs → EachBrings P p cs
        → Calls (Heeds p ts executed) s d cs → EachTurn Safe cs
    all_calls s d [] h k m b v = tt
    all_calls s d (c ∷ cs) h k m b v =
        let takes = is_taken P p s d c m.0 in
        let g = good s c.reply d c.item h k (λ n. b.0 (takes n)) (λ n. v.0 (takes n)) (left P p c) (subst (Went p s c.reply d c.item) (sym m.0.1.is) (went.went p s c.reply d c.item)) in
        (g.0, all_calls c.took.session c.desk_left cs g.1 (one P p s d c k b.0 m.0).keeps m.1 b.1 v.1)

    -- NEVER BELOW ts, of a read from a round that opens, without a bound or below one above ts
    pub never_below : (s : Session) (d : List ℕ) (cs : List Turn) → OpensAbove ts s → Calls (ReadTurn p) s d cs → EachBrings P p cs
        → Calls (Heeds p ts executed) s d cs → EachTurn (λ (c : Turn). NotBelow ts (said_of c.took.answer)) cs
    never_below s d cs o m b v =
        let e : s.round.stage ≡ Asking = is_asking_lem s.round.stage (both (is_read s.operation) (is_asking s.round.stage) o.opens.round).1 in
        all_calls s d cs (subst (λ (x : Stage). HoldsAt x s d) (sym e) (opens_asked s d o.opens.marks o.above))
        (subst (λ (x : Stage). KeepsAt x P p s d) (sym e) (subst (λ (l : List Heard). EverySlot P p l d) (sym o.opens.marks) (none_marked P p d))) m b v
