-- When a reply to a reader gives each of its answers: gives, and gives-so the other way. Assumes nothing.
use Prim.Native.Nat.{ℕ, ◌*◌, ◌≤◌, ◌<◌}
use mathlib.Core.Path.{◌≡◌, refl, sym, ap, ◌∙◌, subst}
use mathlib.Core.Bool.{Bool, true, false, cond}
use mathlib.Core.List.{List}
use mathlib.Core.Logic.{◌⊎◌, inl, inr}
use native.Mathlib.Omega.{arith}
use borrow.Author.Tests.{ltb-true, ltb-false, leb-true, leb-false, lt-leb, le-leb, not-false}
use lib.Dec.{leb}
use lib.ListN.{length}
use Rattle.octets.specs.Bytes.{put}
use Rattle.terms.specs.Ladder.{first, ◌and◌, None}
use Rattle.terms.specs.Stamp.{stamp_at}
use Rattle.terms.specs.Terms.{plan_ok, record_length, complete_at, incomplete_at, decided, slots_of, thresholds_of}
use Rattle.terms.specs.declared.Plan.{Plan}
use Rattle.terms.specs.declared.Member.{Member}
use Rattle.terms.specs.declared.Member.TheVariants.{Repairable, NonRepair}
use Rattle.terms.specs.declared.Class.TheVariants as class
use Rattle.terms.specs.declared.Verdict.{Verdict}
use Rattle.terms.specs.declared.Verdict.TheVariants as verdict
use Rattle.terms.proofs.Down.{clear}
use Rattle.terms.proofs.Rungs.{both}
use Rattle.terms.proofs.Facts.{is_complete, is_incomplete, is_unclassifiable, decided_is}
use Rattle.frame.specs.Frame.{frame_node, body_of, good_reply}
use Rattle.frame.proofs.Frames.{reply_is}
use Rattle.rounds.specs.declared.Heard.TheVariants.{First, Record}
use Rattle.std.proofs.Common.{Option}
use Rattle.std.specs.declared.option.Option.TheVariants as option
use Rattle.rounds.specs.Rounds.{heard_count, mark_of, lead_of, Closed, close_with}
use Rattle.rounds.proofs.Laws.{lead_room}
use Rattle.rounds.proofs.Closes.{candidate, no_candidate}
use Rattle.session.specs.declared.Session.{Session}
use Rattle.standing.specs.declared.Operation.TheVariants.{Read}
use Rattle.standing.specs.Standing.{is_storing, replies, lengths_ok, same_operation}
use Rattle.session.specs.Session.{marked_of, ended_of, next_of, storing_of, Said, refused, still_open, done, never_written, aborted, rounds_spent, clock_spent, round_open}
use Rattle.session.specs.Ranges.{in_range}
use Rattle.session.specs.Reply.{bears}
use Rattle.recover.specs.Recover.{decoded, collected, repaired}
use Rattle.session.specs.Reader.{Outcome, outcome, failing, acted, closed, settled, heard, stored, accepted, read_reply}
use Rattle.standing.proofs.Rules.{lengths_are}
use Rattle.session.proofs.Rules.{range_stands, few_open, many_over}
use Rattle.session.proofs.Readers as readers
use Rattle.client.specs.Endings.{read_ladder, after_reply, desk_after, Closes, Candidate, size, valid, Fails, ReadGives}
use Rattle.terms.proofs.Ladders as ladders

-- ---- a set, by its size: one of three
pub data Sorted (k : Member) (high low n : ℕ) : Type 0 where
  whole : high ≤ n → decided k high low n ≡ verdict.Complete → Sorted k high low n
  mended : n < high → low ≤ n → k ≡ Repairable → decided k high low n ≡ verdict.Repair → Sorted k high low n
  unsure : n < high → low ≤ n → k ≡ NonRepair → decided k high low n ≡ verdict.Aborted → Sorted k high low n
  short : n < high → n < low → decided k high low n ≡ verdict.Incomplete → Sorted k high low n

module _ (k : Member) (high low n : ℕ) where
  pub whole_is : high ≤ n → decided k high low n ≡ verdict.Complete
  whole_is h = sym (decided_is k k high low n class.Complete class.Complete (is_complete high low n h) refl refl)

  pub mended_is : n < high → low ≤ n → k ≡ Repairable → decided k high low n ≡ verdict.Repair
  mended_is h l m = sym (decided_is k Repairable high low n class.Unclassifiable class.Unclassifiable (is_unclassifiable high low n h l) refl m)

  pub unsure_is : n < high → low ≤ n → k ≡ NonRepair → decided k high low n ≡ verdict.Aborted
  unsure_is h l m = sym (decided_is k NonRepair high low n class.Unclassifiable class.Unclassifiable (is_unclassifiable high low n h l) refl m)

  short_is : n < high → n < low → decided k high low n ≡ verdict.Incomplete
  short_is h l = sym (decided_is k k high low n class.Incomplete class.Incomplete (is_incomplete high low n h l) refl refl)

  pub sorted : Sorted k high low n
  sorted = go (leb high n) (leb low n) refl refl k refl
    where
      go : (x y : Bool) → leb high n ≡ x → leb low n ≡ y → (j : Member) → k ≡ j → Sorted k high low n
      go true y e f j m = let h = leb-true high n e in whole h (whole_is h)
      go false true e f Repairable m =
          let h = leb-false high n e in let l = leb-true low n f in mended h l m (mended_is h l m)
      go false true e f NonRepair m =
          let h = leb-false high n e in let l = leb-true low n f in unsure h l m (unsure_is h l m)
      go false false e f j m =
          let h = leb-false high n e in let l = leb-false low n f in short h l (short_is h l)

-- ---- an accepted reply of a read round
pub heard_settles : (p : Plan) (s : Session) (f d i : List ℕ) → heard p s f d i ≡ settled p (after_reply p s f) (desk_after p f d) i
unfolding heard
heard_settles p s f d i = go (bears p f)
  where
    go : (x : Bool) → cond x (settled p (marked_of s (frame_node f) Record) (put d (frame_node f * record_length p) (body_of f)) i)
        (settled p (marked_of s (frame_node f) First) d i) ≡ settled p (marked_of s (frame_node f) (cond x Record First)) (cond x (put d (frame_node f * record_length p) (body_of f)) d) i
    go true = refl
    go false = refl

-- what is known where nothing refuses
pub record Taken (p : Plan) (s : Session) (f d : List ℕ) (item : ℕ) : Type 0 where
  pub plan : plan_ok p ≡ true
  pub desk : length d ≡ p.n * record_length p
  pub range : in_range p s d ≡ true
  pub node : frame_node f < p.n
  pub frame : good_reply p f ≡ true

pub taken : (p : Plan) (s : Session) (f d : List ℕ) (item : ℕ) → None (read_ladder p s f d item) → Taken p s f d item
taken p s f d item n =
    record {
      plan = not-false (plan_ok p) (clear (read_ladder p s f d item) n 1);
      desk = (lengths_are p (length d) item (not-false (lengths_ok p (length d) item) (clear (read_ladder p s f d item) n 2))).desk_is;
      range = (both (same_operation Read s.operation) (in_range p s d) (not-false (same_operation Read s.operation and in_range p s d) (clear (read_ladder p s f d item) n 9))).1;
      node = (reply_is p f (not-false (good_reply p f) (clear (read_ladder p s f d item) n 4))).node_low;
      frame = not-false (good_reply p f) (clear (read_ladder p s f d item) n 4);
    }

module _ (p : Plan) (s : Session) (f d i : List ℕ) where
  abbrev refuse : ℕ → Outcome
  refuse k = outcome (refused k) s d i

  -- the session and the desk with this reply, and the close
  abbrev u : Session
  u = after_reply p s f

  abbrev e : List ℕ
  e = desk_after p f d

  abbrev c : Closed
  c = closed p u e

  -- what the round comes to if it closes with this reply
  abbrev pub act_of : Outcome
  act_of = acted p u c e i

  pub one_ladder : read_reply p s f d i ≡ first (read_ladder p s f d (length i)) refuse (accepted p s f d i)
  unfolding read_reply
  one_ladder = refl

  -- ---- a candidate
  module _ (a : ℕ) (h : Candidate p s f d a) where
    led : c ≡ close_with u.marks e (slots_of p) p.member (thresholds_of p) (option.Some a)
    led = ap (close_with u.marks e (slots_of p) p.member (thresholds_of p)) h

    lead_is : c.lead ≡ option.Some a
    unfolding close_with
    lead_is = ap (λ (x : Closed). x.lead) led

    verdict_is : c.verdict ≡ decided p.member (complete_at p) (incomplete_at p) (size p s f d a)
    unfolding close_with
    verdict_is = ap (λ (x : Closed). x.verdict) led

    pub stamp_is : c.stamp ≡ stamp_at e (a * record_length p)
    unfolding close_with
    stamp_is = ap (λ (x : Closed). x.stamp) led

    abbrev act : Outcome
    act = acted p u c e i

    pub is_done : decided p.member (complete_at p) (incomplete_at p) (size p s f d a) ≡ verdict.Complete → valid p s f d a ≡ true
        → act ≡ outcome (done c.stamp s.round.number) (ended_of u) e (decoded p c e i)
    is_done v w =
        sym (readers.act_led p u c e i a _ lead_is
        (readers.act_done p u c a e i c.verdict (valid p s f d a) (ended_of u) (decoded p c e i) (verdict_is ∙ v) refl w refl refl))

    pub is_mended : decided p.member (complete_at p) (incomplete_at p) (size p s f d a) ≡ verdict.Repair → valid p s f d a ≡ true
        → act ≡ outcome still_open (storing_of u c.stamp) (repaired p c a e) i
    is_mended v w =
        sym (readers.act_led p u c e i a _ lead_is
        (readers.act_repair p u c a e i c.verdict (valid p s f d a) (storing_of u c.stamp) (repaired p c a e) (verdict_is ∙ v) refl w refl refl))

    pub is_aborted : decided p.member (complete_at p) (incomplete_at p) (size p s f d a) ≡ verdict.Aborted → act ≡ outcome (aborted s.round.number) (ended_of u) e i
    is_aborted v = sym (readers.act_led p u c e i a _ lead_is (readers.act_aborted p u c a e i c.verdict (ended_of u) (verdict_is ∙ v) refl))

    pub is_failing : Fails p (size p s f d a) (valid p s f d a) → act ≡ failing p u c.stamp e i
    is_failing w = go (sorted p.member (complete_at p) (incomplete_at p) (size p s f d a)) w
      where
        ill : (v : Verdict) → c.verdict ≡ v → valid p s f d a ≡ false → (v ≡ verdict.Complete) ⊎ (v ≡ verdict.Repair) → act ≡ failing p u c.stamp e i
        ill v k n (inl q) =
            sym (readers.act_led p u c e i a _ lead_is (readers.act_ill p u c a e i c.verdict (valid p s f d a) _ (k ∙ q) refl n refl))
        ill v k n (inr q) =
            sym (readers.act_led p u c e i a _ lead_is (readers.act_unsound p u c a e i c.verdict (valid p s f d a) _ (k ∙ q) refl n refl))

        low : decided p.member (complete_at p) (incomplete_at p) (size p s f d a) ≡ verdict.Incomplete → act ≡ failing p u c.stamp e i
        low v = sym (readers.act_led p u c e i a _ lead_is (readers.act_incomplete p u c a e i c.verdict _ (verdict_is ∙ v) refl))

        unlike : Repairable ≡ NonRepair → ⊥
        unlike z = let y : ◌≡◌ {A = ℕ} 0 1 = cc in omega arith

        go : Sorted p.member (complete_at p) (incomplete_at p) (size p s f d a) → Fails p (size p s f d a) (valid p s f d a) → act ≡ failing p u c.stamp e i
        go (short g h v) w = low v
        go (whole g v) (inl h) = absurd (omega arith)
        go (whole g v) (inr h) = ill _ verdict_is h.0 (inl v)
        go (mended g l m v) (inl h) = absurd (omega arith)
        go (mended g l m v) (inr h) = ill _ verdict_is h.0 (inr v)
        go (unsure g l m v) (inl h) = absurd (omega arith)
        go (unsure g l m v) (inr (n, inl h)) = absurd (omega arith)
        go (unsure g l m v) (inr (n, inr h)) = absurd (unlike (sym h.1 ∙ m))

  -- ---- an accepted reply
  module _ (n : None (read_ladder p s f d (length i))) where
    t : Taken p s f d (length i)
    t = taken p s f d (length i) n

    pub is_accepted : read_reply p s f d i ≡ accepted p s f d i
    is_accepted = one_ladder ∙ ladders.is_passed (read_ladder p s f d (length i)) refuse (accepted p s f d i) n

    pub low_round : s.round.number ≤ p.w
    low_round = (range_stands p s d t.range).high

    -- the desk keeps its length, and the candidate's slot lies in it
    in_read : is_storing s.round.stage ≡ false → read_reply p s f d i ≡ settled p u e i
    unfolding accepted
    in_read q = is_accepted ∙ rw q (heard_settles p s f d i)

    in_repair : is_storing s.round.stage ≡ true → read_reply p s f d i ≡ stored p (marked_of s (frame_node f) Record) d i
    unfolding accepted
    in_repair q = is_accepted ∙ rw q

    pub waits_read : is_storing s.round.stage ≡ false → heard_count u.marks < replies p → read_reply p s f d i ≡ outcome still_open u e i
    unfolding settled
    waits_read q h = in_read q ∙ rw (few_open p u h)

    pub closes_read : is_storing s.round.stage ≡ false → replies p ≤ heard_count u.marks → read_reply p s f d i ≡ acted p u c e i
    unfolding settled
    closes_read q h = in_read q ∙ rw (many_over p u h)

    pub waits_repair : is_storing s.round.stage ≡ true → heard_count (marked_of s (frame_node f) Record).marks < replies p
        → read_reply p s f d i ≡ outcome still_open (marked_of s (frame_node f) Record) d i
    unfolding stored
    waits_repair q h = in_repair q ∙ rw (few_open p (marked_of s (frame_node f) Record) h)

    pub ends_repair : is_storing s.round.stage ≡ true → replies p ≤ heard_count (marked_of s (frame_node f) Record).marks
        → read_reply p s f d i ≡ outcome (done s.stamp s.round.number) (ended_of (marked_of s (frame_node f) Record)) d (collected p d i)
    unfolding stored
    ends_repair q h = in_repair q ∙ rw (many_over p (marked_of s (frame_node f) Record) h)

    pub spends : (a : ℕ) → Candidate p s f d a → Fails p (size p s f d a) (valid p s f d a) → s.round.number ≡ p.w
        → acted p u c e i ≡ outcome (rounds_spent s.round.number) (ended_of u) e i
    unfolding failing
    spends a h w q = is_failing a h w ∙ rw (le-leb p.w s.round.number (omega arith))

    pub goes_on : (a : ℕ) → Candidate p s f d a → Fails p (size p s f d a) (valid p s f d a) → s.round.number < p.w
        → acted p u c e i ≡ outcome still_open (next_of u c.stamp) e i
    unfolding failing
    goes_on a h w q = is_failing a h w ∙ rw (lt-leb p.w s.round.number q)

    pub never : ((k : ℕ) → k < p.n → mark_of u.marks k ≡ Record → ⊥) → acted p u c e i ≡ outcome (never_written s.round.number) (ended_of u) e i
    never h = go (lead_of u.marks e (slots_of p) p.n) refl
      where
        go : (l : Option ℕ) → lead_of u.marks e (slots_of p) p.n ≡ l → acted p u c e i ≡ outcome (never_written s.round.number) (ended_of u) e i
        go option.None q =
            let z : c ≡ close_with u.marks e (slots_of p) p.member (thresholds_of p) option.None =
            ap (close_with u.marks e (slots_of p) p.member (thresholds_of p)) q in
            let l : c.lead ≡ option.None = ap (λ (x : Closed). x.lead) z ∙ (unfold close_with in refl) in
            sym (readers.act_never p u c e i (ended_of u) l refl)
        go (option.Some a) q =
            absurd (h a (lead_room u.marks e (slots_of p) p.n a (lead_of u.marks e (slots_of p) p.n) refl q)
            (candidate u.marks e (slots_of p) p.n a q).marked)

    -- ---- it gives one of the answers, with its condition
    abbrev Gives : Outcome → Type 0
    Gives o = ReadGives p s f d (length i) o.said

    closed_gives : is_storing s.round.stage ≡ false → replies p ≤ heard_count u.marks → Gives (acted p u c e i)
    closed_gives q g = go (lead_of u.marks e (slots_of p) p.n) refl
      where
        k : Closes p s f d (length i)
        k = record { accepted = n; asks = q; enough = g }

        rest : (a : ℕ) → Candidate p s f d a → Fails p (size p s f d a) (valid p s f d a) → (y : Bool) → leb p.w s.round.number ≡ y → Gives (acted p u c e i)
        rest a h w true y =
            let z : s.round.number ≡ p.w = let b = leb-true p.w s.round.number y in let r = low_round in omega arith in
            subst Gives (sym (spends a h w z)) (record { closes = k; node = a; candidate = h; fails = w; last = z; counted = refl })
        rest a h w false y =
            let z = leb-false p.w s.round.number y in
            subst Gives (sym (goes_on a h w z)) (inr (inl (record { closes = k; node = a; candidate = h; fails = w; more = z })))

        by_size : (a : ℕ) (h : Candidate p s f d a) → Sorted p.member (complete_at p) (incomplete_at p) (size p s f d a) → (y : Bool) → valid p s f d a ≡ y
            → Gives (acted p u c e i)
        by_size a h (whole x v) true y =
            subst Gives (sym (is_done a h v y))
            (inl (record { closes = k; node = a; candidate = h; full = x; validated = y; of = stamp_is a h; counted = refl }))
        by_size a h (whole x v) false y = rest a h (inr (y, inl x)) (leb p.w s.round.number) refl
        by_size a h (mended x l m v) true y =
            subst Gives (sym (is_mended a h v y))
            (inr (inr (record { closes = k; node = a; candidate = h; low = l; high = x; member = m; validated = y })))
        by_size a h (mended x l m v) false y = rest a h (inr (y, inr (l, m))) (leb p.w s.round.number) refl
        by_size a h (unsure x l m v) w y =
            subst Gives (sym (is_aborted a h v)) (record { closes = k; node = a; candidate = h; low = l; high = x; member = m; counted = refl })
        by_size a h (short x l v) w y = rest a h (inl l) (leb p.w s.round.number) refl

        go : (l : Option ℕ) → lead_of u.marks e (slots_of p) p.n ≡ l → Gives (acted p u c e i)
        go option.None h =
            let z = no_candidate u.marks e (slots_of p) p.n h in
            subst Gives (sym (never z)) (record { closes = k; first = z; counted = refl })
        go (option.Some a) h = by_size a h (sorted p.member (complete_at p) (incomplete_at p) (size p s f d a)) (valid p s f d a) refl

    accepted_gives : Gives (accepted p s f d i)
    accepted_gives = subst Gives is_accepted (go (is_storing s.round.stage) refl)
      where
        stores : is_storing s.round.stage ≡ true → (x : Bool) → round_open p (marked_of s (frame_node f) Record) ≡ x → Gives (read_reply p s f d i)
        stores q true h =
            let z = ltb-true _ _ h in
            subst Gives (sym (waits_repair q z)) (inl (record { accepted = n; few = rw q z }))
        stores q false h =
            let z = ltb-false _ _ h in
            subst Gives (sym (ends_repair q z)) (inr (record { accepted = n; stores = q; enough = z; of = refl; counted = refl }))

        asks : is_storing s.round.stage ≡ false → (x : Bool) → round_open p u ≡ x → Gives (read_reply p s f d i)
        asks q true h = let z = ltb-true _ _ h in subst Gives (sym (waits_read q z)) (inl (record { accepted = n; few = rw q z }))
        asks q false h = let z = ltb-false _ _ h in subst Gives (sym (closes_read q z)) (closed_gives q z)

        go : (x : Bool) → is_storing s.round.stage ≡ x → Gives (read_reply p s f d i)
        go true q = stores q (round_open p (marked_of s (frame_node f) Record)) refl
        go false q = asks q (round_open p u) refl

  -- THE ANSWER OF A READ'S REPLY MEETS ITS CONDITION, whichever it is …
  pub gives : ReadGives p s f d (length i) (read_reply p s f d i).said
  gives =
      subst (λ (o : Outcome). ReadGives p s f d (length i) o.said) (sym one_ladder)
      (ladders.by_ladder (λ (o : Outcome). ReadGives p s f d (length i) o.said) (read_ladder p s f d (length i)) refuse (accepted p s f d i)
      (λ k g. g) accepted_gives)

  -- … and wherever the condition of an answer holds, that is the answer.
  pub so_gives : (x : Said) → ReadGives p s f d (length i) x → (read_reply p s f d i).said ≡ x
  so_gives (refused k) g =
      ap (λ (o : Outcome). o.said) (one_ladder ∙ ladders.is_given (read_ladder p s f d (length i)) refuse (accepted p s f d i) k g)
  so_gives still_open (inl g) = go (is_storing s.round.stage) refl g.few
    where
      go : (x : Bool) → is_storing s.round.stage ≡ x → heard_count (cond x (marked_of s (frame_node f) Record) (after_reply p s f)).marks < replies p
          → (read_reply p s f d i).said ≡ still_open
      go true q h = ap (λ (o : Outcome). o.said) (waits_repair g.accepted q h)
      go false q h = ap (λ (o : Outcome). o.said) (waits_read g.accepted q h)
  so_gives still_open (inr (inl g)) =
      let n = g.closes.accepted in
      ap (λ (o : Outcome). o.said) (closes_read n g.closes.asks g.closes.enough ∙ goes_on n g.node g.candidate g.fails g.more)
  so_gives still_open (inr (inr g)) =
      let n = g.closes.accepted in
      ap (λ (o : Outcome). o.said) (closes_read n g.closes.asks g.closes.enough
      ∙ is_mended g.node g.candidate (mended_is p.member (complete_at p) (incomplete_at p) _ g.high g.low g.member) g.validated)
  so_gives (done stamp rounds) (inl g) =
      let n = g.closes.accepted in
      ap (λ (o : Outcome). o.said) (closes_read n g.closes.asks g.closes.enough
      ∙ is_done g.node g.candidate (whole_is p.member (complete_at p) (incomplete_at p) _ g.full) g.validated)
      ∙ (λ k. done ((stamp_is g.node g.candidate ∙ sym g.of) k) (sym g.counted k))
  so_gives (done stamp rounds) (inr g) =
      ap (λ (o : Outcome). o.said) (ends_repair g.accepted g.stores g.enough) ∙ (λ k. done (sym g.of k) (sym g.counted k))
  so_gives (never_written rounds) g =
      let n = g.closes.accepted in
      ap (λ (o : Outcome). o.said) (closes_read n g.closes.asks g.closes.enough ∙ never n g.first) ∙ ap never_written (sym g.counted)
  so_gives (aborted rounds) g =
      let n = g.closes.accepted in
      ap (λ (o : Outcome). o.said) (closes_read n g.closes.asks g.closes.enough
      ∙ is_aborted g.node g.candidate (unsure_is p.member (complete_at p) (incomplete_at p) _ g.high g.low g.member)) ∙ ap aborted (sym g.counted)
  so_gives (rounds_spent rounds) g =
      let n = g.closes.accepted in
      ap (λ (o : Outcome). o.said) (closes_read n g.closes.asks g.closes.enough ∙ spends n g.node g.candidate g.fails g.last)
      ∙ ap rounds_spent (sym g.counted)
  so_gives clock_spent g = absurd g
