-- THE NEW TIME OF A WRITE AGAINST THE NODES THAT ANSWERED (document 02, Q-2). With at most b lying nodes it is at most one above an honest reply
-- (near_an_honest_reply), and the clock is spent only by an honest one (spent_by_an_honest_reply). A write that Q nodes of ours executed before they
-- answered is passed (passes_what_is_complete). Where b is 0, line 13 of READ_TIMESTAMP is the report's (figure_2_itself). Assumes nothing.
use Prim.{Unit, tt}
use Prim.Native.Nat.{ℕ, ◌+◌, ◌-◌, ◌≤◌, ◌<◌}
use mathlib.Core.Path.{◌≡◌, refl, sym, ap, ◌∙◌, subst}
use mathlib.Core.Bool.{Bool, true, false, cond}
use mathlib.Core.List.{List, [], ◌∷◌}
use native.Mathlib.Omega.{arith}
use borrow.Author.Tests.{leb-true, leb-false, le-leb, eq-eqb, not-false}
use lib.Dec.{leb}
use lib.ListN.{length}
use Rattle.terms.specs.Ladder.{Rung}
use Rattle.terms.specs.Terms.{larger, plan_ok}
use Rattle.terms.specs.Stamp.{time, top}
use Rattle.terms.specs.declared.Plan.{Plan}
use Rattle.terms.proofs.Facts.{facts}
use Rattle.terms.proofs.Small.{larger_is}
use Rattle.clock.specs.Clock.{or_more, greatest_with, kth_greatest, IsKth}
use Rattle.clock.proofs.Kth.{kth_is, kth_one}
use Rattle.standing.specs.declared.Stage.{Stage}
use Rattle.session.specs.declared.Session.{Session}
use Rattle.session.specs.Session.{Said, clock_spent}
use Rattle.session.specs.Reply.{reply_ladder}
use Rattle.session.proofs.Openings.{accepted_plan}
use Rattle.standing.specs.declared.Operation.TheVariants.{Write}
use Rattle.standing.specs.Standing.{is_storing}
use Rattle.store.specs.History.{last_book}
use Rattle.store.proofs.Kept.{stored_for_good}
use Rattle.store.proofs.Times.{tells_every_time}
use Rattle.client.specs.Turns.{Turn, last_said}
use Rattle.client.specs.Sessions.{last_session, last_desk}
use Rattle.frame.specs.Frame.{frame_node, good_reply, kind_of, body_of, write_request_kind}
use Rattle.frame.proofs.Frames.{reply_is}
use Rattle.report.specs.Triple.{max, In}
use Rattle.report.specs.Figure2.{enough, in_set_of, gathered, Clock, clocks, Times, read_timestamp}
use Rattle.report.specs.Ours.{family, family_with, reported}
use Rattle.report.specs.WriteRun.{Responses, untimed, is_response, clock_of, timing, timed_over, Wrote, EachWrites}
use Rattle.rounds.specs.Numbers.{number_of}
use Rattle.report.specs.NewTime.{ToWrite, new_time_of, time_replies, ToSpent, spent_replies, NearHonest, AnswersAfter}
use Rattle.report.proofs.Lists.{length_each, larger_low, larger_high}
use Rattle.report.proofs.Gathers.{off}
use Rattle.report.proofs.Votes.{node_of, Apart, some_honest, enough_reach}
use Rattle.report.proofs.Write.{KeepsAt, Stores, opened_write_run}

-- ---- the responses of a run: no two of one node, and all of nodes below N
abbrev Low : ℕ → List Clock → Type 0
Low n [] = Unit {0}
Low n (x ∷ l) = (x.S < n) × Low n l

gathered_apart : (n : ℕ) (l : List Clock) → Low n l → Apart n (clocks l)
unfolding gathered
gathered_apart n [] a = tt
gathered_apart n (x ∷ l) a = go (in_set_of node_of x.S (clocks l)) refl (gathered_apart n l a.1)
  where
    go : (t : Bool) → in_set_of node_of x.S (clocks l) ≡ t → Apart n (clocks l) → Apart n (cond t (clocks l) (x ∷ clocks l))
    go true e h = h
    go false e h = (a.0, e, h)

abbrev LowTimes : Plan → Responses → Type 0
LowTimes p w = Low p.n w.times

module _ (p : Plan) (s : Session) (f d i : List ℕ) (w : Responses) (h : LowTimes p w) where
  abbrev ladder : List Rung
  ladder = reply_ladder Write p s f d (length i)

  abbrev with_it : Bool → Responses
  with_it t =
      cond t (record { times = w.times; stored = frame_node f ∷ w.stored; Data = w.Data })
      (record { times = clock_of f ∷ w.times; stored = w.stored; Data = cond (in_set_of node_of (frame_node f) (clocks w.times)) w.Data i })

  low_timing : LowTimes p (timing p s f d i w)
  unfolding timing
  low_timing = go (is_response ladder) refl
    where
      stored : (t : Bool) → frame_node f < p.n → LowTimes p (with_it t)
      stored true l = h
      stored false l = (l, h)

      go : (t : Bool) → is_response ladder ≡ t → LowTimes p (cond t (with_it (is_storing s.round.stage)) w)
      go true e = stored (is_storing s.round.stage) (reply_is p f (not-false (good_reply p f) (off (1 ∷ 2 ∷ 9 ∷ 14 ∷ 4 ∷ 10 ∷ []) ladder e 4 refl))).node_low
      go false e = h

low_run : (p : Plan) (s : Session) (d : List ℕ) (w : Responses) (cs : List Turn) → LowTimes p w → LowTimes p (timed_over p s d w cs)
low_run p s d w [] h = h
low_run p s d w (c ∷ cs) h = low_run p c.took.session c.desk_left (timing p s c.reply d c.item w) cs (low_timing p s c.reply d c.item w h)

run_apart : (p : Plan) (s : Session) (d : List ℕ) (cs : List Turn) → Apart p.n (clocks (timed_over p s d untimed cs).times)
run_apart p s d cs = gathered_apart p.n (timed_over p s d untimed cs).times (low_run p s d untimed cs tt)

-- ---- N-t responses, by line 13
module _ (p : Plan) (ok : plan_ok p ≡ true) (R : List Clock) (apart : Apart p.n R) (full : length R ≡ enough (family p)) where
  long : length (Times R) ≡ p.n - p.t
  unfolding Times
  long = length_each (λ (x : Clock). x.Time) R ∙ full

  kth : IsKth (p.b + 1) (Times R) ((family p).greatest_of (Times R))
  kth = let z = facts p ok in kth_is (p.b + 1) (Times R) (omega arith) (omega (arith, long, z.liars_short, z.low_high, z.high_replies))

  -- b + 1 of them reach it, so that one of those does not lie
  line_13_honest : (lies : ℕ → Bool) → number_of lies p.n ≤ p.b → NearHonest lies R ((family p).greatest_of (Times R) + 1)
  line_13_honest lies few = some_honest lies p.n ((family p).greatest_of (Times R)) R apart (omega (arith, kth.enough))

  -- Q executed it and N-t replied: Q-t replies, b + 1 or more, are of its time or more
  line_13_passes : (executed : ℕ → Bool) (w : ℕ) → p.q ≤ number_of executed p.n → ((x : Clock) → In x R → executed x.S ≡ true → w ≤ x.Time)
      → w ≤ (family p).greatest_of (Times R)
  line_13_passes executed w many h =
      let z = facts p ok in
      kth.greatest w (omega (arith, enough_reach executed p.n w R apart h, full, z.liars_short, z.faults_short, z.high_replies))

-- ---- a node of ours that executed a write tells no lower time
answers_high : (p : Plan) (written : ℕ) (x : Clock) → AnswersAfter p written x → written ≤ x.Time
answers_high p written x a =
    let held = stored_for_good p a.write a.book a.room a.size a.book_left a.room_left a.later a.good a.bytes a.executed
    (eq-eqb (kind_of a.write) write_request_kind a.is_write) a.history in
    let told = tells_every_time p a.request (last_book a.book_left a.later) a.buffer a.is_time a.length a.book_after a.buffer_left a.answered
    a.last_bytes (body_of a.write) held in
    subst (λ (t : ℕ). t ≤ x.Time) a.of (subst (λ (c : Clock). time (body_of a.write) ≤ c.Time) a.is told)

-- ---- a write that came to its write round
module _ (p : Plan) (w : ToWrite p) where
  plan_is_ok : plan_ok p ≡ true
  plan_is_ok = accepted_plan Write p w.ask w.opened w.opens w.accepted

  stores : Stores p (last_session w.opened.session w.turns) (last_desk w.desk w.turns) (timed_over p w.opened.session w.desk untimed w.turns)
  stores =
      subst (λ (x : Stage). KeepsAt x p (last_session w.opened.session w.turns) (last_desk w.desk w.turns) (timed_over p w.opened.session w.desk untimed w.turns))
      w.stores (opened_write_run p w.ask w.opened w.desk w.turns w.opens w.accepted w.calls).keeps

  apart : Apart p.n (time_replies w)
  apart = run_apart p w.opened.session w.desk w.turns

  new_time : new_time_of w ≡ (family p).greatest_of (Times (time_replies w)) + 1
  unfolding read_timestamp
  new_time = stores.at

  -- WITH AT MOST b LYING NODES THE NEW TIME IS AT MOST ONE ABOVE SOME HONEST REPLY
  pub near_an_honest_reply : (lies : ℕ → Bool) → number_of lies p.n ≤ p.b → NearHonest lies (time_replies w) (new_time_of w)
  near_an_honest_reply lies few =
      subst (NearHonest lies (time_replies w)) (sym new_time) (line_13_honest p plan_is_ok (time_replies w) apart stores.sends.times lies few)

  -- A COMPLETE WRITE IS STILL PASSED
  pub passes_what_is_complete : (executed : ℕ → Bool) (written : ℕ) → p.q ≤ number_of executed p.n
      → ((x : Clock) → In x (time_replies w) → executed x.S ≡ true → AnswersAfter p written x) → written < new_time_of w
  passes_what_is_complete executed written many h =
      let q = line_13_passes p plan_is_ok (time_replies w) apart stores.sends.times executed written many (λ x i e. answers_high p written x (h x i e)) in
      omega (arith, new_time)

-- ---- a write that ended clock spent
last_wrote : (p : Plan) (s : Session) (d : List ℕ) (w : Responses) (c : Turn) (cs : List Turn) → EachWrites p s d w (c ∷ cs)
    → Wrote p (last_said c cs) (timed_over p s d w (c ∷ cs))
last_wrote p s d w c [] h = h.0
last_wrote p s d w c (e ∷ cs) h = last_wrote p c.took.session c.desk_left (timing p s c.reply d c.item w) e cs h.2

pub spent_by_an_honest_reply : (p : Plan) (w : ToSpent p) (lies : ℕ → Bool) → number_of lies p.n ≤ p.b → NearHonest lies (spent_replies w) (top + 1)
spent_by_an_honest_reply p w lies few =
    let h = (opened_write_run p w.ask w.opened w.desk (w.first ∷ w.rest) w.opens w.accepted w.calls).tells in
    let q : Wrote p clock_spent (timed_over p w.opened.session w.desk untimed (w.first ∷ w.rest)) =
    subst (λ (x : Said). Wrote p x (timed_over p w.opened.session w.desk untimed (w.first ∷ w.rest))) w.says
    (last_wrote p w.opened.session w.desk untimed w.first w.rest h) in
    subst (λ (v : ℕ). NearHonest lies (spent_replies w) (v + 1)) q.0
    (line_13_honest p (accepted_plan Write p w.ask w.opened w.opens w.accepted) (spent_replies w)
    (run_apart p w.opened.session w.desk (w.first ∷ w.rest)) q.1 lies few)

-- ---- where b is 0
some_there : (l : List ℕ) → 0 < max l → 1 ≤ length l
unfolding max
some_there [] h = h
some_there (x ∷ l) h = omega arith

max_enough : (l : List ℕ) → 1 ≤ length l → 1 ≤ or_more (max l) l
unfolding or_more max
max_enough [] h = absurd (omega arith)
max_enough (x ∷ l) h = go (leb (max l) x) refl (max_enough l)
  where
    go : (t : Bool) → leb (max l) x ≡ t → (1 ≤ length l → 1 ≤ or_more (max l) l) → 1 ≤ cond (leb (larger (max l) x) x) 1 0 + or_more (larger (max l) x) l
    go true e ih = rw (larger_high (max l) x (leb-true (max l) x e), le-leb x x (omega arith)) (omega arith)
    go false e ih =
        let k = leb-false (max l) x e in
        rw (larger_low (max l) x (omega arith)) (omega (arith, ih (some_there l (omega arith))))

max_most : (l : List ℕ) (v : ℕ) → 1 ≤ or_more v l → v ≤ max l
unfolding or_more max
max_most [] v h = absurd (omega arith)
max_most (x ∷ l) v h = go (leb v x) refl h (max_most l v)
  where
    go : (t : Bool) → leb v x ≡ t → 1 ≤ cond t 1 0 + or_more v l → (1 ≤ or_more v l → v ≤ max l) → v ≤ larger (max l) x
    go true e k ih = let j = leb-true v x e in omega (arith, larger_is (max l) x)
    go false e k ih = omega (arith, ih (omega arith), larger_is (max l) x)

first_greatest : (l : List ℕ) → kth_greatest 1 l ≡ max l
unfolding greatest_with max
first_greatest [] = refl
first_greatest (x ∷ l) =
    kth_one 1 (x ∷ l) (kth_greatest 1 (x ∷ l)) (max (x ∷ l)) (kth_is 1 (x ∷ l) (omega arith) (omega arith))
    (record { enough = max_enough (x ∷ l) (omega arith); greatest = λ v h. max_most (x ∷ l) v h })

pub figure_2_itself : (p : Plan) → p.b ≡ 0 → family p ≡ reported p
figure_2_itself p e = λ i. family_with (λ (l : List ℕ). (ap (λ (b : ℕ). kth_greatest (b + 1) l) e ∙ first_greatest l) i) p
