-- A late reply of an earlier round is never counted. Document 01, "Records, books, frames". Over any calls of one operation, refused ones
-- among them:
--   one_call           a call leaves the open round as it is, or ends the session, or opens the next round, whose ask number is 1 more
--   asks_rise          so the ask number of every earlier round is smaller than that of the open one
--   late_write_reply late_read_reply     and a reply that bears the ask number of an earlier round is refused, 10 or one before it in the
--                      order, and nothing changes
--   asks_between       from an accepted opening on every round's ask number is the opening one or at most W above it
--   other_write_reply other_read_reply   so a reply to any other ask number, as to one of an earlier operation, is refused in the same way
-- Assumes nothing.
use Rattle.std.specs.Prelude.{Ok}
use Prim.{Unit, tt}
use Prim.Native.Nat.{ℕ, ◌+◌, ◌-◌, ◌*◌, ◌≤◌, ◌<◌}
use mathlib.Core.Path.{◌≡◌, refl, sym, ap, ◌∙◌, subst}
use mathlib.Core.Bool.{Bool, true, false, cond, not}
use mathlib.Core.List.{List, [], ◌∷◌, ◌++◌}
use mathlib.Core.Logic.{◌⊎◌, inl, inr}
use native.Mathlib.Omega.{arith}
use borrow.Author.Tests.{ltb-true, ltb-false, eqb-true, eqb-false, ne_eqb, not-false}
use lib.Dec.{eqb}
use lib.ListN.{length}
use Rattle.terms.specs.Ladder.{Rung, on, first, ◌and◌, None}
use Rattle.terms.specs.Stamp.{time, top}
use Rattle.terms.specs.Terms.{plan_ok, record_length}
use Rattle.terms.specs.declared.Ask.{Ask}
use Rattle.terms.specs.declared.Plan.{Plan}
use Rattle.terms.specs.declared.Timestamp.{Timestamp}
use Rattle.terms.proofs.Down.{clear}
use Rattle.terms.proofs.Rungs.{clash, both}
use Rattle.frame.specs.Frame.{frame_node, ask_of, body_of, good_reply, one_of}
use Rattle.rounds.specs.declared.Heard.{Heard}
use Rattle.rounds.specs.declared.Heard.TheVariants.{Record}
use Rattle.rounds.specs.Rounds.{heard_count, Closed}
use Rattle.session.specs.declared.Session.{Session}
use Rattle.session.specs.declared.Took.{Took}
use Rattle.standing.specs.declared.Operation.{Operation}
use Rattle.standing.specs.declared.Operation.TheVariants.{Write, Read}
use Rattle.session.specs.declared.opening.Opened.{Opened}
use Rattle.standing.specs.Standing.{is_storing, is_ended, replies, lengths_ok, same_operation, ask_in}
use Rattle.session.specs.Session.{ask_now, marked_of, next_of, storing_of, refused, said_of, round_open}
use Rattle.session.specs.Opening.{OpenCall}
use Rattle.session.specs.Ranges.{in_range}
use Rattle.session.specs.Reply.{awaited, is_heard, reply_ladder, record_ladder}
use Rattle.session.specs.Reader.{Outcome, outcome, closed, read_reply, ReadReplyCall}
use Rattle.session.specs.Writer.{Leaves, leaves, timed_of, kth_reply, write_reply, WriteReplyCall}
use Rattle.session.proofs.Rules.{range_stands}
use Rattle.session.proofs.Openings.{accepted_session}
use Rattle.session.proofs.Closings as shapes
use Rattle.client.specs.Asks.{Goes, stays, ends, opens, Moves, IsOver, NotCounted}
use Rattle.client.specs.Endings.{read_ladder, write_ladder, heard_as, after_reply, desk_after}
use Rattle.client.specs.Turns.{Turn, EitherTurn, Calls}
use Rattle.client.specs.Sessions.{last_session}
use Rattle.terms.proofs.Ladders as ladders
use Rattle.client.proofs.Reading as reading
use Rattle.client.proofs.Writing as writing
use Rattle.client.proofs.Client as client
use Rattle.client.proofs.Sessions.{every_round}

-- ---- one call
-- a session as it was, but for its marks and its times
still : (s u : Session) → u.round.stage ≡ s.round.stage → u.round.number ≡ s.round.number → u.opening ≡ s.opening → Moves s u
unfolding ask_in
still s u a b c =
    record { opening = c; goes = stays a b (λ j. cond (is_storing (a j)) ((c j).0 + b j) ((c j).0 + (b j - 1))) }

module _ (s : Session) (low : 1 ≤ s.round.number) (going : is_ended s.round.stage ≡ false) (asks : is_storing s.round.stage ≡ false) (h : Heard) (k : ℕ) (t : Timestamp) where
  next_opens : Moves s (next_of (marked_of s k h) t)
  unfolding ask_in
  next_opens = record { opening = refl; goes = opens going refl (rw asks (omega arith)) }

  repair_opens : Moves s (storing_of (marked_of s k h) t)
  unfolding ask_in
  repair_opens = record { opening = refl; goes = opens going refl (rw asks (omega arith)) }

  write_opens : (x : ℕ) → Moves s (storing_of (timed_of s k x) t)
  unfolding ask_in
  write_opens x = record { opening = refl; goes = opens going refl (rw asks (omega arith)) }

module _ (p : Plan) (s : Session) (f d i : List ℕ) where
  low_round : in_range p s d ≡ true → 1 ≤ s.round.number
  low_round e = (range_stands p s d e).low

  abbrev To : Outcome → Type 0
  To o = Moves s o.session

  -- the close of the round with this reply
  abbrev close : Closed
  close = closed p (after_reply p s f) (desk_after p f d)

  read_moves : To (read_reply p s f d i)
  read_moves =
      subst To (sym (reading.one_ladder p s f d i))
      (ladders.by_ladder To (read_ladder p s f d (length i)) (λ (k : ℕ). outcome (refused k) s d i) _ (λ k g. still s s refl refl refl)
      (λ n. subst To (reading.is_accepted p s f d i n) (go n (is_storing s.round.stage) refl)))
    where
      closing : None (read_ladder p s f d (length i)) → is_storing s.round.stage ≡ false → To (reading.act_of p s f d i)
      closing n q =
          let low = low_round (reading.taken p s f d (length i) n).range in
          let going = (clear (read_ladder p s f d (length i)) n 14) in
          shapes.goes To p (after_reply p s f) close (desk_after p f d) i
          (record {
            finds = λ x y. record { opening = refl; goes = ends refl };
            never = record { opening = refl; goes = ends refl };
            aborts = record { opening = refl; goes = ends refl };
            spends = λ g. record { opening = refl; goes = ends refl };
            next = λ a l g. next_opens s low going q (heard_as p f) (frame_node f) close.stamp;
            repairs = λ a l v. repair_opens s low going q (heard_as p f) (frame_node f) close.stamp;
          })

      asks : None (read_ladder p s f d (length i)) → is_storing s.round.stage ≡ false → (x : Bool) → round_open p (after_reply p s f) ≡ x
          → To (read_reply p s f d i)
      asks n q true h = subst To (sym (reading.waits_read p s f d i n q (ltb-true _ _ h))) (still s (after_reply p s f) refl refl refl)
      asks n q false h = subst To (sym (reading.closes_read p s f d i n q (ltb-false _ _ h))) (closing n q)

      stores : None (read_ladder p s f d (length i)) → is_storing s.round.stage ≡ true
          → (x : Bool) → round_open p (marked_of s (frame_node f) Record) ≡ x → To (read_reply p s f d i)
      stores n q true h = subst To (sym (reading.waits_repair p s f d i n q (ltb-true _ _ h))) (still s (marked_of s (frame_node f) Record) refl refl refl)
      stores n q false h = subst To (sym (reading.ends_repair p s f d i n q (ltb-false _ _ h))) (record { opening = refl; goes = ends refl })

      go : None (read_ladder p s f d (length i)) → (x : Bool) → is_storing s.round.stage ≡ x → To (read_reply p s f d i)
      go n true q = stores n q (round_open p (marked_of s (frame_node f) Record)) refl
      go n false q = asks n q (round_open p (after_reply p s f)) refl

  abbrev Leads : Leaves → Type 0
  Leads o = Moves s o.session

  abbrev asked : Session
  asked = timed_of s (frame_node f) (time (body_of f))

  write_moves : Leads (write_reply p s f d i)
  write_moves =
      subst Leads (sym (writing.one_ladder p s f d i))
      (ladders.by_ladder Leads (write_ladder p s f d (length i)) (λ (k : ℕ). leaves (refused k) s d) _ (λ k g. still s s refl refl refl)
      (λ n. subst Leads (writing.one_ladder p s f d i ∙ ladders.is_passed (write_ladder p s f d (length i)) (λ (k : ℕ). leaves (refused k) s d) _ n)
      (go n (is_storing s.round.stage) refl)))
    where
      range : None (write_ladder p s f d (length i)) → in_range p s d ≡ true
      range n = (both (same_operation Write s.operation) (in_range p s d) (not-false (same_operation Write s.operation and in_range p s d) (clear (write_ladder p s f d (length i)) n 9))).1

      full : (n : None (write_ladder p s f d (length i))) → is_storing s.round.stage ≡ false → replies p ≤ heard_count asked.marks
          → (x : Bool) → eqb (kth_reply p asked) top ≡ x → Leads (write_reply p s f d i)
      full n q h true g =
          subst Leads (sym (writing.spends_clock p s f d i n q h (eqb-true (kth_reply p asked) top g))) (record { opening = refl; goes = ends refl })
      full n q h false g =
          subst Leads (sym (writing.opens_write p s f d i n q h (eqb-false (kth_reply p asked) top g)))
          (write_opens s (low_round (range n)) (clear (write_ladder p s f d (length i)) n 14) q Record (frame_node f) _ (time (body_of f)))

      asks : None (write_ladder p s f d (length i)) → is_storing s.round.stage ≡ false → (x : Bool) → round_open p asked ≡ x
          → Leads (write_reply p s f d i)
      asks n q true h = subst Leads (sym (writing.waits_time p s f d i n q (ltb-true _ _ h))) (still s asked refl refl refl)
      asks n q false h = full n q (ltb-false _ _ h) (eqb (kth_reply p asked) top) refl

      stores : None (write_ladder p s f d (length i)) → is_storing s.round.stage ≡ true
          → (x : Bool) → round_open p (marked_of s (frame_node f) Record) ≡ x → Leads (write_reply p s f d i)
      stores n q true h = subst Leads (sym (writing.waits_write p s f d i n q (ltb-true _ _ h))) (still s (marked_of s (frame_node f) Record) refl refl refl)
      stores n q false h = subst Leads (sym (writing.ends_write p s f d i n q (ltb-false _ _ h))) (record { opening = refl; goes = ends refl })

      go : None (write_ladder p s f d (length i)) → (x : Bool) → is_storing s.round.stage ≡ x → Leads (write_reply p s f d i)
      go n true q = stores n q (round_open p (marked_of s (frame_node f) Record)) refl
      go n false q = asks n q (round_open p asked) refl

-- A CALL LEAVES THE OPEN ROUND AS IT IS, OR ENDS THE SESSION, OR OPENS THE NEXT ROUND, whose ask number is 1 more: a refused reply and one
-- that its round goes on after are of the first kind
pub one_call : (p : Plan) (s : Session) (d : List ℕ) (t : Turn) → EitherTurn p s d t → Moves s t.took.session
one_call p s d t (inl c) = subst (λ (o : Leaves). Moves s o.session) (sym c.1.is) (write_moves p s t.reply d t.item)
one_call p s d t (inr c) = subst (λ (o : Outcome). Moves s o.session) (sym c.1.is) (read_moves p s t.reply d t.item)

-- ---- many calls
-- the round of s is the one that is open at u, or u has ended, or u has a greater ask number
data Later (s u : Session) : Type 0 where
  same : u.round.stage ≡ s.round.stage → u.round.number ≡ s.round.number → ask_now u ≡ ask_now s → Later s u
  over : is_ended u.round.stage ≡ true → Later s u
  greater : ask_now s < ask_now u → Later s u

then_goes : (s u v : Session) → Later s u → Goes u v → Later s v
then_goes s u v (same a b c) (stays x y z) = same (x ∙ a) (y ∙ b) (z ∙ c)
then_goes s u v (same a b c) (opens x y z) = greater (omega arith)
then_goes s u v (over e) (stays x y z) = over (ap is_ended x ∙ e)
then_goes s u v (over e) (opens x y z) = absurd (clash (sym e ∙ x))
then_goes s u v (greater l) (stays x y z) = greater (omega arith)
then_goes s u v (greater l) (opens x y z) = greater (omega arith)
then_goes s u v w (ends e) = over e

later : (p : Plan) (s u : Session) (d : List ℕ) (cs : List Turn) → Later s u → Calls (EitherTurn p) u d cs → Later s (last_session u cs)
later p s u d [] w h = w
later p s u d (c ∷ cs) w h =
    later p s c.took.session c.desk_left cs
    (then_goes s u c.took.session w (one_call p u d c h.0).goes) h.1

same_opening : (p : Plan) (s : Session) (d : List ℕ) (cs : List Turn) → Calls (EitherTurn p) s d cs → (last_session s cs).opening ≡ s.opening
same_opening p s d [] h = refl
same_opening p s d (c ∷ cs) h =
    same_opening p c.took.session c.desk_left cs h.1 ∙ (one_call p s d c h.0).opening

-- THE ASK NUMBER OF AN EARLIER ROUND IS SMALLER THAN THAT OF THE OPEN ONE: cs are the calls since s was handed back
pub asks_rise : (p : Plan) (s : Session) (d : List ℕ) (cs : List Turn) → Calls (EitherTurn p) s d cs → IsOver s (last_session s cs)
    → is_ended (last_session s cs).round.stage ≡ false → ask_now s < ask_now (last_session s cs)
asks_rise p s d cs h past going = go (later p s s d cs (same refl refl refl) h)
  where
    go : Later s (last_session s cs) → ask_now s < ask_now (last_session s cs)
    go (same a b c) = absurd (past a b)
    go (over e) = absurd (clash (sym e ∙ going))
    go (greater l) = l

-- ---- a reply that is not awaited
-- what holds of the refusals before a rung that applies, and of its own, holds of the outcome
abbrev EachNumber : (ℕ → Type 0) → List Rung → Type 0
EachNumber P [] = Unit {0}
EachNumber P (x ∷ l) = P x.number × EachNumber P l

stops_by : {A : Type 0} (P : A → Type 0) (l r : List Rung) (k : ℕ) (c : Bool) (refuse : ℕ → A) (pass : A) → c ≡ true
    → EachNumber (λ (j : ℕ). P (refuse j)) l → P (refuse k) → P (first (l ++ (on k c ∷ r)) refuse pass)
unfolding first
stops_by P [] r k c refuse pass e h g = rw e g
stops_by {A} P (x ∷ l) r k c refuse pass e h g = go x.applies (stops_by P l r k c refuse pass e h.1 g)
  where
    go : (b : Bool) → P (first (l ++ (on k c ∷ r)) refuse pass) → P (cond b (refuse x.number) (first (l ++ (on k c ∷ r)) refuse pass))
    go true more = h.0
    go false more = more

-- the numbers up to 10, in the client's order
abbrev early : List ℕ
early = 1 ∷ 2 ∷ 9 ∷ 14 ∷ 4 ∷ 10 ∷ []

turned_away : {A : Type 0} (P : A → Type 0) (refuse : ℕ → A) (pass : A) (op : Operation) (p : Plan) (s : Session) (f d : List ℕ) (item : ℕ) (more : List Rung)
    → ((k : ℕ) → one_of k early ≡ true → P (refuse k)) → (is_ended s.round.stage ≡ true) ⊎ (awaited s f ≡ false) → P (first (reply_ladder op p s f d item ++ more) refuse pass)
unfolding one_of
turned_away P refuse pass op p s f d item more h (inl e) =
    stops_by P (on 1 (not (plan_ok p)) ∷ on 2 (not (lengths_ok p (length d) item)) ∷ on 9 (not (same_operation op s.operation and in_range p s d)) ∷ [])
    (on 4 (not (good_reply p f)) ∷ on 10 (not (awaited s f)) ∷ on 11 (is_heard s (frame_node f)) ∷ more) 14 (is_ended s.round.stage) refuse pass e
    (h 1 refl, (h 2 refl, (h 9 refl, tt))) (h 14 refl)
turned_away P refuse pass op p s f d item more h (inr e) =
    stops_by P
    (on 1 (not (plan_ok p)) ∷
    on 2 (not (lengths_ok p (length d) item)) ∷
    on 9 (not (same_operation op s.operation and in_range p s d)) ∷
    on 14 (is_ended s.round.stage) ∷
    on 4 (not (good_reply p f)) ∷ [])
    (on 11 (is_heard s (frame_node f)) ∷ more) 10 (not (awaited s f)) refuse pass (ap not e) (h 1 refl, (h 2 refl, (h 9 refl, (h 14 refl, (h 4 refl, tt))))) (h 10 refl)

soon : (k : ℕ) → one_of k early ≡ true → NotCounted (refused k)
soon k e = record { number = k; is = refl; early = e }

-- the session has ended, or awaits another ask number
module _ (p : Plan) (s : Session) (f d i : List ℕ) (open_other : is_ended s.round.stage ≡ false → ask_of f ≡ ask_now s → ⊥) where
  missed : (is_ended s.round.stage ≡ true) ⊎ (awaited s f ≡ false)
  unfolding awaited
  missed = go (is_ended s.round.stage) refl
    where
      go : (x : Bool) → is_ended s.round.stage ≡ x → (is_ended s.round.stage ≡ true) ⊎ (awaited s f ≡ false)
      go true q = inl q
      go false q = inr (unfold awaited in rw (ne_eqb (ask_of f) (ask_now s) (open_other q)))

  refused_write : (t : Took) (d₂ : List ℕ) → WriteReplyCall p s f d i t d₂ → NotCounted (said_of t.answer) × (t.session ≡ s) × (d₂ ≡ d)
  unfolding write_reply
  refused_write t d₂ c =
      let n : NotCounted (said_of t.answer) =
      subst (λ (o : Leaves). NotCounted o.said) (sym c.is) (turned_away (λ (o : Leaves). NotCounted o.said) _ _ Write p s f d (length i) [] soon missed) in
      let k = client.write_refused p s f d i t d₂ c n.number n.is in
      (n, k.1, k.2)

  refused_read : (t : Took) (d₂ i₂ : List ℕ) → ReadReplyCall p s f d i t d₂ i₂ → NotCounted (said_of t.answer) × (t.session ≡ s) × (d₂ ≡ d) × (i₂ ≡ i)
  unfolding read_reply
  refused_read t d₂ i₂ c =
      let n : NotCounted (said_of t.answer) =
      subst (λ (o : Outcome). NotCounted o.said) (sym c.is) (turned_away (λ (o : Outcome). NotCounted o.said) _ _ Read p s f d (length i) (record_ladder p s f) soon missed) in
      let k = client.read_refused p s f d i t d₂ i₂ c n.number n.is in
      (n, k.1, k.2, k.3)

-- A LATE REPLY OF AN EARLIER ROUND IS NEVER COUNTED. s is a session of an operation, cs are the calls since, whatever they were, and the round
-- that was open at s is over. Then a reply with the ask number of that round is refused, 10 or one before it in the order, and leaves the
-- session and every buffer, whichever are lent with it, as they came: to a writer and to a reader.
module _ (p : Plan) (s : Session) (d : List ℕ) (cs : List Turn) (h : Calls (EitherTurn p) s d cs) (past : IsOver s (last_session s cs))
    (f : List ℕ) (bears : ask_of f ≡ ask_now s) (e i : List ℕ) where
  gone : is_ended (last_session s cs).round.stage ≡ false → ask_of f ≡ ask_now (last_session s cs) → ⊥
  gone q z = omega (arith, asks_rise p s d cs h past q)

  pub late_write_reply : (t : Took) (e₂ : List ℕ) → WriteReplyCall p (last_session s cs) f e i t e₂
      → NotCounted (said_of t.answer) × (t.session ≡ last_session s cs) × (e₂ ≡ e)
  late_write_reply = refused_write p (last_session s cs) f e i gone

  pub late_read_reply : (t : Took) (e₂ i₂ : List ℕ) → ReadReplyCall p (last_session s cs) f e i t e₂ i₂
      → NotCounted (said_of t.answer) × (t.session ≡ last_session s cs) × (e₂ ≡ e) × (i₂ ≡ i)
  late_read_reply = refused_read p (last_session s cs) f e i gone

-- FROM AN ACCEPTED OPENING ON, every round's ask number is at least the opening one and at most W above it: "The caller gives each operation
-- an ask number range that it has not used."
module _ (op : Operation) (p : Plan) (a : Ask) (r : Opened) (opened : OpenCall op p a r) (accepted : r.answer ≡ (Ok tt))
    (d : List ℕ) (long : length d ≡ p.n * record_length p) (cs : List Turn) (h : Calls (EitherTurn p) r.session d cs) where
  abbrev now : Session
  now = last_session r.session cs

  pub asks_between : (a.0 ≤ ask_now now) × (ask_now now ≤ a.0 + p.w)
  unfolding ask_in
  asks_between = go (is_storing now.round.stage)
    where
      from : now.opening.0 ≡ a.0
      from = ap (λ (x : Ask). x.0) (same_opening p r.session d cs h ∙ ap (λ (x : Session). x.opening) (accepted_session op p a r opened accepted))

      go : (x : Bool) → (a.0 ≤ cond x (now.opening.0 + now.round.number) (now.opening.0 + (now.round.number - 1)))
          × (cond x (now.opening.0 + now.round.number) (now.opening.0 + (now.round.number - 1)) ≤ a.0 + p.w)
      go true = let q = every_round op p a r opened accepted d long cs h in let z = from in (omega arith, omega arith)
      go false = let q = every_round op p a r opened accepted d long cs h in let z = from in (omega arith, omega arith)

  -- so a reply to another ask number, as that of another operation, is not counted either
  module _ (f : List ℕ) (other : (ask_of f < a.0) ⊎ (a.0 + p.w < ask_of f)) (e i : List ℕ) where
    outside : is_ended now.round.stage ≡ false → ask_of f ≡ ask_now now → ⊥
    outside q z = go other
      where
        go : (ask_of f < a.0) ⊎ (a.0 + p.w < ask_of f) → ⊥
        go (inl l) = let b = asks_between in omega arith
        go (inr l) = let b = asks_between in omega arith

    pub other_write_reply : (t : Took) (e₂ : List ℕ) → WriteReplyCall p now f e i t e₂ → NotCounted (said_of t.answer) × (t.session ≡ now) × (e₂ ≡ e)
    other_write_reply = refused_write p now f e i outside

    pub other_read_reply : (t : Took) (e₂ i₂ : List ℕ) → ReadReplyCall p now f e i t e₂ i₂
        → NotCounted (said_of t.answer) × (t.session ≡ now) × (e₂ ≡ e) × (i₂ ≡ i)
    other_read_reply = refused_read p now f e i outside
