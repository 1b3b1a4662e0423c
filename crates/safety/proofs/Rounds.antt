-- OF ONE OPERATION THE ASK NUMBER TELLS THE ROUND (one_round): two moments at which it has not ended and its ask number is the same are in one round; and
-- in a write or repair round the desk is the same.
--   each_of each_at calls_of calls_on session_on desk_on   calls before a moment, and from it on
-- Assumes nothing.
use Prim.{tt}
use Prim.Native.Nat.{ℕ, ◌<◌}
use mathlib.Core.Path.{◌≡◌, refl, sym, ap, ◌∙◌, subst}
use mathlib.Core.Bool.{true, false}
use mathlib.Core.List.{List, [], ◌∷◌, ◌++◌}
use mathlib.Core.Logic.{◌⊎◌, inl, inr}
use native.Mathlib.Omega.{arith}
use Rattle.terms.specs.declared.Plan.{Plan}
use Rattle.terms.proofs.Rungs.{clash}
use Rattle.standing.specs.declared.Operation.{Operation}
use Rattle.standing.specs.declared.Operation.TheVariants.{Write, Read}
use Rattle.standing.specs.declared.Round.{Round}
use Rattle.standing.specs.Standing.{is_storing, is_ended}
use Rattle.session.specs.declared.Session.{Session}
use Rattle.session.specs.Session.{ask_now, said_of}
use Rattle.session.specs.Reader.{Outcome, outcome}
use Rattle.session.specs.Writer.{Leaves, leaves}
use Rattle.client.specs.Asks.{Goes, stays, ends, opens}
use Rattle.client.specs.Sessions.{last_session, last_desk}
use Rattle.client.specs.Repair.{EachTurn}
use Rattle.client.specs.Turns.{Turn, EitherTurn, Calls}
use Rattle.client.proofs.Asks.{one_call}
use Rattle.client.proofs.Went as went
use Rattle.client.proofs.Went.{Went}
use Rattle.client.proofs.Wrote as wrote
use Rattle.client.proofs.Wrote.{Wrote}
use Rattle.report.specs.Together.{StillAsks}
use Rattle.report.proofs.StillAsks.{still_trans, write_still_asks, read_still_asks}
use Rattle.safety.specs.Run.{Met, Ours, Stands}

-- ---- one call
either : (op : Operation) (p : Plan) (s : Session) (d : List ℕ) (t : Turn) → Met op p s d t → EitherTurn p s d t
either Read p s d t m = inr m
either Write p s d t m = inl m

still : (op : Operation) (p : Plan) (s : Session) (d : List ℕ) (t : Turn) → Met op p s d t → t.took.session.round.stage ≡ s.round.stage
    → t.took.session.round.number ≡ s.round.number → StillAsks s t.took.session
still Read p s d t m = read_still_asks p s d t m
still Write p s d t m = write_still_asks p s d t m

-- in a write or repair round every call leaves the desk
stays_put : (op : Operation) (p : Plan) (s : Session) (d : List ℕ) (t : Turn) → Met op p s d t → is_storing s.round.stage ≡ true → t.desk_left ≡ d
stays_put Read p s d t m q = by (outcome (said_of t.took.answer) t.took.session t.desk_left t.item_left) (subst (Went p s t.reply d t.item) (sym m.1.is) (went.went p s t.reply d t.item))
  where
    not : is_storing s.round.stage ≡ false → ⊥
    not z = clash (sym q ∙ z)

    by : (o : Outcome) → Went p s t.reply d t.item o → o.desk ≡ d
    by o (went.refuses k g z) = ap (λ (x : Outcome). x.desk) z
    by o (went.hears n z e) = absurd (not z)
    by o (went.stores n z e) = ap (λ (x : Outcome). x.desk) e
    by o (went.next w e) = absurd (not w.closes.asks)
    by o (went.repairs w e) = absurd (not w.closes.asks)
    by o (went.finds w e) = absurd (not w.closes.asks)
    by o (went.ends w e) = ap (λ (x : Outcome). x.desk) e
    by o (went.never w e) = absurd (not w.closes.asks)
    by o (went.aborts w e) = absurd (not w.closes.asks)
    by o (went.spends w e) = absurd (not w.closes.asks)
stays_put Write p s d t m q = by (leaves (said_of t.took.answer) t.took.session t.desk_left) (subst (Wrote p s t.reply d t.item) (sym m.1.is) (wrote.wrote_so p s t.reply d t.item))
  where
    by : (o : Leaves) → Wrote p s t.reply d t.item o → o.desk ≡ d
    by o (wrote.refuses k g z) = ap (λ (x : Leaves). x.desk) z
    by o (wrote.hears n z e) = absurd (clash (sym q ∙ z))
    by o (wrote.spends n z e) = absurd (clash (sym q ∙ z))
    by o (wrote.opens n z e) = absurd (clash (sym q ∙ z))
    by o (wrote.stores n z e) = ap (λ (x : Leaves). x.desk) e
    by o (wrote.ends n z m e) = ap (λ (x : Leaves). x.desk) e

-- one round, and where it writes one desk
pub record OneRound (s : Session) (d : List ℕ) (u : Session) (e : List ℕ) : Type 0 where
  pub asks : StillAsks s u
  pub desk : is_storing s.round.stage ≡ true → e ≡ d

-- ---- many calls: the round of s is the one that is open at u, or u has ended, or u has a greater ask number
data Later (s : Session) (d : List ℕ) (u : Session) (e : List ℕ) : Type 0 where
  same : OneRound s d u e → ask_now u ≡ ask_now s → Later s d u e
  over : is_ended u.round.stage ≡ true → Later s d u e
  greater : ask_now s < ask_now u → Later s d u e

then_goes : (s : Session) (d : List ℕ) (u : Session) (e : List ℕ) (v : Session) (g : List ℕ) → Later s d u e → Goes u v
    → (v.round.stage ≡ u.round.stage → v.round.number ≡ u.round.number → StillAsks u v) → (is_storing u.round.stage ≡ true → g ≡ e) → Later s d v g
then_goes s d u e v g (same a b) (stays x y z) k l =
    same (record { asks = still_trans s u v a.asks (k x y); desk = λ q. l (ap (λ (r : Round). is_storing r.stage) a.asks.round ∙ q) ∙ a.desk q }) (z ∙ b)
then_goes s d u e v g (same a b) (opens x y z) k l = greater (omega arith)
then_goes s d u e v g (over q) (stays x y z) k l = over (ap is_ended x ∙ q)
then_goes s d u e v g (over q) (opens x y z) k l = absurd (clash (sym q ∙ x))
then_goes s d u e v g (greater m) (stays x y z) k l = greater (omega arith)
then_goes s d u e v g (greater m) (opens x y z) k l = greater (omega arith)
then_goes s d u e v g w (ends q) k l = over q

later : (op : Operation) (p : Plan) (s : Session) (d : List ℕ) (u : Session) (e : List ℕ) (cs : List Turn) → Later s d u e → Calls (Met op p) u e cs → Later s d (last_session u cs) (last_desk e cs)
later op p s d u e [] w h = w
later op p s d u e (c ∷ cs) w h =
    later op p s d c.took.session c.desk_left cs
    (then_goes s d u e c.took.session c.desk_left w (one_call p u e c (either op p u e c h.0)).goes (still op p u e c h.0) (stays_put op p u e c h.0)) h.1

-- ---- lists of calls
pub each_of : (P : Turn → Type 0) (a b : List Turn) → EachTurn P (a ++ b) → EachTurn P a
each_of P [] b h = tt
each_of P (t ∷ a) b h = (h.0, each_of P a b h.1)

pub each_at : (P : Turn → Type 0) (a : List Turn) (t : Turn) (b cs : List Turn) → cs ≡ a ++ (t ∷ b) → EachTurn P cs → P t
each_at P a t b cs e h = go a (subst (EachTurn P) e h)
  where
    go : (xs : List Turn) → EachTurn P (xs ++ (t ∷ b)) → P t
    go [] k = k.0
    go (x ∷ xs) k = go xs k.1

pub calls_of : (C : Session → List ℕ → Turn → Type 0) (s : Session) (d : List ℕ) (a b : List Turn) → Calls C s d (a ++ b) → Calls C s d a
calls_of C s d [] b h = tt
calls_of C s d (t ∷ a) b h = (h.0, calls_of C t.took.session t.desk_left a b h.1)

pub calls_on : (C : Session → List ℕ → Turn → Type 0) (s : Session) (d : List ℕ) (a b : List Turn) → Calls C s d (a ++ b) → Calls C (last_session s a) (last_desk d a) b
calls_on C s d [] b h = h
calls_on C s d (t ∷ a) b h = calls_on C t.took.session t.desk_left a b h.1

pub session_on : (s : Session) (a b : List Turn) → last_session s (a ++ b) ≡ last_session (last_session s a) b
session_on s [] b = refl
session_on s (t ∷ a) b = session_on t.took.session a b

pub desk_on : (d : List ℕ) (a b : List Turn) → last_desk d (a ++ b) ≡ last_desk (last_desk d a) b
desk_on d [] b = refl
desk_on d (t ∷ a) b = desk_on t.desk_left a b

-- two starts of one list
record More (a b : List Turn) : Type 0 where
  rest : List Turn
  is : b ≡ a ++ rest

pub cons_both : {A : Type 0} (x y : A) (xs ys : List A) → ◌≡◌ {A = List A} (x ∷ xs) (y ∷ ys) → (x ≡ y) × (xs ≡ ys)
cons_both x y xs ys e = (cc, cc)

starts : (a x b y : List Turn) → a ++ x ≡ b ++ y → More a b ⊎ More b a
starts [] x b y e = inl (record { rest = b; is = refl })
starts (t ∷ a) x [] y e = inr (record { rest = t ∷ a; is = refl })
starts (t ∷ a) x (u ∷ b) y e = let q = cons_both t u (a ++ x) (b ++ y) e in go q.0 (starts a x b y q.1)
  where
    go : t ≡ u → More a b ⊎ More b a → More (t ∷ a) (u ∷ b) ⊎ More (u ∷ b) (t ∷ a)
    go k (inl m) = inl (record { rest = m.rest; is = (λ j. sym k j ∷ m.is j) })
    go k (inr m) = inr (record { rest = m.rest; is = (λ j. k j ∷ m.is j) })

flip : (s : Session) (d : List ℕ) (u : Session) (e : List ℕ) → OneRound s d u e → OneRound u e s d
flip s d u e w =
    let r = w.asks in
    record {
      asks = record { operation = sym r.operation; round = sym r.round; opening = sym r.opening; stamp = sym r.stamp };
      desk = λ q. sym (w.desk (ap (λ (x : Round). is_storing x.stage) (sym r.round) ∙ q));
    }

module _ {op : Operation} {p : Plan} (o : Ours op p) where
  abbrev at : List Turn → Session
  at a = last_session o.opened.session a

  abbrev on : List Turn → List ℕ
  on a = last_desk o.desk a

  -- the later of two moments
  after : (a b x : List Turn) → o.turns ≡ b ++ x → More a b → is_ended (at b).round.stage ≡ false → ask_now (at a) ≡ ask_now (at b) → OneRound (at a) (on a) (at b) (on b)
  after a b x e m going q =
      let h = calls_of (Met op p) o.opened.session o.desk b x (subst (Calls (Met op p) o.opened.session o.desk) e o.calls) in
      let k = calls_on (Met op p) o.opened.session o.desk a m.rest (subst (Calls (Met op p) o.opened.session o.desk) m.is h) in
      let start : Later (at a) (on a) (at a) (on a) = same (record { asks = record { operation = refl; round = refl; opening = refl; stamp = refl }; desk = λ z. refl }) refl in
      let w = later op p (at a) (on a) (at a) (on a) m.rest start k in
      go (subst (Later (at a) (on a) (at b)) (sym (ap (last_desk o.desk) m.is ∙ desk_on o.desk a m.rest))
      (subst (λ (y : Session). Later (at a) (on a) y (last_desk (on a) m.rest)) (sym (ap (last_session o.opened.session) m.is ∙ session_on o.opened.session a m.rest)) w))
    where
      go : Later (at a) (on a) (at b) (on b) → OneRound (at a) (on a) (at b) (on b)
      go (same r z) = r
      go (over k) = absurd (clash (sym k ∙ going))
      go (greater l) = absurd (omega (arith, q))

  -- THE ASK NUMBER TELLS THE ROUND
  pub one_round : (s u : Session) (d e : List ℕ) → Stands o s d → Stands o u e → is_ended s.round.stage ≡ false → is_ended u.round.stage ≡ false
      → ask_now s ≡ ask_now u → OneRound s d u e
  one_round s u d e a b gs gu q =
      rw (a.session, b.session, a.desk, b.desk) (go (starts a.before a.after b.before b.after (sym a.is ∙ b.is)))
    where
      going_s : is_ended (at a.before).round.stage ≡ false
      going_s = ap (λ (x : Session). is_ended x.round.stage) (sym a.session) ∙ gs

      going_u : is_ended (at b.before).round.stage ≡ false
      going_u = ap (λ (x : Session). is_ended x.round.stage) (sym b.session) ∙ gu

      asks : ask_now (at a.before) ≡ ask_now (at b.before)
      asks = ap ask_now (sym a.session) ∙ q ∙ ap ask_now b.session

      go : More a.before b.before ⊎ More b.before a.before → OneRound (at a.before) (on a.before) (at b.before) (on b.before)
      go (inl m) = after a.before b.before b.after b.is m going_u asks
      go (inr m) = flip _ _ _ _ (after b.before a.before a.after a.is m going_s (sym asks))
