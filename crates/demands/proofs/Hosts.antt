-- The calls for a host, on numbers and bytes. Assumes nothing.
-- Two outcomes that one contract allows are equal: the number answered and every byte of every lent slice, session bytes too, at every
-- input: host_fresh_unique host_node_unique host_run_unique host_open_unique host_owed_unique host_write_unique host_read_unique host_wish_unique.
-- DEMAND 1 of them: a refused call changes no byte: host_fresh_stays host_node_stays host_run_stays host_open_stays host_owed_stays host_write_stays
-- host_read_stays host_wish_stays. Refused is a number that is neither 0 nor, of a reply, 101 or more. Where a wish is not refused, the two bytes are its
-- smallest N and Q: host_wish_granted.
use Prim.Native.Nat.{ℕ, ◌≤◌, ◌<◌}
use mathlib.Core.Path.{◌≡◌, refl, sym, ap, ◌∙◌, subst}
use mathlib.Core.Bool.{Bool, true, false, cond}
use mathlib.Core.List.{List, [], ◌∷◌, ◌++◌}
use native.Mathlib.Omega.{arith}
use native.Mathlib.Nat.{mod-eq_of_lt}
use borrow.Author.Tests.{ne_eqb, leb-true}
use lib.Dec.{leb, eqb}
use lib.ListN.{length}
use Rattle.octets.specs.Bytes.{be, be_onto}
use Rattle.terms.specs.Ladder.{Rung, first, Given}
use Rattle.terms.specs.declared.Plan.{Plan}
use Rattle.terms.proofs.Rungs.{clash}
use Rattle.terms.proofs.Ladders.{by_ladder}
use Rattle.std.proofs.Common.{None}
use Rattle.node.specs.Fresh.{FreshOutcome, fresh_ladder, freshened}
use Rattle.node.specs.Node as node
use Rattle.node.specs.Node.{node_ladder, served, answered, sends}
use Rattle.runs.specs.Runs as runs
use Rattle.runs.specs.Runs.{RunOutcome, run_outcome, run_ladder, ran_over}
use Rattle.standing.specs.declared.Operation.{Operation}
use Rattle.standing.specs.declared.Operation.TheVariants.{Write}
use Rattle.session.specs.declared.Session.{Session}
use Rattle.session.specs.Session.{Said, refused, still_open, done, never_written, aborted, rounds_spent, clock_spent, is_refused}
use Rattle.session.specs.Opening.{open_with}
use Rattle.session.specs.Owed.{Dues, owed_ladder, owed_to}
use Rattle.session.specs.Reply.{reply_ladder}
use Rattle.session.specs.Writer.{Leaves, leaves, write_reply}
use Rattle.session.specs.Reader.{Outcome, outcome, read_reply}
use Rattle.session.proofs.Checks.{outcome_all}
use Rattle.client.specs.Endings.{read_ladder}
use Rattle.client.proofs.Reading as reading
use Rattle.packing.specs.PlanBytes.{plan_of, wish_of}
use Rattle.packing.specs.SessionBytes.{session_bytes, session_of}
use Rattle.answers.specs.Answers.{lent_ladder, both_fit, made_number, served_number, due_number, answer_number, ending_after, smallest_number, counts_bytes, counts_after, told_after}
use Rattle.pasis.specs.Store.{FreshBook, NodeServes, RunTold, run_told, run_tells, run_bytes, RunServes}
use Rattle.pasis.specs.Client.{session_fits, session_after, OpenedBytes, opened_bytes, open_bytes, OpenServes, Asked, asked, owed_bytes, OwedServes, TookBytes, took_bytes, with_item, took_as, write_bytes, read_bytes, WriteServes, ReadServes}
use Rattle.wish.specs.declared.Wish.{Wish}
use Rattle.wish.specs.Wish as wish
use Rattle.wish.specs.Wish.{Smallest, SaidSmallest, said_smallest, wish_ladder, Says}
use Rattle.wish.proofs.Laws.{small_counts}
use Rattle.wish.proofs.Calls.{call_one}
use Rattle.pasis.proofs.Laws.{numbers, of_given}
use Rattle.pasis.specs.Plans.{counts_lent, CountsTold, counts_told, smallest_bytes, SmallestServes}
use Rattle.demands.specs.Ends.{HostGranted}
use Rattle.demands.proofs.Demand1.{accepted_taken, write_taken}

pub host_fresh_unique : (x : List ℕ) (n : ℕ) (b : List ℕ) (r r' : ℕ) (b₂ b₂' : List ℕ) → FreshBook x n b r b₂ → FreshBook x n b r' b₂'
    → (r ≡ r') × (b₂ ≡ b₂')
host_fresh_unique x n b r r' b₂ b₂' c c' = (c.number ∙ sym c'.number, c.book ∙ sym c'.book)

pub host_node_unique : (x f b y : List ℕ) (r r' : ℕ) (b₂ b₂' y₂ y₂' : List ℕ) → NodeServes x f b y r b₂ y₂ → NodeServes x f b y r' b₂' y₂'
    → (r ≡ r') × (b₂ ≡ b₂') × (y₂ ≡ y₂')
host_node_unique x f b y r r' b₂ b₂' y₂ y₂' c c' = (c.number ∙ sym c'.number, c.book ∙ sym c'.book, c.reply ∙ sym c'.reply)

pub host_run_unique : (x s b y z t : List ℕ) (r r' : ℕ) (b₂ b₂' y₂ y₂' z₂ z₂' t₂ t₂' : List ℕ) → RunServes x s b y z t r b₂ y₂ z₂ t₂
    → RunServes x s b y z t r' b₂' y₂' z₂' t₂' → (r ≡ r') × (b₂ ≡ b₂') × (y₂ ≡ y₂') × (z₂ ≡ z₂') × (t₂ ≡ t₂')
host_run_unique x s b y z t r r' b₂ b₂' y₂ y₂' z₂ z₂' t₂ t₂' c c' =
    let q = c.is ∙ sym c'.is in
    (ap (λ (o : RunTold). o.number) q, ap (λ (o : RunTold). o.book) q, ap (λ (o : RunTold). o.reply) q, ap (λ (o : RunTold). o.numbers) q, ap (λ (o : RunTold). o.told) q)

pub host_open_unique : (op : Operation) (x : List ℕ) (a : ℕ) (s : List ℕ) (r r' : ℕ) (s₂ s₂' : List ℕ) → OpenServes op x a s r s₂ → OpenServes op x a s r' s₂'
    → (r ≡ r') × (s₂ ≡ s₂')
host_open_unique op x a s r r' s₂ s₂' c c' =
    let e = c.is ∙ sym c'.is in
    (ap (λ (o : OpenedBytes). o.number) e, ap (λ (o : OpenedBytes). o.session) e)

pub host_owed_unique : (x s : List ℕ) (n : ℕ) (d q : List ℕ) (r r' : ℕ) (q₂ q₂' : List ℕ) → OwedServes x s n d q r q₂ → OwedServes x s n d q r' q₂'
    → (r ≡ r') × (q₂ ≡ q₂')
host_owed_unique x s n d q r r' q₂ q₂' c c' =
    let e = c.is ∙ sym c'.is in
    (ap (λ (o : Asked). o.number) e, ap (λ (o : Asked). o.request) e)

pub host_write_unique : (x s f d i e : List ℕ) (r r' : ℕ) (s₂ s₂' d₂ d₂' e₂ e₂' : List ℕ) → WriteServes x s f d i e r s₂ d₂ e₂
    → WriteServes x s f d i e r' s₂' d₂' e₂' → (r ≡ r') × (s₂ ≡ s₂') × (d₂ ≡ d₂') × (e₂ ≡ e₂')
host_write_unique x s f d i e r r' s₂ s₂' d₂ d₂' e₂ e₂' c c' =
    let q = c.is ∙ sym c'.is in
    (ap (λ (o : TookBytes). o.number) q, ap (λ (o : TookBytes). o.session) q, ap (λ (o : TookBytes). o.desk) q, ap (λ (o : TookBytes). o.ending) q)

pub host_read_unique : (x s f d i e : List ℕ) (r r' : ℕ) (s₂ s₂' d₂ d₂' i₂ i₂' e₂ e₂' : List ℕ) → ReadServes x s f d i e r s₂ d₂ i₂ e₂
    → ReadServes x s f d i e r' s₂' d₂' i₂' e₂' → (r ≡ r') × (s₂ ≡ s₂') × (d₂ ≡ d₂') × (i₂ ≡ i₂') × (e₂ ≡ e₂')
host_read_unique x s f d i e r r' s₂ s₂' d₂ d₂' i₂ i₂' e₂ e₂' c c' =
    let q = c.is ∙ sym c'.is in
    (ap (λ (o : TookBytes). o.number) q, ap (λ (o : TookBytes). o.session) q, ap (λ (o : TookBytes). o.desk) q, ap (λ (o : TookBytes). o.item) q, ap (λ (o : TookBytes). o.ending) q)

-- ---- refused calls
pub host_fresh_stays : (x : List ℕ) (n : ℕ) (b : List ℕ) (r : ℕ) (b₂ : List ℕ) → FreshBook x n b r b₂ → (r ≡ 0 → ⊥) → b₂ ≡ b
unfolding freshened
host_fresh_stays x n b r b₂ c h =
    c.book
    ∙ outcome_all (λ (o : FreshOutcome). (made_number o.answer ≡ 0 → ⊥) → o.book ≡ b) (fresh_ladder (plan_of x) n b) _ _ (λ k g. refl)
    (λ e g. absurd (g refl)) (λ e. h (c.number ∙ e))

pub host_node_stays : (x f b y : List ℕ) (r : ℕ) (b₂ y₂ : List ℕ) → NodeServes x f b y r b₂ y₂ → (r ≡ 0 → ⊥) → (b₂ ≡ b) × (y₂ ≡ y)
unfolding served answered sends
host_node_stays x f b y r b₂ y₂ c h =
    let q =
    outcome_all (λ (o : node.ServedOutcome). (served_number o.answer ≡ 0 → ⊥) → (o.book ≡ b) × (o.reply ≡ y)) (node_ladder (plan_of x) f b y) _ _
    (λ k g. (refl, refl)) (λ e g. absurd (g refl)) (λ e. h (c.number ∙ e)) in
    (c.book ∙ q.0, c.reply ∙ q.1)

pub host_run_stays : (x s b y z t : List ℕ) (r : ℕ) (b₂ y₂ z₂ t₂ : List ℕ) → RunServes x s b y z t r b₂ y₂ z₂ t₂ → (r ≡ 0 → ⊥)
    → (b₂ ≡ b) × (y₂ ≡ y) × (z₂ ≡ z) × (t₂ ≡ t)
unfolding run_bytes ran_over told_after
host_run_stays x s b y z t r b₂ y₂ z₂ t₂ c =
    subst Kept (sym c.is)
    (outcome_all Kept (lent_ladder (plan_of x) (eqb (length t) 24)) (λ (k : ℕ). run_told k b y z t) _ (λ k h. (refl, refl, refl, refl))
    (λ n. outcome_all (λ (o : RunOutcome). Kept (run_tells o t)) (run_ladder (plan_of x) s b y z) (λ (k : ℕ). run_outcome (runs.refused k) b y z) _
    (λ k h. (refl, refl, refl, refl)) (λ m h. absurd (h refl))))
  where
    Kept : RunTold → Type 0
    Kept o = (o.number ≡ 0 → ⊥) → (o.book ≡ b) × (o.reply ≡ y) × (o.numbers ≡ z) × (o.told ≡ t)

pub host_open_stays : (op : Operation) (x : List ℕ) (a : ℕ) (s : List ℕ) (r : ℕ) (s₂ : List ℕ) → OpenServes op x a s r s₂ → (r ≡ 0 → ⊥) → s₂ ≡ s
unfolding open_bytes
host_open_stays op x a s r s₂ c h =
    let o = open_with op None (plan_of x) (record { 0 = a }) in
    ap (λ (z : OpenedBytes). z.session) c.is
    ∙ outcome_all (λ (z : OpenedBytes). (z.number ≡ 0 → ⊥) → z.session ≡ s) (lent_ladder (plan_of x) (session_fits (length s))) (λ (k : ℕ). opened_bytes k s) _
    (λ k g. refl) (λ e g. ap (λ (t : Bool). cond t (session_bytes o.session) s) (ne_eqb o.number 0 g))
    (λ e. h (ap (λ (z : OpenedBytes). z.number) c.is ∙ e))

pub host_owed_stays : (x s : List ℕ) (n : ℕ) (d q : List ℕ) (r : ℕ) (q₂ : List ℕ) → OwedServes x s n d q r q₂ → (r ≡ 0 → ⊥) → q₂ ≡ q
unfolding owed_bytes owed_to
host_owed_stays x s n d q r q₂ c h =
    ap (λ (z : Asked). z.request) c.is
    ∙ outcome_all (λ (z : Asked). (z.number ≡ 0 → ⊥) → z.request ≡ q) (lent_ladder (plan_of x) (session_fits (length s))) (λ (k : ℕ). asked k q) _
    (λ k g. refl)
    (λ e. outcome_all (λ (z : Dues). (due_number z.due ≡ 0 → ⊥) → z.request ≡ q) (owed_ladder (plan_of x) (session_of s) n d (length q)) _ _
    (λ k g. refl) (λ u g. absurd (g refl)))
    (λ e. h (ap (λ (z : Asked). z.number) c.is ∙ e))

-- an answer that is no refusal has no refusal's number
pub not_between : (a : Said) → is_refused a ≡ false → 1 ≤ answer_number a → answer_number a < 101 → ⊥
not_between (refused k) e l u = clash e
not_between still_open e l u = omega arith
not_between (done t n) e l u = omega arith
not_between (never_written n) e l u = omega arith
not_between (aborted n) e l u = omega arith
not_between (rounds_spent n) e l u = omega arith
not_between clock_spent e l u = omega arith

-- all bytes of a reply's call are as they came, where its number is a refusal's
Stays : (s d i e : List ℕ) → TookBytes → Type 0
Stays s d i e z = 1 ≤ z.number → z.number < 101 → (z.session ≡ s) × (z.desk ≡ d) × (z.item ≡ i) × (z.ending ≡ e)

module _ (s d i e : List ℕ) where
  -- of an outcome that a ladder refused, and of one that is no refusal
  refused_stays : (k : ℕ) (w : Session) → Stays s d i e (took_as (outcome (refused k) w d i) s e)
  unfolding Stays session_after ending_after
  refused_stays k w l u = (refl, refl, refl, refl)

  taken_stays : (o : Outcome) → is_refused o.said ≡ false → Stays s d i e (took_as o s e)
  unfolding Stays
  taken_stays o t l u = absurd (not_between o.said t l u)

  -- 1 and 2 of the lengths come before the call
  lent_stays : (p : Plan) (t : TookBytes) → Stays s d i e t
      → Stays s d i e (first (lent_ladder p (both_fit (length s) (length e))) (λ (k : ℕ). took_bytes k s d i e) t)
  lent_stays p t h =
      outcome_all (Stays s d i e) (lent_ladder p (both_fit (length s) (length e))) (λ (k : ℕ). took_bytes k s d i e) t
      (unfold Stays in λ k l u. (refl, refl, refl, refl)) (λ n. h)

pub host_read_stays : (x s f d i e : List ℕ) (r : ℕ) (s₂ d₂ i₂ e₂ : List ℕ) → ReadServes x s f d i e r s₂ d₂ i₂ e₂ → 1 ≤ r → r < 101
    → (s₂ ≡ s) × (d₂ ≡ d) × (i₂ ≡ i) × (e₂ ≡ e)
unfolding read_bytes Stays
host_read_stays x s f d i e r s₂ d₂ i₂ e₂ c = subst (Stays s d i e) (sym c.is) (lent_stays s d i e (plan_of x) _ called)
  where
    p : Plan
    p = plan_of x

    w : Session
    w = session_of s

    called : Stays s d i e (took_as (read_reply p w f d i) s e)
    called =
        subst (λ (o : Outcome). Stays s d i e (took_as o s e)) (sym (reading.one_ladder p w f d i))
        (outcome_all (λ (o : Outcome). Stays s d i e (took_as o s e)) (read_ladder p w f d (length i)) (λ (k : ℕ). outcome (refused k) w d i) _
        (λ k. refused_stays s d i e k w) (λ n. taken_stays s d i e _ (accepted_taken p w f d i)))

pub host_write_stays : (x s f d i e : List ℕ) (r : ℕ) (s₂ d₂ e₂ : List ℕ) → WriteServes x s f d i e r s₂ d₂ e₂ → 1 ≤ r → r < 101
    → (s₂ ≡ s) × (d₂ ≡ d) × (e₂ ≡ e)
unfolding write_bytes write_reply Stays
host_write_stays x s f d i e r s₂ d₂ e₂ c l u =
    let q = subst (Stays s d i e) (sym c.is) (lent_stays s d i e (plan_of x) _ called) l u in
    (q.0, q.1, q.3)
  where
    p : Plan
    p = plan_of x

    w : Session
    w = session_of s

    called : Stays s d i e (took_as (with_item (write_reply p w f d i) i) s e)
    called =
        outcome_all (λ (o : Leaves). Stays s d i e (took_as (with_item o i) s e)) (reply_ladder Write p w f d (length i)) (λ (k : ℕ). leaves (refused k) w d) _
        (λ k. refused_stays s d i e k w) (λ n. taken_stays s d i e _ (write_taken p w f d i))

-- ---- the smallest plan for a wish
pub host_wish_unique : (k t b m : ℕ) (y : List ℕ) (r r' : ℕ) (y₂ y₂' : List ℕ) → SmallestServes k t b m y r y₂ → SmallestServes k t b m y r' y₂'
    → (r ≡ r') × (y₂ ≡ y₂')
host_wish_unique k t b m y r r' y₂ y₂' c c' =
    let a = call_one (wish_of k t b m) c.answer c'.answer c.call c'.call in
    let e = c.is ∙ ap (λ (z : Smallest). smallest_bytes (wish_of k t b m) (said_smallest z) y) a ∙ sym c'.is in
    (ap (λ (o : CountsTold). o.number) e, ap (λ (o : CountsTold). o.counts) e)

-- a number below 256 is its byte
one_byte : (n : ℕ) → n < 256 → be 1 n ≡ n ∷ []
unfolding be be_onto
one_byte n h = ap (λ (x : ℕ). x ∷ []) (mod-eq_of_lt h)

module _ (k t b m : ℕ) (y : List ℕ) (r : ℕ) (y₂ : List ℕ) (c : SmallestServes k t b m y r y₂) where
  abbrev asks : Wish
  asks = wish_of k t b m

  -- what holds of 1 and 2, and of the answer, holds of what the host is told
  of_told : (P : CountsTold → Type 0) → ((j : ℕ) → Given (counts_lent asks (length y)) j → P (counts_told j y))
      → ((a : SaidSmallest) → Says asks a → P (counts_told (smallest_number a) (counts_after a y))) → P (counts_told r y₂)
  unfolding smallest_bytes
  of_told P refuses answers =
      subst P (sym c.is)
      (by_ladder P (counts_lent asks (length y)) (λ (j : ℕ). counts_told j y) _ refuses (λ n. answers (said_smallest c.answer) c.call.is))

  pub host_wish_stays : (r ≡ 0 → ⊥) → y₂ ≡ y
  unfolding counts_after
  host_wish_stays = of_told (λ (z : CountsTold). (z.number ≡ 0 → ⊥) → z.counts ≡ y) (λ j g h. refl) answered
    where
      answered : (a : SaidSmallest) → Says asks a → (smallest_number a ≡ 0 → ⊥) → counts_after a y ≡ y
      answered (wish.refused j) g h = refl
      answered (wish.counts n q) g h = absurd (h refl)

  pub host_wish_granted : r ≡ 0 → HostGranted asks y₂
  unfolding counts_after counts_bytes
  host_wish_granted =
      of_told (λ (z : CountsTold). z.number ≡ 0 → HostGranted asks z.counts) (λ j g e. absurd (no_zero (counts_lent asks (length y)) refl j g e)) answered
    where
      no_zero : (l : List Rung) → numbers (leb 1) l ≡ true → (j : ℕ) → Given l j → j ≡ 0 → ⊥
      no_zero l n j g e = let h = leb-true 1 j (of_given (leb 1) l n j g) in omega arith

      answered : (a : SaidSmallest) → Says asks a → smallest_number a ≡ 0 → HostGranted asks (counts_after a y)
      answered (wish.refused j) g e = absurd (no_zero (wish_ladder asks) refl j g e)
      answered (wish.counts n q) g e =
          let s = small_counts asks n q g.1 in
          record { n = n; q = q; is = ap (λ (l : List ℕ). l ++ be 1 q) (one_byte n (omega arith)) ∙ ap (λ (l : List ℕ). n ∷ l) (one_byte q (omega arith)); smallest = g.1 }
