-- DEMAND 2: "each refusal is given exactly when document 01 says". One theorem a call, for whatever it was lent, in one form: the call answers k
-- exactly if k is the first refusal of its order that applies (Given). Refusals are numbered from 1 on. Assumes nothing.
--   node_exactly run_exactly fresh_exactly opening_exactly owed_exactly write_exactly read_exactly wish_exactly
--   wish_20   20 in document 02's words: no N and Q up to 16 are accepted
-- The same of the calls for a host, whose number is a refusal's below 101; and the numbers that each of them can answer.
--   host_node_exactly host_run_exactly host_fresh_exactly host_open_exactly host_owed_exactly host_write_exactly host_read_exactly host_wish_exactly
--   host_node_numbers host_run_numbers host_fresh_numbers host_open_numbers host_owed_numbers host_write_numbers host_read_numbers host_wish_numbers
--   host_wish_member   a byte above 1 is no member, and is refused 1
use Rattle.terms.specs.declared.Refusal.{Refusal}
use Prim.{Unit}
use Rattle.std.specs.Prelude.{Result}
use Prim.Native.Nat.{ℕ, ◌≤◌, ◌<◌}
use native.Mathlib.Omega.{arith}
use borrow.Author.Tests.{lt-leb}
use mathlib.Core.Path.{◌≡◌, refl, sym, ap, subst, ◌∙◌}
use mathlib.Core.Bool.{Bool, true, false, cond}
use mathlib.Core.List.{List, [], ◌∷◌, ◌++◌}
use lib.ListN.{length}
use lib.Dec.{eqb}
use Rattle.octets.specs.Bytes.{over}
use Rattle.terms.specs.Ladder.{Rung, first, Given}
use Rattle.terms.specs.declared.Ask.{Ask}
use Rattle.terms.specs.declared.Plan.{Plan}
use Rattle.terms.proofs.Ladders as ladders
use Rattle.terms.proofs.Rungs.{clash}
use Rattle.frame.specs.Frame.{header_in, body_of, one_of}
use Rattle.book.specs.Book.{laid_out}
use Rattle.std.proofs.Common.{None}
use Rattle.node.specs.Node as node
use Rattle.node.specs.Node.{NodeCall, node_ladder, served, answered, sends}
use Rattle.node.specs.Fresh as fresh
use Rattle.node.specs.Fresh.{FreshCall, FreshOutcome, fresh_outcome, fresh_ladder, freshened, said_made}
use Rattle.runs.specs.declared.Ran.{Ran}
use Rattle.runs.specs.Runs as runs
use Rattle.runs.specs.Runs.{RunOutcome, run_outcome, said_ran, run_ladder, run_of, ran_over, RunCall}
use Rattle.session.specs.declared.Session.{Session}
use Rattle.standing.specs.declared.Operation.{Operation}
use Rattle.session.specs.declared.Took.{Took}
use Rattle.session.specs.declared.opening.Opened.{Opened}
use Rattle.session.specs.Session.{Said, refused, still_open, done, never_written, aborted, rounds_spent, clock_spent, said_of, is_refused}
use Rattle.session.specs.Opening.{OpenCall, Opens, opens, opening_ladder, opening_number, open_with, fresh_of, no_session}
use Rattle.session.specs.Owed as owed
use Rattle.session.specs.Owed.{OwedCall, Dues, dues, due_of, owed_to, owed_ladder, request_of}
use Rattle.session.specs.Reader.{ReadReplyCall, Outcome, outcome, accepted, read_reply}
use Rattle.session.specs.Writer.{WriteReplyCall, Leaves, leaves, accepted_write, write_reply}
use Rattle.client.specs.Endings.{read_ladder, write_ladder, ReadGives, WriteGives, Exactly}
use Rattle.client.proofs.Reading as reading
use Rattle.client.proofs.Writing as writing
use Rattle.packing.specs.PlanBytes.{plan_of, wish_of}
use Rattle.packing.specs.SessionBytes.{session_of}
use Rattle.answers.specs.Answers.{lent_ladder, both_fit, made_number, served_number, ran_number, due_number, answer_number}
use Rattle.pasis.specs.Store.{FreshBook, NodeServes, RunTold, run_told, run_bytes, RunServes}
use Rattle.pasis.proofs.Laws.{numbers, of_given}
use Rattle.pasis.specs.Client.{session_fits, OpenedBytes, opened_bytes, open_bytes, OpenServes, Asked, asked, owed_bytes, OwedServes, TookBytes, took_bytes, write_bytes, read_bytes, WriteServes, ReadServes}
use Rattle.wish.specs.declared.Wish.{Wish}
use Rattle.wish.specs.Wish as wish
use Rattle.wish.specs.Wish.{Smallest, said_smallest, outside, wish_ladder, RejectedFor, Says, SmallestCall}
use Rattle.wish.proofs.Calls.{said_one, exactly_20}
use Rattle.pasis.specs.Plans.{counts_lent, CountsTold, counts_told, smallest_bytes, SmallestServes}
use Rattle.pasis.proofs.Wishes.{number_is}
use Rattle.demands.proofs.Demand1.{accepted_taken, write_taken}
use Rattle.demands.proofs.Hosts.{not_between}

-- an outcome o by a ladder, of which `said` tells the answer: each refusal answers its own number, and what follows does not answer k
exactly : {A S : Type 0} (said : A → S) (refusal : ℕ → S) (l : List Rung) (refuse : ℕ → A) (pass o : A) (k : ℕ)
    → ((j : ℕ) → said (refuse j) ≡ refusal j) → ((j : ℕ) → refusal j ≡ refusal k → j ≡ k) → (said pass ≡ refusal k → ⊥) → o ≡ first l refuse pass
    → Exactly (said o ≡ refusal k) (Given l k)
exactly {A} said refusal l refuse pass o k each one past e = (
  (λ q. ladders.by_ladder (λ (x : A). said x ≡ refusal k → Given l k) l refuse pass (λ j g h. subst (Given l) (one j (sym (each j) ∙ h)) g)
      (λ n h. absurd (past h)) (sym (ap said e) ∙ q)),
  (λ g. ap said (e ∙ ladders.is_given l refuse pass k g) ∙ each k),
)

-- ---- the node, 1 to 8
pub node_exactly : (p : Plan) (f b y : List ℕ) (a : Result ℕ Refusal) (b₂ y₂ : List ℕ) → NodeCall p f b y a b₂ y₂ → (k : ℕ) → 1 ≤ k
    → Exactly (node.said_served a ≡ node.refused k) (Given (node_ladder p f b y) k)
unfolding served answered sends
node_exactly p f b y a b₂ y₂ c k l =
    exactly (λ (o : node.ServedOutcome). o.answer) node.refused _ (λ (j : ℕ). node.served_outcome (node.refused j) b y) (answered p (header_in f) (body_of f) b y) _ k
    (λ j. refl) (λ j e. cc) (λ e. let z : ◌≡◌ {A = ℕ} 0 1 = cc in omega arith) c.is

-- ---- a run, 1, 2, 21, 3
pub run_exactly : (p : Plan) (s b y z : List ℕ) (a : Result Ran Refusal) (b₂ y₂ z₂ : List ℕ) → RunCall p s b y z a b₂ y₂ z₂ → (k : ℕ) → 1 ≤ k
    → Exactly (said_ran a ≡ runs.refused k) (Given (run_ladder p s b y z) k)
unfolding ran_over
run_exactly p s b y z a b₂ y₂ z₂ c k l =
    exactly (λ (o : RunOutcome). o.answer) runs.refused _ (λ (j : ℕ). run_outcome (runs.refused j) b y z) (run_of p s b y z) _ k
    (λ j. refl) (λ j e. cc) (λ e. let n : ◌≡◌ {A = ℕ} 0 1 = cc in omega arith) c.is

-- ---- a fresh book, 1, 2, 4
pub fresh_exactly : (p : Plan) (n : ℕ) (b : List ℕ) (a : Result (Unit {0}) Refusal) (b₂ : List ℕ) → FreshCall p n b a b₂ → (k : ℕ) → 1 ≤ k
    → Exactly (said_made a ≡ fresh.refused k) (Given (fresh_ladder p n b) k)
unfolding freshened
fresh_exactly p n b a b₂ c k l =
    exactly (λ (o : FreshOutcome). o.answer) fresh.refused _ (λ (j : ℕ). fresh_outcome (fresh.refused j) b) (fresh_outcome fresh.made (over (laid_out p n []) b)) _ k
    (λ j. refl) (λ j e. cc) (λ e. let z : ◌≡◌ {A = ℕ} 0 1 = cc in omega arith) c.is

-- ---- an opening, 1, 13
pub opening_exactly : (op : Operation) (p : Plan) (a : Ask) (r : Opened) → OpenCall op p a r → (k : ℕ) → 1 ≤ k
    → Exactly (opening_number r.answer ≡ k) (Given (opening_ladder p a.0) k)
unfolding open_with
opening_exactly op p a r c k l =
    exactly (λ (o : Opens). o.number) (λ (j : ℕ). j) _ (λ (j : ℕ). opens j (no_session op)) (opens 0 (fresh_of op 1 None a)) _ k
    (λ j. refl) (λ j e. e) (λ e. omega arith) c.is

-- ---- a request owed, 1, 2, 9, 14, 4, 11
pub owed_exactly : (p : Plan) (s : Session) (n : ℕ) (d q : List ℕ) (r : Result ℕ Refusal) (q₂ : List ℕ) → OwedCall p s n d q r q₂ → (k : ℕ) → 1 ≤ k
    → Exactly (due_of r ≡ owed.refused k) (Given (owed_ladder p s n d (length q)) k)
unfolding owed_to
owed_exactly p s n d q r q₂ c k l =
    exactly (λ (o : Dues). o.due) owed.refused _ (λ (j : ℕ). dues (owed.refused j) q)
    (dues (owed.written (length (request_of p s n d))) (over (request_of p s n d) q)) _ k
    (λ j. refl) (λ j e. cc) (λ e. let z : ◌≡◌ {A = ℕ} 0 1 = cc in omega arith) c.is

-- ---- a reply: what follows is no refusal
refused_one : (k j : ℕ) → refused j ≡ refused k → j ≡ k
refused_one k j e = cc

not_refused : (x : Said) (k : ℕ) → is_refused x ≡ false → x ≡ refused k → ⊥
not_refused x k e h = clash (sym (ap is_refused h) ∙ e)

-- to a writer, 1, 2, 9, 14, 4, 10, 11
pub write_exactly : (p : Plan) (s : Session) (f d i : List ℕ) (t : Took) (d₂ : List ℕ) → WriteReplyCall p s f d i t d₂ → (k : ℕ) → 1 ≤ k
    → Exactly (said_of t.answer ≡ refused k) (Given (write_ladder p s f d (length i)) k)
write_exactly p s f d i t d₂ c k l =
    exactly (λ (o : Leaves). o.said) refused _ (λ (j : ℕ). leaves (refused j) s d) (accepted_write p s f d i) _ k
    (λ j. refl) (refused_one k) (not_refused _ k (write_taken p s f d i)) (c.is ∙ writing.one_ladder p s f d i)

-- to a reader, 1, 2, 9, 14, 4, 10, 11, 5, 6, 12
pub read_exactly : (p : Plan) (s : Session) (f d i : List ℕ) (t : Took) (d₂ i₂ : List ℕ) → ReadReplyCall p s f d i t d₂ i₂ → (k : ℕ) → 1 ≤ k
    → Exactly (said_of t.answer ≡ refused k) (Given (read_ladder p s f d (length i)) k)
read_exactly p s f d i t d₂ i₂ c k l =
    exactly (λ (o : Outcome). o.said) refused _ (λ (j : ℕ). outcome (refused j) s d i) (accepted p s f d i) _ k
    (λ j. refl) (refused_one k) (not_refused _ k (accepted_taken p s f d i)) (c.is ∙ reading.one_ladder p s f d i)

-- ---- the smallest plan for a wish, 1, 20
pub wish_exactly : (w : Wish) (a : Smallest) → SmallestCall w a → (k : ℕ) → Exactly (said_smallest a ≡ wish.refused k) (Given (wish_ladder w) k)
wish_exactly w a c k = ((λ e. subst (Says w) e c.is), (λ g. said_one w (said_smallest a) (wish.refused k) c.is g))

-- "then 20 exactly when no N and Q up to 16 are accepted": then no N and Q at all are, whatever F, W and the clients
pub wish_20 : (w : Wish) (a : Smallest) → SmallestCall w a
    → Exactly (said_smallest a ≡ wish.refused 20) ((outside w ≡ false) × ((n q : ℕ) → n ≤ 16 → q ≤ 16 → RejectedFor w n q))
wish_20 w a c = let h = exactly_20 w a c in ((λ e. ((h.0 e).0, (λ n q l u. (h.0 e).1 n q))), h.1)

-- ---- the calls for a host: the number of an outcome by a ladder, and by two that follow each other
number : {A : Type 0} (f : A → ℕ) (l : List Rung) (refuse : ℕ → A) (pass : A) → ((k : ℕ) → f (refuse k) ≡ k)
    → f (first l refuse pass) ≡ first l (λ (k : ℕ). k) (f pass)
unfolding first
number f [] refuse pass e = refl
number f (x ∷ l) refuse pass e = go x.applies (number f l refuse pass e)
  where
    go : (t : Bool) → f (first l refuse pass) ≡ first l (λ (k : ℕ). k) (f pass)
        → f (cond t (refuse x.number) (first l refuse pass)) ≡ cond t x.number (first l (λ (k : ℕ). k) (f pass))
    go true h = e x.number
    go false h = h

one_after : (l m : List Rung) (v : ℕ) → first l (λ (k : ℕ). k) (first m (λ (k : ℕ). k) v) ≡ first (l ++ m) (λ (k : ℕ). k) v
unfolding first
one_after [] m v = refl
one_after (x ∷ l) m v = ap (λ (z : ℕ). cond x.applies x.number z) (one_after l m v)

-- a number by a ladder, where what follows is 0, or 101 or more
by_number : (l : List Rung) (v r k : ℕ) → r ≡ first l (λ (j : ℕ). j) v → (1 ≤ v → v < 101 → ⊥) → 1 ≤ k → k < 101 → Exactly (r ≡ k) (Given l k)
by_number l v r k e past a b =
    exactly (λ (x : ℕ). x) (λ (j : ℕ). j) l (λ (j : ℕ). j) v r k (λ j. refl) (λ j q. q) (λ q. past (omega arith) (omega arith)) e

-- every number of a ladder stands in a list; then so does a refusal that is given, and what the ladder comes to
abbrev within : List ℕ → List Rung → Bool
within set = numbers (λ (k : ℕ). one_of k set)

is_within : (set : List ℕ) (l : List Rung) → within set l ≡ true → (k : ℕ) → Given l k → one_of k set ≡ true
is_within set = of_given (λ (k : ℕ). one_of k set)

number_within : (set : List ℕ) (l : List Rung) (v : ℕ) → within set l ≡ true → one_of v set ≡ true → one_of (first l (λ (k : ℕ). k) v) set ≡ true
number_within set l v e h = ladders.by_ladder (λ (x : ℕ). one_of x set ≡ true) l (λ (k : ℕ). k) v (is_within set l e) (λ n. h)

-- ---- a fresh book and the node
module _ (x : List ℕ) (n : ℕ) (b : List ℕ) (r : ℕ) (b₂ : List ℕ) (c : FreshBook x n b r b₂) where
  fresh_number : r ≡ first (fresh_ladder (plan_of x) n b) (λ (k : ℕ). k) 0
  unfolding freshened
  fresh_number = c.number ∙ number (λ (o : FreshOutcome). made_number o.answer) _ (λ (k : ℕ). fresh_outcome (fresh.refused k) b) _ (λ k. refl)

  pub host_fresh_exactly : (k : ℕ) → 1 ≤ k → k < 101 → Exactly (r ≡ k) (Given (fresh_ladder (plan_of x) n b) k)
  host_fresh_exactly k = by_number _ 0 r k fresh_number (λ a e. omega arith)

  pub host_fresh_numbers : one_of r (0 ∷ 1 ∷ 2 ∷ 4 ∷ []) ≡ true
  unfolding one_of
  host_fresh_numbers = ap (λ (z : ℕ). one_of z (0 ∷ 1 ∷ 2 ∷ 4 ∷ [])) fresh_number ∙ number_within (0 ∷ 1 ∷ 2 ∷ 4 ∷ []) _ 0 refl refl

module _ (x f b y : List ℕ) (r : ℕ) (b₂ y₂ : List ℕ) (c : NodeServes x f b y r b₂ y₂) where
  node_number : r ≡ first (node_ladder (plan_of x) f b y) (λ (k : ℕ). k) 0
  unfolding served answered sends
  node_number =
      c.number ∙ number (λ (o : node.ServedOutcome). served_number o.answer) _ (λ (k : ℕ). node.served_outcome (node.refused k) b y) _ (λ k. refl)

  pub host_node_exactly : (k : ℕ) → 1 ≤ k → k < 101 → Exactly (r ≡ k) (Given (node_ladder (plan_of x) f b y) k)
  host_node_exactly k = by_number _ 0 r k node_number (λ a e. omega arith)

  pub host_node_numbers : one_of r (0 ∷ 1 ∷ 2 ∷ 3 ∷ 4 ∷ 5 ∷ 6 ∷ 7 ∷ 8 ∷ []) ≡ true
  unfolding one_of
  host_node_numbers =
      ap (λ (z : ℕ). one_of z (0 ∷ 1 ∷ 2 ∷ 3 ∷ 4 ∷ 5 ∷ 6 ∷ 7 ∷ 8 ∷ [])) node_number ∙ number_within (0 ∷ 1 ∷ 2 ∷ 3 ∷ 4 ∷ 5 ∷ 6 ∷ 7 ∷ 8 ∷ []) _ 0 refl refl

-- a run: 1 of the plan, and 2 of the bytes lent for what it tells, come before its own order
module _ (x s b y z t : List ℕ) (r : ℕ) (b₂ y₂ z₂ t₂ : List ℕ) (c : RunServes x s b y z t r b₂ y₂ z₂ t₂) where
  abbrev run_order : List Rung
  run_order = lent_ladder (plan_of x) (eqb (length t) 24) ++ run_ladder (plan_of x) s b y z

  run_number : r ≡ first run_order (λ (k : ℕ). k) 0
  unfolding run_bytes ran_over
  run_number =
      ap (λ (o : RunTold). o.number) c.is
      ∙ number (λ (o : RunTold). o.number) (lent_ladder (plan_of x) (eqb (length t) 24)) (λ (k : ℕ). run_told k b y z t) _ (λ k. refl)
      ∙ ap (first (lent_ladder (plan_of x) (eqb (length t) 24)) (λ (k : ℕ). k))
      (number (λ (o : RunOutcome). ran_number o.answer) (run_ladder (plan_of x) s b y z) (λ (k : ℕ). run_outcome (runs.refused k) b y z) _ (λ k. refl))
      ∙ one_after (lent_ladder (plan_of x) (eqb (length t) 24)) (run_ladder (plan_of x) s b y z) 0

  pub host_run_exactly : (k : ℕ) → 1 ≤ k → k < 101 → Exactly (r ≡ k) (Given run_order k)
  host_run_exactly k = by_number _ 0 r k run_number (λ l e. omega arith)

  pub host_run_numbers : one_of r (0 ∷ 1 ∷ 2 ∷ 3 ∷ 21 ∷ []) ≡ true
  unfolding one_of
  host_run_numbers = ap (λ (k : ℕ). one_of k (0 ∷ 1 ∷ 2 ∷ 3 ∷ 21 ∷ [])) run_number ∙ number_within (0 ∷ 1 ∷ 2 ∷ 3 ∷ 21 ∷ []) run_order 0 refl refl

-- ---- the client's: 1 and 2 of the lengths of plan, session and ending come before the call's own order
module _ (op : Operation) (x : List ℕ) (a : ℕ) (s : List ℕ) (r : ℕ) (s₂ : List ℕ) (c : OpenServes op x a s r s₂) where
  abbrev open_order : List Rung
  open_order = lent_ladder (plan_of x) (session_fits (length s)) ++ opening_ladder (plan_of x) a

  open_number : r ≡ first open_order (λ (k : ℕ). k) 0
  unfolding open_bytes open_with
  open_number =
      ap (λ (o : OpenedBytes). o.number) c.is
      ∙ number (λ (o : OpenedBytes). o.number) (lent_ladder (plan_of x) (session_fits (length s))) (λ (k : ℕ). opened_bytes k s) _ (λ k. refl)
      ∙ ap (first (lent_ladder (plan_of x) (session_fits (length s))) (λ (k : ℕ). k))
      (number (λ (o : Opens). o.number) (opening_ladder (plan_of x) a) (λ (k : ℕ). opens k (no_session op)) _ (λ k. refl))
      ∙ one_after (lent_ladder (plan_of x) (session_fits (length s))) (opening_ladder (plan_of x) a) 0

  pub host_open_exactly : (k : ℕ) → 1 ≤ k → k < 101 → Exactly (r ≡ k) (Given open_order k)
  host_open_exactly k = by_number _ 0 r k open_number (λ l e. omega arith)

  pub host_open_numbers : one_of r (0 ∷ 1 ∷ 2 ∷ 13 ∷ []) ≡ true
  unfolding one_of
  host_open_numbers = ap (λ (z : ℕ). one_of z (0 ∷ 1 ∷ 2 ∷ 13 ∷ [])) open_number ∙ number_within (0 ∷ 1 ∷ 2 ∷ 13 ∷ []) open_order 0 refl refl

module _ (x s : List ℕ) (n : ℕ) (d q : List ℕ) (r : ℕ) (q₂ : List ℕ) (c : OwedServes x s n d q r q₂) where
  abbrev owed_order : List Rung
  owed_order = lent_ladder (plan_of x) (session_fits (length s)) ++ owed_ladder (plan_of x) (session_of s) n d (length q)

  owed_number : r ≡ first owed_order (λ (k : ℕ). k) 0
  unfolding owed_bytes owed_to
  owed_number =
      ap (λ (o : Asked). o.number) c.is
      ∙ number (λ (o : Asked). o.number) (lent_ladder (plan_of x) (session_fits (length s))) (λ (k : ℕ). asked k q) _ (λ k. refl)
      ∙ ap (first (lent_ladder (plan_of x) (session_fits (length s))) (λ (k : ℕ). k))
      (number (λ (o : Dues). due_number o.due) (owed_ladder (plan_of x) (session_of s) n d (length q)) (λ (k : ℕ). dues (owed.refused k) q) _ (λ k. refl))
      ∙ one_after (lent_ladder (plan_of x) (session_fits (length s))) (owed_ladder (plan_of x) (session_of s) n d (length q)) 0

  pub host_owed_exactly : (k : ℕ) → 1 ≤ k → k < 101 → Exactly (r ≡ k) (Given owed_order k)
  host_owed_exactly k = by_number _ 0 r k owed_number (λ l e. omega arith)

  pub host_owed_numbers : one_of r (0 ∷ 1 ∷ 2 ∷ 4 ∷ 9 ∷ 11 ∷ 14 ∷ []) ≡ true
  unfolding one_of
  host_owed_numbers =
      ap (λ (z : ℕ). one_of z (0 ∷ 1 ∷ 2 ∷ 4 ∷ 9 ∷ 11 ∷ 14 ∷ [])) owed_number ∙ number_within (0 ∷ 1 ∷ 2 ∷ 4 ∷ 9 ∷ 11 ∷ 14 ∷ []) owed_order 0 refl refl

-- a reply: 0 is open, 101 to 105 are the endings
module _ (x s f d i e : List ℕ) (r : ℕ) (s₂ d₂ e₂ : List ℕ) (c : WriteServes x s f d i e r s₂ d₂ e₂) where
  abbrev write_lent : List Rung
  write_lent = lent_ladder (plan_of x) (both_fit (length s) (length e))

  abbrev write_own : List Rung
  write_own = write_ladder (plan_of x) (session_of s) f d (length i)

  write_lent_lem : r ≡ first write_lent (λ (k : ℕ). k) (answer_number (write_reply (plan_of x) (session_of s) f d i).said)
  unfolding write_bytes
  write_lent_lem =
      ap (λ (o : TookBytes). o.number) c.is ∙ number (λ (o : TookBytes). o.number) write_lent (λ (k : ℕ). took_bytes k s d i e) _ (λ k. refl)

  write_number : r ≡ first (write_lent ++ write_own) (λ (k : ℕ). k) (answer_number (accepted_write (plan_of x) (session_of s) f d i).said)
  write_number =
      write_lent_lem
      ∙ ap (first write_lent (λ (k : ℕ). k))
      (ap (λ (o : Leaves). answer_number o.said) (writing.one_ladder (plan_of x) (session_of s) f d i)
      ∙ number (λ (o : Leaves). answer_number o.said) write_own (λ (k : ℕ). leaves (refused k) (session_of s) d) (accepted_write (plan_of x) (session_of s) f d i) (λ k. refl))
      ∙ one_after write_lent write_own _

  pub host_write_exactly : (k : ℕ) → 1 ≤ k → k < 101 → Exactly (r ≡ k) (Given (write_lent ++ write_own) k)
  host_write_exactly k = by_number _ _ r k write_number (not_between (accepted_write (plan_of x) (session_of s) f d i).said (write_taken (plan_of x) (session_of s) f d i))

  abbrev write_set : List ℕ
  write_set = 0 ∷ 1 ∷ 2 ∷ 4 ∷ 9 ∷ 10 ∷ 11 ∷ 14 ∷ 101 ∷ 105 ∷ []

  write_within : (a : Said) → WriteGives (plan_of x) (session_of s) f d (length i) a → one_of (answer_number a) write_set ≡ true
  unfolding one_of
  write_within (refused k) g = is_within write_set write_own refl k g
  write_within still_open g = refl
  write_within (done t n) g = refl
  write_within (never_written n) g = absurd g
  write_within (aborted n) g = absurd g
  write_within (rounds_spent n) g = absurd g
  write_within clock_spent g = refl

  pub host_write_numbers : one_of r write_set ≡ true
  unfolding one_of
  host_write_numbers =
      ap (λ (z : ℕ). one_of z write_set) write_lent_lem
      ∙ number_within write_set write_lent _ refl (write_within (write_reply (plan_of x) (session_of s) f d i).said (writing.gives (plan_of x) (session_of s) f d i))

module _ (x s f d i e : List ℕ) (r : ℕ) (s₂ d₂ i₂ e₂ : List ℕ) (c : ReadServes x s f d i e r s₂ d₂ i₂ e₂) where
  abbrev read_lent : List Rung
  read_lent = lent_ladder (plan_of x) (both_fit (length s) (length e))

  abbrev read_own : List Rung
  read_own = read_ladder (plan_of x) (session_of s) f d (length i)

  read_lent_lem : r ≡ first read_lent (λ (k : ℕ). k) (answer_number (read_reply (plan_of x) (session_of s) f d i).said)
  unfolding read_bytes
  read_lent_lem =
      ap (λ (o : TookBytes). o.number) c.is ∙ number (λ (o : TookBytes). o.number) read_lent (λ (k : ℕ). took_bytes k s d i e) _ (λ k. refl)

  read_number : r ≡ first (read_lent ++ read_own) (λ (k : ℕ). k) (answer_number (accepted (plan_of x) (session_of s) f d i).said)
  read_number =
      read_lent_lem
      ∙ ap (first read_lent (λ (k : ℕ). k))
      (ap (λ (o : Outcome). answer_number o.said) (reading.one_ladder (plan_of x) (session_of s) f d i)
      ∙ number (λ (o : Outcome). answer_number o.said) read_own (λ (k : ℕ). outcome (refused k) (session_of s) d i) (accepted (plan_of x) (session_of s) f d i) (λ k. refl))
      ∙ one_after read_lent read_own _

  pub host_read_exactly : (k : ℕ) → 1 ≤ k → k < 101 → Exactly (r ≡ k) (Given (read_lent ++ read_own) k)
  host_read_exactly k = by_number _ _ r k read_number (not_between (accepted (plan_of x) (session_of s) f d i).said (accepted_taken (plan_of x) (session_of s) f d i))

  abbrev read_set : List ℕ
  read_set = 0 ∷ 1 ∷ 2 ∷ 4 ∷ 5 ∷ 6 ∷ 9 ∷ 10 ∷ 11 ∷ 12 ∷ 14 ∷ 101 ∷ 102 ∷ 103 ∷ 104 ∷ []

  read_within : (a : Said) → ReadGives (plan_of x) (session_of s) f d (length i) a → one_of (answer_number a) read_set ≡ true
  unfolding one_of
  read_within (refused k) g = is_within read_set read_own refl k g
  read_within still_open g = refl
  read_within (done t n) g = refl
  read_within (never_written n) g = refl
  read_within (aborted n) g = refl
  read_within (rounds_spent n) g = refl
  read_within clock_spent g = absurd g

  pub host_read_numbers : one_of r read_set ≡ true
  unfolding one_of
  host_read_numbers =
      ap (λ (z : ℕ). one_of z read_set) read_lent_lem
      ∙ number_within read_set read_lent _ refl (read_within (read_reply (plan_of x) (session_of s) f d i).said (reading.gives (plan_of x) (session_of s) f d i))

-- ---- the smallest plan: 1 of the wish and 2 of the bytes lent come before 20
module _ (k t b m : ℕ) (y : List ℕ) (r : ℕ) (y₂ : List ℕ) (c : SmallestServes k t b m y r y₂) where
  abbrev wish_order : List Rung
  wish_order = counts_lent (wish_of k t b m) (length y) ++ wish_ladder (wish_of k t b m)

  wish_number : r ≡ first wish_order (λ (j : ℕ). j) 0
  unfolding smallest_bytes
  wish_number =
      ap (λ (o : CountsTold). o.number) c.is
      ∙ number (λ (o : CountsTold). o.number) (counts_lent (wish_of k t b m) (length y)) (λ (j : ℕ). counts_told j y) _ (λ j. refl)
      ∙ ap (first (counts_lent (wish_of k t b m) (length y)) (λ (j : ℕ). j)) (number_is (wish_of k t b m) c.answer c.call)
      ∙ one_after (counts_lent (wish_of k t b m) (length y)) (wish_ladder (wish_of k t b m)) 0

  pub host_wish_exactly : (j : ℕ) → 1 ≤ j → j < 101 → Exactly (r ≡ j) (Given wish_order j)
  host_wish_exactly j = by_number _ 0 r j wish_number (λ l e. omega arith)

  -- a byte that codes no member is refused 1, whatever else is asked and lent
  pub host_wish_member : 1 < k → r ≡ 1
  unfolding wish_of first
  host_wish_member h = wish_number ∙ rw (lt-leb k 1 h)

  pub host_wish_numbers : one_of r (0 ∷ 1 ∷ 2 ∷ 20 ∷ []) ≡ true
  unfolding one_of
  host_wish_numbers = ap (λ (z : ℕ). one_of z (0 ∷ 1 ∷ 2 ∷ 20 ∷ [])) wish_number ∙ number_within (0 ∷ 1 ∷ 2 ∷ 20 ∷ []) wish_order 0 refl refl
