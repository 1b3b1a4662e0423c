-- From the calls on a plan and a session to the calls on bytes, for the functions of the interface. Assumes nothing.
use Prim.{Unit, tt}
use Rattle.std.specs.Prelude.{Result, Ok, Err}
use Prim.Native.Nat.{ℕ, zero, suc, ◌≤◌}
use mathlib.Core.Path.{◌≡◌, refl, sym, ap, ◌∙◌, subst}
use mathlib.Core.Bool.{Bool, true, cond}
use mathlib.Core.List.{List, [], ◌∷◌, ◌++◌}
use native.Mathlib.Omega.{arith}
use borrow.Author.Tests.{eqb-true, ne_eqb, not-false}
use lib.ListN.{length}
use lib.Dec.{eqb}
use Rattle.terms.specs.Ladder.{Rung, on, first, Given, ◌and◌}
use Rattle.terms.specs.Terms.{refusal_number}
use Rattle.terms.specs.declared.Plan.{Plan}
use Rattle.terms.specs.declared.Refusal.{Refusal}
use Rattle.terms.proofs.Rungs.{both, refusal_low}
use Rattle.std.proofs.Common.{None}
use Rattle.node.specs.Fresh.{FreshOutcome, freshened, said_made, FreshCall}
use Rattle.node.specs.Node as node
use Rattle.node.specs.Node.{served, NodeCall}
use Rattle.runs.specs.declared.Ran.{Ran}
use Rattle.runs.specs.Runs.{RunOutcome, said_ran, ran_over, RunCall}
use Rattle.standing.specs.declared.Operation.{Operation}
use Rattle.session.specs.declared.Session.{Session}
use Rattle.session.specs.declared.Answer.{Answer}
use Rattle.session.specs.declared.Answer.TheVariants as answers
use Rattle.session.specs.declared.Took.{Took}
use Rattle.session.specs.declared.opening.Opened.{Opened}
use Rattle.session.specs.Session.{said_of}
use Rattle.session.specs.Opening.{Opens, opening_number, open_with, OpenCall}
use Rattle.session.specs.Owed.{due_of, owed_to, OwedCall}
use Rattle.session.specs.Writer.{Leaves, write_reply, WriteReplyCall}
use Rattle.session.specs.Reader.{Outcome, read_reply, ReadReplyCall}
use Rattle.session.proofs.Checks.{none_applies, goes_on, stops}
use Rattle.packing.specs.PlanBytes.{plan_of}
use Rattle.packing.specs.SessionBytes.{session_length, session_bytes, session_of}
use Rattle.answers.specs.Answers.{number_of, answer_number, both_fit, due_number, ending_after, lent_ladder, made_number, served_number, ran_number, told_after}
use Rattle.pasis.specs.Store.{FreshBook, NodeServes, run_told, run_tells, run_bytes, RunServes}
use Rattle.pasis.specs.Client.{session_fits, session_after, opened_bytes, opened_as, open_bytes, OpenServes, asked, asked_as, owed_bytes, OwedServes, took_bytes, took_as, with_item, read_bytes, write_bytes, WriteServes, ReadServes}

-- ---- the storage-node
pub fresh_book : (x : List ℕ) (n : ℕ) (b : List ℕ) (p : Plan) (m : Result (Unit {0}) Refusal) (r : ℕ) (b₂ : List ℕ) → p ≡ plan_of x → FreshCall p n b m b₂
    → r ≡ made_number (said_made m) → FreshBook x n b r b₂
fresh_book x n b p m r b₂ e c k =
    let q = c.is ∙ ap (λ (w : Plan). freshened w n b) e in
    record { number = k ∙ ap (λ (o : FreshOutcome). made_number o.answer) q; book = ap (λ (o : FreshOutcome). o.book) q }

pub node_serves : (x f b y : List ℕ) (p : Plan) (a : Result ℕ Refusal) (r : ℕ) (b₂ y₂ : List ℕ) → p ≡ plan_of x → NodeCall p f b y a b₂ y₂
    → r ≡ served_number (node.said_served a) → NodeServes x f b y r b₂ y₂
node_serves x f b y p a r b₂ y₂ e c k =
    let q = c.is ∙ ap (λ (w : Plan). served w f b y) e in
    record {
      number = k ∙ ap (λ (o : node.ServedOutcome). served_number o.answer) q;
      book = ap (λ (o : node.ServedOutcome). o.book) q;
      reply = ap (λ (o : node.ServedOutcome). o.reply) q;
    }

-- ---- ladders
-- what holds of every number of a ladder holds of a refusal that is given
abbrev pub numbers : (ℕ → Bool) → List Rung → Bool
numbers P [] = true
numbers P (x ∷ l) = P x.number and numbers P l

pub of_given : (P : ℕ → Bool) (l : List Rung) → numbers P l ≡ true → (k : ℕ) → Given l k → P k ≡ true
of_given P l e k g = go g.before (ap (numbers P) (sym g.is) ∙ e)
  where
    go : (b : List Rung) → numbers P (b ++ (on k true ∷ g.after)) ≡ true → P k ≡ true
    go [] h = (both (P k) _ h).0
    go (x ∷ b) h = go b (both (P x.number) _ h).1

-- ---- 1 and 2
-- how the ladder came out for the plan that was read: k refuses, or 0 passes
pub record Lent (x : List ℕ) (fits : Bool) (k : ℕ) : Type 0 where
  pub came : first (lent_ladder (plan_of x) fits) (λ (j : ℕ). j) 0 ≡ k

pub lent_is : (x : List ℕ) (fits : Bool) (p : Plan) (k : ℕ) → p ≡ plan_of x → k ≡ first (lent_ladder p fits) (λ (j : ℕ). j) 0 → Lent x fits k
lent_is x fits p k e h = record { came = sym (h ∙ ap (λ (w : Plan). first (lent_ladder w fits) (λ (j : ℕ). j) 0) e) }

pub lent_both : (x : List ℕ) (s e : ℕ) (p : Plan) (b : Bool) (k : ℕ) → p ≡ plan_of x → b ≡ both_fit s e → k ≡ first (lent_ladder p b) (λ (j : ℕ). j) 0
    → Lent x (both_fit s e) k
lent_both x s e p b k f g h = lent_is x (both_fit s e) p k f (h ∙ ap (λ (t : Bool). first (lent_ladder p t) (λ (j : ℕ). j) 0) g)

low : (k : ℕ) → (k ≡ 0 → ⊥) → 1 ≤ k
low zero h = absurd (h refl)
low (suc k) h = omega arith

module _ {A : Type 0} (x : List ℕ) (fits : Bool) (k : ℕ) (l : Lent x fits k) (refuse : ℕ → A) (pass : A) where
  lent_refuses : (k ≡ 0 → ⊥) → refuse k ≡ first (lent_ladder (plan_of x) fits) refuse pass
  lent_refuses h = stops refuse pass (lent_ladder (plan_of x) fits) k (low k h) l.came

  lent_passes : k ≡ 0 → pass ≡ first (lent_ladder (plan_of x) fits) refuse pass
  lent_passes e = goes_on refuse pass (lent_ladder (plan_of x) fits) refl (l.came ∙ e)

-- the number of what a `?` told
pub as_err : (o : Result (Unit {0}) Refusal) (r : Refusal) (k : ℕ) → number_of o ≡ k → o ≡ Err r → refusal_number r ≡ k
as_err o r k e f = sym (ap (λ (a : Result (Unit {0}) Refusal). number_of a) f) ∙ e

pub as_ok : (o : Result (Unit {0}) Refusal) (u : Unit {0}) (k : ℕ) → number_of o ≡ k → o ≡ Ok u → 0 ≡ k
as_ok o u k e f = sym (ap (λ (a : Result (Unit {0}) Refusal). number_of a) f) ∙ e

-- a refusal's number is not 0
pub not_zero : (r : Refusal) → refusal_number r ≡ 0 → ⊥
not_zero r e = let l = refusal_low r in omega arith

pub lent_fits : (x : List ℕ) (fits : Bool) (k : ℕ) → Lent x fits k → k ≡ 0 → fits ≡ true
lent_fits x fits k l e = not-false fits (none_applies (lent_ladder (plan_of x) fits) refl (l.came ∙ e)).1.0

both_are : (s e : ℕ) → both_fit s e ≡ true → (s ≡ session_length) × (e ≡ 42)
unfolding both_fit
both_are s e h = let q = both (eqb s session_length) (eqb e 42) h in (eqb-true s session_length q.0, eqb-true e 42 q.1)

-- where it passes, session and ending have their lengths
pub both_lent : (x : List ℕ) (s e : ℕ) (p : Plan) (b : Bool) (k : ℕ) → p ≡ plan_of x → b ≡ both_fit s e → k ≡ first (lent_ladder p b) (λ (j : ℕ). j) 0 → k ≡ 0
    → (s ≡ session_length) × (e ≡ 42)
both_lent x s e p b k f g h z = both_are s e (lent_fits x _ k (lent_both x s e p b k f g h) z)

-- ---- opening
pub told : (op o : Operation) (p : Plan) (a : ℕ) (r : Opened) → op ≡ o → OpenCall o p (record { 0 = a }) r → OpenCall op p (record { 0 = a }) r
told op o p a r e c = subst (λ (w : Operation). OpenCall w p (record { 0 = a }) r) (sym e) c

abbrev pub KeptOpened : Opened → List ℕ → ℕ → List ℕ → Type 0
KeptOpened o s r s₂ = (r ≡ opening_number o.answer) × (s₂ ≡ cond (eqb (opening_number o.answer) 0) (session_bytes o.session) s)

pub kept_refused : (o : Opened) (s : List ℕ) (r : ℕ) (q : Refusal) → o.answer ≡ Err q → r ≡ refusal_number q → KeptOpened o s r s
kept_refused o s r q e h =
    let k = ap opening_number e in
    let z = ne_eqb (refusal_number q) 0 (λ (g : refusal_number q ≡ 0). let l = refusal_low q in omega arith) in
    (h ∙ sym k, sym (ap (λ (n : ℕ). cond (eqb n 0) (session_bytes o.session) s) k ∙ ap (λ (t : Bool). cond t (session_bytes o.session) s) z))

pub kept_accepted : (o : Opened) (s s₂ : List ℕ) → o.answer ≡ (Ok tt) → s₂ ≡ session_bytes o.session → KeptOpened o s 0 s₂
kept_accepted o s s₂ e h =
    let k = ap opening_number e in
    (sym k, h ∙ sym (ap (λ (n : ℕ). cond (eqb n 0) (session_bytes o.session) s) k))

module _ (op : Operation) (x : List ℕ) (a : ℕ) (s : List ℕ) (k : ℕ) (l : Lent x (session_fits (length s)) k) where
  pub open_refused : (k ≡ 0 → ⊥) → OpenServes op x a s k s
  unfolding open_bytes
  open_refused h = record { is = lent_refuses x _ k l (λ (j : ℕ). opened_bytes j s) _ h }

  pub open_kept : (p : Plan) (o : Opened) (r : ℕ) (s₂ : List ℕ) → k ≡ 0 → p ≡ plan_of x → OpenCall op p (record { 0 = a }) o → KeptOpened o s r s₂
      → OpenServes op x a s r s₂
  unfolding open_bytes
  open_kept p o r s₂ e f c h =
      let q = c.is ∙ ap (λ (w : Plan). open_with op None w (record { 0 = a })) f in
      record { is = (λ i. opened_bytes (h.0 i) (h.1 i)) ∙ ap (λ (z : Opens). opened_as z s) q ∙ lent_passes x _ k l (λ (j : ℕ). opened_bytes j s) _ e }

-- ---- the request owed
module _ (x s : List ℕ) (n : ℕ) (d q : List ℕ) (k : ℕ) (l : Lent x (session_fits (length s)) k) where
  pub owed_refused : (k ≡ 0 → ⊥) → OwedServes x s n d q k q
  unfolding owed_bytes
  owed_refused h = record { is = lent_refuses x _ k l (λ (j : ℕ). asked j q) _ h }

  pub owed_served : (p : Plan) (w : Session) (o : Result ℕ Refusal) (r : ℕ) (q₂ : List ℕ) → k ≡ 0 → p ≡ plan_of x → w ≡ session_of s → OwedCall p w n d q o q₂
      → r ≡ due_number (due_of o) → OwedServes x s n d q r q₂
  unfolding owed_bytes
  owed_served p w o r q₂ e f g c h =
      let z = c.is ∙ (λ i. owed_to (f i) (g i) n d q) in
      record { is = ap (λ (j : ℕ). asked j q₂) h ∙ ap asked_as z ∙ lent_passes x _ k l (λ (j : ℕ). asked j q) _ e }

-- ---- a run
module _ (x s b y z t : List ℕ) (k : ℕ) (l : Lent x (eqb (length t) 24) k) where
  pub run_refused : (k ≡ 0 → ⊥) → RunServes x s b y z t k b y z t
  unfolding run_bytes
  run_refused h = record { is = lent_refuses x _ k l (λ (j : ℕ). run_told j b y z t) _ h }

  pub run_served : (p : Plan) (a : Result Ran Refusal) (r : ℕ) (b₂ y₂ z₂ t₂ : List ℕ) → k ≡ 0 → p ≡ plan_of x → RunCall p s b y z a b₂ y₂ z₂ → t₂ ≡ told_after (said_ran a) t
      → r ≡ ran_number (said_ran a) → RunServes x s b y z t r b₂ y₂ z₂ t₂
  unfolding run_bytes
  run_served p a r b₂ y₂ z₂ t₂ e f c g h =
      let q = c.is ∙ ap (λ (w : Plan). ran_over w s b y z) f in
      record { is = (λ i. run_told (h i) b₂ y₂ z₂ (g i)) ∙ ap (λ (o : RunOutcome). run_tells o t) q ∙ lent_passes x _ k l (λ (j : ℕ). run_told j b y z t) _ e }

-- ---- a reply
-- an accepted reply's session is written
pub goes_after : (a : Answer) (s : Session) (old x : List ℕ) → x ≡ session_bytes s → x ≡ session_after (said_of (Ok a)) s old
unfolding session_after
goes_after answers.Open s old x e = e
goes_after (answers.Done t n) s old x e = e
goes_after (answers.NeverWritten n) s old x e = e
goes_after (answers.Aborted n) s old x e = e
goes_after (answers.RoundsSpent n) s old x e = e
goes_after answers.ClockSpent s old x e = e

-- what a call writes after the answer and the session that it took
pub record Handed (t : Took) (s e : List ℕ) (r : ℕ) (s₂ e₂ : List ℕ) : Type 0 where
  pub number : r ≡ answer_number (said_of t.answer)
  pub session : s₂ ≡ session_after (said_of t.answer) t.session s
  pub ending : e₂ ≡ ending_after (said_of t.answer) e

module _ (x s f d i e : List ℕ) (k : ℕ) (l : Lent x (both_fit (length s) (length e)) k) where
  pub write_refused : (k ≡ 0 → ⊥) → WriteServes x s f d i e k s d e
  unfolding write_bytes
  write_refused h = record { is = lent_refuses x _ k l (λ (j : ℕ). took_bytes j s d i e) _ h }

  pub read_refused : (k ≡ 0 → ⊥) → ReadServes x s f d i e k s d i e
  unfolding read_bytes
  read_refused h = record { is = lent_refuses x _ k l (λ (j : ℕ). took_bytes j s d i e) _ h }

  module _ (p : Plan) (w : Session) (t : Took) (r : ℕ) (s₂ d₂ e₂ : List ℕ) (z : k ≡ 0) (ep : p ≡ plan_of x) (es : w ≡ session_of s) (h : Handed t s e r s₂ e₂) where
    pub write_served : WriteReplyCall p w f d i t d₂ → WriteServes x s f d i e r s₂ d₂ e₂
    unfolding write_bytes
    write_served c =
        let q = c.is ∙ (λ j. write_reply (ep j) (es j) f d i) in
        record {
          is = (λ j. took_bytes (h.number j) (h.session j) d₂ i (h.ending j)) ∙ ap (λ (o : Leaves). took_as (with_item o i) s e) q
              ∙ lent_passes x _ k l (λ (j : ℕ). took_bytes j s d i e) _ z;
        }

    pub read_served : (i₂ : List ℕ) → ReadReplyCall p w f d i t d₂ i₂ → ReadServes x s f d i e r s₂ d₂ i₂ e₂
    unfolding read_bytes
    read_served i₂ c =
        let q = c.is ∙ (λ j. read_reply (ep j) (es j) f d i) in
        record {
          is = (λ j. took_bytes (h.number j) (h.session j) d₂ i₂ (h.ending j)) ∙ ap (λ (o : Outcome). took_as o s e) q
              ∙ lent_passes x _ k l (λ (j : ℕ). took_bytes j s d i e) _ z;
        }
