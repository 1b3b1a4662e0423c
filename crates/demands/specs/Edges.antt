-- Document 01, "Both sides of each edge": the cases marked *, as one table; and the edges of document 02, Q-1, as a second. The theorems over
-- them are `edges` and `wish_edges` of proofs/Edges.antt. Counts and Every are those of `wish`: a plan without F, W and its clients, and its
-- plans for every F and W in their ranges and both client models.
--   RefusedOne          refused 1, by every call
--   Case, table         the document's cases and what it says of each, in its order
--   CaseHolds CasesHold          that what is said of a case is so, and of each case of a list
--   WishCase wish_table WishesHold   wishes and their answers; that each is so
-- Assumes nothing.
use Prim.{Unit}
use Rattle.std.specs.Prelude.{ℕ, ◌≡◌, true, false, List, [], ◌∷◌, Option}
use Rattle.field.specs.Field.{mul}
use Rattle.fragments.specs.Fragments.{All, fragment, from}
use Rattle.terms.specs.Terms.{plan_ok, complete_at, incomplete_at, class_of, decided}
use Rattle.terms.specs.declared.Plan.{Plan}
use Rattle.terms.specs.declared.Member.{Member}
use Rattle.terms.specs.declared.Member.TheVariants.{Repairable, NonRepair}
use Rattle.terms.specs.declared.Class.TheVariants.{Unclassifiable}
use Rattle.terms.specs.declared.Verdict.{Verdict}
use Rattle.terms.specs.declared.Verdict.TheVariants.{Complete, Repair, Aborted, Incomplete}
use Rattle.terms.specs.Stamp.{top}
use Rattle.wish.specs.declared.Wish.{Wish}
use Rattle.wish.specs.Wish.{Smallest, Counts, counts_of, Every, SaidSmallest, counts, said_smallest, SmallestCall}
use Rattle.wish.specs.Wish as wish
use Rattle.node.specs.Node.{served, served_outcome, refused}
use Rattle.node.specs.Fresh.{freshened, fresh_outcome}
use Rattle.node.specs.Fresh as fresh
use Rattle.terms.specs.declared.Ask.{Ask}
use Rattle.terms.specs.declared.Timestamp.{Timestamp}
use Rattle.standing.specs.declared.Operation.{Operation}
use Rattle.session.specs.declared.Session.{Session}
use Rattle.session.specs.Session as session
use Rattle.session.specs.Opening.{opens, no_session, open_with}
use Rattle.session.specs.Owed as owed
use Rattle.session.specs.Owed.{dues, owed_to}
use Rattle.session.specs.Writer.{leaves, write_reply}
use Rattle.session.specs.Reader as reader
use Rattle.session.specs.Reader.{read_reply}

-- refused 1: outside the plan's rules, and every call answers 1 whatever it is lent, and leaves it
pub record RefusedOne (p : Plan) : Type 0 where
  pub outside : plan_ok p ≡ false
  pub node : (f b y : List ℕ) → served p f b y ≡ served_outcome (refused 1) b y
  pub fresh : (node : ℕ) (b : List ℕ) → freshened p node b ≡ fresh_outcome (fresh.refused 1) b
  pub opening : (op : Operation) (b : Option Timestamp) (a : Ask) → open_with op b p a ≡ opens 1 (no_session op)
  pub owed : (s : Session) (node : ℕ) (d q : List ℕ) → owed_to p s node d q ≡ dues (owed.refused 1) q
  pub write : (s : Session) (f d i : List ℕ) → write_reply p s f d i ≡ leaves (session.refused 1) s d
  pub read : (s : Session) (f d i : List ℕ) → read_reply p s f d i ≡ reader.outcome (session.refused 1) s d i

-- ---- the table
pub data Case : Type 0 where
  -- a plan: accepted; refused 1; and t and b that no plan has
  accept : Counts → Case
  refuse : Counts → Case
  exclude : (t b : ℕ) → Case
  -- no size of a candidate set is unclassifiable; what a set of a size decides
  certain : Counts → Case
  decide : Counts → ℕ → Verdict → Case
  -- a product; fragment k of a column with m = 2; every fragment of one
  multiply : (x y product : ℕ) → Case
  column : (x y k byte : ℕ) → Case
  constant : (x y byte : ℕ) → Case

abbrev pub first_plan : Counts
first_plan = counts_of Repairable 5 1 1 3 2

abbrev pub second_plan : Counts
second_plan = counts_of NonRepair 7 1 1 3 4

abbrev pub table : List Case
table =
    -- N5 t1 b1 Q3 m2 repairable; same, m3 / N4 / Q4
    accept first_plan ∷
    refuse (counts_of Repairable 5 1 1 3 3) ∷
    refuse (counts_of Repairable 4 1 1 3 2) ∷
    refuse (counts_of Repairable 5 1 1 4 2) ∷
    -- N7 t1 b1 Q3 m4 non-repair; m5 or N6
    accept second_plan ∷
    refuse (counts_of NonRepair 7 1 1 3 5) ∷
    refuse (counts_of NonRepair 6 1 1 3 4) ∷
    -- N1 t0 b0 Q1 m1, either member
    accept (counts_of Repairable 1 0 0 1 1) ∷
    accept (counts_of NonRepair 1 0 0 1 1) ∷
    certain (counts_of Repairable 1 0 0 1 1) ∷
    certain (counts_of NonRepair 1 0 0 1 1) ∷
    -- t1 b2
    exclude 1 2 ∷
    -- first plan, set of 4 / 3 / 2 / 1; second plan, set of 3
    decide first_plan 4 Complete ∷
    decide first_plan 3 Repair ∷
    decide first_plan 2 Repair ∷
    decide first_plan 1 Incomplete ∷
    decide second_plan 3 Aborted ∷
    -- {57}·{83}, {57}·{13}
    multiply 0x57 0x83 0xc1 ∷
    multiply 0x57 0x13 0xfe ∷
    -- column 00 80, fragments 2, 3, 4; column 57 57
    column 0x00 0x80 2 0x1b ∷
    column 0x00 0x80 3 0x9b ∷
    column 0x00 0x80 4 0x36 ∷
    constant 0x57 0x57 0x57 ∷ []

-- ---- what a case says
abbrev pub CaseHolds : Case → Type 0
CaseHolds (accept s) = Every s (λ (p : Plan). plan_ok p ≡ true)
CaseHolds (refuse s) = Every s RefusedOne
CaseHolds (exclude t b) = (k : Member) (n q m : ℕ) → Every (counts_of k n t b q m) RefusedOne
CaseHolds (certain s) = Every s (λ (p : Plan). (size : ℕ) → class_of (complete_at p) (incomplete_at p) size ≡ Unclassifiable → ⊥)
CaseHolds (decide s size v) = Every s (λ (p : Plan). decided p.member (complete_at p) (incomplete_at p) size ≡ v)
CaseHolds (multiply x y product) = mul x y ≡ product
CaseHolds (column x y k byte) = fragment 2 1 (x ∷ y ∷ []) k ≡ byte ∷ []
CaseHolds (constant x y byte) = All (λ (k : ℕ). fragment 2 1 (x ∷ y ∷ []) k ≡ byte ∷ []) (from 0 16)

-- that it is so of every case of a list
abbrev pub CasesHold : List Case → Type 0
CasesHold [] = Unit {0}
CasesHold (c ∷ cs) = CaseHolds c × CasesHold cs

-- ---- document 02, Q-1
abbrev pub wish_for : Member → (t b m : ℕ) → Wish
wish_for k t b m = record { member = k; t = t; b = b; m = m }

-- a wish, and what it is answered: its smallest N and Q, or a refusal
pub record WishCase : Type 0 where
  pub wish : Wish
  pub answer : SaidSmallest

abbrev pub grant : Wish → (n q : ℕ) → WishCase
grant w n q = record { wish = w; answer = counts n q }

abbrev pub deny : Wish → ℕ → WishCase
deny w k = record { wish = w; answer = wish.refused k }

abbrev pub wish_table : List WishCase
wish_table =
    -- document 01's two plans, and the smallest of all
    grant (wish_for Repairable 1 1 2) 5 3 ∷
    grant (wish_for NonRepair 1 1 4) 7 3 ∷
    grant (wish_for Repairable 0 0 1) 1 1 ∷
    grant (wish_for NonRepair 0 0 1) 1 1 ∷
    -- t5 b5; the last b with t5, and the last m with both; one more of each
    deny (wish_for Repairable 5 5 1) 20 ∷
    deny (wish_for Repairable 5 3 1) 20 ∷
    deny (wish_for Repairable 5 2 5) 20 ∷
    grant (wish_for Repairable 5 2 4) 16 9 ∷
    deny (wish_for NonRepair 5 5 1) 20 ∷
    deny (wish_for NonRepair 5 1 1) 20 ∷
    deny (wish_for NonRepair 5 0 7) 20 ∷
    grant (wish_for NonRepair 5 0 6) 16 6 ∷
    -- the last t, and the last m, of all
    grant (wish_for Repairable 7 0 2) 16 9 ∷
    deny (wish_for Repairable 8 0 1) 20 ∷
    deny (wish_for NonRepair 6 0 1) 20 ∷
    grant (wish_for Repairable 0 0 16) 16 16 ∷
    grant (wish_for NonRepair 0 0 16) 16 16 ∷
    deny (wish_for Repairable 0 0 17) 20 ∷
    deny (wish_for NonRepair 0 0 17) 20 ∷
    -- b above t; m 0; both before 20
    deny (wish_for Repairable 1 2 1) 1 ∷
    deny (wish_for NonRepair 0 0 0) 1 ∷
    deny (wish_for NonRepair 20 21 1) 1 ∷
    deny (wish_for Repairable 20 20 0) 1 ∷
    -- values of 2^64-1
    deny (wish_for Repairable top top top) 20 ∷
    deny (wish_for NonRepair top top top) 20 ∷
    deny (wish_for Repairable top 0 1) 20 ∷
    deny (wish_for NonRepair 0 0 top) 20 ∷
    deny (wish_for Repairable 0 top 1) 1 ∷ []

-- whatever answer the contract of the call allows, it is this
abbrev pub WishesHold : List WishCase → Type 0
WishesHold [] = Unit {0}
WishesHold (c ∷ cs) = ((a : Smallest) → SmallestCall c.wish a → said_smallest a ≡ c.answer) × WishesHold cs
