-- The theorems of the node's two calls: what their contracts determine, and when each refusal is given. Assumes nothing.
use Prim.{Unit, tt}
use Rattle.std.specs.Prelude.{Result, Ok, Err}
use mathlib.Core.Path.{◌≡◌, refl, sym, ap, ◌∙◌, subst}
use mathlib.Core.Bool.{Bool, true, false, not}
use mathlib.Core.List.{List, [], ◌∷◌}
use Prim.Native.Nat.{ℕ}
use native.Mathlib.Omega.{arith}
use lib.ListN.{length}
use borrow.Author.Tests.{not-false}
use Rattle.octets.specs.Bytes.{over}
use Rattle.terms.specs.Ladder.{on, first, None, Given}
use Rattle.terms.specs.Terms.{plan_ok, record_length, refusal_number}
use Rattle.terms.specs.declared.Plan.{Plan}
use Rattle.terms.specs.declared.Member.TheVariants.{Repairable}
use Rattle.terms.specs.declared.Clients.TheVariants.{Crash}
use Rattle.terms.specs.declared.Refusal.{Refusal}
use Rattle.terms.proofs.Down as down
use Rattle.terms.proofs.Rungs as rungs
use Rattle.frame.specs.Frame.{header_in, body_of, body_fits, suits, good_frame, good_request}
use Rattle.record.specs.Record.{hashes_ok, fragment_hash, prefix_of}
use Rattle.book.specs.Book.{good_book, headed, filled, laid_as, laid_out, header, records_of, node_of}
use Rattle.book.proofs.Laws as books
use Rattle.node.specs.Node.{NodeCall, served, answered, sends, book_after, said_served, SaidServed, refused, replied, ServedOutcome, served_outcome, node_ladder, book_reply_ok, time_fails, hash_fails, other_held, no_room}
use Rattle.node.specs.Fresh.{FreshCall, FreshOutcome, made, fresh_outcome, said_made, freshened, fresh_ladder}
use Rattle.node.specs.Fresh as fresh
use Rattle.terms.proofs.Ladders as ladders

-- ---- the paper's terms determine the answer
pub served_one : (a b : Result ℕ Refusal) → said_served a ≡ said_served b → a ≡ b
served_one (Err r) (Err s) e = ap Err (rungs.refusal_one r s (cc))
served_one (Err r) (Ok n) e = absurd (let z : ◌≡◌ {A = ℕ} 0 1 = cc in omega arith)
served_one (Ok n) (Err r) e = absurd (let z : ◌≡◌ {A = ℕ} 0 1 = cc in omega arith)
served_one (Ok n) (Ok m) e = ap Ok (cc)

pub made_one : (a b : Result (Unit {0}) Refusal) → said_made a ≡ said_made b → a ≡ b
made_one (Err r) (Err s) e = ap Err (rungs.refusal_one r s (cc))
made_one (Err r) (Ok u) e = absurd (let z : ◌≡◌ {A = ℕ} 0 1 = cc in omega arith)
made_one (Ok u) (Err r) e = absurd (let z : ◌≡◌ {A = ℕ} 0 1 = cc in omega arith)
made_one (Ok u) (Ok v) e = refl

-- ---- refusals
module _ (p : Plan) (f b y : List ℕ) where
  abbrev refuse : ℕ → ServedOutcome
  refuse k = served_outcome (refused k) b y

  -- what a call answers where nothing refuses is a reply
  abbrev IsReply : SaidServed → Type 0
  IsReply (refused k) = ⊥
  IsReply (replied n) = ◌≡◌ {A = ℕ} 0 0

  replies_so : IsReply (answered p (header_in f) (body_of f) b y).answer
  unfolding answered sends
  replies_so = refl

  -- A call that answers refusal k changes no byte of the book or the reply buffer; its condition holds, and none before it in the order 1 to 8.
  pub refused_is : (r : Refusal) (b₂ y₂ : List ℕ) → NodeCall p f b y (Err r) b₂ y₂
      → Given (node_ladder p f b y) (refusal_number r) × (b₂ ≡ b) × (y₂ ≡ y)
  unfolding served
  refused_is r b₂ y₂ c =
      ladders.by_ladder
      (λ (o : ServedOutcome). served_outcome (refused (refusal_number r)) b₂ y₂ ≡ o → Given (node_ladder p f b y) (refusal_number r) × (b₂ ≡ b) × (y₂ ≡ y))
      (node_ladder p f b y) refuse (answered p (header_in f) (body_of f) b y)
      (λ k g h. let s : refused (refusal_number r) ≡ refused k = ap (λ (o : ServedOutcome). o.answer) h in
      let n : k ≡ refusal_number r = cc in
      (subst (Given (node_ladder p f b y)) n g, ap (λ (o : ServedOutcome). o.book) h, ap (λ (o : ServedOutcome). o.reply) h))
      (λ n h. absurd (subst IsReply (sym (ap (λ (o : ServedOutcome). o.answer) h)) replies_so))
      c.is

  -- And so it answers wherever its condition holds and none before it.
  pub is_refused : (r : Refusal) → Given (node_ladder p f b y) (refusal_number r) → NodeCall p f b y (Err r) b y
  unfolding served
  is_refused r g = record { is = sym (ladders.is_given (node_ladder p f b y) refuse (answered p (header_in f) (body_of f) b y) (refusal_number r) g) }

  -- A call that writes a reply meets none of the eight conditions, and does what the document says for its kind.
  pub replied_is : (n : ℕ) (b₂ y₂ : List ℕ) → NodeCall p f b y (Ok n) b₂ y₂
      → None (node_ladder p f b y) × (served_outcome (replied n) b₂ y₂ ≡ answered p (header_in f) (body_of f) b y)
  unfolding served
  replied_is n b₂ y₂ c =
      ladders.by_ladder (λ (o : ServedOutcome). served_outcome (replied n) b₂ y₂ ≡ o → None (node_ladder p f b y) × (served_outcome (replied n) b₂ y₂ ≡ answered p (header_in f) (body_of f) b y))
      (node_ladder p f b y) refuse (answered p (header_in f) (body_of f) b y)
      (λ k g h. absurd (let s : replied n ≡ refused k = ap (λ (o : ServedOutcome). o.answer) h in let z : ◌≡◌ {A = ℕ} 0 1 = cc in omega arith))
      (λ m h. (m, h))
      c.is

-- a request that none of the eight conditions meets, each by its name
pub record Clear (p : Plan) (f b y : List ℕ) : Type 0 where
  pub plan : plan_ok p ≡ true
  pub lengths : book_reply_ok p (length b) (length y) ≡ true
  pub good : good_book p b ≡ true
  pub request : good_request p (node_of b) f ≡ true
  pub time : time_fails (header_in f) (body_of f) ≡ false
  pub hash : hash_fails p (header_in f) (body_of f) ≡ false
  pub other : other_held p (header_in f) (body_of f) b ≡ false
  pub room : no_room p (header_in f) (body_of f) b ≡ false

pub clear : (p : Plan) (f b y : List ℕ) → None (node_ladder p f b y) → Clear p f b y
clear p f b y n = record {
  plan = not-false _ (down.clear (node_ladder p f b y) n 1);
  lengths = not-false _ (down.clear (node_ladder p f b y) n 2);
  good = not-false _ (down.clear (node_ladder p f b y) n 3);
  request = not-false _ (down.clear (node_ladder p f b y) n 4);
  time = down.clear (node_ladder p f b y) n 5;
  hash = down.clear (node_ladder p f b y) n 6;
  other = down.clear (node_ladder p f b y) n 7;
  room = down.clear (node_ladder p f b y) n 8;
}

-- The same of a fresh book, in its order 1, 2, 4.
module _ (p : Plan) (node : ℕ) (b : List ℕ) where
  abbrev refuse_fresh : ℕ → FreshOutcome
  refuse_fresh k = fresh_outcome (fresh.refused k) b

  abbrev done : FreshOutcome
  done = fresh_outcome made (over (laid_out p node []) b)

  pub fresh_refused_is : (r : Refusal) (b₂ : List ℕ) → FreshCall p node b (Err r) b₂
      → Given (fresh_ladder p node b) (refusal_number r) × (b₂ ≡ b)
  unfolding freshened
  fresh_refused_is r b₂ c =
      ladders.by_ladder
      (λ (o : FreshOutcome). fresh_outcome (fresh.refused (refusal_number r)) b₂ ≡ o → Given (fresh_ladder p node b) (refusal_number r) × (b₂ ≡ b))
      (fresh_ladder p node b) refuse_fresh done
      (λ k g h. let s : fresh.refused (refusal_number r) ≡ fresh.refused k = ap (λ (o : FreshOutcome). o.answer) h in
      let n : k ≡ refusal_number r = cc in
      (subst (Given (fresh_ladder p node b)) n g, ap (λ (o : FreshOutcome). o.book) h))
      (λ n h. absurd (let s : fresh.refused (refusal_number r) ≡ made = ap (λ (o : FreshOutcome). o.answer) h in let z : ◌≡◌ {A = ℕ} 0 1 = cc in omega arith))
      c.is

  pub fresh_is_refused : (r : Refusal) → Given (fresh_ladder p node b) (refusal_number r) → FreshCall p node b (Err r) b
  unfolding freshened
  fresh_is_refused r g = record { is = sym (ladders.is_given (fresh_ladder p node b) refuse_fresh done (refusal_number r) g) }

-- ---- the plan at a node
-- a plan's N and F, and nothing else of it
abbrev pub bare : ℕ → ℕ → Plan
bare n f = record { n = n; t = 0; b = 0; q = 0; m = 0; f = f; member = Repairable; clients = Crash; w = 0 }

-- a call, with the verdict on its plan given
rest : Bool → Plan → List ℕ → List ℕ → List ℕ → ServedOutcome
rest ok p f b y =
    first (
    on 1 (not ok) ∷
    on 2 (not (book_reply_ok p (length b) (length y))) ∷
    on 3 (not (good_book p b)) ∷
    on 4 (not (good_request p (node_of b) f)) ∷
    on 5 (time_fails (header_in f) (body_of f)) ∷
    on 6 (hash_fails p (header_in f) (body_of f)) ∷
    on 7 (other_held p (header_in f) (body_of f) b) ∷
    on 8 (no_room p (header_in f) (body_of f) b) ∷ []) (λ (k : ℕ). served_outcome (refused k) b y) (answered p (header_in f) (body_of f) b y)

rest_bare : (ok : Bool) (p : Plan) (f b y : List ℕ) → rest ok p f b y ≡ rest ok (bare p.n p.f) f b y
unfolding rest record_length book_reply_ok good_book headed filled good_request good_frame suits body_fits hash_fails hashes_ok fragment_hash prefix_of other_held no_room answered book_after laid_as header
rest_bare ok p f b y = refl

-- The node's answer, book and reply depend on the plan only through refusal 1, N and F: two plans that are both accepted or both not, with the
-- same N and the same F, are served alike.
pub plan_only : (p q : Plan) (f b y : List ℕ) → plan_ok p ≡ plan_ok q → p.n ≡ q.n → p.f ≡ q.f → served p f b y ≡ served q f b y
unfolding served rest
plan_only p q f b y e en ef = rest_bare (plan_ok p) p f b y ∙ (λ i. rest (e i) (bare (en i) (ef i)) f b y) ∙ sym (rest_bare (plan_ok q) q f b y)

-- A book that is good under two plans has the same N and F under both, and the same records.
pub same_plan : (p q : Plan) (b : List ℕ) → good_book p b ≡ true → good_book q b ≡ true → (p.n ≡ q.n) × (p.f ≡ q.f)
same_plan p q b g h =
    let i = (books.good_is p b g).head in
    let j = (books.good_is q b h).head in
    (sym i.nodes ∙ j.nodes, sym i.size ∙ j.size)

good_bare : (p : Plan) (b : List ℕ) → good_book p b ≡ good_book (bare p.n p.f) b
unfolding good_book headed filled record_length
good_bare p b = refl

records_bare : (p : Plan) (b : List ℕ) → records_of p b ≡ records_of (bare p.n p.f) b
unfolding record_length
records_bare p b = refl

pub same_good : (p q : Plan) (b : List ℕ) → p.n ≡ q.n → p.f ≡ q.f → good_book p b ≡ good_book q b
same_good p q b en ef = good_bare p b ∙ (λ i. good_book (bare (en i) (ef i)) b) ∙ sym (good_bare q b)

pub same_records : (p q : Plan) (b : List ℕ) → p.n ≡ q.n → p.f ≡ q.f → records_of p b ≡ records_of q b
same_records p q b en ef = records_bare p b ∙ (λ i. records_of (bare (en i) (ef i)) b) ∙ sym (records_bare q b)
