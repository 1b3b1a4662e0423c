-- UNIQUENESS OF EVERY PUBLIC CONTRACT: any two outcomes that a call's contract allows at the same inputs are equal. Document 01, "How strong
-- each contract has to be". Assumes nothing.
--   node_unique fresh_unique run_unique              the node's three calls
--   opening_unique owed_unique                       an opening, a request owed
--   write_reply_unique read_reply_unique             a reply to a writer, to a reader
--   wish_unique                                      the smallest plan for a wish
use Rattle.terms.specs.declared.Refusal.{Refusal}
use Prim.{Unit}
use Rattle.std.specs.Prelude.{Result}
use Prim.Native.Nat.{ℕ}
use mathlib.Core.Path.{◌≡◌, sym, ap, ◌∙◌}
use mathlib.Core.List.{List}
use Rattle.terms.specs.declared.Ask.{Ask}
use Rattle.terms.specs.declared.Plan.{Plan}
use Rattle.node.specs.Node as node
use Rattle.node.specs.Node.{NodeCall}
use Rattle.node.specs.Fresh.{FreshCall, FreshOutcome, fresh_outcome, said_made}
use Rattle.runs.specs.declared.Ran.{Ran}
use Rattle.runs.specs.Runs.{RunCall}
use Rattle.runs.proofs.Unique.{run_one}
use Rattle.session.specs.declared.Session.{Session}
use Rattle.standing.specs.declared.Operation.{Operation}
use Rattle.session.specs.declared.Took.{Took}
use Rattle.session.specs.declared.opening.Opened.{Opened}
use Rattle.session.specs.Opening.{OpenCall, Opens}
use Rattle.session.specs.Owed.{OwedCall, Dues}
use Rattle.session.specs.Reader.{ReadReplyCall, Outcome}
use Rattle.session.specs.Writer.{WriteReplyCall, Leaves}
use Rattle.session.proofs.Openings.{opening_one}
use Rattle.session.proofs.Oweds.{due_one}
use Rattle.wish.specs.declared.Wish.{Wish}
use Rattle.wish.specs.Wish.{Smallest, SmallestCall}
use Rattle.wish.proofs.Calls.{call_one}
use Rattle.store.proofs.Node as nodes
use Rattle.client.proofs.Client as client

-- ---- the node
-- Any two outcomes that the contract of the node's call allows at the same plan, request, book and reply buffer are equal: the answer, every
-- byte of the book and every byte of the reply buffer.
pub node_unique : (p : Plan) (f b y : List ℕ) (a₁ a₂ : Result ℕ Refusal) (b₁ b₂ y₁ y₂ : List ℕ) → NodeCall p f b y a₁ b₁ y₁ → NodeCall p f b y a₂ b₂ y₂
    → (a₁ ≡ a₂) × (b₁ ≡ b₂) × (y₁ ≡ y₂)
node_unique p f b y a₁ a₂ b₁ b₂ y₁ y₂ c d =
    let h : node.served_outcome (node.said_served a₁) b₁ y₁ ≡ node.served_outcome (node.said_served a₂) b₂ y₂ = c.is ∙ sym d.is in
    (nodes.served_one a₁ a₂ (ap (λ (o : node.ServedOutcome). o.answer) h), ap (λ (o : node.ServedOutcome). o.book) h, ap (λ (o : node.ServedOutcome). o.reply) h)

-- The same of the making of a fresh book.
pub fresh_unique : (p : Plan) (node : ℕ) (b : List ℕ) (a₁ a₂ : Result (Unit {0}) Refusal) (b₁ b₂ : List ℕ) → FreshCall p node b a₁ b₁ → FreshCall p node b a₂ b₂
    → (a₁ ≡ a₂) × (b₁ ≡ b₂)
fresh_unique p node b a₁ a₂ b₁ b₂ c d =
    let h : fresh_outcome (said_made a₁) b₁ ≡ fresh_outcome (said_made a₂) b₂ = c.is ∙ sym d.is in
    (nodes.made_one a₁ a₂ (ap (λ (o : FreshOutcome). o.answer) h), ap (λ (o : FreshOutcome). o.book) h)

-- The same of a run of frames: what it tells, every byte of the book, of the reply buffer and of the number places.
pub run_unique : (p : Plan) (s b y z : List ℕ) (a₁ a₂ : Result Ran Refusal) (b₁ b₂ y₁ y₂ z₁ z₂ : List ℕ) → RunCall p s b y z a₁ b₁ y₁ z₁ → RunCall p s b y z a₂ b₂ y₂ z₂
    → (a₁ ≡ a₂) × (b₁ ≡ b₂) × (y₁ ≡ y₂) × (z₁ ≡ z₂)
run_unique = run_one

-- ---- the client
-- Any two outcomes that the contract of an opening allows at the same plan and ask number are equal.
pub opening_unique : (op : Operation) (p : Plan) (a : Ask) (r₁ r₂ : Opened) → OpenCall op p a r₁ → OpenCall op p a r₂ → r₁ ≡ r₂
opening_unique op p a r₁ r₂ c d =
    let h = c.is ∙ sym d.is in
    let x = opening_one r₁.answer r₂.answer (ap (λ (o : Opens). o.number) h) in
    let y = ap (λ (o : Opens). o.session) h in
    λ i. record { answer = x i; session = y i }

-- The same of a request owed: the answer, and every byte of the request buffer.
pub owed_unique : (p : Plan) (s : Session) (node : ℕ) (d q : List ℕ) (r₁ r₂ : Result ℕ Refusal) (q₁ q₂ : List ℕ) → OwedCall p s node d q r₁ q₁
    → OwedCall p s node d q r₂ q₂ → (r₁ ≡ r₂) × (q₁ ≡ q₂)
owed_unique p s node d q r₁ r₂ q₁ q₂ c e =
    let h = c.is ∙ sym e.is in
    (due_one r₁ r₂ (ap (λ (o : Dues). o.due) h), ap (λ (o : Dues). o.request) h)

-- The same of a reply to a writer: the answer, the next session, and every byte of the desk.
pub write_reply_unique : (p : Plan) (s : Session) (f d i : List ℕ) (t₁ t₂ : Took) (d₁ d₂ : List ℕ) → WriteReplyCall p s f d i t₁ d₁
    → WriteReplyCall p s f d i t₂ d₂ → (t₁ ≡ t₂) × (d₁ ≡ d₂)
write_reply_unique p s f d i t₁ t₂ d₁ d₂ c e =
    let h = c.is ∙ sym e.is in
    let x = client.said_one t₁.answer t₂.answer (ap (λ (o : Leaves). o.said) h) in
    let y = ap (λ (o : Leaves). o.session) h in
    ((λ i. record { session = y i; answer = x i }), ap (λ (o : Leaves). o.desk) h)

-- The same of a reply to a reader: the answer, the next session, and every byte of the desk and of the item.
pub read_reply_unique : (p : Plan) (s : Session) (f d i : List ℕ) (t₁ t₂ : Took) (d₁ d₂ i₁ i₂ : List ℕ) → ReadReplyCall p s f d i t₁ d₁ i₁
    → ReadReplyCall p s f d i t₂ d₂ i₂ → (t₁ ≡ t₂) × (d₁ ≡ d₂) × (i₁ ≡ i₂)
read_reply_unique p s f d i t₁ t₂ d₁ d₂ i₁ i₂ c e =
    let h = c.is ∙ sym e.is in
    let x = client.said_one t₁.answer t₂.answer (ap (λ (o : Outcome). o.said) h) in
    let y = ap (λ (o : Outcome). o.session) h in
    ((λ i. record { session = y i; answer = x i }), ap (λ (o : Outcome). o.desk) h, ap (λ (o : Outcome). o.item) h)

-- ---- the smallest plan
-- Any two answers that its contract allows at the same wish are equal: the refusal, or N and Q.
pub wish_unique : (w : Wish) (a₁ a₂ : Smallest) → SmallestCall w a₁ → SmallestCall w a₂ → a₁ ≡ a₂
wish_unique w a₁ a₂ c d = call_one w a₁ a₂ c d
