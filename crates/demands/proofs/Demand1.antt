-- DEMAND 1. "Every call, given arbitrary bytes, plans, books or sessions, ends with an answer that document 01 names. A refused call changes
-- no byte of the book, the desk, the sheet or the reply, and hands back the session it was given."
-- One theorem a call, for whatever it was lent: it is refused k, where k is the first refusal of the call's order that applies, and
-- everything is as it came; or no refusal applies, and it is answered as document 01 says. That a call ends at all is part of its being
-- proved. Demand 2's "Each refusal is given exactly when document 01 says" stands in Refusals. Assumes nothing.
--   node_ends run_ends fresh_ends opening_ends owed_ends write_ends read_ends wish_ends
use Rattle.terms.specs.declared.Refusal.{Refusal}
use Prim.{Unit}
use Rattle.std.specs.Prelude.{Result}
use Prim.Native.Nat.{ℕ}
use mathlib.Core.Path.{◌≡◌, refl, sym, ap, ◌∙◌, subst}
use mathlib.Core.Bool.{false}
use mathlib.Core.List.{List, []}
use lib.ListN.{length}
use lib.Dec.{eqb}
use Rattle.octets.specs.Bytes.{over}
use Rattle.terms.specs.Stamp.{time, top}
use Rattle.terms.specs.declared.Ask.{Ask}
use Rattle.terms.specs.declared.Plan.{Plan}
use Rattle.book.specs.Book.{laid_out}
use Rattle.frame.specs.Frame.{header_in, frame_node, body_of}
use Rattle.rounds.specs.declared.Heard.TheVariants.{Record}
use Rattle.std.proofs.Common.{None}
use Rattle.node.specs.Node as node
use Rattle.node.specs.Node.{NodeCall, node_ladder, served, answered}
use Rattle.node.specs.Fresh as fresh
use Rattle.node.specs.Fresh.{FreshCall, FreshOutcome, fresh_outcome, fresh_ladder, freshened, said_made}
use Rattle.runs.specs.declared.Ran.{Ran}
use Rattle.runs.specs.Runs as runs
use Rattle.runs.specs.Runs.{RunOutcome, run_outcome, said_ran, run_ladder, run_of, ran_over, RunCall}
use Rattle.session.specs.declared.Session.{Session}
use Rattle.standing.specs.declared.Operation.{Operation}
use Rattle.session.specs.declared.Took.{Took}
use Rattle.session.specs.declared.opening.Opened.{Opened}
use Rattle.session.specs.Session as session
use Rattle.standing.specs.Standing.{is_storing}
use Rattle.session.specs.Session.{marked_of, said_of, is_refused}
use Rattle.session.specs.Opening.{OpenCall, Opens, opens, opening_ladder, opening_number, open_with, fresh_of, no_session}
use Rattle.session.specs.Owed as owed
use Rattle.session.specs.Owed.{OwedCall, Dues, dues, due_of, owed_to, owed_ladder, request_of}
use Rattle.session.specs.Reader.{ReadReplyCall, Outcome, outcome, accepted, stored}
use Rattle.session.specs.Writer.{WriteReplyCall, Leaves, leaves, timed_of, kth_reply, write_turn, time_turn, time_end, accepted_write}
use Rattle.session.proofs.Closings.{pick}
use Rattle.client.specs.Endings.{read_ladder, write_ladder, after_reply, desk_after}
use Rattle.terms.proofs.Ladders as ladders
use Rattle.terms.proofs.Picks.{either}
use Rattle.client.proofs.Reading as reading
use Rattle.client.proofs.Writing as writing
use Rattle.client.proofs.Round.Reply.{settled_taken}
use Rattle.wish.specs.declared.Wish.{Wish}
use Rattle.wish.specs.Wish as wish
use Rattle.wish.specs.Wish.{Smallest, SaidSmallest, said_smallest, wish_ladder, Says, SmallestCall}
use Rattle.demands.specs.Ends.{Ends, refuses, accepts, Granted}

-- ---- the node: order 1 to 8; a reply frame of some length, or nothing but the refusal
pub node_ends : (p : Plan) (f b y : List ℕ) (a : Result ℕ Refusal) (b₂ y₂ : List ℕ) → NodeCall p f b y a b₂ y₂
    → Ends (node_ladder p f b y) (λ (k : ℕ). (node.said_served a ≡ node.refused k) × (b₂ ≡ b) × (y₂ ≡ y))
    (node.served_outcome (node.said_served a) b₂ y₂ ≡ answered p (header_in f) (body_of f) b y)
unfolding served
node_ends p f b y a b₂ y₂ c =
    ladders.by_ladder
    (λ (o : node.ServedOutcome). node.served_outcome (node.said_served a) b₂ y₂ ≡ o
    → Ends (node_ladder p f b y) (λ (k : ℕ). (node.said_served a ≡ node.refused k) × (b₂ ≡ b) × (y₂ ≡ y)) (node.served_outcome (node.said_served a) b₂ y₂ ≡ answered p (header_in f) (body_of f) b y))
    (node_ladder p f b y) (λ (k : ℕ). node.served_outcome (node.refused k) b y) (answered p (header_in f) (body_of f) b y)
    (λ k g h. refuses k g (ap (λ (o : node.ServedOutcome). o.answer) h, ap (λ (o : node.ServedOutcome). o.book) h, ap (λ (o : node.ServedOutcome). o.reply) h))
    (λ n h. accepts n h)
    c.is

-- a run: order 1, 2, 21, 3; the frames that were cut, or nothing but the refusal
pub run_ends : (p : Plan) (s b y z : List ℕ) (a : Result Ran Refusal) (b₂ y₂ z₂ : List ℕ) → RunCall p s b y z a b₂ y₂ z₂
    → Ends (run_ladder p s b y z) (λ (k : ℕ). (said_ran a ≡ runs.refused k) × (b₂ ≡ b) × (y₂ ≡ y) × (z₂ ≡ z)) (run_outcome (said_ran a) b₂ y₂ z₂ ≡ run_of p s b y z)
unfolding ran_over
run_ends p s b y z a b₂ y₂ z₂ c =
    ladders.by_ladder
    (λ (o : RunOutcome). run_outcome (said_ran a) b₂ y₂ z₂ ≡ o
    → Ends (run_ladder p s b y z) (λ (k : ℕ). (said_ran a ≡ runs.refused k) × (b₂ ≡ b) × (y₂ ≡ y) × (z₂ ≡ z)) (run_outcome (said_ran a) b₂ y₂ z₂ ≡ run_of p s b y z))
    (run_ladder p s b y z) (λ (k : ℕ). run_outcome (runs.refused k) b y z) (run_of p s b y z)
    (λ k g h. refuses k g (ap (λ (o : RunOutcome). o.answer) h, ap (λ (o : RunOutcome). o.book) h, ap (λ (o : RunOutcome). o.reply) h, ap (λ (o : RunOutcome). o.numbers) h))
    (λ n h. accepts n h)
    c.is

-- a fresh book: order 1, 2, 4
pub fresh_ends : (p : Plan) (n : ℕ) (b : List ℕ) (a : Result (Unit {0}) Refusal) (b₂ : List ℕ) → FreshCall p n b a b₂
    → Ends (fresh_ladder p n b) (λ (k : ℕ). (said_made a ≡ fresh.refused k) × (b₂ ≡ b)) ((said_made a ≡ fresh.made) × (b₂ ≡ over (laid_out p n []) b))
unfolding freshened
fresh_ends p n b a b₂ c =
    ladders.by_ladder
    (λ (o : FreshOutcome). fresh_outcome (said_made a) b₂ ≡ o
    → Ends (fresh_ladder p n b) (λ (k : ℕ). (said_made a ≡ fresh.refused k) × (b₂ ≡ b)) ((said_made a ≡ fresh.made) × (b₂ ≡ over (laid_out p n []) b)))
    (fresh_ladder p n b) (λ (k : ℕ). fresh_outcome (fresh.refused k) b) (fresh_outcome fresh.made (over (laid_out p n []) b))
    (λ k g h. refuses k g (ap (λ (o : FreshOutcome). o.answer) h, ap (λ (o : FreshOutcome). o.book) h))
    (λ m h. accepts m (ap (λ (o : FreshOutcome). o.answer) h, ap (λ (o : FreshOutcome). o.book) h))
    c.is

-- ---- an opening: order 1, 13; there is no session to hand back
pub opening_ends : (op : Operation) (p : Plan) (a : Ask) (r : Opened) → OpenCall op p a r
    → Ends (opening_ladder p a.0) (λ (k : ℕ). (opening_number r.answer ≡ k) × (r.session ≡ no_session op))
    ((opening_number r.answer ≡ 0) × (r.session ≡ fresh_of op 1 None a))
unfolding open_with
opening_ends op p a r c =
    ladders.by_ladder
    (λ (o : Opens). opens (opening_number r.answer) r.session ≡ o
    → Ends (opening_ladder p a.0) (λ (k : ℕ). (opening_number r.answer ≡ k) × (r.session ≡ no_session op))
    ((opening_number r.answer ≡ 0) × (r.session ≡ fresh_of op 1 None a)))
    (opening_ladder p a.0) (λ (k : ℕ). opens k (no_session op)) (opens 0 (fresh_of op 1 None a))
    (λ k g h. refuses k g (ap (λ (o : Opens). o.number) h, ap (λ (o : Opens). o.session) h))
    (λ m h. accepts m (ap (λ (o : Opens). o.number) h, ap (λ (o : Opens). o.session) h))
    c.is

-- ---- a request owed: order 1, 2, 9, 14, 4, 11; the session comes by value and stays
pub owed_ends : (p : Plan) (s : Session) (n : ℕ) (d q : List ℕ) (r : Result ℕ Refusal) (q₂ : List ℕ) → OwedCall p s n d q r q₂
    → Ends (owed_ladder p s n d (length q)) (λ (k : ℕ). (due_of r ≡ owed.refused k) × (q₂ ≡ q))
    ((due_of r ≡ owed.written (length (request_of p s n d))) × (q₂ ≡ over (request_of p s n d) q))
unfolding owed_to
owed_ends p s n d q r q₂ c =
    ladders.by_ladder
    (λ (o : Dues). dues (due_of r) q₂ ≡ o
    → Ends (owed_ladder p s n d (length q)) (λ (k : ℕ). (due_of r ≡ owed.refused k) × (q₂ ≡ q))
    ((due_of r ≡ owed.written (length (request_of p s n d))) × (q₂ ≡ over (request_of p s n d) q)))
    (owed_ladder p s n d (length q)) (λ (k : ℕ). dues (owed.refused k) q)
    (dues (owed.written (length (request_of p s n d))) (over (request_of p s n d) q))
    (λ k g h. refuses k g (ap (λ (o : Dues). o.due) h, ap (λ (o : Dues). o.request) h))
    (λ m h. accepts m (ap (λ (o : Dues). o.due) h, ap (λ (o : Dues). o.request) h))
    c.is

-- ---- a reply to a writer: order 1, 2, 9, 14, 4, 10, 11; open, done or clock spent (write_open, write_done and clock_spent_lem of client)
pub write_ends : (p : Plan) (s : Session) (f d i : List ℕ) (t : Took) (d₂ : List ℕ) → WriteReplyCall p s f d i t d₂
    → Ends (write_ladder p s f d (length i)) (λ (k : ℕ). (said_of t.answer ≡ session.refused k) × (t.session ≡ s) × (d₂ ≡ d))
    (leaves (said_of t.answer) t.session d₂ ≡ accepted_write p s f d i)
write_ends p s f d i t d₂ c =
    ladders.by_ladder
    (λ (o : Leaves). leaves (said_of t.answer) t.session d₂ ≡ o
    → Ends (write_ladder p s f d (length i)) (λ (k : ℕ). (said_of t.answer ≡ session.refused k) × (t.session ≡ s) × (d₂ ≡ d))
    (leaves (said_of t.answer) t.session d₂ ≡ accepted_write p s f d i))
    (write_ladder p s f d (length i)) (λ (k : ℕ). leaves (session.refused k) s d) (accepted_write p s f d i)
    (λ k g h. refuses k g (ap (λ (o : Leaves). o.said) h, ap (λ (o : Leaves). o.session) h, ap (λ (o : Leaves). o.desk) h))
    (λ m h. accepts m h)
    (c.is ∙ writing.one_ladder p s f d i)

-- a writer's reply that nothing refuses is not refused
pub write_taken : (p : Plan) (s : Session) (f d i : List ℕ) → is_refused (accepted_write p s f d i).said ≡ false
unfolding accepted_write write_turn time_turn time_end
write_taken p s f d i =
    let timed = timed_of s (frame_node f) (time (body_of f)) in
    either Taken (is_storing s.round.stage)
    (either Taken (session.round_open p (marked_of s (frame_node f) Record)) refl refl)
    (either Taken (session.round_open p timed) refl (either Taken (eqb (kth_reply p timed) top) refl refl))
  where
    Taken : Leaves → Type 0
    Taken o = is_refused o.said ≡ false

-- ---- a reply to a reader: order 1, 2, 9, 14, 4, 10, 11, 5, 6, 12; open, or one of a read's endings (read_open, read_done, never_written_lem,
-- is_aborted and rounds_spent_lem of client), and no refusal
pub accepted_taken : (p : Plan) (s : Session) (f d i : List ℕ) → is_refused (accepted p s f d i).said ≡ false
unfolding accepted stored
accepted_taken p s f d i =
    pick Taken (is_storing s.round.stage) (pick Taken (session.round_open p (marked_of s (frame_node f) Record)) refl refl)
    (subst Taken (sym (reading.heard_settles p s f d i)) (settled_taken p (after_reply p s f) (desk_after p f d) i))
  where
    Taken : Outcome → Type 0
    Taken o = is_refused o.said ≡ false

pub read_ends : (p : Plan) (s : Session) (f d i : List ℕ) (t : Took) (d₂ i₂ : List ℕ) → ReadReplyCall p s f d i t d₂ i₂
    → Ends (read_ladder p s f d (length i)) (λ (k : ℕ). (said_of t.answer ≡ session.refused k) × (t.session ≡ s) × (d₂ ≡ d) × (i₂ ≡ i))
    ((is_refused (said_of t.answer) ≡ false) × (outcome (said_of t.answer) t.session d₂ i₂ ≡ accepted p s f d i))
read_ends p s f d i t d₂ i₂ c =
    ladders.by_ladder
    (λ (o : Outcome). outcome (said_of t.answer) t.session d₂ i₂ ≡ o
    → Ends (read_ladder p s f d (length i)) (λ (k : ℕ). (said_of t.answer ≡ session.refused k) × (t.session ≡ s) × (d₂ ≡ d) × (i₂ ≡ i))
    ((is_refused (said_of t.answer) ≡ false) × (outcome (said_of t.answer) t.session d₂ i₂ ≡ accepted p s f d i)))
    (read_ladder p s f d (length i)) (λ (k : ℕ). outcome (session.refused k) s d i) (accepted p s f d i)
    (λ k g h. refuses k g
    (ap (λ (o : Outcome). o.said) h, ap (λ (o : Outcome). o.session) h, ap (λ (o : Outcome). o.desk) h, ap (λ (o : Outcome). o.item) h))
    (λ m h. accepts m (ap (λ (o : Outcome). is_refused o.said) h ∙ accepted_taken p s f d i, h))
    (c.is ∙ reading.one_ladder p s f d i)

-- ---- the smallest plan for a wish: order 1, 20; nothing is lent
pub wish_ends : (w : Wish) (a : Smallest) → SmallestCall w a
    → Ends (wish_ladder w) (λ (k : ℕ). said_smallest a ≡ wish.refused k) (Granted w (said_smallest a))
wish_ends w a c = go (said_smallest a) c.is
  where
    go : (x : SaidSmallest) → Says w x → Ends (wish_ladder w) (λ (k : ℕ). x ≡ wish.refused k) (Granted w x)
    go (wish.refused k) g = refuses k g refl
    go (wish.counts n q) g = accepts g.0 (record { n = n; q = q; is = refl; smallest = g.1 })
