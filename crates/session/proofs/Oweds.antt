-- Laws of the request owed to a node. Assumes nothing.
use Prim.{Unit}
use Rattle.std.specs.Prelude.{Result, Ok, Err}
use Prim.Native.Nat.{ℕ, ◌*◌, ◌≤◌, ◌<◌}
use mathlib.Core.Path.{◌≡◌, refl, ap, ◌∙◌}
use mathlib.Core.Bool.{Bool, true, false}
use mathlib.Core.List.{List, []}
use native.Mathlib.Omega.{arith}
use borrow.Author.Tests.{ltb-true, not-false}
use lib.Dec.{ltb}
use lib.ListN.{length}
use Rattle.octets.specs.Bytes.{part, over}
use Rattle.terms.specs.Ladder.{first}
use Rattle.terms.specs.Terms.{record_length, refusal_number}
use Rattle.terms.specs.declared.Plan.{Plan}
use Rattle.terms.specs.declared.Refusal.{Refusal}
use Rattle.terms.proofs.Rungs.{refusal_one}
use Rattle.frame.specs.Frame.{frame, longest, write_request_kind, time_request_kind}
use Rattle.session.specs.declared.Session.{Session}
use Rattle.standing.specs.Standing.{is_read, is_storing, room_ok, read_request}
use Rattle.session.specs.Session.{ask_now}
use Rattle.session.specs.Reply.{check_number}
use Rattle.session.specs.Owed.{owed_ladder, request_of, refused, written, due_of, dues, owed_to}
use Rattle.session.proofs.Checks.{goes_on, check_failed}
use Rattle.standing.proofs.Rules.{room_is}
use Rattle.session.proofs.Known.{Known}

-- ---- what is known of the node and the buffer where nothing refuses
module _ (p : Plan) (s : Session) (node : ℕ) (d : List ℕ) (request : ℕ) (o : Known (owed_ladder p s node d request) p s d) where
  pub node_low : node < p.n
  node_low = ltb-true node p.n (not-false (ltb node p.n) (o.past 4))

  pub request_low : longest 1 p ≤ request
  request_low = (room_is p (length d) request (not-false (room_ok p (length d) request) (o.past 2))).request_low

-- ---- the frame of the round
module _ (p : Plan) (s : Session) (node : ℕ) (d : List ℕ) (ask : ℕ) (a : ask ≡ ask_now s) (x : Bool) (g : x ≡ is_storing s.round.stage) where
  pub stores : x ≡ true → (r : ℕ) → r ≡ record_length p → request_of p s node d ≡ frame write_request_kind node ask (part d (node * r) r)
  unfolding request_of
  stores t r e = rw (← g, t, a, e)

  module _ (f : x ≡ false) (y : Bool) (h : y ≡ is_read s.operation) where
    pub asks_record : y ≡ true → request_of p s node d ≡ read_request s.round.bound node ask
    unfolding request_of
    asks_record t = rw (← g, f, ← h, t, a)

    pub asks_time : y ≡ false → request_of p s node d ≡ frame time_request_kind node ask []
    unfolding request_of
    asks_time t = rw (← g, f, ← h, t, a)

-- ---- the outcome
module _ (p : Plan) (s : Session) (node : ℕ) (d q : List ℕ) where
  pub owed_refused : (x : Result (Unit {0}) Refusal) → check_number x ≡ first (owed_ladder p s node d (length q)) (λ (k : ℕ). k) 0 → (r : Refusal) → x ≡ Err r
      → dues (refused (refusal_number r)) q ≡ owed_to p s node d q
  unfolding owed_to
  owed_refused x e r t = check_failed (owed_ladder p s node d (length q)) (check_number x) e (λ (k : ℕ). dues (refused k) q) _ r (ap check_number t)

  pub owed_written : (n : ℕ) (new : List ℕ) → first (owed_ladder p s node d (length q)) (λ (k : ℕ). k) 0 ≡ 0
      → (new ≡ over (request_of p s node d) q) × (n ≡ length (request_of p s node d)) → dues (written n) new ≡ owed_to p s node d q
  unfolding owed_to
  owed_written n new e h =
      (λ i. dues (written (h.1 i)) (h.0 i)) ∙ goes_on (λ (k : ℕ). dues (refused k) q) _ (owed_ladder p s node d (length q)) refl e

-- the answer in the document's terms tells the answer
pub due_one : (x y : Result ℕ Refusal) → due_of x ≡ due_of y → x ≡ y
due_one (Err r) (Err q) e = let z : refusal_number r ≡ refusal_number q = cc in ap Err (refusal_one r q z)
due_one (Err r) (Ok n) e = let z : ◌≡◌ {A = ℕ} 0 1 = cc in absurd (omega arith)
due_one (Ok n) (Err r) e = let z : ◌≡◌ {A = ℕ} 0 1 = cc in absurd (omega arith)
due_one (Ok m) (Ok n) e = let z : m ≡ n = cc in ap Ok z
