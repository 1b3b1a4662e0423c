-- The client's five calls for a host, on numbers and bytes: opening a write or a read, the request owed to a node, a reply to a writer or a
-- reader. The session is 237 bytes that the host holds, the ending 42 bytes: timestamp 40, rounds 2. Each call answers a number: 0 where it
-- was opened, written, or accepted and the operation is open; 1 to 14 the refusals of document 01, "Refusal numbers"; 101 done, 102 never
-- written, 103 aborted, 104 rounds spent, 105 clock spent. "All leave every buffer and the session as they came."
-- A session or an ending of a wrong length is 2 in 2's place. Bytes that code no session are one in no range (packing), which the call
-- refuses 9 in 9's place. The calls are those of document 01 on a plan and a session: nothing is said twice.
--   session_after           the session bytes after an answer: as they came at a refusal
--   open_bytes owed_bytes write_bytes read_bytes   the calls
--   OpenServes OwedServes WriteServes ReadServes   their contracts
-- Assumes nothing.
use Rattle.std.specs.Prelude.{ℕ, ◌≡◌, Bool, cond, List, length, eqb, None}
use Rattle.terms.specs.Ladder.{first}
use Rattle.standing.specs.declared.Operation.{Operation}
use Rattle.session.specs.declared.Session.{Session}
use Rattle.session.specs.Session.{Said, is_refused}
use Rattle.session.specs.Opening.{Opens, open_with}
use Rattle.session.specs.Owed.{Dues, owed_to}
use Rattle.session.specs.Writer.{Leaves, write_reply}
use Rattle.session.specs.Reader.{Outcome, outcome, read_reply}
use Rattle.packing.specs.PlanBytes.{plan_of}
use Rattle.packing.specs.SessionBytes.{session_length, session_bytes, session_of}
use Rattle.answers.specs.Answers.{both_fit, lent_ladder, due_number, answer_number, ending_after}

-- ---- lengths
-- a session or an ending of a wrong length is 2
abbrev pub session_fits : ℕ → Bool
session_fits s = eqb s session_length

-- ---- the session bytes after an answer
unfoldable pub session_after : Said → Session → List ℕ → List ℕ
session_after a s old = cond (is_refused a) old (session_bytes s)

-- ---- opening: 1, 2, 13. a refused opening leaves the session bytes as they came
pub record OpenedBytes : Type 0 where
  pub number : ℕ
  pub session : List ℕ

abbrev pub opened_bytes : ℕ → List ℕ → OpenedBytes
opened_bytes k s = record { number = k; session = s }

abbrev pub opened_as : Opens → List ℕ → OpenedBytes
opened_as o s = opened_bytes o.number (cond (eqb o.number 0) (session_bytes o.session) s)

unfoldable pub open_bytes : Operation → List ℕ → ℕ → List ℕ → OpenedBytes
open_bytes op x a s =
    first (lent_ladder (plan_of x) (session_fits (length s))) (λ (k : ℕ). opened_bytes k s) (opened_as (open_with op None (plan_of x) (record { 0 = a })) s)

-- operation, plan bytes, opening ask number, session bytes; then the number answered and the session bytes as the call leaves them
pub record OpenServes (op : Operation) (x : List ℕ) (a : ℕ) (s : List ℕ) (r : ℕ) (s₂ : List ℕ) : Type 0 where
  pub is : opened_bytes r s₂ ≡ open_bytes op x a s

-- ---- the request owed: 1, 2, 9, 14, 4, 11
pub record Asked : Type 0 where
  pub number : ℕ
  pub request : List ℕ

abbrev pub asked : ℕ → List ℕ → Asked
asked k q = record { number = k; request = q }

abbrev pub asked_as : Dues → Asked
asked_as o = asked (due_number o.due) o.request

unfoldable pub owed_bytes : (x s : List ℕ) → ℕ → (d q : List ℕ) → Asked
owed_bytes x s n d q =
    first (lent_ladder (plan_of x) (session_fits (length s))) (λ (k : ℕ). asked k q) (asked_as (owed_to (plan_of x) (session_of s) n d q))

-- plan bytes, session bytes, node number, desk, request buffer; then the number answered and the request buffer as the call leaves it
pub record OwedServes (x s : List ℕ) (n : ℕ) (d q : List ℕ) (r : ℕ) (q₂ : List ℕ) : Type 0 where
  pub is : asked r q₂ ≡ owed_bytes x s n d q

-- ---- a reply: 1, 2, 9, 14, 4, 10, 11, 5, 6, 12
pub record TookBytes : Type 0 where
  pub number : ℕ
  pub session : List ℕ
  pub desk : List ℕ
  pub item : List ℕ
  pub ending : List ℕ

abbrev pub took_bytes : ℕ → List ℕ → List ℕ → List ℕ → List ℕ → TookBytes
took_bytes k s d i e = record { number = k; session = s; desk = d; item = i; ending = e }

abbrev pub took_as : Outcome → List ℕ → List ℕ → TookBytes
took_as o s e = took_bytes (answer_number o.said) (session_after o.said o.session s) o.desk o.item (ending_after o.said e)

unfoldable pub read_bytes : (x s f d i e : List ℕ) → TookBytes
read_bytes x s f d i e =
    first (lent_ladder (plan_of x) (both_fit (length s) (length e))) (λ (k : ℕ). took_bytes k s d i e) (took_as (read_reply (plan_of x) (session_of s) f d i) s e)

-- a writer's item stays
abbrev pub with_item : Leaves → List ℕ → Outcome
with_item l i = outcome l.said l.session l.desk i

unfoldable pub write_bytes : (x s f d i e : List ℕ) → TookBytes
write_bytes x s f d i e =
    first (lent_ladder (plan_of x) (both_fit (length s) (length e))) (λ (k : ℕ). took_bytes k s d i e)
    (took_as (with_item (write_reply (plan_of x) (session_of s) f d i) i) s e)

-- plan, session, reply, desk, item and ending bytes; then the number answered and the bytes as the call leaves them. A writer's item comes
-- as a slice that cannot be written, so it is not among the outcomes.
pub record WriteServes (x s f d i e : List ℕ) (r : ℕ) (s₂ d₂ e₂ : List ℕ) : Type 0 where
  pub is : took_bytes r s₂ d₂ i e₂ ≡ write_bytes x s f d i e

pub record ReadServes (x s f d i e : List ℕ) (r : ℕ) (s₂ d₂ i₂ e₂ : List ℕ) : Type 0 where
  pub is : took_bytes r s₂ d₂ i₂ e₂ ≡ read_bytes x s f d i e
