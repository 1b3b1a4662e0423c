-- A session as 237 bytes, for a host: operation (0 write, 1 read), stage (0 asking: a time or a read round, 1 storing: a write or a repair
-- round, 2 ended), round 2, bound 41 (0 and forty zeros: none; 1 and the timestamp), opening ask number 8, 16 times of 8 by node number,
-- timestamp being written 40, 16 marks (0 unheard, 1 first triple, 2 record). Document 01, "The client": "Beside the marks a session holds
-- operation, stage, round, bound, opening ask number, and the greatest time so far or the timestamp being written." The greatest time so far
-- is, since document 02's Q-2, the time replies by node; any 16 times have a meaning.
--   session_length                      237
--   operation_byte stage_byte mark_byte   the cases as bytes; operation_of stage_of heard_of, bytes as cases
--   bound_bytes times_bytes mark_bytes round_bytes ask_bytes heard_bytes session_bytes   laid out
--   bound_shaped marks_shaped session_shaped   whether some bytes code a bound, marks, a session
--   bound_of times_at marks_of round_at session_at   what they code
--   session_of                          any bytes as a session: those that code none give one in no range, so that every call refuses it 9
-- Assumes nothing.
use Rattle.std.specs.Prelude.{ℕ, zero, suc, ◌+◌, Bool, true, cond, List, [], ◌∷◌, ◌++◌, length, leb, eqb, Option, None, Some}
use Rattle.octets.specs.Bytes.{part, be}
use Rattle.terms.specs.Ladder.{all, ◌and◌, ◌or◌}
use Rattle.terms.specs.Stamp.{stamp_number, stamp_at}
use Rattle.terms.specs.declared.Time.{Time}
use Rattle.terms.specs.declared.Timestamp.{Timestamp}
use Rattle.rounds.specs.declared.Heard.{Heard}
use Rattle.rounds.specs.declared.Heard.TheVariants.{Unheard, First, Record}
use Rattle.standing.specs.declared.Operation.{Operation}
use Rattle.standing.specs.declared.Operation.TheVariants.{Write, Read}
use Rattle.standing.specs.declared.Stage.{Stage}
use Rattle.standing.specs.declared.Stage.TheVariants.{Asking, Storing, Ended}
use Rattle.standing.specs.declared.Round.{Round}
use Rattle.session.specs.declared.Session.{Session}
use Rattle.session.specs.Opening.{no_session}
use Rattle.packing.specs.PlanBytes.{field}

abbrev pub session_length : ℕ
session_length = 237

-- ---- laid out
abbrev pub operation_byte : Operation → ℕ
operation_byte Write = 0
operation_byte Read = 1

abbrev pub stage_byte : Stage → ℕ
stage_byte Asking = 0
stage_byte Storing = 1
stage_byte Ended = 2

abbrev pub mark_byte : Heard → ℕ
mark_byte Unheard = 0
mark_byte First = 1
mark_byte Record = 2

-- "0 and forty zeros: none; 1 and the timestamp"
unfoldable pub bound_bytes : Option Timestamp → List ℕ
bound_bytes None = be 1 0 ++ be 40 0
bound_bytes (Some u) = be 1 1 ++ be 40 (stamp_number u)

-- node 0's first
unfoldable pub times_bytes : List Time → List ℕ
times_bytes [] = []
times_bytes (t ∷ ts) = be 8 t.0 ++ times_bytes ts

unfoldable pub mark_bytes : List Heard → List ℕ
mark_bytes [] = []
mark_bytes (m ∷ ms) = mark_byte m ∷ mark_bytes ms

unfoldable pub round_bytes : Round → List ℕ
round_bytes r = be 1 (stage_byte r.stage) ++ (be 2 r.number ++ bound_bytes r.bound)

-- in two parts, as they are written: what a session asks with, and what it has heard
unfoldable pub ask_bytes : Session → List ℕ
ask_bytes s = be 1 (operation_byte s.operation) ++ (round_bytes s.round ++ be 8 s.opening.0)

unfoldable pub heard_bytes : Session → List ℕ
heard_bytes s = times_bytes s.times ++ (be 40 (stamp_number s.stamp) ++ mark_bytes s.marks)

unfoldable pub session_bytes : Session → List ℕ
session_bytes s = ask_bytes s ++ heard_bytes s

-- ---- read back
unfoldable pub operation_of : ℕ → Operation
operation_of k = cond (eqb k 0) Write Read

unfoldable pub stage_of : ℕ → Stage
stage_of k = cond (eqb k 0) Asking (cond (eqb k 1) Storing Ended)

unfoldable pub heard_of : ℕ → Heard
heard_of k = cond (eqb k 0) Unheard (cond (eqb k 1) First Record)

-- of the byte before it and the 40 bytes as a number: forty zeros are the number 0
unfoldable pub bound_shaped : ℕ → ℕ → Bool
bound_shaped k u = eqb k 1 or (eqb k 0 and eqb u 0)

unfoldable pub bound_of : ℕ → Timestamp → Option Timestamp
bound_of k u = cond (eqb k 0) None (Some u)

-- the n times that stand from a place on, 8 bytes each
unfoldable pub times_at : List ℕ → (at n : ℕ) → List Time
times_at x at zero = []
times_at x at (suc n) = record { 0 = field x at 8 } ∷ times_at x (at + 8) n

unfoldable pub marks_shaped : List ℕ → Bool
marks_shaped [] = true
marks_shaped (x ∷ l) = leb x 2 and marks_shaped l

unfoldable pub marks_of : List ℕ → List Heard
marks_of [] = []
marks_of (x ∷ l) = heard_of x ∷ marks_of l

unfoldable pub session_shaped : List ℕ → Bool
session_shaped x =
    all (
    eqb (length x) session_length ∷
    leb (field x 0 1) 1 ∷
    leb (field x 1 1) 2 ∷
    bound_shaped (field x 4 1) (field x 5 40) ∷
    marks_shaped (part x 221 16) ∷ [])

unfoldable pub round_at : List ℕ → Round
round_at x = record { stage = stage_of (field x 1 1); number = field x 2 2; bound = bound_of (field x 4 1) (stamp_at x 5) }

unfoldable pub session_at : List ℕ → Session
session_at x =
    record {
      operation = operation_of (field x 0 1);
      round = round_at x;
      opening = record { 0 = field x 45 8 };
      times = times_at x 53 16;
      stamp = stamp_at x 181;
      marks = marks_of (part x 221 16);
    }

unfoldable pub session_of : List ℕ → Session
session_of x = cond (session_shaped x) (session_at x) (no_session Read)
