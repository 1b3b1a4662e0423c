-- What a call answers, as a host is told it. Each call answers a number: 0 where it was served, opened, written, or accepted and the
-- operation is open; 1 to 31 the refusals of the documents, "Refusal numbers" (15 to 19 and 22 to 31 are kept free); 101 done, 102 never written, 103 aborted, 104 rounds spent, 105
-- clock spent. An ending is 42 bytes: timestamp 40, rounds 2.
--   number_of               the number of any answer that is served or refused
--   made_number served_number due_number answer_number   an answer as a number
--   smallest_number counts_bytes counts_after   the answer of a wish; N and Q in a byte each, written where it is not refused
--   ran_number told_bytes told_after   the answer of a run; what it tells, in 8 bytes each, written where it is not refused
--   ending_bytes ending_after   the ending bytes; written at an ending only
--   ending_of answer_of         the answer that a number and ending bytes are
--   both_fit lent_ladder        1 and 2 of the lengths, before the call's own order
-- Assumes nothing.
use Rattle.terms.specs.declared.Refusal.{Refusal}
use Rattle.std.specs.Prelude.{ℕ, Bool, cond, not, List, [], ◌∷◌, ◌++◌, leb, eqb, Result, Ok, Err}
use Rattle.octets.specs.Bytes.{part, num, be}
use Rattle.terms.specs.Ladder.{Rung, on, ◌and◌}
use Rattle.terms.specs.Stamp.{stamp_number, stamp_at}
use Rattle.terms.specs.Terms.{plan_ok, refusal_number, refusal_at}
use Rattle.terms.specs.declared.Plan.{Plan}
use Rattle.terms.specs.declared.Timestamp.{Timestamp}
use Rattle.node.specs.Fresh as fresh
use Rattle.node.specs.Fresh.{SaidMade}
use Rattle.node.specs.Node as node
use Rattle.session.specs.declared.Answer.{Answer}
use Rattle.session.specs.declared.Answer.TheVariants.{Open, Done, NeverWritten, Aborted, RoundsSpent, ClockSpent}
use Rattle.session.specs.Session.{Said, refused, still_open, done, never_written, aborted, rounds_spent, clock_spent}
use Rattle.session.specs.Owed as owed
use Rattle.packing.specs.SessionBytes.{session_length}
use Rattle.session.specs.Owed.{Due}
use Rattle.wish.specs.Wish as wish
use Rattle.wish.specs.Wish.{SaidSmallest}
use Rattle.runs.specs.Runs as runs
use Rattle.runs.specs.Runs.{SaidRan}

-- ---- answers
-- of any answer that is told as served or refused; the next ones say the same of each, in the paper's terms
abbrev pub number_of : {T : Type 0} → Result T Refusal → ℕ
number_of (Ok x) = 0
number_of (Err r) = refusal_number r

abbrev pub made_number : SaidMade → ℕ
made_number (fresh.refused k) = k
made_number fresh.made = 0

abbrev pub served_number : node.SaidServed → ℕ
served_number (node.refused k) = k
served_number (node.replied n) = 0

abbrev pub due_number : Due → ℕ
due_number (owed.refused k) = k
due_number (owed.written n) = 0

abbrev pub answer_number : Said → ℕ
answer_number (refused k) = k
answer_number still_open = 0
answer_number (done t n) = 101
answer_number (never_written n) = 102
answer_number (aborted n) = 103
answer_number (rounds_spent n) = 104
answer_number clock_spent = 105

abbrev pub smallest_number : SaidSmallest → ℕ
smallest_number (wish.refused k) = k
smallest_number (wish.counts n q) = 0

unfoldable pub counts_bytes : ℕ → ℕ → List ℕ
counts_bytes n q = be 1 n ++ be 1 q

unfoldable pub counts_after : SaidSmallest → List ℕ → List ℕ
counts_after (wish.refused k) old = old
counts_after (wish.counts n q) old = counts_bytes n q

-- ---- a run: frames cut, bytes of replies written, place where the run ended
abbrev pub ran_number : SaidRan → ℕ
ran_number (runs.refused k) = k
ran_number (runs.did n w e) = 0

unfoldable pub told_bytes : ℕ → ℕ → ℕ → List ℕ
told_bytes n w e = be 8 n ++ (be 8 w ++ be 8 e)

unfoldable pub told_after : SaidRan → List ℕ → List ℕ
told_after (runs.refused k) old = old
told_after (runs.did n w e) old = told_bytes n w e

-- ---- endings
-- timestamp and rounds: zero where an ending has none
unfoldable pub ending_bytes : ℕ → ℕ → List ℕ
ending_bytes t n = be 40 t ++ be 2 n

unfoldable pub ending_after : Said → List ℕ → List ℕ
ending_after (refused k) old = old
ending_after still_open old = old
ending_after (done t n) old = ending_bytes (stamp_number t) n
ending_after (never_written n) old = ending_bytes 0 n
ending_after (aborted n) old = ending_bytes 0 n
ending_after (rounds_spent n) old = ending_bytes 0 n
ending_after clock_spent old = ending_bytes 0 0

-- ---- read back
abbrev pub ending_of : ℕ → Timestamp → ℕ → Result Answer Refusal
ending_of k t n = cond (eqb k 101) (Ok (Done t n)) (cond (eqb k 102) (Ok (NeverWritten n)) (cond (eqb k 103) (Ok (Aborted n)) (cond (eqb k 104) (Ok (RoundsSpent n)) (Ok ClockSpent))))

unfoldable pub answer_of : ℕ → List ℕ → Result Answer Refusal
answer_of k e = cond (eqb k 0) (Ok Open) (cond (leb k 100) (Err (refusal_at k)) (ending_of k (stamp_at e 0) (num (part e 40 2))))

-- ---- lengths
-- a session or an ending of a wrong length is 2
unfoldable pub both_fit : ℕ → ℕ → Bool
both_fit s e = eqb s session_length and eqb e 42

abbrev pub lent_ladder : Plan → Bool → List Rung
lent_ladder p fits = on 1 (not (plan_ok p)) ∷ on 2 (not fits) ∷ []
