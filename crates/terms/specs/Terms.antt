-- The plan, its two thresholds and what they decide. Document 01, "The plan", "Reading", "Refusal numbers"; the report's Table 2.
--   larger                    the larger of two numbers
--   column_of counts_ok         the rules on N, t, b, Q, m and the member: the column of the member in the table, and N's range
--   limits_ok plan_ok           those on F and W; and all the rules of a plan
--   record_length slots_of runs_of   R; the slots of a desk; those of an item
--   slot_at fragment_at         where slot k starts, and its fragment
--   opening_ok                 the opening ask number leaves room for W more: 13 at opening
--   complete_at incomplete_at thresholds_of   the two thresholds of a plan
--   class_of                   the class of a candidate set of a size, by two thresholds
--   unsure verdict_of decided  what a read decides by: the class and the member
--   refusal_number             the documents' number of a refusal
--   refusals refusal_at        every refusal; the one of a number
-- Assumes nothing.
use Rattle.std.specs.Prelude.{ℕ, ◌+◌, ◌-◌, ◌*◌, Bool, cond, List, [], ◌∷◌, ltb, leb, eqb}
use Rattle.terms.specs.Ladder.{all, ◌and◌}
use Rattle.terms.specs.Stamp.{top}
use Rattle.terms.specs.declared.Plan.{Plan}
use Rattle.terms.specs.declared.Slots.{Slots}
use Rattle.terms.specs.declared.Thresholds.{Thresholds}
use Rattle.terms.specs.declared.Member.{Member}
use Rattle.terms.specs.declared.Member.TheVariants.{Repairable, NonRepair}
use Rattle.terms.specs.declared.Class.{Class}
use Rattle.terms.specs.declared.Class.TheVariants as class
use Rattle.terms.specs.declared.Verdict.{Verdict}
use Rattle.terms.specs.declared.Verdict.TheVariants as verdict
use Rattle.terms.specs.declared.Refusal.{Refusal}
use Rattle.terms.specs.declared.Refusal.TheVariants.{OutsidePlan, WrongLength, WrongBook, WrongFrame, TimeZero, HashFails, OtherBytes, NoRoom, OutOfRange, NotAwaited, AlreadyHeard, NotBelow, AskTooHigh, HasEnded, NoPlan, ShortForRun}

abbrev pub larger : ℕ → ℕ → ℕ
larger a b = cond (ltb a b) b a

-- Table 2, the column of a member: t+b+1 ≤ Q ≤ N-t-b and 1 ≤ m ≤ Q-t, or t+b+1 ≤ Q ≤ N-2t-2b and 1 ≤ m ≤ Q+b
unfoldable pub column_of : Member → (n t b q m : ℕ) → List Bool
column_of Repairable n t b q m = leb (t + b + 1) q ∷ leb q (n - t - b) ∷ leb 1 m ∷ leb m (q - t) ∷ []
column_of NonRepair n t b q m = leb (t + b + 1) q ∷ leb q (n - 2 * t - 2 * b) ∷ leb 1 m ∷ leb m (q + b) ∷ []

-- N 1 to 16; b and t from 0 with b ≤ t; and the table
unfoldable pub counts_ok : Member → (n t b q m : ℕ) → Bool
counts_ok k n t b q m = all (leb 1 n ∷ leb n 16 ∷ leb b t ∷ all (column_of k n t b q m) ∷ [])

-- F 1 to 1,024; W 1 to 65,535
unfoldable pub limits_ok : Plan → Bool
limits_ok p = all (leb 1 p.f ∷ leb p.f 1024 ∷ leb 1 p.w ∷ leb p.w 65535 ∷ [])

unfoldable pub plan_ok : Plan → Bool
plan_ok p = counts_ok p.member p.n p.t p.b p.q p.m and limits_ok p

-- ---- a record, and where the records of a desk lie
-- R: timestamp 40, cross checksum 32·N, fragment F
unfoldable pub record_length : Plan → ℕ
record_length p = 40 + 32 * p.n + p.f

-- a desk is N slots of R bytes, each a head of timestamp and cross checksum, and then a fragment
abbrev pub slots_of : Plan → Slots
slots_of p = record { n = p.n; head = 40 + 32 * p.n; fragment = p.f; size = record_length p }

-- fragments one after the other, as the m runs of an item
abbrev pub runs_of : ℕ → ℕ → Slots
runs_of n f = record { n = n; head = 0; fragment = f; size = f }

abbrev pub slot_at : Slots → ℕ → ℕ
slot_at s k = k * s.size

abbrev pub fragment_at : Slots → ℕ → ℕ
fragment_at s k = s.head + k * s.size

-- opening ask number plus W at most 2^64-1
abbrev pub opening_ok : Plan → ℕ → Bool
opening_ok p a = leb (a + p.w) top

-- COMPLETE = Q+b and INCOMPLETE = Q-t
abbrev pub complete_at : Plan → ℕ
complete_at p = p.q + p.b

abbrev pub incomplete_at : Plan → ℕ
incomplete_at p = p.q - p.t

abbrev pub thresholds_of : Plan → Thresholds
thresholds_of p = record { complete = complete_at p; incomplete = incomplete_at p }

-- ---- a candidate set, by two thresholds
-- of COMPLETE or more: complete; below INCOMPLETE: incomplete; any other: unclassifiable
unfoldable pub class_of : (high low size : ℕ) → Class
class_of high low size = cond (leb high size) class.Complete (cond (ltb size low) class.Incomplete class.Unclassifiable)

-- "Reading": an unclassifiable set is repaired by a repairable member, and ends a non-repair read
abbrev pub unsure : Member → Verdict
unsure Repairable = verdict.Repair
unsure NonRepair = verdict.Aborted

abbrev pub verdict_of : Member → Class → Verdict
verdict_of member class.Complete = verdict.Complete
verdict_of member class.Unclassifiable = unsure member
verdict_of member class.Incomplete = verdict.Incomplete

unfoldable pub decided : Member → (high low size : ℕ) → Verdict
decided member high low size = verdict_of member (class_of high low size)

-- "Refusal numbers", and those of document 02
abbrev pub refusal_number : Refusal → ℕ
refusal_number OutsidePlan = 1
refusal_number WrongLength = 2
refusal_number WrongBook = 3
refusal_number WrongFrame = 4
refusal_number TimeZero = 5
refusal_number HashFails = 6
refusal_number OtherBytes = 7
refusal_number NoRoom = 8
refusal_number OutOfRange = 9
refusal_number NotAwaited = 10
refusal_number AlreadyHeard = 11
refusal_number NotBelow = 12
refusal_number AskTooHigh = 13
refusal_number HasEnded = 14
refusal_number NoPlan = 20
refusal_number ShortForRun = 21

abbrev pub refusals : List Refusal
refusals =
    OutsidePlan ∷ WrongLength ∷ WrongBook ∷ WrongFrame ∷ TimeZero ∷ HashFails ∷ OtherBytes ∷ NoRoom ∷ OutOfRange ∷ NotAwaited ∷ AlreadyHeard ∷ NotBelow ∷ AskTooHigh ∷ HasEnded ∷ NoPlan ∷ ShortForRun ∷ []

-- a number that no refusal has gives the first
abbrev pub refusal_in : List Refusal → ℕ → Refusal
refusal_in [] k = OutsidePlan
refusal_in (r ∷ rs) k = cond (eqb (refusal_number r) k) r (refusal_in rs k)

abbrev pub refusal_at : ℕ → Refusal
refusal_at k = refusal_in refusals k
