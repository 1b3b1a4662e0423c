-- What a read round decides. Document 01, "The client", reading: at N-t accepted replies the candidate is the greatest timestamp; its set
-- is the replies with this timestamp and the same cross checksum as the lowest-numbered of them.
--   heard_at heard_count   whether a node is heard, and how many are
--   slot_stamp d slots i  the timestamp in slot i of a desk, as a number
--   lead_of ms d slots n  the candidate among the first n nodes: the first triple, or the lowest-numbered node that bears the greatest
--   set_of                the candidate's set, rising
--   close_of              the close of the round as one value: candidate, timestamp, set, verdict
--   rest_unheard none_first slots_fit   the ranges of marks and slots that refusal 9 asks for
-- The laws that the candidate is the greatest, that the set is rising and below n, and that the verdict tells its size, are in
-- proofs/Closes.antt. Assumes nothing.
use Prim.{Unit}
use Rattle.std.specs.Prelude.{ℕ, zero, suc, ◌+◌, ◌<◌, Bool, true, false, cond, List, [], ◌∷◌, ◌++◌, length, get_or, set, take, drop, replicate, ltb, eqb, leb, Option, None, Some}
use Rattle.octets.specs.Bytes.{part, num, alike}
use Rattle.terms.specs.Ladder.{◌and◌}
use Rattle.terms.specs.Terms.{decided, slot_at}
use Rattle.terms.specs.Stamp.{stamp_at, zero_stamp, stamp_number}
use Rattle.terms.specs.declared.Member.{Member}
use Rattle.terms.specs.declared.Slots.{Slots}
use Rattle.terms.specs.declared.Thresholds.{Thresholds}
use Rattle.terms.specs.declared.Timestamp.{Timestamp}
use Rattle.terms.specs.declared.Verdict.{Verdict}
use Rattle.terms.specs.declared.Verdict.TheVariants.{Complete}
use Rattle.rounds.specs.declared.Heard.{Heard}
use Rattle.rounds.specs.declared.Heard.TheVariants.{Unheard, First, Record}
use Rattle.rounds.specs.declared.Set.{Set}
use Rattle.rounds.specs.declared.Close.{Close}

-- ---- marks
abbrev pub bit_of : Heard → ℕ
bit_of Unheard = 0
bit_of First = 1
bit_of Record = 1

unfoldable pub heard_count : List Heard → ℕ
heard_count [] = 0
heard_count (m ∷ ms) = bit_of m + heard_count ms

abbrev pub unheard : Heard
unheard = Unheard

-- "Every round opens with all marks unheard"
abbrev pub unheards : List Heard
unheards = replicate 16 unheard

abbrev pub mark_of : List Heard → ℕ → Heard
mark_of ms i = get_or ms i unheard

abbrev pub heard_at : List Heard → ℕ → Bool
heard_at ms i = eqb (bit_of (mark_of ms i)) 1

-- ---- the candidate
unfoldable pub slot_stamp : List ℕ → Slots → ℕ → ℕ
slot_stamp d slots i = num (part d (slot_at slots i) 40)

-- node i against the best so far: only a greater timestamp takes its place, so that the lowest-numbered stays
unfoldable pub ahead_of : List ℕ → Slots → Option ℕ → ℕ → Option ℕ
ahead_of d slots None i = Some i
ahead_of d slots (Some b) i = cond (ltb (slot_stamp d slots b) (slot_stamp d slots i)) (Some i) (Some b)

unfoldable pub step_of : List ℕ → Slots → Option ℕ → ℕ → Heard → Option ℕ
step_of d slots best i Record = ahead_of d slots best i
step_of d slots best i First = best
step_of d slots best i Unheard = best

unfoldable pub lead_of : List Heard → List ℕ → Slots → ℕ → Option ℕ
lead_of ms d slots zero = None
lead_of ms d slots (suc i) = step_of d slots (lead_of ms d slots i) i (mark_of ms i)

unfoldable pub LeadIn : Option ℕ → ℕ → Type 0
LeadIn None n = Unit {0}
LeadIn (Some b) n = b < n

-- ---- its set
-- marked record, with the timestamp and the cross checksum of node a: the head of the slot
unfoldable pub joins_of : List ℕ → Slots → ℕ → ℕ → Heard → Bool
joins_of d slots a i Record = alike (part d (slot_at slots i) slots.head) (part d (slot_at slots a) slots.head)
joins_of d slots a i First = false
joins_of d slots a i Unheard = false

unfoldable pub set_of : List Heard → List ℕ → Slots → ℕ → ℕ → List ℕ
set_of ms d slots a zero = []
set_of ms d slots a (suc i) = cond (joins_of d slots a i (mark_of ms i)) (set_of ms d slots a i ++ (i ∷ [])) (set_of ms d slots a i)

unfoldable pub add_of : Set → ℕ → Bool → Set
add_of s i on = cond on (record { nodes = set s.nodes s.size i; size = s.size + 1 }) s

abbrev pub listed : Set → List ℕ
listed s = take s.size s.nodes

-- ---- the close of a round
pub record Closed : Type 0 where
  pub lead : Option ℕ
  pub stamp : Timestamp
  pub nodes : List ℕ
  pub verdict : Verdict

abbrev pub told : Close → Closed
told c = record { lead = c.lead; stamp = c.stamp; nodes = listed c.set; verdict = c.verdict }

-- "First triple: never written. (It always has COMPLETE replies.)"
unfoldable pub close_with : List Heard → List ℕ → Slots → Member → Thresholds → Option ℕ → Closed
close_with ms d slots member t None = record { lead = None; stamp = zero_stamp; nodes = []; verdict = Complete }
close_with ms d slots member t (Some a) =
    record {
      lead = Some a;
      stamp = stamp_at d (slot_at slots a);
      nodes = set_of ms d slots a slots.n;
      verdict = decided member t.complete t.incomplete (length (set_of ms d slots a slots.n));
    }

abbrev pub close_of : List Heard → List ℕ → Slots → Member → Thresholds → Closed
close_of ms d slots member t = close_with ms d slots member t (lead_of ms d slots slots.n)

-- ---- the ranges of marks and slots, as refusal 9 has them
abbrev pub is_unheard : Heard → Bool
is_unheard Unheard = true
is_unheard First = false
is_unheard Record = false

abbrev pub is_not_first : Heard → Bool
is_not_first Unheard = true
is_not_first First = false
is_not_first Record = true

-- every mark of a list meets a test
unfoldable pub every : (Heard → Bool) → List Heard → Bool
every t [] = true
every t (m ∷ ms) = t m and every t ms

-- "marks from N on unheard"; "no first triple mark"
abbrev pub rest_unheard : List Heard → ℕ → Bool
rest_unheard ms n = every is_unheard (drop n ms)

abbrev pub none_first : List Heard → Bool
none_first ms = every is_not_first ms

-- a timestamp, as a number, strictly below the bound, if there is one
unfoldable pub under_of : Option Timestamp → ℕ → Bool
under_of None x = true
under_of (Some u) x = ltb x (stamp_number u)

-- "each slot marked record must hold a time of 1 or more and a timestamp below the bound"
unfoldable pub slot_fits : List ℕ → Slots → Option Timestamp → ℕ → Heard → Bool
slot_fits d slots b i Record = leb 1 (num (part d (slot_at slots i) 8)) and under_of b (slot_stamp d slots i)
slot_fits d slots b i First = true
slot_fits d slots b i Unheard = true

unfoldable pub slots_fit : List Heard → List ℕ → Slots → Option Timestamp → ℕ → Bool
slots_fit ms d slots b zero = true
slots_fit ms d slots b (suc i) = slots_fit ms d slots b i and slot_fits d slots b i (mark_of ms i)
