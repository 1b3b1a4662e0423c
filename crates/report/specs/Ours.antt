-- From our bytes to the figures: what a plan, a record, a book, and the marks and slots of a session are there. This page has the bytes, so
-- that the figures have none.
--   family reported       the member of the family that a plan is, with SHA-256, the erasure code of document 01 and Q-2's new time; with the report's
--   triple_of history      a record as a triple; a book as the node's History
--   responses             marks and desk as a response set, by node number
--   sending               the desk as the requests of a write round
--   command_of             a bound as what DO_READ sends
-- Assumes nothing.
use Rattle.std.specs.Prelude.{ℕ, zero, suc, ◌+◌, Bool, true, false, cond, List, [], ◌∷◌, ◌++◌, get_or, take, drop, eqb, Option, None, Some}
use Rattle.octets.specs.Bytes.{num, be}
use Rattle.sha256.specs.Sha256.{sha256}
use Rattle.fragments.specs.Fragments.{among, tabulate, value, fragment}
use Rattle.terms.specs.Stamp.{stamp, stamp_number}
use Rattle.terms.specs.Terms.{complete_at, incomplete_at}
use Rattle.terms.specs.declared.Plan.{Plan}
use Rattle.terms.specs.declared.Member.{Member}
use Rattle.terms.specs.declared.Member.TheVariants.{Repairable, NonRepair}
use Rattle.terms.specs.declared.Clients.{Clients}
use Rattle.terms.specs.declared.Clients.TheVariants.{Crash, Byzantine}
use Rattle.record.specs.Record.{cross_of, fragment_of, entry_of}
use Rattle.record.specs.Desk.{slot_of}
use Rattle.book.specs.Book.{records_of}
use Rattle.rounds.specs.declared.Heard.{Heard}
use Rattle.rounds.specs.declared.Heard.TheVariants.{Unheard, First, Record}
use Rattle.terms.specs.declared.Timestamp.{Timestamp}
use Rattle.rounds.specs.Rounds.{mark_of}
use Rattle.clock.specs.Clock.{kth_greatest}
use Rattle.report.specs.Triple.{Triple, Message, null, each, max, up_to, strung, Family}
use Rattle.report.specs.Figure1.{initial}
use Rattle.report.specs.Figure3.{Command, read_latest, read_previous, of_first_triple}

-- ---- the member
abbrev pub is_repairable : Member → Bool
is_repairable Repairable = true
is_repairable NonRepair = false

abbrev pub lies : Clients → Bool
lies Crash = false
lies Byzantine = true

-- a timestamp is a number of 40 bytes: the time is its 8 high ones, the verifier its 32 low ones
unfoldable pub time_in : ℕ → ℕ
time_in ts = num (take 8 (be 40 ts))

unfoldable pub verifier_in : ℕ → List ℕ
verifier_in ts = drop 8 (be 40 ts)

unfoldable pub stamped_as : ℕ → List ℕ → ℕ
stamped_as time verifier = num (be 8 time ++ verifier)

-- ---- the erasure code, on numbered fragments: "Regenerating and decoding start from the m lowest-numbered of the set"
abbrev pub numbers : List Message → List ℕ
numbers xs = each (λ (x : Message). x.S) xs

unfoldable pub fragment_from : List Message → ℕ → List ℕ
fragment_from [] k = null
fragment_from (x ∷ xs) k = cond (eqb x.S k) x.Response.D (fragment_from xs k)

unfoldable pub generated_by : ℕ → List Message → ℕ → List ℕ
generated_by F xs k =
    cond (among k (numbers xs)) (fragment_from xs k) (tabulate F (λ i. value (numbers xs) (λ q. get_or (fragment_from xs q) i 0) k))

abbrev pub generated : Plan → List Message → ℕ → List ℕ
generated p xs k = generated_by p.f (take p.m xs) k

-- the m runs of the item; of the first triple, ⊥
unfoldable pub decoded_from : Plan → List Message → List ℕ
decoded_from p xs = cond (of_first_triple xs) null (strung (generated p xs) p.m)

-- the rule of READ_TIMESTAMP's line 13 apart
abbrev pub family_with : (List ℕ → ℕ) → Plan → Family
family_with greatest p =
    record {
      N = p.n;
      t = p.t;
      complete_at = complete_at p;
      incomplete_at = incomplete_at p;
      Repair = is_repairable p.member;
      byzantine_clients = lies p.clients;
      greatest_of = greatest;
      hash = sha256;
      entry = λ cross node. entry_of node cross;
      Time = time_in;
      Verifier = verifier_in;
      stamped = stamped_as;
      encode = fragment p.m p.f;
      generate_fragments = generated p;
      decode = decoded_from p;
    }

-- document 02, Q-2: "Take the (b+1)-th greatest of the N-t time replies, equal values counted each, and add 1"
abbrev pub family : Plan → Family
family p = family_with (kth_greatest (p.b + 1)) p

-- with the report's own line 13: what the figures say to the letter
abbrev pub reported : Plan → Family
reported p = family_with max p

-- ---- books
abbrev pub triple_of : Plan → List ℕ → Triple
triple_of p rec = record { ts = stamp rec; D = fragment_of p rec; CC = cross_of p rec }

-- "The report's first triple (time 0, no value) is not stored: every book has it implicitly"
abbrev pub history : Plan → List ℕ → List Triple
history p b = initial ∷ each (triple_of p) (records_of p b)

-- ---- sessions
abbrev pub bearing : Plan → List ℕ → ℕ → Message
bearing p d i = record { S = i; Response = triple_of p (slot_of p d i) }

unfoldable pub response_of : Plan → List ℕ → ℕ → Heard → List Message
response_of p d i Unheard = []
response_of p d i First = record { S = i; Response = initial } ∷ []
response_of p d i Record = bearing p d i ∷ []

-- of the first n nodes
unfoldable pub responses : Plan → List Heard → List ℕ → ℕ → List Message
responses p ms d zero = []
responses p ms d (suc i) = responses p ms d i ++ response_of p d i (mark_of ms i)

abbrev pub sending : Plan → List ℕ → List Message
sending p d = up_to (bearing p d) p.n

abbrev pub command_of : Option Timestamp → Command
command_of None = read_latest
command_of (Some u) = read_previous (stamp_number u)
