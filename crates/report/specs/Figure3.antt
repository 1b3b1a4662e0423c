-- Figure 3 of CMU-PDL-03-105: client-side read operation pseudo-code. A line's number stands beside it. SEND and POLL are the network's: what
-- POLL_FOR_RESPONSE gives in each round is given, the last one first, and READ's loop is a recursion over the rounds, the last one first.
--   validate receives do_read    one turn of DO_READ's loop; DO_READ
--   ts_candidate candidate_set    CHOOSE_CANDIDATE
--   validate_candidate_set
--   Decision loop         what lines 3 to 24 decide of one response set
--   response_set read      the response set of the DO_READ that a read is in; the whole read
-- Where document 01 closes a hole of the figure, (01) stands beside it. Assumes nothing.
use Rattle.std.specs.Prelude.{ℕ, Bool, true, false, cond, List, [], ◌∷◌, length, ltb, leb, eqb}
use Rattle.octets.specs.Bytes.{alike}
use Rattle.terms.specs.Ladder.{◌and◌, ◌or◌}
use Rattle.report.specs.Triple.{Triple, Message, null, such_that, each, max, Family}
use Rattle.report.specs.Figure1 as node
use Rattle.report.specs.Figure2.{make_cross_checksum, do_write}

-- ---- DO_READ
pub data Command : Type 0 where
  read_latest : Command
  read_previous : (ts : ℕ) → Command

-- (01) "The report's first triple (time 0, no value) .. needs no hash check"
abbrev pub first_triple : Triple → Bool
first_triple X = eqb X.ts 0 and alike X.D null and alike X.CC null

-- VALIDATE of Figure 3 is that of Figure 1
unfoldable pub validate : Family → Message → Bool
validate f x = first_triple x.Response or node.validate f x.S x.Response

-- (READ_COMMAND ≠ READ_PREVIOUS) OR Response.ts < ts
unfoldable pub in_time : Command → ℕ → Bool
in_time read_latest ts = true
in_time (read_previous bound) ts = ltb ts bound

-- S ∈ response_set.S
unfoldable pub has : ℕ → List Message → Bool
has S [] = false
has S (x ∷ xs) = eqb x.S S or has S xs

-- response_set ∪ ⟨S, Response⟩: the list of a response set goes by storage-node number
unfoldable pub with_it : Message → List Message → List Message
with_it x [] = x ∷ []
with_it x (y ∷ ys) = cond (ltb y.S x.S) (y ∷ with_it x ys) (x ∷ y ∷ ys)

unfoldable pub receives : Family → Command → List Message → Message → List Message
receives f command response_set x =
    cond (validate f x)  -- 8
    (cond (in_time command x.Response.ts)  -- 9
    (cond (has x.S response_set)  -- 10
    response_set
    (with_it x response_set))  -- 11
    response_set)
    response_set

-- the response set, from the messages received, the last one first; line 16 returns it when it has N - t
unfoldable pub do_read : Family → Command → List Message → List Message
do_read f command [] = []  -- 1
do_read f command (x ∷ before) = receives f command (do_read f command before) x  -- 2 to 15

-- ---- CHOOSE_CANDIDATE, section 4.2.2: "the greatest timestamp in the response set. All data-fragments that share ts_candidate are
-- identified and returned as the candidate set."
unfoldable pub ts_candidate : List Message → ℕ
ts_candidate response_set = max (each (λ (x : Message). x.Response.ts) response_set)

unfoldable pub candidate_set : List Message → List Message
candidate_set response_set = such_that (λ (x : Message). eqb x.Response.ts (ts_candidate response_set)) response_set

-- candidate_set.CC, which its members share
unfoldable pub cc_of : List Message → List ℕ
cc_of [] = null
cc_of (x ∷ xs) = x.Response.CC

-- (01) the first triple is not validated: a candidate of the zero time is it
unfoldable pub of_first_triple : List Message → Bool
of_first_triple [] = false
of_first_triple (x ∷ xs) = eqb x.Response.ts 0

unfoldable pub validate_candidate_set : Family → List Message → Bool
validate_candidate_set f cs =
    cond f.byzantine_clients  -- 1
    (of_first_triple cs or alike (make_cross_checksum f (f.generate_fragments cs)) (cc_of cs))  -- 2 to 8
    true  -- 10

-- ---- READ
pub data Decision : Type 0 where
  -- line 8: return ⟨ts, Data⟩
  returned : (ts : ℕ) (Data : List ℕ) → Decision
  -- lines 14 to 17: DO_WRITE sends these; then return ⟨ts, Data⟩
  repaired : (sent : List Message) (ts : ℕ) (Data : List ℕ) → Decision
  -- line 20: return ABORT
  abort : Decision
  -- lines 1 and 24: DO_READ
  reading : Command → Decision

-- (01) "Repair uses the set's cross checksum (the report leaves it unset for crash clients)"; for Byzantine clients CC_valid is that
abbrev pub repairs : Family → List Message → ℕ → List Message
repairs f cs ts = do_write f (f.generate_fragments cs) ts (cc_of cs)  -- 14, 15

abbrev pub choose : Family → List Message → ℕ → Decision
choose f cs ts =
    cond (leb f.complete_at (length cs))  -- 4
    (cond (validate_candidate_set f cs)  -- 6
    (returned ts (f.decode cs))  -- 7, 8
    (reading (read_previous ts)))  -- 24
    (cond (leb f.incomplete_at (length cs))  -- 10
    (cond f.Repair  -- 12
    (cond (validate_candidate_set f cs)  -- 13
    (repaired (repairs f cs ts) ts (f.decode (repairs f cs ts)))  -- 14 to 17
    (reading (read_previous ts)))  -- 24
    abort)  -- 20
    (reading (read_previous ts)))  -- 24

unfoldable pub loop : Family → List Message → Decision
loop f response_set = choose f (candidate_set response_set) (ts_candidate response_set)  -- 3 to 24

-- a read that has returned goes no further, and gathers nothing
abbrev pub goes_on : Family → Decision → List Message → Decision
goes_on f (reading command) received = loop f (do_read f command received)
goes_on f (returned ts Data) received = returned ts Data
goes_on f (repaired sent ts Data) received = repaired sent ts Data
goes_on f abort received = abort

abbrev pub gathered : Family → Decision → List Message → List Message
gathered f (reading command) received = do_read f command received
gathered f (returned ts Data) received = []
gathered f (repaired sent ts Data) received = []
gathered f abort received = []

-- from what was received in each round that has its N - t responses
unfoldable pub read : Family → List (List Message) → Decision
read f [] = reading read_latest  -- 1
read f (received ∷ before) = goes_on f (read f before) received  -- 2 to 25

-- and the response set of the DO_READ that it is in then
abbrev pub response_set : Family → List (List Message) → List Message → List Message
response_set f before received = gathered f (read f before) received
