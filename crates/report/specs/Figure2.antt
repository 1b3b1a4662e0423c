-- Figure 2 of CMU-PDL-03-105: client-side write operation pseudo-code. A line's number stands beside it. SEND and POLL are the network's:
-- what POLL_FOR_RESPONSE gives to a loop is given, the last one first, and what is sent is the result.
--   in_set_of gathered       the loop of READ_TIMESTAMP and of DO_WRITE: the response set of what was received
--   Clock Times           a response to a time request; response_set.ts.Time
--   read_timestamp make_cross_checksum make_timestamp do_write write
-- Assumes nothing.
use Rattle.std.specs.Prelude.{ℕ, ◌+◌, ◌-◌, Bool, true, false, cond, List, [], ◌∷◌, eqb}
use Rattle.report.specs.Triple.{Message, each, up_to, strung, Family}

-- line 12 of both loops: until (|ResponseSet| = N - t)
abbrev pub enough : Family → ℕ
enough f = f.N - f.t

-- S ∈ response_set.S, where a response x is one of storage-node from x
unfoldable pub in_set_of : {A : Type 0} → (A → ℕ) → ℕ → List A → Bool
in_set_of from S [] = false
in_set_of from S (x ∷ xs) = cond (eqb (from x) S) true (in_set_of from S xs)

unfoldable pub gathered : {A : Type 0} → (A → ℕ) → List A → List A
gathered from [] = []  -- 1
gathered from (x ∷ before) = cond (in_set_of from (from x) (gathered from before)) (gathered from before) (x ∷ gathered from before)  -- 8, 9

-- ⟨S, ts⟩; (01) a time reply bears the time alone
pub record Clock : Type 0 where
  pub S : ℕ
  pub Time : ℕ

abbrev pub clocks : List Clock → List Clock
clocks received = gathered (λ (x : Clock). x.S) received

unfoldable pub Times : List Clock → List ℕ
Times response_set = each (λ (x : Clock). x.Time) response_set

unfoldable pub read_timestamp : Family → List Clock → ℕ
read_timestamp f received = f.greatest_of (Times (clocks received)) + 1  -- 13

unfoldable pub make_cross_checksum : Family → (ℕ → List ℕ) → List ℕ
make_cross_checksum f D = strung (λ (i : ℕ). f.hash (D i)) f.N  -- 1 to 4

unfoldable pub make_timestamp : Family → ℕ → List ℕ → ℕ
make_timestamp f Time CC = f.stamped Time (f.hash CC)  -- 1, 2

-- line 4: SEND(Si, WRITE_REQUEST, ts, Di, CC), for all Si; it returns when the responses, each from a storage-node, are N - t (line 12)
unfoldable pub do_write : Family → (ℕ → List ℕ) → ℕ → List ℕ → List Message
do_write f D ts CC = up_to (λ (i : ℕ). record { S = i; Response = record { ts = ts; D = D i; CC = CC } }) f.N

abbrev pub acknowledged : List ℕ → List ℕ
acknowledged received = gathered (λ (S : ℕ). S) received

-- the write's timestamp, lines 2 to 5, and what DO_WRITE sends, line 6
abbrev pub crossed : Family → List ℕ → List ℕ
crossed f Data = make_cross_checksum f (f.encode Data)  -- 3, 4

unfoldable pub ts_written : Family → List ℕ → List Clock → ℕ
ts_written f Data received = make_timestamp f (read_timestamp f received) (crossed f Data)  -- 2, 5

unfoldable pub write : Family → List ℕ → List Clock → List Message
write f Data received = do_write f (f.encode Data) (ts_written f Data received) (crossed f Data)  -- 6
