-- The figures run, by computation, with a hash and a code made up for the purpose: what a reader of the report expects of each. Thresholds are
-- those of document 01's two plans (COMPLETE 4, INCOMPLETE 2; its table: "first plan, set of 4 / 3 / 2 / 1", "second plan, set of 3", "time replies
-- 7 9 9 4"). Assumes nothing.
use Prim.Native.Nat.{ℕ}
use mathlib.Core.Path.{◌≡◌, refl}
use mathlib.Core.Bool.{Bool, true, false}
use mathlib.Core.List.{List, [], ◌∷◌}
use lib.ListN.{length}
use Rattle.octets.specs.Bytes.{alike}
use Rattle.report.specs.Triple.{Triple, Message, null, such_that, each, max, up_to, strung, Family}
use Rattle.report.specs.Figure1 as node
use Rattle.report.specs.Figure1.{initial, receive_time_request, receive_write_request, Latest, receive_read_latest, pre_history, receive_read_previous}
use Rattle.report.specs.Figure2.{Clock, in_set_of, gathered, Times, read_timestamp, make_cross_checksum, do_write}
use Rattle.report.specs.Figure3.{read_latest, read_previous, returned, repaired, abort, reading, validate, in_time, has, with_it, receives, do_read, ts_candidate, candidate_set, cc_of, of_first_triple, validate_candidate_set, loop, read}

-- a hash of a string is its length; a cross checksum says it once for all; a fragment is the number of its node; what is decoded is the set's size
toy : Bool → Bool → Family
toy repair byzantine =
    record {
      N = 5;
      t = 1;
      complete_at = 4;
      incomplete_at = 2;
      Repair = repair;
      byzantine_clients = byzantine;
      greatest_of = max;
      hash = λ x. length x ∷ [];
      entry = λ cc S. cc;
      Time = λ ts. ts;
      Verifier = λ ts. 1 ∷ [];
      stamped = λ time v. time;
      encode = λ d k. k ∷ [];
      generate_fragments = λ cs k. k ∷ [];
      decode = λ cs. length cs ∷ [];
    }

abbrev at : ℕ → Triple
at ts = record { ts = ts; D = 9 ∷ []; CC = 1 ∷ [] }

abbrev from : ℕ → ℕ → Message
from S ts = record { S = S; Response = at ts }

-- ---- Figure 1
abbrev held : List Triple
held = initial ∷ at 9 ∷ at 5 ∷ []

time_9 : receive_time_request held ≡ 9
unfolding receive_time_request each max
time_9 = refl

latest_9 : receive_read_latest held ≡ at 9 ∷ []
unfolding receive_read_latest Latest such_that each max
latest_9 = refl

previous_5 : receive_read_previous held 9 ≡ at 5 ∷ []
unfolding receive_read_previous pre_history Latest such_that each max
previous_5 = refl

previous_first : receive_read_previous held 5 ≡ initial ∷ []
unfolding receive_read_previous pre_history Latest such_that each max
previous_first = refl

-- a fragment of two bytes has another hash than the cross checksum says
write_bad : (receive_write_request (toy true true) 0 held (record { ts = 7; D = 9 ∷ 9 ∷ []; CC = 1 ∷ [] })).sent ≡ false
unfolding receive_write_request node.validate toy alike
write_bad = refl

write_good : receive_write_request (toy true true) 0 held (at 7) ≡ record { History = at 7 ∷ held; sent = true }
unfolding receive_write_request node.validate toy alike
write_good = refl

-- ---- Figure 2
-- four nodes answer, and node 3 once more, which is not counted
abbrev clock : ℕ → ℕ → Clock
clock S time = record { S = S; Time = time }

time_10 : read_timestamp (toy true true) (clock 0 7 ∷ clock 3 12 ∷ clock 1 9 ∷ clock 2 9 ∷ clock 3 4 ∷ []) ≡ 10
unfolding read_timestamp Times gathered in_set_of each max toy
time_10 = refl

-- ---- Figure 3
-- k of four responses bear the greatest timestamp
abbrev four : List Message
four = from 0 9 ∷ from 1 9 ∷ from 2 9 ∷ from 3 9 ∷ []

abbrev three : List Message
three = from 0 9 ∷ from 1 5 ∷ from 2 9 ∷ from 3 9 ∷ []

abbrev two : List Message
two = from 0 9 ∷ from 1 5 ∷ from 2 5 ∷ from 3 9 ∷ []

abbrev one : List Message
one = from 0 9 ∷ from 1 5 ∷ from 2 5 ∷ from 3 5 ∷ []

first : ℕ → Message
first S = record { S = S; Response = initial }

four_complete : loop (toy true false) four ≡ returned 9 (4 ∷ [])
unfolding loop candidate_set ts_candidate validate_candidate_set such_that each max toy
four_complete = refl

three_repaired : loop (toy true false) three ≡ repaired (do_write (toy true false) (λ k. k ∷ []) 9 (1 ∷ [])) 9 (5 ∷ [])
unfolding loop candidate_set ts_candidate validate_candidate_set cc_of such_that each max do_write up_to toy
three_repaired = refl

two_repaired : loop (toy true false) two ≡ repaired (do_write (toy true false) (λ k. k ∷ []) 9 (1 ∷ [])) 9 (5 ∷ [])
unfolding loop candidate_set ts_candidate validate_candidate_set cc_of such_that each max do_write up_to toy
two_repaired = refl

three_aborted : loop (toy false false) three ≡ abort
unfolding loop candidate_set ts_candidate such_that each max toy
three_aborted = refl

one_incomplete : loop (toy false false) one ≡ reading (read_previous 9)
unfolding loop candidate_set ts_candidate such_that each max toy
one_incomplete = refl

-- five hashes of fragments of one byte are not the cross checksum that says it once
four_invalid : loop (toy true true) four ≡ reading (read_previous 9)
unfolding loop candidate_set ts_candidate validate_candidate_set of_first_triple make_cross_checksum strung cc_of alike such_that each max toy
four_invalid = refl

-- the first triple has COMPLETE responses and is returned, also where clients may be Byzantine
never_written_lem : loop (toy true true) (first 0 ∷ first 1 ∷ first 2 ∷ first 4 ∷ []) ≡ returned 0 (4 ∷ [])
unfolding loop candidate_set ts_candidate validate_candidate_set of_first_triple such_that each max first toy
never_written_lem = refl

-- one round that goes on and one that returns, the last one first, with a message that is not below the bound among its own; a further round
-- changes nothing
two_rounds : read (toy true false) (one ∷ (from 0 5 ∷ from 4 9 ∷ from 1 5 ∷ from 2 5 ∷ from 3 5 ∷ []) ∷ one ∷ []) ≡ returned 5 (4 ∷ [])
unfolding read do_read receives validate node.validate alike in_time has with_it loop candidate_set ts_candidate validate_candidate_set such_that each max toy
two_rounds = refl

-- DO_READ: put in; not below the bound; of a node that is heard; not valid
received : receives (toy true true) (read_previous 9) (from 1 5 ∷ []) (from 0 8) ≡ from 0 8 ∷ from 1 5 ∷ []
unfolding receives validate node.validate in_time has alike toy with_it
received = refl

too_late : receives (toy true true) (read_previous 9) (from 1 5 ∷ []) (from 0 9) ≡ from 1 5 ∷ []
unfolding receives validate node.validate in_time has alike toy with_it
too_late = refl

heard_twice : receives (toy true true) read_latest (from 1 5 ∷ []) (from 1 9) ≡ from 1 5 ∷ []
unfolding receives validate node.validate in_time has alike toy with_it
heard_twice = refl

not_valid : receives (toy true true) read_latest [] (record { S = 0; Response = record { ts = 3; D = null; CC = 1 ∷ [] } }) ≡ []
unfolding receives validate node.validate in_time has alike toy with_it
not_valid = refl
