-- Where an operation stands. Document 01, "The client": operation and stage together name the round. A write that asks is in its time
-- round, one that stores in its write round; a read that asks is in a read round, one that stores in a repair round.
--   is_read is_asking is_storing is_ended read_in   the operation and the stage
--   same_operation      9: a session is of the operation that a call serves
--   in_stage next_round  the round in another stage; the read round after it
--   replies            N-t, the replies that close a round
--   ask_in              the ask number of a round
--   awaits_in           whether a round awaits replies of a kind
--   bound_ok round_rules 9: the rules on a round, whichever stage it is in
--   read_request        a read round's request: kind 5, or kind 6 with the bound
--   lengths_ok room_ok   2: of a reply, the desk and the item; of a request owed, the desk and the request buffer
-- Assumes nothing.
use Rattle.std.specs.Prelude.{ℕ, ◌+◌, ◌-◌, ◌*◌, Bool, true, false, not, cond, List, [], ◌∷◌, ltb, leb, eqb, Option, None, Some}
use Rattle.octets.specs.Bytes.{be}
use Rattle.terms.specs.Ladder.{all, ◌and◌, ◌or◌}
use Rattle.terms.specs.Terms.{record_length}
use Rattle.terms.specs.Stamp.{stamp_number}
use Rattle.terms.specs.declared.Plan.{Plan}
use Rattle.terms.specs.declared.Timestamp.{Timestamp}
use Rattle.frame.specs.Frame.{frame, longest, write_reply_kind, read_reply_kind, time_reply_kind, read_latest_kind, read_previous_kind}
use Rattle.standing.specs.declared.Round.{Round}
use Rattle.standing.specs.declared.Operation.{Operation}
use Rattle.standing.specs.declared.Operation.TheVariants.{Write, Read}
use Rattle.standing.specs.declared.Stage.{Stage}
use Rattle.standing.specs.declared.Stage.TheVariants.{Asking, Storing, Ended}

abbrev pub is_read : Operation → Bool
is_read Write = false
is_read Read = true

abbrev pub is_asking : Stage → Bool
is_asking Asking = true
is_asking Storing = false
is_asking Ended = false

abbrev pub is_storing : Stage → Bool
is_storing Asking = false
is_storing Storing = true
is_storing Ended = false

abbrev pub is_ended : Stage → Bool
is_ended Asking = false
is_ended Storing = false
is_ended Ended = true

abbrev pub read_in : Operation → Round → Bool
read_in o r = is_read o and is_asking r.stage

abbrev pub same_operation : Operation → Operation → Bool
same_operation Read o = is_read o
same_operation Write o = not (is_read o)

-- ---- from one round to the next
abbrev pub in_stage : Round → Stage → Round
in_stage r g = record { stage = g; number = r.number; bound = r.bound }

-- below the candidate's timestamp
abbrev pub next_round : Round → Timestamp → Round
next_round r t = record { stage = Asking; number = r.number + 1; bound = Some t }

-- ---- what a round awaits and asks for
abbrev pub replies : Plan → ℕ
replies p = p.n - p.t

-- "The opening ask number serves round 1, each round takes the next, a write or repair round the one after."
unfoldable pub ask_in : ℕ → Round → ℕ
ask_in opening r = cond (is_storing r.stage) (opening + r.number) (opening + (r.number - 1))

-- 2 in a time round, 7 in a read round, 4 in a write or repair round
unfoldable pub awaits_in : Operation → Round → ℕ → Bool
awaits_in o r k = cond (is_storing r.stage) (eqb k write_reply_kind) (cond (is_read o) (eqb k read_reply_kind) (eqb k time_reply_kind))

-- "round 1 asks kind 5, later rounds kind 6 with the last candidate's timestamp as bound": it is the bound that tells
unfoldable pub read_request : Option Timestamp → ℕ → ℕ → List ℕ
read_request None node ask = frame read_latest_kind node ask []
read_request (Some u) node ask = frame read_previous_kind node ask (be 40 (stamp_number u))

-- ---- refusal 9
abbrev pub bound_ok : Option Timestamp → ℕ → Bool
bound_ok None round = leb round 1
bound_ok (Some u) round = ltb 1 round and leb 1 u.time.0

-- "round 1 to W, and 1 in a write; a bound exactly when round is above 1, time 1 or more"
unfoldable pub round_rules : ℕ → Operation → Round → Bool
round_rules w o r = all (leb 1 r.number ∷ leb r.number w ∷ (is_read o or eqb r.number 1) ∷ bound_ok r.bound r.number ∷ [])

-- ---- refusal 2: the desk is exactly N·R bytes; the item exactly m·F, the request buffer at least R+15
unfoldable pub lengths_ok : Plan → ℕ → ℕ → Bool
lengths_ok p desk item = eqb desk (p.n * record_length p) and eqb item (p.m * p.f)

unfoldable pub room_ok : Plan → ℕ → ℕ → Bool
room_ok p desk request = eqb desk (p.n * record_length p) and leb (longest 1 p) request
