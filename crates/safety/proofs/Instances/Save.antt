-- The save: a write of the byte 7, opening ask number 1. Nodes 0, 1 and 2, whose books are fresh, give time 0, and the liar, node 4, tells 2^64-1: of these
-- the second greatest is 0, so the write is of time 1. Nodes 0, 1 and 2 store their records, the liar says that it did, and the write is done: Q honest
-- nodes executed it, and node 3 has not heard of it.
--   calls save         the eight calls, each by its contract
--   save_done          its last answer
--   save_numbers       each reply that it takes under the number of an honest node was written by that node, before the first read
--   save_asks save_asks_later   each request with one of its ask numbers is one that it owed; the same, cut after the first read
-- Assumes nothing.
use Rattle.terms.specs.declared.Refusal.{Refusal}
use Rattle.std.specs.Prelude.{Ok, Result}
use Prim.{tt}
use Prim.Native.Nat.{ℕ, ◌<◌, ◌*◌}
use mathlib.Core.Path.{◌≡◌, refl, sym, ◌∙◌}
use mathlib.Core.List.{List, [], ◌∷◌, ◌++◌}
use mathlib.Core.Logic.{inr}
use native.Mathlib.Omega.{arith}
use lib.Dec.{lit<}
use lib.ListN.{length, replicate}
use Rattle.octets.specs.Bytes.{Octets, part, num, num_from, be, be_onto}
use Rattle.terms.specs.Ladder.{first, all}
use Rattle.terms.specs.Stamp.{top, then, stamp_at, stamp_number}
use Rattle.terms.specs.Terms.{plan_ok, counts_ok, limits_ok, column_of, record_length}
use Rattle.terms.proofs.Small.{small, small_octets}
use Rattle.frame.specs.Frame.{shaped, body_fits, one_of, for_party, good_frame, good_reply, time_reply_kind, write_request_kind, write_reply_kind, read_latest_kind, read_previous_kind, suits}
use Rattle.std.proofs.Common.{None}
use Rattle.rounds.specs.declared.Heard.TheVariants.{Record}
use Rattle.rounds.specs.Rounds.{heard_count, every}
use Rattle.clock.specs.Clock.{times_heard, or_more, greatest_with}
use Rattle.recover.specs.Records.{stamp_for, records_for}
use Rattle.standing.specs.declared.Operation.TheVariants.{Write}
use Rattle.standing.specs.Standing.{lengths_ok, room_ok, ask_in, awaits_in, round_rules}
use Rattle.session.specs.declared.Session.{Session}
use Rattle.session.specs.declared.Answer.{Answer}
use Rattle.session.specs.declared.Answer.TheVariants.{Open, Done}
use Rattle.session.specs.declared.opening.Opened.{Opened}
use Rattle.session.specs.Session.{marked_of, storing_of, ended_of, still_open, done, said_of}
use Rattle.store.specs.History.{Call, EachCall, Wrote}
use Rattle.session.specs.Opening.{fresh_of, open_with, OpenCall}
use Rattle.session.specs.Ranges.{standing_rules, open_rules, in_range}
use Rattle.session.specs.Reply.{awaited, is_heard}
use Rattle.session.specs.Owed.{request_of}
use Rattle.session.specs.Writer.{timed_of, kth_reply, leaves, time_end, time_turn, write_turn, accepted_write, write_reply, WriteReplyCall}
use Rattle.client.specs.Turns.{Turn, WriteTurn, Calls}
use Rattle.client.specs.Repair.{EachTurn}
use Rattle.safety.specs.Run.{Ours, Owes, life_of}
use Rattle.safety.specs.Safety.{OwnNumbers, OwnAsks}
use Rattle.safety.proofs.Instances.Data.{plan, by_node, hash, cross, verifier, stamp_bytes, sheet, stamp_seven, lie_stamp, desk_full, written_so, stamped_so}
use Rattle.safety.proofs.Instances.Nodes.{time_request, write_request, latest_request, previous_request, time_reply, write_reply_of, book, held}
use Rattle.safety.proofs.Instances.Lives.{saves, time_call, write_call, after_save, after_first, by_honest}
use Rattle.safety.proofs.Instances.Asks.{Asked, Own, own_ask, other_ask, each_of, owes_at, wrote_so, from_honest, from_liar}

unfoldable pub desk : List ℕ
desk = replicate 1005 0

pub desk_long : length desk ≡ 5 * record_length plan
unfolding desk record_length
desk_long = refl

-- ---- the sessions
abbrev pub start : Session
start = fresh_of Write 1 None (record { 0 = 1 })

abbrev pub timed_1 : Session
timed_1 = timed_of start 0 0

abbrev pub timed_2 : Session
timed_2 = timed_of timed_1 1 0

abbrev pub timed_3 : Session
timed_3 = timed_of timed_2 2 0

abbrev pub write_round : Session
write_round = storing_of (timed_of timed_3 4 top) stamp_seven

abbrev pub stored_1 : Session
stored_1 = marked_of write_round 0 Record

abbrev pub stored_2 : Session
stored_2 = marked_of stored_1 1 Record

abbrev pub stored_3 : Session
stored_3 = marked_of stored_2 2 Record

abbrev pub ended : Session
ended = ended_of (marked_of stored_3 4 Record)

abbrev pub opened : Opened
opened = record { answer = (Ok tt); session = start }

pub opened_so : OpenCall Write plan (record { 0 = 1 }) opened
unfolding open_with first plan_ok counts_ok limits_ok column_of all
opened_so = record { is = refl }

-- ---- the calls, each with the item
abbrev pub turn : List ℕ → Result Answer Refusal → Session → List ℕ → Turn
turn f a s d = record { reply = f; item = 7 ∷ []; took = record { answer = a; session = s }; desk_left = d; item_left = 7 ∷ [] }

abbrev pub call_1 : Turn
call_1 = turn (time_reply 0 0) (Ok Open) timed_1 desk

abbrev pub call_2 : Turn
call_2 = turn (time_reply 1 0) (Ok Open) timed_2 desk

abbrev pub call_3 : Turn
call_3 = turn (time_reply 2 0) (Ok Open) timed_3 desk

abbrev pub call_4 : Turn
call_4 = turn (time_reply 4 top) (Ok Open) write_round desk_full

abbrev pub call_5 : Turn
call_5 = turn (write_reply_of 0 2) (Ok Open) stored_1 desk_full

abbrev pub call_6 : Turn
call_6 = turn (write_reply_of 1 2) (Ok Open) stored_2 desk_full

abbrev pub call_7 : Turn
call_7 = turn (write_reply_of 2 2) (Ok Open) stored_3 desk_full

abbrev pub call_8 : Turn
call_8 = turn (write_reply_of 4 2) (Ok (Done stamp_seven 0)) ended desk_full

met_1 : WriteReplyCall plan start (time_reply 0 0) desk (7 ∷ []) call_1.took desk
unfolding desk write_reply first plan_ok counts_ok limits_ok column_of all record_length lengths_ok in_range standing_rules round_rules open_rules heard_count every num num_from part
    good_reply good_frame suits shaped for_party one_of body_fits awaited ask_in awaits_in is_heard be be_onto accepted_write time_turn
met_1 = record { is = refl }

met_2 : WriteReplyCall plan timed_1 (time_reply 1 0) desk (7 ∷ []) call_2.took desk
unfolding desk write_reply first plan_ok counts_ok limits_ok column_of all record_length lengths_ok in_range standing_rules round_rules open_rules heard_count every num num_from part
    good_reply good_frame suits shaped for_party one_of body_fits awaited ask_in awaits_in is_heard be be_onto accepted_write time_turn
met_2 = record { is = refl }

met_3 : WriteReplyCall plan timed_2 (time_reply 2 0) desk (7 ∷ []) call_3.took desk
unfolding desk write_reply first plan_ok counts_ok limits_ok column_of all record_length lengths_ok in_range standing_rules round_rules open_rules heard_count every num num_from part
    good_reply good_frame suits shaped for_party one_of body_fits awaited ask_in awaits_in is_heard be be_onto accepted_write time_turn
met_3 = record { is = refl }

-- the time is 1, and the desk is filled
filled : leaves still_open (storing_of (timed_of timed_3 4 top) (stamp_for plan 1 (7 ∷ []))) (records_for plan 1 (7 ∷ [])) ≡ write_reply plan timed_3 (time_reply 4 top) desk (7 ∷ [])
unfolding desk write_reply first plan_ok counts_ok limits_ok column_of all record_length lengths_ok in_range standing_rules round_rules open_rules heard_count every num num_from part
    good_reply good_frame suits shaped for_party one_of body_fits awaited ask_in awaits_in is_heard be be_onto accepted_write time_turn time_end kth_reply greatest_with or_more times_heard
filled = refl

met_4 : WriteReplyCall plan timed_3 (time_reply 4 top) desk (7 ∷ []) call_4.took desk_full
met_4 = record { is = (λ j. leaves still_open (storing_of (timed_of timed_3 4 top) (sym stamped_so j)) (sym written_so j)) ∙ filled }

met_5 : WriteReplyCall plan write_round (write_reply_of 0 2) desk_full (7 ∷ []) call_5.took desk_full
unfolding sheet stamp_bytes cross verifier hash stamp_at stamp_number then write_reply first plan_ok counts_ok limits_ok column_of all record_length lengths_ok in_range standing_rules
    round_rules open_rules heard_count every num num_from part good_reply good_frame suits shaped for_party one_of body_fits awaited ask_in awaits_in is_heard be be_onto accepted_write
    write_turn
met_5 = record { is = refl }

met_6 : WriteReplyCall plan stored_1 (write_reply_of 1 2) desk_full (7 ∷ []) call_6.took desk_full
unfolding sheet stamp_bytes cross verifier hash stamp_at stamp_number then write_reply first plan_ok counts_ok limits_ok column_of all record_length lengths_ok in_range standing_rules
    round_rules open_rules heard_count every num num_from part good_reply good_frame suits shaped for_party one_of body_fits awaited ask_in awaits_in is_heard be be_onto accepted_write
    write_turn
met_6 = record { is = refl }

met_7 : WriteReplyCall plan stored_2 (write_reply_of 2 2) desk_full (7 ∷ []) call_7.took desk_full
unfolding sheet stamp_bytes cross verifier hash stamp_at stamp_number then write_reply first plan_ok counts_ok limits_ok column_of all record_length lengths_ok in_range standing_rules
    round_rules open_rules heard_count every num num_from part good_reply good_frame suits shaped for_party one_of body_fits awaited ask_in awaits_in is_heard be be_onto accepted_write
    write_turn
met_7 = record { is = refl }

met_8 : WriteReplyCall plan stored_3 (write_reply_of 4 2) desk_full (7 ∷ []) call_8.took desk_full
unfolding sheet stamp_bytes cross verifier hash stamp_at stamp_number then write_reply first plan_ok counts_ok limits_ok column_of all record_length lengths_ok in_range standing_rules
    round_rules open_rules heard_count every num num_from part good_reply good_frame suits shaped for_party one_of body_fits awaited ask_in awaits_in is_heard be be_onto accepted_write
    write_turn
met_8 = record { is = refl }

-- ---- the frames are bytes
times_bytes : Octets (time_reply 0 0) × Octets (time_reply 1 0) × Octets (time_reply 2 0) × Octets (time_reply 4 top)
unfolding small be be_onto
times_bytes = (small_octets (time_reply 0 0) refl, small_octets (time_reply 1 0) refl, small_octets (time_reply 2 0) refl, small_octets (time_reply 4 top) refl)

writes_bytes : Octets (write_reply_of 0 2) × Octets (write_reply_of 1 2) × Octets (write_reply_of 2 2) × Octets (write_reply_of 4 2)
unfolding small stamp_bytes verifier be be_onto
writes_bytes = (small_octets (write_reply_of 0 2) refl, small_octets (write_reply_of 1 2) refl, small_octets (write_reply_of 2 2) refl, small_octets (write_reply_of 4 2) refl)

abbrev pub time_turns : List Turn
time_turns = call_1 ∷ call_2 ∷ call_3 ∷ call_4 ∷ []

abbrev pub write_turns : List Turn
write_turns = call_5 ∷ call_6 ∷ call_7 ∷ call_8 ∷ []

abbrev pub turns : List Turn
turns = time_turns ++ write_turns

pub calls : Calls (WriteTurn plan) start desk turns
calls = ((times_bytes.0, met_1), ((times_bytes.1, met_2), ((times_bytes.2, met_3), ((times_bytes.3, met_4), ((writes_bytes.0, met_5), ((writes_bytes.1, met_6), ((writes_bytes.2, met_7), ((writes_bytes.3, met_8), tt))))))))

abbrev pub save : Ours Write plan
save = record { ask = record { 0 = 1 }; opened = opened; opens = opened_so; accepted = refl; desk = desk; turns = turns; calls = calls }

pub save_done : said_of call_8.took.answer ≡ done stamp_seven 0
save_done = refl

-- ---- who wrote the replies
time_wrote : (i : ℕ) → Wrote (time_reply i 0) (time_call i ∷ write_call i 2 ∷ [])
unfolding be be_onto
time_wrote i = wrote_so [] (write_call i 2 ∷ []) (time_request i) (time_reply i 0) (book i) 23 refl

write_wrote : (i : ℕ) → Wrote (write_reply_of i 2) (time_call i ∷ write_call i 2 ∷ [])
unfolding be be_onto stamp_bytes verifier
write_wrote i = wrote_so (time_call i ∷ []) [] (write_request i 2) (write_reply_of i 2) (held i) 55 refl

time_numbers : EachTurn (Own saves) time_turns
time_numbers = (
  λ x. from_honest saves time_reply_kind 1 (be 8 0) 0 (omega arith) (time_wrote 0),
  (
    λ x. from_honest saves time_reply_kind 1 (be 8 0) 1 (omega arith) (time_wrote 1),
    (
      λ x. from_honest saves time_reply_kind 1 (be 8 0) 2 (omega arith) (time_wrote 2),
      (
        λ x. from_liar saves time_reply_kind 1 (be 8 top),
        tt,
      ),
    ),
  ),
)

write_numbers : EachTurn (Own saves) write_turns
write_numbers = (
  λ x. from_honest saves write_reply_kind 2 stamp_bytes 0 (omega arith) (write_wrote 0),
  (
    λ x. from_honest saves write_reply_kind 2 stamp_bytes 1 (omega arith) (write_wrote 1),
    (
      λ x. from_honest saves write_reply_kind 2 stamp_bytes 2 (omega arith) (write_wrote 2),
      (
        λ x. from_liar saves write_reply_kind 2 stamp_bytes,
        tt,
      ),
    ),
  ),
)

pub save_numbers : OwnNumbers after_save save saves
save_numbers = each_of (Own saves) time_turns write_turns time_numbers write_numbers

-- ---- what it asks of each node
owes_time : (i : ℕ) → i < 5 → Owes save (time_request i)
unfolding desk request_of first plan_ok counts_ok limits_ok column_of all record_length room_ok in_range standing_rules round_rules open_rules heard_count every is_heard ask_in
owes_time =
    by_node (λ (i : ℕ). Owes save (time_request i))
    (owes_at save [] turns refl 0 (refl, (refl, (refl, (refl, (refl, (refl, tt)))))) (time_request 0) refl)
    (owes_at save [] turns refl 1 (refl, (refl, (refl, (refl, (refl, (refl, tt)))))) (time_request 1) refl)
    (owes_at save [] turns refl 2 (refl, (refl, (refl, (refl, (refl, (refl, tt)))))) (time_request 2) refl)
    (owes_at save [] turns refl 3 (refl, (refl, (refl, (refl, (refl, (refl, tt)))))) (time_request 3) refl)
    (owes_at save [] turns refl 4 (refl, (refl, (refl, (refl, (refl, (refl, tt)))))) (time_request 4) refl)

owes_write : (i : ℕ) → i < 5 → Owes save (write_request i 2)
unfolding sheet stamp_bytes cross verifier hash stamp_at num num_from part request_of first plan_ok counts_ok limits_ok column_of all record_length room_ok in_range standing_rules
    round_rules open_rules heard_count every is_heard ask_in
owes_write =
    by_node (λ (i : ℕ). Owes save (write_request i 2))
    (owes_at save time_turns write_turns refl 0 (refl, (refl, (refl, (refl, (refl, (refl, tt)))))) (write_request 0 2) refl)
    (owes_at save time_turns write_turns refl 1 (refl, (refl, (refl, (refl, (refl, (refl, tt)))))) (write_request 1 2) refl)
    (owes_at save time_turns write_turns refl 2 (refl, (refl, (refl, (refl, (refl, (refl, tt)))))) (write_request 2 2) refl)
    (owes_at save time_turns write_turns refl 3 (refl, (refl, (refl, (refl, (refl, (refl, tt)))))) (write_request 3 2) refl)
    (owes_at save time_turns write_turns refl 4 (refl, (refl, (refl, (refl, (refl, (refl, tt)))))) (write_request 4 2) refl)

-- ---- requests of other ask numbers are not its own
asked_11 : (i : ℕ) → Asked save (latest_request i 11)
asked_11 i = other_ask save desk_long read_latest_kind i 11 [] (lit< tt) (inr (omega arith))

asked_12 : (i : ℕ) → Asked save (previous_request i)
asked_12 i = other_ask save desk_long read_previous_kind i 12 lie_stamp (lit< tt) (inr (omega arith))

asked_13 : (i : ℕ) → Asked save (write_request i 13)
asked_13 i = other_ask save desk_long write_request_kind i 13 sheet (lit< tt) (inr (omega arith))

asked_21 : (i : ℕ) → Asked save (latest_request i 21)
asked_21 i = other_ask save desk_long read_latest_kind i 21 [] (lit< tt) (inr (omega arith))

pub save_asks : OwnAsks after_save save
save_asks =
    by_honest (λ (i : ℕ). EachCall (λ (c : Call). Asked save c.request) (life_of after_save i))
    (own_ask save (time_request 0) (owes_time 0 (omega arith)), (own_ask save (write_request 0 2) (owes_write 0 (omega arith)), (asked_11 0, (asked_12 0, (asked_13 0, (asked_21 0, tt))))))
    (own_ask save (time_request 1) (owes_time 1 (omega arith)), (own_ask save (write_request 1 2) (owes_write 1 (omega arith)), (asked_11 1, (asked_12 1, (asked_13 1, (asked_21 1, tt))))))
    (own_ask save (time_request 2) (owes_time 2 (omega arith)), (own_ask save (write_request 2 2) (owes_write 2 (omega arith)), (asked_21 2, tt)))
    (asked_11 3, (asked_12 3, (asked_13 3, (asked_21 3, tt))))

pub save_asks_later : OwnAsks after_first save
save_asks_later =
    by_honest (λ (i : ℕ). EachCall (λ (c : Call). Asked save c.request) (life_of after_first i))
    (save_asks 0 (omega arith) refl) (save_asks 1 (omega arith) refl) (save_asks 2 (omega arith) refl) (save_asks 3 (omega arith) refl)
