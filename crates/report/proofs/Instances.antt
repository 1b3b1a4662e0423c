-- The hypotheses of the theorems can be met. One node, one fragment of one byte (N1 t0 b0 Q1 m1 F1, R = 73), and the record of the byte 7 at
-- time 1, whose hashes antt computes. A fresh book takes it (executed); a read that hears it is done with its timestamp in one round (read_so); a
-- write that hears a time goes on to its write round (write_so). Assumes nothing.
use Rattle.std.specs.Prelude.{Ok, Err}
use Prim.{tt}
use Prim.Native.Nat.{ℕ, ◌+◌, ◌<◌}
use mathlib.Core.Path.{◌≡◌, refl, sym, ap, ◌∙◌, subst}
use mathlib.Core.Bool.{true, cond}
use mathlib.Core.List.{List, [], ◌∷◌}
use mathlib.Core.Logic.{inl, inr}
use native.Mathlib.Omega.{arith}
use borrow.Author.Tests.{eq-eqb}
use lib.Dec.{ltb, eqb}
use lib.ListN.{length, replicate, take}
use Rattle.octets.specs.Bytes.{part, put, over, num, num_from, be, be_onto, alike}
use Rattle.sha256.specs.Sha256.{sha256, after, compress_of, added_of, rounds_of, round_of, T1, T2, schedule_of, words, padding, big_endian, K}
use Rattle.terms.specs.Ladder.{first, all}
use Rattle.terms.specs.Stamp.{time, stamp_at, stamp_number, then}
use Rattle.terms.specs.Terms.{plan_ok, counts_ok, limits_ok, column_of, record_length, class_of, decided}
use Rattle.terms.specs.declared.Ask.{Ask}
use Rattle.terms.specs.declared.Plan.{Plan}
use Rattle.terms.specs.declared.Member.TheVariants.{Repairable}
use Rattle.terms.specs.declared.Clients.TheVariants.{Byzantine}
use Rattle.terms.specs.declared.Refusal.TheVariants.{WrongBook}
use Rattle.fragments.specs.Fragments.{among, regenerated}
use Rattle.frame.specs.Frame.{time_request_kind, time_reply_kind, body_of, write_request_kind, read_reply_kind, kind_of, frame, good_request, shaped, body_fits, for_party, one_of, suits, good_frame, good_reply}
use Rattle.record.specs.Record.{fragment_hash, hashes_ok, time_zero, prefix_of}
use Rattle.record.specs.Desk.{row, cross_made}
use Rattle.std.proofs.Common.{None}
use Rattle.rounds.specs.Rounds.{heard_count, every, slot_stamp, slots_fit, slot_fits, under_of, lead_of, step_of, ahead_of, joins_of, set_of, close_with}
use Rattle.recover.specs.Recover.{validates, sound}
use Rattle.session.specs.declared.Answer.TheVariants.{Done, Open}
use Rattle.session.specs.declared.Session.{Session}
use Rattle.standing.specs.declared.Operation.TheVariants.{Write, Read}
use Rattle.session.specs.declared.opening.Opened.{Opened}
use Rattle.session.specs.Session.{done, still_open}
use Rattle.session.specs.Opening.{open_with, fresh_of, OpenCall}
use Rattle.session.specs.Ranges.{standing_rules, open_rules, in_range}
use Rattle.standing.specs.Standing.{lengths_ok, ask_in, awaits_in, round_rules}
use Rattle.session.specs.Reply.{awaited, is_heard, bears}
use Rattle.session.specs.Reader.{Outcome, outcome, act_on, act_for, settled, heard, accepted, read_reply, ReadReplyCall}
use Rattle.standing.specs.declared.Stage.TheVariants.{Storing}
use Rattle.clock.specs.Clock.{times_heard, or_more, greatest_with}
use Rattle.session.specs.Writer.{Leaves, leaves, kth_reply, time_end, time_turn, accepted_write, write_reply, WriteReplyCall}
use Rattle.book.specs.Records.{timed, rising, above, some, last_of, insert_record}
use Rattle.book.specs.Book.{book_head, records_from, header, joined, laid_as, laid_out, headed, filled, good_book, node_of}
use Rattle.node.specs.Node as node
use Rattle.node.specs.Node.{NodeCall, served, answered, sends, reply_to, replied, time_fails, hash_fails, other_held, no_room}
use Rattle.node.specs.Fresh.{FreshCall, freshened}
use Rattle.store.specs.History.{Call}
use Rattle.store.proofs.Node as theorems
use Rattle.report.specs.Triple.{Message, Same, In}
use Rattle.report.specs.Figure2.{Clock, in_set_of, gathered}
use Rattle.report.specs.Figure1.{initialize}
use Rattle.report.specs.Ours.{family, verifier_in, history}
use Rattle.client.specs.Turns as turns
use Rattle.terms.proofs.Small.{small, small_octets}
use Rattle.report.specs.Run.{received, Polled, unpolled, message_of, polls, polled_over, EachTells, AllFull, Apart, AllApart}
use Rattle.report.specs.WriteRun.{none_of, untimed, clock_of, timing, EachWrites}
use Rattle.rounds.specs.Numbers.{number_of}
use Rattle.report.specs.NewTime.{ToWrite, new_time_of, time_replies, AnswersAfter}
use Rattle.report.proofs.NewTime.{passes_what_is_complete}
use Rattle.report.proofs.Node.{write_acts, fresh_run}
use Rattle.report.proofs.Run.{opened_read}
use Rattle.report.proofs.Write.{opened_write}
use Rattle.client.specs.Turns.{ReadTurn, WriteTurn, Calls}
use Rattle.report.specs.Acts.{Executes, Added}
use Rattle.report.specs.Figure1 as figure1
use Rattle.report.specs.Figure3.{validate, in_time, has, with_it, receives, do_read, read, response_set}

abbrev pub plan : Plan
plan = record { n = 1; t = 0; b = 0; q = 1; m = 1; f = 1; member = Repairable; clients = Byzantine; w = 1 }

abbrev ask : Ask
ask = record { 0 = 5 }

abbrev start_to_write : Session
start_to_write = fresh_of Write 1 None ask

-- time 1; the hash of the cross checksum; the cross checksum, which is the hash of the fragment; the fragment
rec : List ℕ
rec =
    0 ∷ 0 ∷ 0 ∷ 0 ∷ 0 ∷ 0 ∷ 0 ∷ 1 ∷ 182 ∷ 213 ∷ 141 ∷ 250 ∷ 101 ∷ 71 ∷ 193 ∷ 235 ∷ 127 ∷ 13 ∷ 79 ∷ 253 ∷ 62 ∷ 59 ∷ 214 ∷ 69 ∷ 34 ∷ 19 ∷ 33 ∷ 14 ∷ 165 ∷ 27 ∷ 170 ∷ 112 ∷ 185 ∷ 124 ∷ 49 ∷ 240 ∷ 17 ∷ 24 ∷ 114 ∷ 21 ∷ 202 ∷ 53 ∷ 135 ∷ 88 ∷ 246 ∷ 210 ∷ 126 ∷ 108 ∷ 244 ∷ 82 ∷ 114 ∷ 147 ∷ 121 ∷ 119 ∷ 167 ∷ 72 ∷ 253 ∷ 136 ∷ 57 ∷ 29 ∷ 182 ∷ 121 ∷ 206 ∷ 218 ∷ 125 ∷ 199 ∷ 191 ∷ 31 ∷ 0 ∷ 94 ∷ 232 ∷ 121 ∷ 7 ∷ []

-- ---- a read
opened : Opened
opened = record { answer = (Ok tt); session = fresh_of Read 1 None ask }

abbrev start : Session
start = fresh_of Read 1 None ask

opens : OpenCall Read plan ask opened
unfolding opened open_with first plan_ok counts_ok limits_ok column_of all
opens = record { is = refl }

reply : List ℕ
reply = frame read_reply_kind 0 5 rec

reply_small : small reply ≡ true
unfolding reply rec small be be_onto
reply_small = refl

pub desk : List ℕ
desk = replicate 73 0

desk_small : small desk ≡ true
unfolding desk small
desk_small = refl

left : Outcome
left = read_reply plan start reply desk (0 ∷ [])

said_is : left.said ≡ done (stamp_at rec 0) 1
unfolding left reply desk rec read_reply first plan_ok counts_ok limits_ok column_of all record_length lengths_ok in_range standing_rules round_rules open_rules every heard_count slots_fit slot_fits good_reply good_frame suits shaped for_party one_of body_fits awaited ask_in awaits_in is_heard bears accepted heard settled close_with lead_of step_of ahead_of slot_stamp joins_of set_of act_for act_on sound validates decided class_of among regenerated fragment_hash prefix_of row cross_made hashes_ok under_of num num_from part put be be_onto alike time_zero stamp_at stamp_number then sha256 after compress_of added_of rounds_of round_of T1 T2 schedule_of words padding big_endian K
said_is = refl

pub call : turns.Turn
call = record { reply = reply; item = 0 ∷ []; took = record { answer = Ok (Done (stamp_at rec 0) 1); session = left.session }; desk_left = left.desk; item_left = left.item }

met : ReadReplyCall plan start reply desk (0 ∷ []) (record { answer = Ok (Done (stamp_at rec 0) 1); session = left.session }) left.desk left.item
unfolding left
met = record { is = λ j. outcome (sym said_is j) left.session left.desk left.item }

calls : Calls (ReadTurn plan) start desk (call ∷ [])
unfolding call
calls = ((small_octets reply reply_small, met), tt)

-- one round is closed, by one message, which DO_READ takes
heard_one : Message
heard_one = message_of plan reply

gathered_one : response_set (family plan) [] (heard_one ∷ []) ≡ heard_one ∷ []
unfolding heard_one read do_read receives validate figure1.validate in_time has with_it verifier_in alike bears reply rec record_length num num_from part be be_onto sha256 after compress_of added_of rounds_of round_of T1 T2 schedule_of words padding big_endian K
gathered_one = refl

closed_one : polls plan start reply desk 1 unpolled ≡ record { rounds = (heard_one ∷ []) ∷ []; now = []; stored = [] }
unfolding polls none_of heard_one reply desk rec plan_ok counts_ok limits_ok column_of all record_length lengths_ok in_range standing_rules round_rules open_rules every heard_count slots_fit slot_fits good_reply good_frame suits shaped for_party one_of body_fits awaited ask_in awaits_in is_heard bears time_zero num num_from part put be be_onto
closed_one = ap (λ (l : List Message). cond (ltb (length l) 1) (record { rounds = []; now = heard_one ∷ []; stored = [] }) (record { rounds = (heard_one ∷ []) ∷ []; now = []; stored = [] })) gathered_one

one_apart : (m : Message) → Apart (m ∷ [])
one_apart m x y (inl a) (inl b) t e = ap (λ (z : Message). z.Response.CC) (a ∙ sym b)
one_apart m x y (inl a) (inr b) t e = absurd b
one_apart m x y (inr a) k t e = absurd a

apart : AllApart plan (polled_over plan start desk unpolled (call ∷ [])).rounds
unfolding call
apart = subst (λ (w : Polled). AllApart plan w.rounds) (sym closed_one) (subst Apart (sym gathered_one) (one_apart heard_one), tt)

-- the theorem at this run: READ returns that timestamp and the item that is left, in one round
pub read_so : EachTells plan start desk unpolled (call ∷ []) × AllFull plan (polled_over plan start desk unpolled (call ∷ [])).rounds
unfolding opened desk record_length
read_so = opened_read plan ask opened desk (call ∷ []) opens refl refl (small_octets desk desk_small) calls apart

-- ---- a write
opened_to_write : Opened
opened_to_write = record { answer = (Ok tt); session = start_to_write }

opens_to_write : OpenCall Write plan ask opened_to_write
unfolding opened_to_write open_with first plan_ok counts_ok limits_ok column_of all
opens_to_write = record { is = refl }

pub time_reply : List ℕ
time_reply = frame time_reply_kind 0 5 (be 8 1)

time_small : small time_reply ≡ true
unfolding time_reply small be be_onto
time_small = refl

pub after_time : Leaves
after_time = write_reply plan start_to_write time_reply desk (7 ∷ [])

still_is : after_time.said ≡ still_open
unfolding after_time time_reply desk write_reply accepted_write time_turn time_end first plan_ok counts_ok limits_ok column_of all record_length lengths_ok in_range standing_rules round_rules open_rules every heard_count slots_fit slot_fits good_reply good_frame suits shaped for_party one_of body_fits awaited ask_in awaits_in is_heard num num_from part be be_onto kth_reply greatest_with or_more times_heard
still_is = refl

pub write_call : turns.Turn
write_call =
    record { reply = time_reply; item = 7 ∷ []; took = record { answer = Ok Open; session = after_time.session }; desk_left = after_time.desk; item_left = 7 ∷ [] }

write_met : WriteReplyCall plan start_to_write time_reply desk (7 ∷ []) (record { answer = Ok Open; session = after_time.session }) after_time.desk
unfolding after_time
write_met = record { is = λ j. leaves (sym still_is j) after_time.session after_time.desk }

write_calls : Calls (WriteTurn plan) start_to_write desk (write_call ∷ [])
unfolding write_call
write_calls = ((small_octets time_reply time_small, write_met), tt)

-- the theorem at this run
pub write_so : EachWrites plan start_to_write desk untimed (write_call ∷ [])
unfolding opened_to_write
write_so = opened_write plan ask opened_to_write desk (write_call ∷ []) opens_to_write refl write_calls

-- and its write round is open
storing_is : after_time.session.round.stage ≡ Storing
unfolding after_time time_reply desk write_reply accepted_write time_turn time_end first plan_ok counts_ok limits_ok column_of all record_length lengths_ok in_range standing_rules round_rules open_rules every heard_count slots_fit slot_fits good_reply good_frame suits shaped for_party one_of body_fits awaited ask_in awaits_in is_heard num num_from part be be_onto kth_reply greatest_with or_more times_heard
storing_is = refl

-- ---- a node
pub book : List ℕ
book = over (laid_out plan 0 []) (replicate (book_head 1 + 73) 0)

pub book_small : small book ≡ true
unfolding book small over laid_as header joined record_length be be_onto
book_small = refl

pub request : List ℕ
request = frame write_request_kind 0 5 rec

pub request_small : small request ≡ true
unfolding request rec small be be_onto
request_small = refl

pub taken : node.ServedOutcome
taken = served plan request book (replicate 88 0)

replied_is : taken.answer ≡ replied 55
unfolding taken request book rec served first plan_ok counts_ok limits_ok column_of all record_length node.book_reply_ok good_book headed filled rising timed records_from good_request good_frame suits shaped for_party one_of body_fits time_fails hash_fails other_held no_room some fragment_hash prefix_of hashes_ok time_zero answered sends reply_to over laid_as header joined num num_from part be be_onto alike sha256 after compress_of added_of rounds_of round_of T1 T2 schedule_of words padding big_endian K
replied_is = refl

pub node_met : NodeCall plan request book (replicate 88 0) (Ok 55) taken.book taken.reply
unfolding taken
node_met = record { is = λ j. node.served_outcome (sym replied_is j) taken.book taken.reply }

kind_is : kind_of request ≡ 3
unfolding request rec num num_from part be be_onto
kind_is = refl

-- the theorem at this call: the request is executed as Figure 1 executes it
pub executed : Executes plan request book (replicate 88 0) taken.book taken.reply
executed = write_acts plan request book (replicate 88 0) (small_octets book book_small) (small_octets request request_small) 55 taken.book taken.reply node_met kind_is

-- and none of the conditions that document 01 adds stands against it
added : Added plan request book (replicate 88 0)
added =
    let c = theorems.clear plan request book (replicate 88 0) (theorems.replied_is plan request book (replicate 88 0) 55 taken.book taken.reply node_met).0 in
    record {
      plan = c.plan;
      lengths = c.lengths;
      book = c.good;
      request = c.request;
      time = c.time;
      other = c.other;
      room = c.room;
    }

-- the book is a fresh one
pub made_so : FreshCall plan 0 (replicate (book_head 1 + 73) 0) (Ok tt) book
unfolding book freshened first plan_ok counts_ok limits_ok column_of all
made_so = record { is = refl }

pub node_call : Call
node_call =
    record { plan = plan; request = request; reply = replicate 88 0; answer = Ok 55; book_left = taken.book; reply_left = taken.reply }

-- a request under another plan, of N2, for which the fresh book is not: refused 3
pub other : Plan
other = record { n = 2; t = 0; b = 0; q = 1; m = 1; f = 1; member = Repairable; clients = Byzantine; w = 1 }

other_said : served other request book (replicate 120 0) ≡ node.served_outcome (node.refused 3) book (replicate 120 0)
unfolding other book served first plan_ok counts_ok limits_ok column_of all record_length node.book_reply_ok good_book headed over laid_as header joined num num_from part be be_onto
other_said = refl

pub other_call : Call
other_call =
    record { plan = other; request = request; reply = replicate 120 0; answer = Err WrongBook; book_left = book; reply_left = replicate 120 0 }

-- the theorem at a run of two calls, each under a plan of its own
pub node_so : Same (history plan taken.book) (received plan 0 initialize book (other_call ∷ node_call ∷ []))
unfolding node_call other_call
node_so =
    fresh_run plan 0 (replicate (book_head 1 + 73) 0) book (other_call ∷ node_call ∷ []) made_so
    (small_octets book book_small, record { is = sym other_said }, (small_octets book book_small, node_met, tt))
    (small_octets request request_small, (small_octets request request_small, tt))

-- ---- the new time: node 0, which executed that request, of time 1, tells its time to a write, which comes to its write round
pub time_request : List ℕ
time_request = frame time_request_kind 0 5 []

pub asked : node.ServedOutcome
asked = served plan time_request taken.book (replicate 88 0)

pub asked_is : (asked.answer ≡ replied 23) × (take 23 asked.reply ≡ time_reply) × (small taken.book ≡ true)
unfolding asked time_request time_reply small taken request book rec served first plan_ok counts_ok limits_ok column_of all record_length node.book_reply_ok good_book headed filled rising above timed records_from good_request good_frame suits shaped for_party one_of body_fits time_fails hash_fails other_held no_room some fragment_hash prefix_of hashes_ok time_zero answered sends reply_to node.book_after insert_record last_of over laid_as header joined num num_from part be be_onto alike sha256 after compress_of added_of rounds_of round_of T1 T2 schedule_of words padding big_endian K
asked_is = (refl, refl, refl)

pub asked_met : NodeCall plan time_request taken.book (replicate 88 0) (Ok 23) asked.book asked.reply
unfolding asked
asked_met = record { is = λ j. node.served_outcome (sym asked_is.0 j) asked.book asked.reply }

is_time : kind_of time_request ≡ 1
unfolding time_request num num_from part be be_onto
is_time = refl

pub is_write : eqb (kind_of request) write_request_kind ≡ true
is_write = eq-eqb (kind_of request) 3 kind_is

pub time_kind : kind_of time_reply ≡ 2
unfolding time_reply num num_from part be be_onto
time_kind = refl

pub asking_small : small time_request ≡ true
unfolding time_request small be be_onto
asking_small = refl

of_node_0 : node_of book ≡ 0
unfolding book over laid_as header joined num num_from part be be_onto
of_node_0 = refl

pub of_time_1 : (time (body_of request) ≡ 1) × (clock_of time_reply ≡ record { S = 0; Time = 1 })
unfolding request time_reply rec num num_from part be be_onto
of_time_1 = (refl, refl)

-- the theorem on complete writes at this node and this write
answers_after : AnswersAfter plan 1 (record { S = 0; Time = 1 })
answers_after =
    record {
      book = book;
      good = added.book;
      own = of_node_0;
      bytes = small_octets book book_small;
      write = request;
      is_write = kind_is;
      of = of_time_1.0;
      room = replicate 88 0;
      size = 55;
      book_left = taken.book;
      room_left = taken.reply;
      executed = node_met;
      later = [];
      history = tt;
      last_bytes = small_octets taken.book asked_is.2;
      request = time_request;
      is_time = is_time;
      buffer = replicate 88 0;
      length = 23;
      book_after = asked.book;
      buffer_left = asked.reply;
      answered = asked_met;
      is = ap clock_of asked_is.1 ∙ of_time_1.1;
    }

pub to_write : ToWrite plan
to_write =
    record {
      ask = ask;
      opened = opened_to_write;
      opens = opens_to_write;
      accepted = unfold opened_to_write in refl;
      desk = desk;
      turns = write_call ∷ [];
      calls = unfold opened_to_write in write_calls;
      stores = unfold write_call in storing_is;
    }

-- the one time reply that it counted
pub replies_are : time_replies to_write ≡ record { S = 0; Time = 1 } ∷ []
unfolding to_write write_call opened_to_write timing none_of in_set_of gathered time_reply desk plan_ok counts_ok limits_ok column_of all record_length lengths_ok in_range standing_rules round_rules open_rules every heard_count slots_fit slot_fits good_reply good_frame suits shaped for_party one_of body_fits awaited ask_in awaits_in num num_from part be be_onto
replies_are = refl

executed_by : number_of (λ (k : ℕ). true) 1 ≡ 1
unfolding number_of
executed_by = refl

pub passed_so : 1 < new_time_of to_write
passed_so =
    passes_what_is_complete plan to_write (λ (k : ℕ). true) 1 (omega (arith, executed_by))
    (λ x i e. only x (subst (In x) replies_are i))
  where
    only : (x : Clock) → In x (record { S = 0; Time = 1 } ∷ []) → AnswersAfter plan 1 x
    only x (inl q) = subst (AnswersAfter plan 1) (sym q) answers_after
    only x (inr q) = absurd q
