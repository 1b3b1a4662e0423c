-- The hypotheses of the theorems on whole runs can be met by a read of two rounds and a repair, and by a write that is done: those of client's
-- Instances/Read.antt and Instances/Write.antt, call by call from their openings. Instances.antt has runs of one call.
--   read_repairs_so    READ, of round 1, of both rounds and of the repair; each closed set is what DO_READ gathered for the command to be sent
--   read_owes_so       round 2 owes what READ has to send, READ_PREVIOUS with the timestamp of the record that did not validate
--   write_done_so      WRITE, up to done
-- Assumes nothing.
use Rattle.std.specs.Prelude.{Ok}
use Prim.{tt}
use Prim.Native.Nat.{ℕ}
use mathlib.Core.Path.{◌≡◌, refl, sym, ap, ◌∙◌, subst}
use mathlib.Core.Bool.{true, false, cond, Bool}
use mathlib.Core.List.{List, [], ◌∷◌}
use mathlib.Core.Logic.{inl, inr}
use borrow.Author.Tests.{eqb-false}
use lib.Dec.{ltb, eqb}
use lib.ListN.{length, replicate}
use Rattle.octets.specs.Bytes.{part, over, num, num_from, be, be_onto, alike}
use Rattle.sha256.specs.Sha256.{sha256, after, compress_of, added_of, rounds_of, round_of, T1, T2, schedule_of, words, padding, big_endian, K}
use Rattle.terms.specs.Ladder.{all, first}
use Rattle.terms.specs.Stamp.{then, stamp_at, stamp_number}
use Rattle.terms.specs.Terms.{plan_ok, counts_ok, limits_ok, column_of, record_length}
use Rattle.frame.specs.Frame.{read_previous_kind, frame, shaped, body_fits, for_party, one_of, suits, good_frame, good_reply}
use Rattle.record.specs.Record.{time_zero}
use Rattle.rounds.specs.Rounds.{heard_count, every, slot_stamp, slots_fit, slot_fits, under_of}
use Rattle.session.specs.Session.{ask_now}
use Rattle.session.specs.Ranges.{standing_rules, open_rules, in_range}
use Rattle.standing.specs.Standing.{lengths_ok, ask_in, awaits_in, round_rules, room_ok, read_request}
use Rattle.standing.specs.declared.Stage.TheVariants.{Asking}
use Rattle.session.specs.Reply.{awaited, is_heard, bears, read_ladder}
use Rattle.session.specs.Owed.{owed_ladder, request_of, written, owed_to, OwedCall}
use Rattle.client.specs.Turns.{Turn}
use Rattle.terms.proofs.Small.{small, small_octets}
use Rattle.client.proofs.Instances.Read as reads
use Rattle.client.proofs.Instances.Read.{plan, ask, hash, poor, stamp_bytes, good, desk, desk_poor, desk_good, desk_full, desk_long}
use Rattle.client.proofs.Instances.Write as writes
use Rattle.report.specs.Triple.{Message}
use Rattle.report.specs.Ours.{family, verifier_in}
use Rattle.report.specs.Run.{Polled, unpolled, message_of, polls, polled_over, EachTells, AllFull, Apart, AllApart}
use Rattle.report.specs.WriteRun.{none_of, is_response, untimed, EachWrites}
use Rattle.report.proofs.Keeps.{Keeps}
use Rattle.report.proofs.Run.{opened_run, opened_read}
use Rattle.report.proofs.Write.{opened_write}
use Rattle.report.specs.Sent.{Commands, in_response_set, Owes}
use Rattle.report.proofs.Sent.{read_owes}
use Rattle.report.specs.Figure1 as figure1
use Rattle.report.specs.Figure3.{read_previous, Decision, reading, validate, in_time, has, with_it, receives, do_read, read, gathered, response_set}

-- ---- the read
abbrev pub read_calls : List Turn
read_calls = reads.call_1 ∷ reads.call_2 ∷ reads.call_3 ∷ reads.call_4 ∷ reads.call_5 ∷ reads.call_6 ∷ []

-- the messages of its two rounds: a record of node 0, the first triple of node 1
abbrev m1 : Message
m1 = message_of plan reads.reply_1

abbrev m2 : Message
m2 = message_of plan reads.reply_2

abbrev m3 : Message
m3 = message_of plan reads.reply_3

abbrev m4 : Message
m4 = message_of plan reads.reply_4

abbrev first_round : List (List Message)
first_round = (m2 ∷ m1 ∷ []) ∷ []

abbrev both_rounds : List (List Message)
both_rounds = (m4 ∷ m3 ∷ []) ∷ first_round

-- what DO_READ gathers from them
module _ where
  set_1 : response_set (family plan) [] (m1 ∷ []) ≡ m1 ∷ []
  unfolding read receives validate figure1.validate in_time has with_it verifier_in alike do_read bears record_length plan num num_from part be be_onto reads.reply_1 poor hash sha256 after compress_of added_of rounds_of round_of T1 T2 schedule_of words padding big_endian K
  set_1 = refl

  set_2 : response_set (family plan) [] (m2 ∷ m1 ∷ []) ≡ m1 ∷ m2 ∷ []
  unfolding read receives validate figure1.validate in_time has with_it verifier_in alike do_read bears record_length plan num num_from part be be_onto reads.reply_1 reads.reply_2 poor hash sha256 after compress_of added_of rounds_of round_of T1 T2 schedule_of words padding big_endian K
  set_2 = refl

-- what was received after each call: N-t is 2
abbrev at_rounds : List (List Message) → List Message → Polled
at_rounds rounds now = record { rounds = rounds; now = now; stored = [] }

abbrev then_closed : List (List Message) → List Message → List Message → Polled
then_closed before now set = cond (ltb (length set) 2) (at_rounds before now) (at_rounds (now ∷ before) [])

module _ where
  polls_1 : polls plan reads.start reads.reply_1 desk 1 unpolled ≡ at_rounds [] (m1 ∷ [])
  unfolding polls none_of reads.reply_1 plan desk poor hash plan_ok counts_ok limits_ok column_of all record_length lengths_ok in_range standing_rules round_rules open_rules every heard_count slots_fit slot_fits slot_stamp good_reply good_frame suits shaped for_party one_of body_fits awaited ask_in awaits_in bears under_of time_zero num num_from part be be_onto
  polls_1 = ap (then_closed [] (m1 ∷ [])) set_1

  polls_2 : polls plan reads.first_heard reads.reply_2 desk_poor 1 (at_rounds [] (m1 ∷ [])) ≡ at_rounds first_round []
  unfolding polls none_of reads.reply_2 plan desk_poor poor hash plan_ok counts_ok limits_ok column_of all record_length lengths_ok in_range standing_rules round_rules open_rules every heard_count slots_fit slot_fits slot_stamp good_reply good_frame suits shaped for_party one_of body_fits awaited ask_in awaits_in bears under_of time_zero num num_from part be be_onto
  polls_2 = ap (then_closed [] (m2 ∷ m1 ∷ [])) set_2

-- two timestamps, so that no two cross checksums stand under one
pair_apart : (m k : Message) → (m.Response.ts ≡ k.Response.ts → ⊥) → Apart (m ∷ k ∷ [])
pair_apart m k unlike x y (inl a) (inl b) t e = ap (λ (z : Message). z.Response.CC) (a ∙ sym b)
pair_apart m k unlike x y (inl a) (inr (inl b)) t e =
    absurd (unlike (ap (λ (z : Message). z.Response.ts) (sym a) ∙ t ∙ ap (λ (z : Message). z.Response.ts) b))
pair_apart m k unlike x y (inr (inl a)) (inl b) t e =
    absurd (unlike (sym (ap (λ (z : Message). z.Response.ts) (sym a) ∙ t ∙ ap (λ (z : Message). z.Response.ts) b)))
pair_apart m k unlike x y (inr (inl a)) (inr (inl b)) t e = ap (λ (z : Message). z.Response.CC) (a ∙ sym b)
pair_apart m k unlike x y (inr (inr a)) j t e = absurd a
pair_apart m k unlike x y (inl a) (inr (inr b)) t e = absurd b
pair_apart m k unlike x y (inr (inl a)) (inr (inr b)) t e = absurd b

module _ where
  poor_later : eqb m1.Response.ts m2.Response.ts ≡ false
  unfolding reads.reply_1 reads.reply_2 plan bears record_length poor hash num num_from part be be_onto
  poor_later = refl

  good_later : eqb m3.Response.ts m4.Response.ts ≡ false
  unfolding reads.reply_3 reads.reply_4 plan bears record_length good stamp_bytes hash num num_from part be be_onto
  good_later = refl

desk_small : small desk ≡ true
unfolding small desk
desk_small = refl

apart_first : Apart (response_set (family plan) [] (m2 ∷ m1 ∷ []))
apart_first = subst Apart (sym set_2) (pair_apart m1 m2 (eqb-false m1.Response.ts m2.Response.ts poor_later))

two_polled : polled_over plan reads.start desk unpolled (reads.call_1 ∷ reads.call_2 ∷ []) ≡ at_rounds first_round []
two_polled = ap (polls plan reads.first_heard reads.reply_2 desk_poor 1) polls_1 ∙ polls_2

apart_two : AllApart plan (polled_over plan reads.start desk unpolled (reads.call_1 ∷ reads.call_2 ∷ [])).rounds
apart_two = subst (λ (w : Polled). AllApart plan w.rounds) (sym two_polled) (apart_first, tt)

-- the theorem at the first two calls: READ is to ask for what is before node 0's record, whose cross checksum is not that of its fragments
asks_previous : read (family plan) first_round ≡ reading (read_previous m1.Response.ts)
unfolding reads.reply_1 plan bears record_length poor hash desk_poor num num_from part be be_onto stamp_at stamp_number then
asks_previous = kept_two.decision
  where
    kept_two : Keeps plan reads.second_round desk_poor (at_rounds first_round [])
    kept_two =
        subst (Keeps plan reads.second_round desk_poor) two_polled
        (opened_run plan ask reads.opened desk (reads.call_1 ∷ reads.call_2 ∷ []) reads.opened_so refl desk_long (small_octets desk desk_small)
        ((reads.calls).0, ((reads.calls).1.0, tt)) apart_two).keeps

-- ---- round 2 owes node 1 the request for what is before that record
unfoldable pub previous : List ℕ
previous = frame read_previous_kind 1 6 (part poor 0 40)

pub owed_previous : OwedCall plan reads.second_round 1 desk_poor (replicate 152 0) (Ok 55) (over previous (replicate 152 0))
unfolding previous poor hash desk_poor plan owed_to first plan_ok counts_ok limits_ok column_of all record_length room_ok in_range standing_rules round_rules open_rules heard_count every slots_fit slot_fits slot_stamp
    under_of is_heard request_of read_request ask_in over num num_from part be be_onto stamp_at stamp_number then
owed_previous = record { is = refl }

pub read_owes_so : Owes (Commands plan (read (family plan) (polled_over plan reads.start desk unpolled (reads.call_1 ∷ reads.call_2 ∷ [])).rounds) 1 (ask_now reads.second_round))
    (owed_ladder plan reads.second_round 1 desk_poor 152) (in_response_set plan Asking (polled_over plan reads.start desk unpolled (reads.call_1 ∷ reads.call_2 ∷ [])) 1) (written 55)
    (replicate 152 0) (over previous (replicate 152 0))
read_owes_so =
    read_owes plan ask reads.opened desk (reads.call_1 ∷ reads.call_2 ∷ []) reads.opened_so refl desk_long (small_octets desk desk_small) ((reads.calls).0, ((reads.calls).1.0, tt)) apart_two 1
    (replicate 152 0) (Ok 55) (over previous (replicate 152 0)) owed_previous

module _ where
  set_3 : response_set (family plan) first_round (m3 ∷ []) ≡ m3 ∷ []
  unfolding receives validate figure1.validate in_time has with_it verifier_in alike do_read bears record_length plan num num_from part be be_onto reads.reply_1 reads.reply_3 poor good stamp_bytes hash sha256 after compress_of added_of rounds_of round_of T1 T2 schedule_of words padding big_endian K
  set_3 = ap (λ (x : Decision). gathered (family plan) x (m3 ∷ [])) asks_previous

  set_4 : response_set (family plan) first_round (m4 ∷ m3 ∷ []) ≡ m3 ∷ m4 ∷ []
  unfolding receives validate figure1.validate in_time has with_it verifier_in alike do_read bears record_length plan num num_from part be be_onto reads.reply_1 reads.reply_3 reads.reply_4 poor good stamp_bytes hash sha256 after compress_of added_of rounds_of round_of T1 T2 schedule_of words padding big_endian K
  set_4 = ap (λ (x : Decision). gathered (family plan) x (m4 ∷ m3 ∷ [])) asks_previous

  polls_3 : polls plan reads.second_round reads.reply_3 desk_poor 1 (at_rounds first_round []) ≡ at_rounds first_round (m3 ∷ [])
  unfolding polls none_of reads.reply_3 plan desk_poor poor good stamp_bytes hash stamp_at stamp_number then plan_ok counts_ok limits_ok column_of all record_length lengths_ok in_range standing_rules round_rules open_rules every heard_count slots_fit slot_fits slot_stamp good_reply good_frame suits shaped for_party one_of body_fits awaited ask_in awaits_in bears under_of time_zero num num_from part be be_onto
  polls_3 = ap (then_closed first_round (m3 ∷ [])) set_3

  polls_4 : polls plan reads.second_heard reads.reply_4 desk_good 1 (at_rounds first_round (m3 ∷ [])) ≡ at_rounds both_rounds []
  unfolding polls none_of reads.reply_4 plan desk_poor desk_good poor good stamp_bytes hash stamp_at stamp_number then plan_ok counts_ok limits_ok column_of all record_length lengths_ok in_range standing_rules round_rules open_rules every heard_count slots_fit slot_fits slot_stamp good_reply good_frame suits shaped for_party one_of body_fits awaited ask_in awaits_in bears under_of time_zero num num_from part be be_onto
  polls_4 = ap (then_closed first_round (m4 ∷ m3 ∷ [])) set_4

  -- a repair round closes no more
  stays : (t : Bool) (w v : Polled) → v.rounds ≡ w.rounds → (cond t v w).rounds ≡ w.rounds
  stays true w v e = e
  stays false w v e = refl

  polls_5 : (w : Polled) → (polls plan reads.repair_round reads.reply_5 desk_full 1 w).rounds ≡ w.rounds
  unfolding polls
  polls_5 w = stays (is_response (read_ladder plan reads.repair_round reads.reply_5 desk_full 1)) w _ refl

  polls_6 : (w : Polled) → (polls plan reads.once_stored reads.reply_6 desk_full 1 w).rounds ≡ w.rounds
  unfolding polls
  polls_6 w = stays (is_response (read_ladder plan reads.once_stored reads.reply_6 desk_full 1)) w _ refl

polled_so : (polled_over plan reads.start desk unpolled read_calls).rounds ≡ both_rounds
polled_so =
    polls_6 _ ∙ polls_5 _
    ∙ ap (λ (w : Polled). (polls plan reads.second_heard reads.reply_4 desk_good 1 (polls plan reads.second_round reads.reply_3 desk_poor 1 (polls plan reads.first_heard reads.reply_2 desk_poor 1 w))).rounds) polls_1
    ∙ ap (λ (w : Polled). (polls plan reads.second_heard reads.reply_4 desk_good 1 (polls plan reads.second_round reads.reply_3 desk_poor 1 w)).rounds) polls_2
    ∙ ap (λ (w : Polled). (polls plan reads.second_heard reads.reply_4 desk_good 1 w).rounds) polls_3 ∙ ap (λ (w : Polled). w.rounds) polls_4

apart_so : AllApart plan both_rounds
apart_so = (subst Apart (sym set_4) (pair_apart m3 m4 (eqb-false m3.Response.ts m4.Response.ts good_later)), (apart_first, tt))

-- the theorem at this run
pub read_repairs_so : EachTells plan reads.start desk unpolled read_calls × AllFull plan (polled_over plan reads.start desk unpolled read_calls).rounds
read_repairs_so =
    opened_read plan ask reads.opened desk read_calls reads.opened_so refl desk_long (small_octets desk desk_small) reads.calls (subst (AllApart plan) (sym polled_so) apart_so)

-- ---- the write
abbrev pub write_calls : List Turn
write_calls = writes.call_1 ∷ writes.call_2 ∷ writes.call_3 ∷ writes.call_4 ∷ []

-- the theorem at this run
pub write_done_so : EachWrites plan writes.start desk untimed write_calls
write_done_so = opened_write plan ask writes.opened desk write_calls writes.opened_so refl writes.calls
