-- The hypotheses of the theorems on whole reads, on repair and on ask numbers can be met by one read, made call by call from its opening, of
-- records whose hashes antt computes. N3 t1 b0 Q2 m1 F1, repairable, Byzantine clients, W 2, so R = 137 and a round waits for 2 replies. Round 1:
-- node 0 gives a record of time 2 whose cross checksum is right for its own fragment only, node 1 the first triple. One of two replies is
-- unclassifiable and does not validate: round 2 opens below it. Node 0 gives its record of time 1, the byte 7 on all nodes, node 1 the first
-- triple: it validates, and a repair round opens. Nodes 1 and 2 store it, and the read is done, with the byte 7 and two rounds.
--   calls              the six calls, each by its contract
--   counted_so         the rounds reported are the two that were closed
--   kept_so other_so   the session is in its ranges, so that 9 is met only in a call for the other operation
--   held_so rested_so  what the repair's desk holds, and that it stays
--   late_so            a late reply of round 1, which comes in round 2, is not counted
--   back_so            the item is the one that was written
-- Assumes nothing.
use Rattle.terms.specs.declared.Refusal.{Refusal}
use Rattle.std.specs.Prelude.{Ok, Result, Err}
use Prim.{tt}
use Prim.Native.Nat.{ℕ, ◌*◌, ◌≤◌, ◌<◌}
use native.Mathlib.Omega.{arith}
use mathlib.Core.Path.{◌≡◌, refl, sym, ap, ◌∙◌}
use mathlib.Core.Bool.{true, false}
use mathlib.Core.List.{List, [], ◌∷◌, ◌++◌}
use lib.ListN.{length, replicate}
use Rattle.octets.specs.Bytes.{part, put, num, num_from, be, be_onto, alike}
use Rattle.sha256.specs.Sha256 as sha
use Rattle.sha256.specs.Sha256.{sha256, compress_of, added_of, rounds_of, round_of, T1, T2, schedule_of, words, padding, big_endian, K}
use Rattle.terms.specs.Ladder.{first, all, ◌and◌}
use Rattle.terms.specs.Stamp.{then, stamp_at, stamp_number}
use Rattle.terms.specs.Terms.{plan_ok, counts_ok, limits_ok, column_of, record_length, class_of, decided}
use Rattle.terms.specs.declared.Ask.{Ask}
use Rattle.terms.specs.declared.Plan.{Plan}
use Rattle.terms.specs.declared.Refusal.TheVariants.{NotAwaited}
use Rattle.terms.specs.declared.Member.TheVariants.{Repairable}
use Rattle.terms.specs.declared.Clients.TheVariants.{Byzantine}
use Rattle.field.specs.Field.{xtime, mul_n, mul, square, sum_pow, inv, div}
use Rattle.fragments.specs.Fragments.{among, from, fragment, laid, tabulate, ratio, weight_of, blend, value, regenerated}
use Rattle.frame.specs.Frame.{frame, ask_of, shaped, body_fits, one_of, for_party, good_frame, good_reply, write_reply_kind, read_reply_kind, suits}
use Rattle.record.specs.Record.{fragment_hash, hashes_ok, time_zero, prefix_of}
use Rattle.record.specs.Desk.{slot_of, row, cross_made, desk_of, stamp_made}
use Rattle.std.proofs.Common.{None}
use Rattle.rounds.specs.declared.Heard.TheVariants.{First, Record}
use Rattle.rounds.specs.Rounds.{heard_count, every, slot_stamp, ahead_of, step_of, lead_of, joins_of, set_of, close_with, under_of, slot_fits, slots_fit}
use Rattle.recover.specs.Recover.{validates, slot_filled, refilled, sound, repaired, collected}
use Rattle.session.specs.declared.Session.{Session}
use Rattle.standing.specs.declared.Operation.TheVariants.{Write, Read}
use Rattle.session.specs.declared.Answer.{Answer}
use Rattle.session.specs.declared.Answer.TheVariants.{Open, Done}
use Rattle.session.specs.declared.opening.Opened.{Opened}
use Rattle.session.specs.Session.{ask_now, marked_of, next_of, storing_of, ended_of, refused}
use Rattle.session.specs.Opening.{fresh_of, open_with, OpenCall}
use Rattle.session.specs.Ranges.{standing_rules, open_rules, in_range}
use Rattle.standing.specs.Standing.{lengths_ok, same_operation, ask_in, awaits_in, round_rules}
use Rattle.session.specs.Reply.{awaited, is_heard, bears}
use Rattle.session.specs.Reader.{failing, act_on, act_for, closed, settled, heard, stored, accepted, read_reply, ReadReplyCall}
use Rattle.recover.specs.Records.{cross_for, stamp_for, records_for}
use Rattle.session.proofs.Kept.{Kept}
use Rattle.client.specs.Endings.{after_reply, desk_after}
use Rattle.client.specs.Turns.{Turn, ReadTurn, Calls, closed_rounds, EitherTurn}
use Rattle.client.specs.Repair.{Holds, EachTurn, Rests}
use Rattle.client.specs.Asks.{NotCounted}
use Rattle.terms.proofs.Small.{small, small_octets}
use Rattle.client.proofs.Counting.{counted_rounds}
use Rattle.client.proofs.Sessions.{every_session, either_way, other_operation}
use Rattle.client.proofs.RepairRound.{repair_opens, repair_ends}
use Rattle.client.proofs.Asks.{late_read_reply}
use Rattle.client.proofs.ComesBack.{repair_comes_back}

unfoldable pub plan : Plan
plan = record { n = 3; t = 1; b = 0; q = 2; m = 1; f = 1; member = Repairable; clients = Byzantine; w = 2 }

abbrev pub ask : Ask
ask = record { 0 = 5 }

-- ---- the records: time, verifier, cross checksum, fragment
-- the hash of the byte 7
unfoldable pub hash : List ℕ
hash = 202 ∷ 53 ∷ 135 ∷ 88 ∷ 246 ∷ 210 ∷ 126 ∷ 108 ∷ 244 ∷ 82 ∷ 114 ∷ 147 ∷ 121 ∷ 119 ∷ 167 ∷ 72 ∷ 253 ∷ 136 ∷ 57 ∷ 29 ∷ 182 ∷ 121 ∷ 206 ∷ 218 ∷ 125 ∷ 199 ∷ 191 ∷ 31 ∷ 0 ∷ 94 ∷ 232 ∷ 121 ∷ []

unfoldable pub poor : List ℕ
poor =
    (0 ∷ 0 ∷ 0 ∷ 0 ∷ 0 ∷ 0 ∷ 0 ∷ 2 ∷ 123 ∷ 97 ∷ 111 ∷ 251 ∷ 252 ∷ 30 ∷ 184 ∷ 147 ∷ 213 ∷ 209 ∷ 203 ∷ 184 ∷ 169 ∷ 118 ∷ 45 ∷ 2 ∷ 94 ∷ 22 ∷ 131 ∷ 219 ∷ 131 ∷ 38 ∷ 170 ∷ 15 ∷ 78 ∷ 32 ∷ 99 ∷ 20 ∷ 206 ∷ 180 ∷ 109 ∷ 138 ∷ [])
    ++ (hash ++ (replicate 64 0 ++ (7 ∷ [])))

-- the timestamp of the one that is read
unfoldable pub stamp_bytes : List ℕ
stamp_bytes = 0 ∷ 0 ∷ 0 ∷ 0 ∷ 0 ∷ 0 ∷ 0 ∷ 1 ∷ 252 ∷ 202 ∷ 30 ∷ 215 ∷ 98 ∷ 230 ∷ 166 ∷ 58 ∷ 217 ∷ 64 ∷ 154 ∷ 35 ∷ 111 ∷ 74 ∷ 249 ∷ 231 ∷ 58 ∷ 187 ∷ 157 ∷ 125 ∷ 9 ∷ 30 ∷ 108 ∷ 154 ∷ 199 ∷ 140 ∷ 178 ∷ 135 ∷ 127 ∷ 174 ∷ 93 ∷ 152 ∷ []

unfoldable pub good : List ℕ
good = stamp_bytes ++ (hash ++ (hash ++ (hash ++ (7 ∷ []))))

-- ---- the desk as it comes, after each record, and filled for repair
unfoldable pub desk : List ℕ
desk = replicate 411 0

unfoldable pub desk_poor : List ℕ
desk_poor = poor ++ replicate 274 0

unfoldable pub desk_good : List ℕ
desk_good = good ++ replicate 274 0

unfoldable pub desk_full : List ℕ
desk_full = good ++ (good ++ good)

-- ---- the sessions
abbrev pub start : Session
start = fresh_of Read 1 None ask

abbrev pub first_heard : Session
first_heard = marked_of start 0 Record

abbrev pub second_round : Session
second_round = next_of (marked_of first_heard 1 First) (stamp_at desk_poor 0)

abbrev pub second_heard : Session
second_heard = marked_of second_round 0 Record

abbrev pub repair_round : Session
repair_round = storing_of (marked_of second_heard 1 First) (stamp_at desk_good 0)

abbrev pub once_stored : Session
once_stored = marked_of repair_round 1 Record

abbrev pub ended : Session
ended = ended_of (marked_of once_stored 2 Record)

-- ---- the calls, each with an item buffer of one byte
abbrev pub turn : List ℕ → Result Answer Refusal → Session → List ℕ → List ℕ → Turn
turn f a s d i = record { reply = f; item = 0 ∷ []; took = record { answer = a; session = s }; desk_left = d; item_left = i }

unfoldable pub reply_1 : List ℕ
reply_1 = frame read_reply_kind 0 5 poor

unfoldable pub reply_2 : List ℕ
reply_2 = frame read_reply_kind 1 5 []

unfoldable pub reply_3 : List ℕ
reply_3 = frame read_reply_kind 0 6 good

unfoldable pub reply_4 : List ℕ
reply_4 = frame read_reply_kind 1 6 []

unfoldable pub reply_5 : List ℕ
reply_5 = frame write_reply_kind 1 7 stamp_bytes

unfoldable pub reply_6 : List ℕ
reply_6 = frame write_reply_kind 2 7 stamp_bytes

abbrev pub call_1 : Turn
call_1 = turn reply_1 (Ok Open) first_heard desk_poor (0 ∷ [])

abbrev pub call_2 : Turn
call_2 = turn reply_2 (Ok Open) second_round desk_poor (0 ∷ [])

abbrev pub call_3 : Turn
call_3 = turn reply_3 (Ok Open) second_heard desk_good (0 ∷ [])

abbrev pub call_4 : Turn
call_4 = turn reply_4 (Ok Open) repair_round desk_full (0 ∷ [])

abbrev pub call_5 : Turn
call_5 = turn reply_5 (Ok Open) once_stored desk_full (0 ∷ [])

abbrev pub call_6 : Turn
call_6 = turn reply_6 (Ok (Done (stamp_at desk_good 0) 2)) ended desk_full (7 ∷ [])

abbrev pub opened : Opened
opened = record { answer = (Ok tt); session = start }

pub opened_so : OpenCall Read plan ask opened
unfolding open_with first plan_ok counts_ok limits_ok column_of all plan
opened_so = record { is = refl }

pub met_1 : ReadReplyCall plan (start) reply_1 desk (0 ∷ []) (record { answer = Ok Open; session = first_heard }) desk_poor (0 ∷ [])
unfolding reply_1 hash poor stamp_bytes good desk desk_poor desk_good desk_full plan read_reply first plan_ok counts_ok limits_ok column_of all record_length lengths_ok in_range standing_rules round_rules open_rules heard_count every slots_fit slot_fits slot_stamp under_of num num_from part
    good_reply good_frame suits shaped for_party one_of body_fits awaited ask_in awaits_in is_heard bears be be_onto accepted heard settled
    hashes_ok time_zero fragment_hash prefix_of alike put stamp_at stamp_number then sha256 sha.after compress_of added_of rounds_of round_of T1 T2 schedule_of words padding big_endian K
met_1 = record { is = refl }

met_2 : ReadReplyCall plan (first_heard) reply_2 desk_poor (0 ∷ []) (record { answer = Ok Open; session = second_round }) desk_poor (0 ∷ [])
unfolding reply_2 hash poor stamp_bytes good desk desk_poor desk_good desk_full plan read_reply first plan_ok counts_ok limits_ok column_of all record_length lengths_ok in_range standing_rules round_rules open_rules heard_count every slots_fit slot_fits slot_stamp under_of num num_from part
    good_reply good_frame suits shaped for_party one_of body_fits awaited ask_in awaits_in is_heard bears be be_onto accepted heard settled
    hashes_ok time_zero fragment_hash prefix_of alike put stamp_at stamp_number then sha256 sha.after compress_of added_of rounds_of round_of T1 T2 schedule_of words padding big_endian K act_for act_on sound failing close_with lead_of step_of ahead_of set_of joins_of decided class_of
    validates row cross_made regenerated among tabulate value blend weight_of ratio xtime mul_n mul square sum_pow inv div
met_2 = record { is = refl }

met_3 : ReadReplyCall plan (second_round) reply_3 desk_poor (0 ∷ []) (record { answer = Ok Open; session = second_heard }) desk_good (0 ∷ [])
unfolding reply_3 hash poor stamp_bytes good desk desk_poor desk_good desk_full plan read_reply first plan_ok counts_ok limits_ok column_of all record_length lengths_ok in_range standing_rules round_rules open_rules heard_count every slots_fit slot_fits slot_stamp under_of num num_from part
    good_reply good_frame suits shaped for_party one_of body_fits awaited ask_in awaits_in is_heard bears be be_onto accepted heard settled
    hashes_ok time_zero fragment_hash prefix_of alike put stamp_at stamp_number then sha256 sha.after compress_of added_of rounds_of round_of T1 T2 schedule_of words padding big_endian K
met_3 = record { is = refl }

met_4 : ReadReplyCall plan (second_heard) reply_4 desk_good (0 ∷ []) (record { answer = Ok Open; session = repair_round }) desk_full (0 ∷ [])
unfolding reply_4 hash poor stamp_bytes good desk desk_poor desk_good desk_full plan read_reply first plan_ok counts_ok limits_ok column_of all record_length lengths_ok in_range standing_rules round_rules open_rules heard_count every slots_fit slot_fits slot_stamp under_of num num_from part
    good_reply good_frame suits shaped for_party one_of body_fits awaited ask_in awaits_in is_heard bears be be_onto accepted heard settled
    hashes_ok time_zero fragment_hash prefix_of alike put stamp_at stamp_number then sha256 sha.after compress_of added_of rounds_of round_of T1 T2 schedule_of words padding big_endian K act_for act_on sound failing close_with lead_of step_of ahead_of set_of joins_of decided class_of
    validates row cross_made regenerated among tabulate value blend weight_of ratio xtime mul_n mul square sum_pow inv div repaired refilled slot_filled
met_4 = record { is = refl }

met_5 : ReadReplyCall plan (repair_round) reply_5 desk_full (0 ∷ []) (record { answer = Ok Open; session = once_stored }) desk_full (0 ∷ [])
unfolding reply_5 hash poor stamp_bytes good desk desk_poor desk_good desk_full plan read_reply first plan_ok counts_ok limits_ok column_of all record_length lengths_ok in_range standing_rules round_rules open_rules heard_count every slots_fit slot_fits slot_stamp under_of num num_from part
    good_reply good_frame suits shaped for_party one_of body_fits awaited ask_in awaits_in is_heard bears be be_onto accepted heard settled
    hashes_ok time_zero fragment_hash prefix_of alike put stamp_at stamp_number then stored
met_5 = record { is = refl }

met_6 : ReadReplyCall plan (once_stored) reply_6 desk_full (0 ∷ []) (record { answer = Ok (Done (stamp_at desk_good 0) 2); session = ended }) desk_full (7 ∷ [])
unfolding reply_6 hash poor stamp_bytes good desk desk_poor desk_good desk_full plan read_reply first plan_ok counts_ok limits_ok column_of all record_length lengths_ok in_range standing_rules round_rules open_rules heard_count every slots_fit slot_fits slot_stamp under_of num num_from part
    good_reply good_frame suits shaped for_party one_of body_fits awaited ask_in awaits_in is_heard bears be be_onto accepted heard settled
    hashes_ok time_zero fragment_hash prefix_of alike put stamp_at stamp_number then stored collected laid from regenerated among tabulate value
met_6 = record { is = refl }

-- ---- the frames and the desk are bytes
module _ where
  small_1 : small reply_1 ≡ true
  unfolding small reply_1 poor hash be be_onto
  small_1 = refl

  small_2 : small reply_2 ≡ true
  unfolding small reply_2 be be_onto
  small_2 = refl

  small_3 : small reply_3 ≡ true
  unfolding small reply_3 good stamp_bytes hash be be_onto
  small_3 = refl

  small_4 : small reply_4 ≡ true
  unfolding small reply_4 be be_onto
  small_4 = refl

  small_5 : small reply_5 ≡ true
  unfolding small reply_5 stamp_bytes be be_onto
  small_5 = refl

  small_6 : small reply_6 ≡ true
  unfolding small reply_6 stamp_bytes be be_onto
  small_6 = refl

  small_desk : small desk_good ≡ true
  unfolding small desk_good good stamp_bytes hash
  small_desk = refl

pub calls : Calls (ReadTurn plan) start desk (call_1 ∷ call_2 ∷ call_3 ∷ call_4 ∷ call_5 ∷ call_6 ∷ [])
calls = (
  (small_octets reply_1 small_1, met_1),
  (
    (small_octets reply_2 small_2, met_2),
    (
      (small_octets reply_3 small_3, met_3),
      ((small_octets reply_4 small_4, met_4), ((small_octets reply_5 small_5, met_5), ((small_octets reply_6 small_6, met_6), tt))),
    ),
  ),
)

-- the rounds reported are the two that were closed, and the repair round is not counted
pub counted_so : (2 ≡ closed_rounds plan 0 start (call_1 ∷ call_2 ∷ call_3 ∷ call_4 ∷ call_5 ∷ call_6 ∷ [])) × (2 ≤ 2)
unfolding plan
counted_so = counted_rounds plan ask opened opened_so refl desk call_1 (call_2 ∷ call_3 ∷ call_4 ∷ call_5 ∷ call_6 ∷ []) calls 2 refl

pub replies_so : Calls (EitherTurn plan) start desk (call_1 ∷ call_2 ∷ call_3 ∷ call_4 ∷ call_5 ∷ call_6 ∷ [])
replies_so = either_way plan start desk (call_1 ∷ call_2 ∷ call_3 ∷ call_4 ∷ call_5 ∷ call_6 ∷ []) calls

pub desk_long : length desk ≡ plan.n * record_length plan
unfolding plan desk record_length
desk_long = refl

pub kept_so : Kept plan ended desk_full
kept_so =
    every_session Read plan ask opened opened_so refl desk desk_long (call_1 ∷ call_2 ∷ call_3 ∷ call_4 ∷ call_5 ∷ call_6 ∷ []) replies_so

-- 9 is met by it only in a call for the other operation
pub other_so : (same_operation Write ended.operation and in_range plan ended desk_full) ≡ false
other_so = other_operation Write plan ended desk_full kept_so

-- ---- the repair
pub held_so : (k : ℕ) → k < 3
    → Holds plan (closed plan (after_reply plan second_heard reply_4) (desk_after plan reply_4 desk_good)) (desk_after plan reply_4 desk_good) desk_full k
unfolding plan
held_so =
    repair_opens plan second_heard reply_4 desk_good (0 ∷ []) refl call_4.took desk_full (0 ∷ []) met_4 refl (small_octets desk_good small_desk)
    (small_octets reply_4 small_4)

pub rested_so : EachTurn (Rests plan (closed plan (after_reply plan second_heard reply_4) (desk_after plan reply_4 desk_good)) (desk_after plan reply_4 desk_good) desk_full)
    (call_5 ∷ call_6 ∷ [])
rested_so =
    repair_ends plan second_heard reply_4 desk_good (0 ∷ []) refl call_4.took desk_full (0 ∷ []) met_4 refl (call_5 ∷ call_6 ∷ []) calls.1.1.1.1

-- ---- node 2 answers round 1 late, when round 2 has heard node 0: refused 10
unfoldable pub late : List ℕ
late = frame read_reply_kind 2 5 []

pub late_met : ReadReplyCall plan second_heard late desk_good (0 ∷ []) (record { answer = Err NotAwaited; session = second_heard }) desk_good (0 ∷ [])
unfolding late hash stamp_bytes good desk_good plan read_reply first plan_ok counts_ok limits_ok column_of all record_length lengths_ok in_range standing_rules round_rules open_rules heard_count every
    slots_fit slot_fits slot_stamp under_of num num_from part good_reply good_frame suits shaped for_party one_of body_fits awaited ask_in awaits_in be be_onto stamp_at stamp_number then
    desk_poor poor
late_met = record { is = refl }

asked_first : ask_of late ≡ ask_now start
unfolding late be be_onto num num_from part ask_in
asked_first = refl

pub late_so : NotCounted (refused 10)
late_so =
    (late_read_reply plan start desk (call_1 ∷ call_2 ∷ call_3 ∷ [])
    (replies_so.0, (replies_so.1.0, (replies_so.1.1.0, tt))) (λ a b. omega arith) late asked_first
    desk_good (0 ∷ []) (record { answer = Err NotAwaited; session = second_heard }) desk_good (0 ∷ []) late_met).0

-- ---- the item is the one that was written: the desk that the repair filled is the one that a writer of the byte 7 fills at time 1
module _ where
  abbrev pub cross : List ℕ
  cross = hash ++ (hash ++ hash)

  pub cross_so : cross_for plan (7 ∷ []) ≡ cross
  unfolding cross_for cross_made row fragment fragment_hash prefix_of plan hash part tabulate value blend weight_of ratio from xtime mul_n mul sha256 sha.after compress_of added_of rounds_of
      round_of T1 T2 schedule_of words padding big_endian K
  cross_so = refl

  pub stamp_so : stamp_made 1 cross ≡ stamp_bytes
  unfolding stamp_bytes hash be be_onto sha256 sha.after compress_of added_of rounds_of round_of T1 T2 schedule_of words padding big_endian K
  stamp_so = refl

  full_so : desk_of stamp_bytes cross (fragment 1 1 (7 ∷ [])) 3 ≡ desk_full
  unfolding desk_of row fragment desk_full good stamp_bytes hash part tabulate value blend weight_of ratio from xtime mul_n mul
  full_so = refl

pub written_so : records_for plan 1 (7 ∷ []) ≡ desk_full
unfolding records_for plan
written_so =
    ap (λ (c : List ℕ). desk_of (stamp_made 1 c) c (fragment 1 1 (7 ∷ [])) 3) cross_so
    ∙ ap (λ (t : List ℕ). desk_of t cross (fragment 1 1 (7 ∷ [])) 3) stamp_so ∙ full_so

pub stamped_so : stamp_for plan 1 (7 ∷ []) ≡ stamp_at stamp_bytes 0
unfolding stamp_for
stamped_so = ap (λ (c : List ℕ). stamp_at (stamp_made 1 c) 0) cross_so ∙ ap (λ (t : List ℕ). stamp_at t 0) stamp_so

pub plan_is_ok : plan_ok plan ≡ true
unfolding plan plan_ok counts_ok limits_ok column_of all
plan_is_ok = refl

pub seven_small : small (7 ∷ []) ≡ true
unfolding small
seven_small = refl

pub back_so : call_6.item_left ≡ 7 ∷ []
unfolding plan from
back_so =
    repair_comes_back plan 1 (7 ∷ []) plan_is_ok (small_octets (7 ∷ []) seven_small) refl (0 ∷ []) refl once_stored reply_6 desk_full call_6.took desk_full (7 ∷ []) met_6
    (stamp_at desk_good 0) 2 refl refl (ap (λ (d : List ℕ). slot_of plan d 0) (sym written_so), tt)
