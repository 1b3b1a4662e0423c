-- The first read, opening ask number 11. Round 1: nodes 0 and 1 give the record of 7, node 3 the first triple, and the liar a sound record of the byte 9 of
-- time 2. That one is the candidate, with a set of 1, below INCOMPLETE: round 2 opens below it. Nodes 0 and 1 give the record of 7, node 3 and the liar the
-- first triple: a set of 2 is unclassifiable and validates, and a repair round opens. Nodes 0, 1 and 3 store, the liar says that it did, and the read is
-- done, with the byte 7 and two rounds.
--   taken              a call whose reply nothing refuses, by its contract
--   calls first        the twelve calls, each by its contract
--   first_answers first_leaves   its answers, one after the other, and the item that it leaves
-- Assumes nothing.
use Rattle.terms.specs.declared.Refusal.{Refusal}
use Rattle.std.specs.Prelude.{Ok, Result}
use Prim.{tt}
use Prim.Native.Nat.{ℕ}
use mathlib.Core.Path.{◌≡◌, refl, sym, ap, ◌∙◌}
use mathlib.Core.Bool.{Bool, true, cond, not}
use mathlib.Core.List.{List, [], ◌∷◌, ◌++◌}
use native.Mathlib.Omega.{arith}
use lib.ListN.{replicate}
use Rattle.octets.specs.Bytes.{Octets, part, put, num, num_from, be, be_onto, alike}
use Rattle.terms.specs.Ladder as ladder
use Rattle.terms.specs.Ladder.{all, None}
use Rattle.terms.specs.Stamp.{then, stamp_at, stamp_number}
use Rattle.terms.specs.Terms.{plan_ok, counts_ok, limits_ok, column_of, record_length, class_of, decided}
use Rattle.terms.specs.declared.Verdict.TheVariants.{Repair}
use Rattle.terms.proofs.Small.{small, small_octets}
use Rattle.field.specs.Field.{xtime, mul_n, mul, square, sum_pow, inv, div}
use Rattle.fragments.specs.Fragments.{among, from, laid, tabulate, ratio, weight_of, blend, value, regenerated}
use Rattle.frame.specs.Frame.{frame, shaped, body_fits, one_of, for_party, good_frame, good_reply, read_reply_kind, suits}
use Rattle.record.specs.Record.{fragment_hash, prefix_of, time_zero}
use Rattle.record.specs.Desk.{row, cross_made}
use Rattle.std.specs.declared.option.Option.TheVariants as option
use Rattle.rounds.specs.declared.Heard.TheVariants.{First, Record}
use Rattle.rounds.specs.Rounds.{heard_count, every, slot_stamp, ahead_of, step_of, lead_of, joins_of, set_of, Closed, close_with, under_of, slot_fits, slots_fit}
use Rattle.recover.specs.Recover.{validates, sound, slot_filled, refilled, repaired, collected}
use Rattle.standing.specs.declared.Operation.TheVariants.{Read}
use Rattle.standing.specs.Standing.{lengths_ok, ask_in, awaits_in, round_rules}
use Rattle.session.specs.declared.Session.{Session}
use Rattle.session.specs.declared.Took.{Took}
use Rattle.session.specs.declared.Answer.{Answer}
use Rattle.session.specs.declared.Answer.TheVariants.{Open, Done}
use Rattle.session.specs.declared.opening.Opened.{Opened}
use Rattle.session.specs.Session.{marked_of, next_of, storing_of, ended_of, Said, still_open, done, said_of}
use Rattle.session.specs.Opening.{fresh_of, open_with, OpenCall}
use Rattle.session.specs.Ranges.{standing_rules, open_rules, in_range}
use Rattle.session.specs.Reply.{read_ladder, awaited, is_heard, bears}
use Rattle.session.specs.Reader.{outcome, failing, act_on, act_for, settled, heard, stored, accepted, read_reply, ReadReplyCall}
use Rattle.client.specs.Turns.{Turn, ReadTurn, Calls, closed_rounds}
use Rattle.client.proofs.Reading.{is_accepted}
use Rattle.safety.specs.Run.{Reading}
use Rattle.safety.proofs.Instances.Data.{plan, hash, cross, verifier, stamp_bytes, sheet, stamp_seven, lie_hash, lie_cross, lie_verifier, lie_stamp, lie, stamp_nine, desk_full, hash_so, sheet_passes, lie_passes}
use Rattle.safety.proofs.Instances.Nodes.{write_reply_of, sheet_reply, first_reply}
use Rattle.safety.proofs.Instances.Save.{desk}

-- ---- the sessions
abbrev pub start : Session
start = fresh_of Read 1 option.None (record { 0 = 11 })

abbrev pub heard_1 : Session
heard_1 = marked_of start 0 Record

abbrev pub heard_2 : Session
heard_2 = marked_of heard_1 1 Record

abbrev pub heard_3 : Session
heard_3 = marked_of heard_2 3 First

abbrev pub second_round : Session
second_round = next_of (marked_of heard_3 4 Record) stamp_nine

abbrev pub again_1 : Session
again_1 = marked_of second_round 0 Record

abbrev pub again_2 : Session
again_2 = marked_of again_1 1 Record

abbrev pub again_3 : Session
again_3 = marked_of again_2 3 First

abbrev pub repair_round : Session
repair_round = storing_of (marked_of again_3 4 First) stamp_seven

abbrev pub stored_1 : Session
stored_1 = marked_of repair_round 0 Record

abbrev pub stored_2 : Session
stored_2 = marked_of stored_1 1 Record

abbrev pub stored_3 : Session
stored_3 = marked_of stored_2 3 Record

abbrev pub ended : Session
ended = ended_of (marked_of stored_3 4 Record)

abbrev pub opened : Opened
opened = record { answer = (Ok tt); session = start }

pub opened_so : OpenCall Read plan (record { 0 = 11 }) opened
unfolding open_with ladder.first plan_ok counts_ok limits_ok column_of all
opened_so = record { is = refl }

-- ---- the desk after each record
abbrev pub desk_1 : List ℕ
desk_1 = sheet ++ replicate 804 0

abbrev pub desk_2 : List ℕ
desk_2 = sheet ++ (sheet ++ replicate 603 0)

abbrev pub desk_lie : List ℕ
desk_lie = sheet ++ (sheet ++ (replicate 402 0 ++ lie))

abbrev pub lie_reply : List ℕ
lie_reply = frame read_reply_kind 4 11 lie

-- ---- the calls, each with an item buffer of one byte
abbrev pub turn : List ℕ → Result Answer Refusal → Session → List ℕ → List ℕ → Turn
turn f a s d i = record { reply = f; item = 0 ∷ []; took = record { answer = a; session = s }; desk_left = d; item_left = i }

abbrev pub call_1 : Turn
call_1 = turn (sheet_reply 0 11) (Ok Open) heard_1 desk_1 (0 ∷ [])

abbrev pub call_2 : Turn
call_2 = turn (sheet_reply 1 11) (Ok Open) heard_2 desk_2 (0 ∷ [])

abbrev pub call_3 : Turn
call_3 = turn (first_reply 3 11) (Ok Open) heard_3 desk_2 (0 ∷ [])

abbrev pub call_4 : Turn
call_4 = turn lie_reply (Ok Open) second_round desk_lie (0 ∷ [])

abbrev pub call_5 : Turn
call_5 = turn (sheet_reply 0 12) (Ok Open) again_1 desk_lie (0 ∷ [])

abbrev pub call_6 : Turn
call_6 = turn (sheet_reply 1 12) (Ok Open) again_2 desk_lie (0 ∷ [])

abbrev pub call_7 : Turn
call_7 = turn (first_reply 3 12) (Ok Open) again_3 desk_lie (0 ∷ [])

abbrev pub call_8 : Turn
call_8 = turn (first_reply 4 12) (Ok Open) repair_round desk_full (0 ∷ [])

abbrev pub call_9 : Turn
call_9 = turn (write_reply_of 0 13) (Ok Open) stored_1 desk_full (0 ∷ [])

abbrev pub call_10 : Turn
call_10 = turn (write_reply_of 1 13) (Ok Open) stored_2 desk_full (0 ∷ [])

abbrev pub call_11 : Turn
call_11 = turn (write_reply_of 3 13) (Ok Open) stored_3 desk_full (0 ∷ [])

abbrev pub call_12 : Turn
call_12 = turn (write_reply_of 4 13) (Ok (Done stamp_seven 2)) ended desk_full (7 ∷ [])

pub taken : (s : Session) (f d : List ℕ) (t : Took) (d₂ i₂ : List ℕ) → None (read_ladder plan s f d 1) → accepted plan s f d (0 ∷ []) ≡ outcome (said_of t.answer) t.session d₂ i₂
    → ReadReplyCall plan s f d (0 ∷ []) t d₂ i₂
taken s f d t d₂ i₂ n e = record { is = sym (is_accepted plan s f d (0 ∷ []) n ∙ e) }

met_1 : ReadReplyCall plan start (sheet_reply 0 11) desk (0 ∷ []) call_1.took desk_1 (0 ∷ [])
unfolding desk sheet stamp_bytes cross verifier hash ladder.first plan_ok counts_ok limits_ok column_of all record_length lengths_ok in_range standing_rules round_rules open_rules
    heard_count every slots_fit slot_fits slot_stamp under_of num num_from part good_reply good_frame suits shaped for_party one_of body_fits awaited ask_in awaits_in is_heard bears be
    be_onto accepted heard settled time_zero put stamp_at stamp_number then
met_1 =
    taken start (sheet_reply 0 11) desk call_1.took desk_1 (0 ∷ []) (refl, (refl, (refl, (refl, (refl, (refl, (refl, (refl, (ap not (sheet_passes 0 (omega arith)), (refl, tt)))))))))) refl

met_2 : ReadReplyCall plan heard_1 (sheet_reply 1 11) desk_1 (0 ∷ []) call_2.took desk_2 (0 ∷ [])
unfolding desk sheet stamp_bytes cross verifier hash ladder.first plan_ok counts_ok limits_ok column_of all record_length lengths_ok in_range standing_rules round_rules open_rules
    heard_count every slots_fit slot_fits slot_stamp under_of num num_from part good_reply good_frame suits shaped for_party one_of body_fits awaited ask_in awaits_in is_heard bears be
    be_onto accepted heard settled time_zero put stamp_at stamp_number then
met_2 =
    taken heard_1 (sheet_reply 1 11) desk_1 call_2.took desk_2 (0 ∷ []) (refl, (refl, (refl, (refl, (refl, (refl, (refl, (refl, (ap not (sheet_passes 1 (omega arith)), (refl, tt)))))))))) refl

met_3 : ReadReplyCall plan heard_2 (first_reply 3 11) desk_2 (0 ∷ []) call_3.took desk_2 (0 ∷ [])
unfolding read_reply desk sheet stamp_bytes cross verifier hash ladder.first plan_ok counts_ok limits_ok column_of all record_length lengths_ok in_range standing_rules round_rules
    open_rules heard_count every slots_fit slot_fits slot_stamp under_of num num_from part good_reply good_frame suits shaped for_party one_of body_fits awaited ask_in awaits_in is_heard
    bears be be_onto accepted heard settled time_zero put stamp_at stamp_number then
met_3 = record { is = refl }

-- it closes round 1: the candidate is the liar's
met_4 : ReadReplyCall plan heard_3 lie_reply desk_2 (0 ∷ []) call_4.took desk_lie (0 ∷ [])
unfolding desk sheet stamp_bytes cross verifier hash lie lie_stamp lie_cross lie_verifier lie_hash ladder.first plan_ok counts_ok limits_ok column_of all record_length lengths_ok
    in_range standing_rules round_rules open_rules heard_count every slots_fit slot_fits slot_stamp under_of num num_from part good_reply good_frame suits shaped for_party one_of body_fits
    awaited ask_in awaits_in is_heard bears be be_onto accepted heard settled time_zero put stamp_at stamp_number then alike act_for act_on failing close_with lead_of step_of ahead_of set_of
    joins_of decided class_of
met_4 =
    taken heard_3 lie_reply desk_2 call_4.took desk_lie (0 ∷ []) (refl, (refl, (refl, (refl, (refl, (refl, (refl, (refl, (ap not lie_passes, (refl, tt)))))))))) refl

met_5 : ReadReplyCall plan second_round (sheet_reply 0 12) desk_lie (0 ∷ []) call_5.took desk_lie (0 ∷ [])
unfolding desk sheet stamp_bytes cross verifier hash lie lie_stamp lie_cross lie_verifier lie_hash ladder.first plan_ok counts_ok limits_ok column_of all record_length lengths_ok
    in_range standing_rules round_rules open_rules heard_count every slots_fit slot_fits slot_stamp under_of num num_from part good_reply good_frame suits shaped for_party one_of body_fits
    awaited ask_in awaits_in is_heard bears be be_onto accepted heard settled time_zero put stamp_at stamp_number then
met_5 =
    taken second_round (sheet_reply 0 12) desk_lie call_5.took desk_lie (0 ∷ []) (refl, (refl, (refl, (refl, (refl, (refl, (refl, (refl, (ap not (sheet_passes 0 (omega arith)), (refl, tt)))))))))) refl

met_6 : ReadReplyCall plan again_1 (sheet_reply 1 12) desk_lie (0 ∷ []) call_6.took desk_lie (0 ∷ [])
unfolding desk sheet stamp_bytes cross verifier hash lie lie_stamp lie_cross lie_verifier lie_hash ladder.first plan_ok counts_ok limits_ok column_of all record_length lengths_ok
    in_range standing_rules round_rules open_rules heard_count every slots_fit slot_fits slot_stamp under_of num num_from part good_reply good_frame suits shaped for_party one_of body_fits
    awaited ask_in awaits_in is_heard bears be be_onto accepted heard settled time_zero put stamp_at stamp_number then
met_6 =
    taken again_1 (sheet_reply 1 12) desk_lie call_6.took desk_lie (0 ∷ []) (refl, (refl, (refl, (refl, (refl, (refl, (refl, (refl, (ap not (sheet_passes 1 (omega arith)), (refl, tt)))))))))) refl

met_7 : ReadReplyCall plan again_2 (first_reply 3 12) desk_lie (0 ∷ []) call_7.took desk_lie (0 ∷ [])
unfolding read_reply desk sheet stamp_bytes cross verifier hash lie lie_stamp lie_cross lie_verifier lie_hash ladder.first plan_ok counts_ok limits_ok column_of all record_length
    lengths_ok in_range standing_rules round_rules open_rules heard_count every slots_fit slot_fits slot_stamp under_of num num_from part good_reply good_frame suits shaped for_party one_of
    body_fits awaited ask_in awaits_in is_heard bears be be_onto accepted heard settled time_zero put stamp_at stamp_number then
met_7 = record { is = refl }

-- it closes round 2: the set of nodes 0 and 1 is the candidate's, and validates
abbrev closed_8 : Closed
closed_8 = record { lead = option.Some 0; stamp = stamp_seven; nodes = 0 ∷ 1 ∷ []; verdict = Repair }

sound_8 : sound plan closed_8 0 desk_lie ≡ true
unfolding sound validates cross_made row fragment_hash prefix_of record_length regenerated among tabulate value blend weight_of ratio xtime mul_n mul square sum_pow inv div alike desk
    sheet stamp_bytes cross verifier hash part
sound_8 = λ j. alike (row (λ (k : ℕ). hash_so j) 5) (part desk_lie 40 160)

close_8 : read_reply plan again_3 (first_reply 4 12) desk_lie (0 ∷ [])
    ≡ cond (sound plan closed_8 0 desk_lie) (outcome still_open repair_round desk_full (0 ∷ [])) (failing plan (marked_of again_3 4 First) stamp_seven desk_lie (0 ∷ []))
unfolding read_reply desk sheet stamp_bytes cross verifier hash lie lie_stamp lie_cross lie_verifier lie_hash ladder.first plan_ok counts_ok limits_ok column_of all record_length
    lengths_ok in_range standing_rules round_rules open_rules heard_count every slots_fit slot_fits slot_stamp under_of num num_from part good_reply good_frame suits shaped for_party one_of
    body_fits awaited ask_in awaits_in is_heard bears be be_onto accepted heard settled time_zero put stamp_at stamp_number then alike act_for act_on close_with lead_of step_of ahead_of
    set_of joins_of decided class_of repaired refilled slot_filled regenerated among tabulate value blend weight_of ratio xtime mul_n mul square sum_pow inv div
close_8 = refl

met_8 : ReadReplyCall plan again_3 (first_reply 4 12) desk_lie (0 ∷ []) call_8.took desk_full (0 ∷ [])
met_8 =
    record {
      is =
          sym (close_8
          ∙ ap (λ (x : Bool). cond x (outcome still_open repair_round desk_full (0 ∷ [])) (failing plan (marked_of again_3 4 First) stamp_seven desk_lie (0 ∷ []))) sound_8);
    }

met_9 : ReadReplyCall plan repair_round (write_reply_of 0 13) desk_full (0 ∷ []) call_9.took desk_full (0 ∷ [])
unfolding read_reply desk sheet stamp_bytes cross verifier hash lie lie_stamp lie_cross lie_verifier lie_hash ladder.first plan_ok counts_ok limits_ok column_of all record_length
    lengths_ok in_range standing_rules round_rules open_rules heard_count every slots_fit slot_fits slot_stamp under_of num num_from part good_reply good_frame suits shaped for_party one_of
    body_fits awaited ask_in awaits_in is_heard bears be be_onto accepted heard settled time_zero put stamp_at stamp_number then stored
met_9 = record { is = refl }

met_10 : ReadReplyCall plan stored_1 (write_reply_of 1 13) desk_full (0 ∷ []) call_10.took desk_full (0 ∷ [])
unfolding read_reply desk sheet stamp_bytes cross verifier hash lie lie_stamp lie_cross lie_verifier lie_hash ladder.first plan_ok counts_ok limits_ok column_of all record_length
    lengths_ok in_range standing_rules round_rules open_rules heard_count every slots_fit slot_fits slot_stamp under_of num num_from part good_reply good_frame suits shaped for_party one_of
    body_fits awaited ask_in awaits_in is_heard bears be be_onto accepted heard settled time_zero put stamp_at stamp_number then stored
met_10 = record { is = refl }

met_11 : ReadReplyCall plan stored_2 (write_reply_of 3 13) desk_full (0 ∷ []) call_11.took desk_full (0 ∷ [])
unfolding read_reply desk sheet stamp_bytes cross verifier hash lie lie_stamp lie_cross lie_verifier lie_hash ladder.first plan_ok counts_ok limits_ok column_of all record_length
    lengths_ok in_range standing_rules round_rules open_rules heard_count every slots_fit slot_fits slot_stamp under_of num num_from part good_reply good_frame suits shaped for_party one_of
    body_fits awaited ask_in awaits_in is_heard bears be be_onto accepted heard settled time_zero put stamp_at stamp_number then stored
met_11 = record { is = refl }

met_12 : ReadReplyCall plan stored_3 (write_reply_of 4 13) desk_full (0 ∷ []) call_12.took desk_full (7 ∷ [])
unfolding read_reply desk sheet stamp_bytes cross verifier hash lie lie_stamp lie_cross lie_verifier lie_hash ladder.first plan_ok counts_ok limits_ok column_of all record_length
    lengths_ok in_range standing_rules round_rules open_rules heard_count every slots_fit slot_fits slot_stamp under_of num num_from part good_reply good_frame suits shaped for_party one_of
    body_fits awaited ask_in awaits_in is_heard bears be be_onto accepted heard settled time_zero put stamp_at stamp_number then stored collected laid from regenerated among tabulate
    value
met_12 = record { is = refl }

-- ---- the frames are bytes
sheet_bytes : Octets (sheet_reply 0 11) × Octets (sheet_reply 1 11) × Octets (sheet_reply 0 12) × Octets (sheet_reply 1 12) × Octets lie_reply
unfolding small desk sheet stamp_bytes cross verifier hash lie lie_stamp lie_cross lie_verifier lie_hash be be_onto
sheet_bytes = (small_octets (sheet_reply 0 11) refl, small_octets (sheet_reply 1 11) refl, small_octets (sheet_reply 0 12) refl, small_octets (sheet_reply 1 12) refl, small_octets lie_reply refl)

first_bytes : Octets (first_reply 3 11) × Octets (first_reply 3 12) × Octets (first_reply 4 12)
unfolding small be be_onto
first_bytes = (small_octets (first_reply 3 11) refl, small_octets (first_reply 3 12) refl, small_octets (first_reply 4 12) refl)

write_bytes : Octets (write_reply_of 0 13) × Octets (write_reply_of 1 13) × Octets (write_reply_of 3 13) × Octets (write_reply_of 4 13)
unfolding small stamp_bytes verifier be be_onto
write_bytes = (small_octets (write_reply_of 0 13) refl, small_octets (write_reply_of 1 13) refl, small_octets (write_reply_of 3 13) refl, small_octets (write_reply_of 4 13) refl)

abbrev pub round_1 : List Turn
round_1 = call_1 ∷ call_2 ∷ call_3 ∷ call_4 ∷ []

abbrev pub round_2 : List Turn
round_2 = call_5 ∷ call_6 ∷ call_7 ∷ call_8 ∷ []

abbrev pub repair : List Turn
repair = call_9 ∷ call_10 ∷ call_11 ∷ call_12 ∷ []

abbrev pub turns : List Turn
turns = round_1 ++ (round_2 ++ repair)

repair_calls : Calls (ReadTurn plan) repair_round desk_full repair
repair_calls = ((write_bytes.0, met_9), ((write_bytes.1, met_10), ((write_bytes.2, met_11), ((write_bytes.3, met_12), tt))))

round_2_calls : Calls (ReadTurn plan) second_round desk_lie (round_2 ++ repair)
round_2_calls = ((sheet_bytes.2, met_5), ((sheet_bytes.3, met_6), ((first_bytes.1, met_7), ((first_bytes.2, met_8), repair_calls))))

pub calls : Calls (ReadTurn plan) start desk turns
calls = ((sheet_bytes.0, met_1), ((sheet_bytes.1, met_2), ((first_bytes.0, met_3), ((sheet_bytes.4, met_4), round_2_calls))))

abbrev pub first : Reading plan
first = record { ask = record { 0 = 11 }; opened = opened; opens = opened_so; accepted = refl; desk = desk; turns = turns; calls = calls }

-- ---- two rounds and a repair
abbrev pub saids : List Turn → List Said
saids [] = []
saids (c ∷ cs) = said_of c.took.answer ∷ saids cs

pub first_answers : saids turns ≡ still_open ∷ still_open ∷ still_open ∷ still_open ∷ still_open ∷ still_open ∷ still_open ∷ still_open ∷ still_open ∷ still_open ∷ still_open ∷ done stamp_seven 2 ∷ []
first_answers = refl

-- the rounds that were closed before the repair
pub first_rounds : closed_rounds plan 0 start turns ≡ 2
unfolding closed_rounds
first_rounds = refl

pub first_leaves : call_12.item_left ≡ 7 ∷ []
first_leaves = refl
