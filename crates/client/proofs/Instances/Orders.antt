-- The read clause of the third demand at calls that met their contracts: round 1 of the read of Instances/Read (N3 t1 b0 Q2 m1 F1), a record
-- that does not validate and a first triple, in both orders. Assumes nothing.
use Rattle.std.specs.Prelude.{Ok}
use Prim.{tt}
use mathlib.Core.Path.{◌≡◌, refl, sym, ap}
use mathlib.Core.Bool.{false}
use mathlib.Core.List.{[], ◌∷◌}
use native.Mathlib.Omega.{arith}
use Rattle.octets.specs.Bytes.{part, put, num, num_from, be, be_onto, alike}
use Rattle.sha256.specs.Sha256.{sha256, after, compress_of, added_of, rounds_of, round_of, T1, T2, schedule_of, words, padding, big_endian, K}
use Rattle.terms.specs.Ladder.{first, all}
use Rattle.terms.specs.Stamp.{stamp_at, stamp_number, then}
use Rattle.terms.specs.Terms.{plan_ok, counts_ok, limits_ok, column_of, record_length, class_of, decided}
use Rattle.field.specs.Field.{xtime, mul_n, mul, square, sum_pow, inv, div}
use Rattle.fragments.specs.Fragments.{among, tabulate, value, blend, weight_of, ratio, regenerated}
use Rattle.frame.specs.Frame.{frame_node, shaped, body_fits, for_party, one_of, suits, good_frame, good_reply}
use Rattle.record.specs.Record.{fragment_hash, hashes_ok, time_zero, prefix_of}
use Rattle.record.specs.Desk.{row, cross_made}
use Rattle.rounds.specs.declared.Heard.TheVariants.{First}
use Rattle.rounds.specs.Rounds.{heard_count, every, slot_stamp, slots_fit, slot_fits, under_of, lead_of, step_of, ahead_of, joins_of, set_of, close_with}
use Rattle.recover.specs.Recover.{validates, sound}
use Rattle.standing.specs.Standing.{ask_in, awaits_in, lengths_ok, round_rules}
use Rattle.session.specs.declared.Answer.TheVariants.{Open}
use Rattle.session.specs.declared.Session.{Session}
use Rattle.session.specs.Session.{marked_of, is_refused}
use Rattle.session.specs.Ranges.{standing_rules, open_rules, in_range}
use Rattle.session.specs.Reply.{awaited, is_heard, bears}
use Rattle.session.specs.Reader.{Outcome, act_on, act_for, settled, heard, accepted, failing, read_reply, ReadReplyCall}
use Rattle.client.specs.Turns.{Turn, ReadTurn, Calls}
use Rattle.client.specs.Round.{round_at, SameReplies, answers_of, left_by}
use Rattle.client.proofs.Round.Swaps.{swap, times_kept}
use Rattle.client.proofs.Round.Calls.{any_order_acceptable_calls}
use Rattle.client.proofs.Instances.Read.{plan, hash, poor, desk, desk_poor, start, second_round, turn, reply_1, reply_2, call_1, call_2, met_1, calls}

-- node 1 first
abbrev pub heard_1 : Session
heard_1 = marked_of start 1 First

abbrev pub turned_1 : Turn
turned_1 = turn reply_2 (Ok Open) heard_1 desk (0 ∷ [])

abbrev pub turned_2 : Turn
turned_2 = turn reply_1 (Ok Open) second_round desk_poor (0 ∷ [])

met_first : ReadReplyCall plan start reply_2 desk (0 ∷ []) turned_1.took desk (0 ∷ [])
unfolding reply_2 desk plan read_reply first plan_ok counts_ok limits_ok column_of all record_length lengths_ok in_range standing_rules round_rules open_rules heard_count every slots_fit slot_fits slot_stamp
    under_of num num_from part good_reply good_frame suits shaped for_party one_of body_fits awaited ask_in awaits_in is_heard bears be be_onto accepted heard settled time_zero
met_first = record { is = refl }

met_second : ReadReplyCall plan heard_1 reply_1 desk (0 ∷ []) turned_2.took desk_poor (0 ∷ [])
unfolding reply_1 hash poor desk desk_poor plan read_reply first plan_ok counts_ok limits_ok column_of all record_length lengths_ok in_range standing_rules round_rules open_rules heard_count every slots_fit
    slot_fits slot_stamp under_of num num_from part good_reply good_frame suits shaped for_party one_of body_fits awaited ask_in awaits_in is_heard bears be be_onto accepted heard settled
    hashes_ok time_zero fragment_hash prefix_of alike put stamp_at stamp_number then sha256 after compress_of added_of rounds_of round_of T1 T2 schedule_of words padding big_endian K act_for act_on
    sound failing close_with lead_of step_of ahead_of set_of joins_of decided class_of validates row cross_made regenerated among tabulate value blend weight_of ratio xtime mul_n mul square sum_pow
    inv div
met_second = record { is = refl }

turned_calls : Calls (ReadTurn plan) start desk (turned_1 ∷ turned_2 ∷ [])
turned_calls = ((calls.1.0.0, met_first), ((calls.0.0, met_second), tt))

-- each is acceptable where the round opens, and they are of two nodes
acceptable_1 : is_refused (read_reply plan start reply_1 desk (0 ∷ [])).said ≡ false
acceptable_1 = ap (λ (o : Outcome). is_refused o.said) (sym met_1.is)

acceptable_2 : is_refused (read_reply plan start reply_2 desk (0 ∷ [])).said ≡ false
acceptable_2 = ap (λ (o : Outcome). is_refused o.said) (sym met_first.is)

node_1 : frame_node reply_1 ≡ 0
unfolding reply_1 be be_onto num num_from part
node_1 = refl

node_2 : frame_node reply_2 ≡ 1
unfolding reply_2 be be_onto num num_from part
node_2 = refl

same : SameReplies (reply_1 ∷ reply_2 ∷ []) (reply_2 ∷ reply_1 ∷ [])
same z = times_kept z (swap reply_1 reply_2)

-- the theorem at these calls: both orders leave the second round open, with the record in its slot
pub orders_so : (left_by (round_at start desk (0 ∷ [])) (turned_1 ∷ turned_2 ∷ []) ≡ left_by (round_at start desk (0 ∷ [])) (call_1 ∷ call_2 ∷ []))
    × (answers_of (turned_1 ∷ turned_2 ∷ []) ≡ answers_of (call_1 ∷ call_2 ∷ []))
unfolding plan
orders_so =
    any_order_acceptable_calls plan start desk (0 ∷ []) (call_1 ∷ call_2 ∷ []) (turned_1 ∷ turned_2 ∷ []) (record { round = refl; marks = refl })
    (calls.0, (calls.1.0, tt)) (refl, (refl, tt)) turned_calls (refl, (refl, tt)) refl (acceptable_1, (acceptable_2, tt))
    (((λ e. omega (arith, node_1, node_2, e)), tt), (tt, tt)) same
