-- A whole read of a complete set, with the plan, the records and the opening of Read.antt, but nodes 1 and 2 both give the record of time 1: the
-- read is done in one round. The hypotheses of `read_comes_back` can be met.
--   calls              its two calls, each by its contract
--   item_so            the item is the one that was written
-- Assumes nothing.
use Rattle.std.specs.Prelude.{Ok}
use Prim.{tt}
use Prim.Native.Nat.{ℕ}
use mathlib.Core.Path.{◌≡◌, refl, sym, ap, ◌∙◌, subst}
use mathlib.Core.Bool.{true}
use mathlib.Core.List.{List, [], ◌∷◌, ◌++◌}
use lib.ListN.{replicate}
use Rattle.octets.specs.Bytes.{part, put, num, num_from, be, be_onto, alike}
use Rattle.sha256.specs.Sha256 as sha
use Rattle.sha256.specs.Sha256.{sha256, compress_of, added_of, rounds_of, round_of, T1, T2, schedule_of, words, padding, big_endian, K}
use Rattle.terms.specs.Ladder.{first, all}
use Rattle.terms.specs.Stamp.{then, stamp_at, stamp_number}
use Rattle.terms.specs.Terms.{plan_ok, counts_ok, limits_ok, column_of, record_length, class_of, decided}
use Rattle.field.specs.Field.{xtime, mul_n, mul, square, sum_pow, inv, div}
use Rattle.fragments.specs.Fragments.{All, among, laid, tabulate, ratio, weight_of, blend, value, regenerated}
use Rattle.frame.specs.Frame.{frame, shaped, body_fits, one_of, for_party, good_frame, good_reply, read_reply_kind, suits}
use Rattle.record.specs.Record.{fragment_hash, hashes_ok, time_zero, prefix_of}
use Rattle.record.specs.Desk.{slot_of, row, cross_made}
use Rattle.rounds.specs.declared.Heard.TheVariants.{Record}
use Rattle.rounds.specs.Rounds.{heard_count, every, slot_stamp, ahead_of, step_of, lead_of, joins_of, set_of, close_with, under_of, slot_fits, slots_fit}
use Rattle.recover.specs.Recover.{validates, lowest, sound, decoded}
use Rattle.session.specs.declared.Session.{Session}
use Rattle.session.specs.declared.Answer.TheVariants.{Open, Done}
use Rattle.session.specs.Session.{marked_of, ended_of}
use Rattle.session.specs.Ranges.{standing_rules, open_rules, in_range}
use Rattle.standing.specs.Standing.{lengths_ok, ask_in, awaits_in, round_rules}
use Rattle.session.specs.Reply.{awaited, is_heard, bears}
use Rattle.session.specs.Reader.{act_on, act_for, closed, settled, heard, accepted, read_reply, ReadReplyCall}
use Rattle.recover.specs.Records.{records_for}
use Rattle.client.specs.Endings.{after_reply, desk_after}
use Rattle.client.specs.Turns.{Turn, ReadTurn, Calls}
use Rattle.terms.proofs.Small.{small, small_octets}
use Rattle.client.proofs.ComesBack.{read_comes_back}
use Rattle.client.proofs.Instances.Read.{plan, hash, stamp_bytes, good, desk, desk_full, start, turn, written_so, plan_is_ok, seven_small}

unfoldable pub first_reply : List ℕ
first_reply = frame read_reply_kind 1 5 good

unfoldable pub second_reply : List ℕ
second_reply = frame read_reply_kind 2 5 good

unfoldable pub desk_one : List ℕ
desk_one = replicate 137 0 ++ (good ++ replicate 137 0)

unfoldable pub desk_two : List ℕ
desk_two = replicate 137 0 ++ (good ++ good)

abbrev pub one_heard : Session
one_heard = marked_of start 1 Record

abbrev pub ended : Session
ended = ended_of (marked_of one_heard 2 Record)

abbrev pub first_call : Turn
first_call = turn first_reply (Ok Open) one_heard desk_one (0 ∷ [])

abbrev pub call : Turn
call =
    record {
      reply = second_reply;
      item = 0 ∷ [];
      took = record { answer = Ok (Done (stamp_at desk_one 137) 1); session = ended };
      desk_left = desk_two;
      item_left = 7 ∷ [];
    }

first_so : ReadReplyCall plan start first_reply desk (0 ∷ []) first_call.took desk_one (0 ∷ [])
unfolding first_reply hash stamp_bytes good desk desk_one plan read_reply first plan_ok counts_ok limits_ok column_of all record_length lengths_ok in_range standing_rules round_rules open_rules heard_count every
    slots_fit slot_fits slot_stamp under_of num num_from part good_reply good_frame suits shaped for_party one_of body_fits awaited ask_in awaits_in is_heard bears be be_onto accepted heard settled
    hashes_ok time_zero fragment_hash prefix_of alike put stamp_at stamp_number then sha256 sha.after compress_of added_of rounds_of round_of T1 T2 schedule_of words padding big_endian K
first_so = record { is = refl }

done_so : ReadReplyCall plan one_heard second_reply desk_one (0 ∷ []) call.took desk_two (7 ∷ [])
unfolding second_reply hash stamp_bytes good desk_one desk_two plan read_reply first plan_ok counts_ok limits_ok column_of all record_length lengths_ok in_range standing_rules round_rules open_rules heard_count every
    slots_fit slot_fits slot_stamp under_of num num_from part good_reply good_frame suits shaped for_party one_of body_fits awaited ask_in awaits_in is_heard bears be be_onto accepted heard settled
    hashes_ok time_zero fragment_hash prefix_of alike put stamp_at stamp_number then sha256 sha.after compress_of added_of rounds_of round_of T1 T2 schedule_of words padding big_endian K act_for act_on
    sound close_with lead_of step_of ahead_of set_of joins_of decided class_of validates row cross_made regenerated among tabulate value blend weight_of ratio xtime mul_n mul square sum_pow inv
    div decoded laid
done_so = record { is = refl }

module _ where
  small_first : small first_reply ≡ true
  unfolding small first_reply good stamp_bytes hash be be_onto
  small_first = refl

  small_second : small second_reply ≡ true
  unfolding small second_reply good stamp_bytes hash be be_onto
  small_second = refl

pub calls : Calls (ReadTurn plan) start desk (first_call ∷ call ∷ [])
calls = ((small_octets first_reply small_first, first_so), ((small_octets second_reply small_second, done_so), tt))

-- the desk with this reply, and the m lowest of the set: node 1
after_so : desk_after plan second_reply desk_one ≡ desk_two
unfolding second_reply hash stamp_bytes good desk_one desk_two plan bears record_length num num_from part put be be_onto
after_so = refl

lowest_so : lowest plan (closed plan (after_reply plan one_heard second_reply) desk_two) ≡ 1 ∷ []
unfolding second_reply hash stamp_bytes good desk_two plan bears record_length num num_from part be be_onto close_with lead_of step_of ahead_of slot_stamp set_of joins_of alike
lowest_so = refl

-- its slot is the record of node 1
slot_so : slot_of plan desk_two 1 ≡ slot_of plan desk_full 1
unfolding hash stamp_bytes good desk_two desk_full plan record_length part
slot_so = refl

-- the theorem at this call
pub item_so : call.item_left ≡ 7 ∷ []
unfolding plan
item_so =
    read_comes_back plan 1 (7 ∷ []) plan_is_ok (small_octets (7 ∷ []) seven_small) refl (0 ∷ []) refl one_heard second_reply desk_one call.took desk_two (7 ∷ []) done_so
    (stamp_at desk_one 137) 1 refl refl
    (subst (λ (d : List ℕ). All (λ (z : ℕ). slot_of plan d z ≡ slot_of plan (records_for plan 1 (7 ∷ [])) z) (lowest plan (closed plan (after_reply plan one_heard second_reply) d)))
    (sym after_so)
    (subst (All (λ (z : ℕ). slot_of plan desk_two z ≡ slot_of plan (records_for plan 1 (7 ∷ [])) z)) (sym lowest_so)
    (slot_so ∙ ap (λ (d : List ℕ). slot_of plan d 1) (sym written_so), tt)))
