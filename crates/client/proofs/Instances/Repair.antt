-- The hypotheses of the theorems on repair and on sessions can be met. N4 t1 b0 Q3 m2 F1, repairable, crash clients, so R = 169: a read that
-- has heard records of one timestamp and cross checksum from nodes 0 and 1, with the fragments 00 and 80, hears the first triple from node
-- 2. Two of three replies are unclassifiable, and a repair round opens. Fragments 2 and 3 are then 1b and 9b, as in document 01's table.
-- Assumes nothing.
use Rattle.std.specs.Prelude.{Ok}
use Prim.{tt}
use Prim.Native.Nat.{ℕ, ◌*◌, ◌<◌}
use mathlib.Core.Path.{◌≡◌, refl}
use mathlib.Core.Bool.{true}
use mathlib.Core.List.{List, [], ◌∷◌, ◌++◌}
use mathlib.Core.Logic.{inr}
use lib.ListN.{length, replicate}
use Rattle.octets.specs.Bytes.{part, put, num, num_from, alike}
use Rattle.terms.specs.Ladder.{first, all}
use Rattle.terms.specs.Terms.{plan_ok, counts_ok, limits_ok, column_of, record_length, class_of, decided}
use Rattle.terms.specs.Stamp.{then, stamp_at, stamp_number}
use Rattle.terms.specs.declared.Plan.{Plan}
use Rattle.terms.specs.declared.Member.TheVariants.{Repairable}
use Rattle.terms.specs.declared.Clients.TheVariants.{Crash}
use Rattle.field.specs.Field.{xtime, mul_n, mul, square, sum_pow, inv, div}
use Rattle.fragments.specs.Fragments.{among, from, laid, tabulate, ratio, weight_of, blend, value, regenerated}
use Rattle.recover.specs.Recover.{slot_filled, refilled, sound, repaired, collected}
use Rattle.frame.specs.Frame.{shaped, body_fits, one_of, for_party, good_frame, good_reply, suits}
use Rattle.record.specs.Desk.{fragment_in}
use Rattle.std.proofs.Common.{None}
use Rattle.rounds.specs.declared.Heard.TheVariants.{First, Record}
use Rattle.rounds.specs.Rounds.{heard_count, every, slot_stamp, ahead_of, step_of, lead_of, joins_of, set_of, close_with, under_of, slot_fits, slots_fit, unheard}
use Rattle.session.specs.declared.Session.{Session}
use Rattle.session.specs.declared.Took.{Took}
use Rattle.standing.specs.declared.Operation.TheVariants.{Read}
use Rattle.session.specs.declared.Answer.TheVariants.{Open, Done}
use Rattle.session.specs.Session.{with_marks, storing_of, marked_of, ended_of}
use Rattle.session.specs.Ranges.{standing_rules, open_rules, in_range}
use Rattle.standing.specs.Standing.{lengths_ok, ask_in, awaits_in, round_rules}
use Rattle.session.specs.Reply.{awaited, is_heard, bears}
use Rattle.session.specs.Reader.{act_on, act_for, closed, settled, heard, stored, accepted, read_reply, ReadReplyCall}
use Rattle.session.specs.Opening.{fresh_of, open_with, OpenCall}
use Rattle.session.specs.declared.opening.Opened.{Opened}
use Rattle.session.proofs.Kept.{Kept}
use Rattle.client.specs.Endings.{after_reply, desk_after}
use Rattle.client.specs.Turns.{Turn, ReadTurn, Calls}
use Rattle.client.specs.Repair.{Holds, EachTurn, Rests}
use Rattle.client.proofs.Sessions.{every_session}
use Rattle.terms.proofs.Small.{small, small_octets}
use Rattle.client.proofs.RepairRound.{repair_opens, repair_ends}

pub plan : Plan
plan = record { n = 4; t = 1; b = 0; q = 3; m = 2; f = 1; member = Repairable; clients = Crash; w = 1 }

-- time 1, a verifier and a cross checksum of zeros; the fragment
pub slot : ℕ → List ℕ
slot x = (0 ∷ 0 ∷ 0 ∷ 0 ∷ 0 ∷ 0 ∷ 0 ∷ 1 ∷ replicate 160 0) ++ (x ∷ [])

pub desk : List ℕ
desk = slot 0 ++ (slot 128 ++ replicate 338 0)

pub session : Session
session = with_marks (fresh_of Read 1 None (record { 0 = 5 })) (Record ∷ Record ∷ replicate 14 unheard)

-- kind 7 of node 2, ask number 5, the first triple
pub frame : List ℕ
frame = 0 ∷ 0 ∷ 0 ∷ 11 ∷ 1 ∷ 7 ∷ 2 ∷ 0 ∷ 0 ∷ 0 ∷ 0 ∷ 0 ∷ 0 ∷ 0 ∷ 5 ∷ []

pub item : List ℕ
item = 0 ∷ 0 ∷ []

pub took : Took
took = record { answer = Ok Open; session = storing_of (marked_of session 2 First) (stamp_at desk 0) }

pub left : List ℕ
left = repaired plan (closed plan (marked_of session 2 First) desk) 0 desk

-- the call opens a repair round
pub opens_so : ReadReplyCall plan session frame desk item took left item
unfolding plan slot desk session frame item took left read_reply first plan_ok counts_ok limits_ok column_of all record_length lengths_ok in_range standing_rules round_rules open_rules
    heard_count every slots_fit slot_fits slot_stamp under_of num num_from part alike good_reply good_frame suits shaped for_party one_of body_fits awaited ask_in awaits_in
    is_heard bears accepted heard settled act_for act_on sound close_with lead_of step_of ahead_of set_of joins_of decided class_of
opens_so = record { is = refl }

frame_small : small frame ≡ true
unfolding small frame
frame_small = refl

desk_small : small desk ≡ true
unfolding small desk slot
desk_small = refl

-- so every slot holds what `repair_opens` says
pub so_held : (k : ℕ) → k < plan.n → Holds plan (closed plan (after_reply plan session frame) (desk_after plan frame desk)) (desk_after plan frame desk) left k
unfolding session took
so_held = repair_opens plan session frame desk item refl took left item opens_so refl (small_octets desk desk_small) (small_octets frame frame_small)

-- and the fragments are those of document 01's table
fragments_are : (fragment_in plan left 0 ++ (fragment_in plan left 1 ++ (fragment_in plan left 2 ++ fragment_in plan left 3))) ≡ 0 ∷ 128 ∷ 27 ∷ 155 ∷ []
unfolding left repaired refilled slot_filled regenerated among tabulate value blend weight_of ratio xtime mul_n mul square sum_pow inv div put part plan slot desk session record_length
    close_with lead_of step_of ahead_of set_of joins_of slot_stamp num num_from alike
fragments_are = refl

-- ---- the repair round: write replies of nodes 0, 1 and 3, which bear the timestamp and the ask number 6
stored_by : ℕ → List ℕ
stored_by k = (0 ∷ 0 ∷ 0 ∷ 51 ∷ 1 ∷ 4 ∷ k ∷ 0 ∷ 0 ∷ 0 ∷ 0 ∷ 0 ∷ 0 ∷ 0 ∷ 6 ∷ 0 ∷ 0 ∷ 0 ∷ 0 ∷ 0 ∷ 0 ∷ 0 ∷ 1 ∷ []) ++ replicate 32 0

stored_small : (small (stored_by 0) ≡ true) × (small (stored_by 1) ≡ true) × (small (stored_by 3) ≡ true)
unfolding small stored_by
stored_small = (refl, refl, refl)

turn_open : ℕ → Session → Turn
turn_open k s =
    record { reply = stored_by k; item = item; took = record { answer = Ok Open; session = marked_of s k Record }; desk_left = left; item_left = item }

pub first_turn : Turn
first_turn = turn_open 0 took.session

pub second_turn : Turn
second_turn = turn_open 1 first_turn.took.session

-- the item is then 00 80
pub last_turn : Turn
last_turn =
    record {
      reply = stored_by 3;
      item = item;
      took = record { answer = Ok (Done (stamp_at desk 0) 1); session = ended_of (marked_of second_turn.took.session 3 Record) };
      desk_left = left;
      item_left = 0 ∷ 128 ∷ [];
    }

turns_so : Calls (ReadTurn plan) took.session left (first_turn ∷ second_turn ∷ last_turn ∷ [])
unfolding first_turn second_turn last_turn turn_open stored_by plan slot desk session item took left read_reply first plan_ok counts_ok limits_ok column_of all record_length lengths_ok
    in_range standing_rules round_rules open_rules heard_count every slots_fit slot_fits slot_stamp under_of num num_from part alike good_reply good_frame suits shaped for_party one_of body_fits
    awaited ask_in awaits_in is_heard bears accepted stored collected laid from close_with lead_of step_of ahead_of set_of joins_of repaired refilled slot_filled regenerated
    among tabulate value blend weight_of ratio xtime mul_n mul square sum_pow inv div put stamp_at stamp_number then
turns_so = (
  (small_octets (stored_by 0) stored_small.0, record { is = refl }),
  ((small_octets (stored_by 1) stored_small.1, record { is = refl }), ((small_octets (stored_by 3) stored_small.2, record { is = refl }), tt)),
)

pub ends_so : EachTurn (Rests plan (closed plan (after_reply plan session frame) (desk_after plan frame desk)) (desk_after plan frame desk) left) (first_turn ∷ second_turn ∷ last_turn ∷ [])
unfolding session took
ends_so = repair_ends plan session frame desk item refl took left item opens_so refl (first_turn ∷ second_turn ∷ last_turn ∷ []) turns_so

-- ---- an opened read that hears a first triple
pub opened : Opened
opened = record { answer = (Ok tt); session = fresh_of Read 1 None (record { 0 = 5 }) }

opened_so : OpenCall Read plan (record { 0 = 5 }) opened
unfolding opened open_with first plan_ok counts_ok limits_ok column_of all plan
opened_so = record { is = refl }

pub heard_one : Turn
heard_one =
    record {
      reply = frame;
      item = item;
      took = record { answer = Ok Open; session = marked_of (fresh_of Read 1 None (record { 0 = 5 })) 2 First };
      desk_left = desk;
      item_left = item;
    }

heard_so : ReadReplyCall plan opened.session frame desk item heard_one.took desk item
unfolding plan slot desk opened heard_one frame item read_reply first plan_ok counts_ok limits_ok column_of all record_length lengths_ok in_range standing_rules round_rules open_rules
    heard_count every slots_fit slot_fits under_of num num_from part good_reply good_frame suits shaped for_party one_of body_fits awaited ask_in awaits_in is_heard bears
    accepted heard settled
heard_so = record { is = refl }

desk_long : length desk ≡ plan.n * record_length plan
unfolding plan desk slot record_length
desk_long = refl

pub every_so : Kept plan heard_one.took.session desk
unfolding heard_one
every_so =
    every_session Read plan (record { 0 = 5 }) opened opened_so opened_accepted desk desk_long (heard_one ∷ [])
    (inr (small_octets frame frame_small, heard_so), tt)
  where
    opened_accepted : opened.answer ≡ (Ok tt)
    opened_accepted = unfold opened in refl
