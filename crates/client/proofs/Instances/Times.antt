-- The time clause of the third demand at calls that met their contracts: the write of Instances/Write (N3 t1 b0 Q2 m1 F1) as it opens, time 3 of
-- node 0 and time 9 of node 1, in both orders; the write round opens with the records of time 10. Assumes nothing.
use Rattle.std.specs.Prelude.{Ok}
use Prim.{tt}
use Prim.Native.Nat.{ℕ}
use mathlib.Core.Path.{◌≡◌, refl, sym, ap}
use mathlib.Core.Bool.{true, false}
use mathlib.Core.List.{List, [], ◌∷◌}
use native.Mathlib.Omega.{arith}
use Rattle.octets.specs.Bytes.{part, num, num_from, be, be_onto}
use Rattle.terms.specs.Ladder.{first, all}
use Rattle.terms.specs.Terms.{plan_ok, counts_ok, limits_ok, column_of, record_length}
use Rattle.terms.proofs.Small.{small, small_octets}
use Rattle.frame.specs.Frame.{frame, frame_node, shaped, body_fits, one_of, for_party, good_frame, good_reply, time_reply_kind, suits}
use Rattle.rounds.specs.Rounds.{heard_count, every}
use Rattle.recover.specs.Records.{stamp_for, records_for}
use Rattle.clock.specs.Clock.{times_heard, or_more, greatest_with}
use Rattle.standing.specs.Standing.{lengths_ok, ask_in, awaits_in, round_rules}
use Rattle.session.specs.declared.Session.{Session}
use Rattle.session.specs.declared.Answer.TheVariants.{Open}
use Rattle.session.specs.Session.{storing_of, still_open, is_refused}
use Rattle.session.specs.Ranges.{standing_rules, open_rules, in_range}
use Rattle.session.specs.Reply.{awaited, is_heard}
use Rattle.session.specs.Writer.{timed_of, kth_reply, Leaves, leaves, time_end, time_turn, accepted_write, write_reply, WriteReplyCall}
use Rattle.client.specs.Turns.{Turn, WriteTurn, Calls}
use Rattle.client.specs.Round.{SameReplies, answers_of}
use Rattle.client.specs.TimeRound.{last_leaves}
use Rattle.client.proofs.Round.Swaps.{swap, times_kept}
use Rattle.client.proofs.Round.Times.{any_order_times}
use Rattle.client.proofs.Instances.Read.{plan, desk}
use Rattle.client.proofs.Instances.Write.{start, turn}

unfoldable pub reply_of : ℕ → ℕ → List ℕ
reply_of node t = frame time_reply_kind node 5 (be 8 t)

-- what both orders leave
abbrev pub write_round : Session
write_round = storing_of (timed_of (timed_of start 0 3) 1 9) (stamp_for plan 10 (7 ∷ []))

abbrev pub records : List ℕ
records = records_for plan 10 (7 ∷ [])

-- ---- node 0 first; node 1 first
abbrev pub call_1 : Turn
call_1 = turn (reply_of 0 3) (Ok Open) (timed_of start 0 3) desk

abbrev pub call_2 : Turn
call_2 = turn (reply_of 1 9) (Ok Open) write_round records

abbrev pub turned_1 : Turn
turned_1 = turn (reply_of 1 9) (Ok Open) (timed_of start 1 9) desk

abbrev pub turned_2 : Turn
turned_2 = turn (reply_of 0 3) (Ok Open) write_round records

-- the first calls, and the second
met_1 : WriteReplyCall plan start (reply_of 0 3) desk (7 ∷ []) call_1.took desk × WriteReplyCall plan start (reply_of 1 9) desk (7 ∷ []) turned_1.took desk
unfolding reply_of desk plan write_reply first plan_ok counts_ok limits_ok column_of all record_length lengths_ok in_range standing_rules round_rules open_rules heard_count every num num_from part good_reply
    good_frame suits shaped for_party one_of body_fits awaited ask_in awaits_in is_heard be be_onto accepted_write time_turn
met_1 = (record { is = refl }, record { is = refl })

met_2 : WriteReplyCall plan (timed_of start 0 3) (reply_of 1 9) desk (7 ∷ []) call_2.took records
    × WriteReplyCall plan (timed_of start 1 9) (reply_of 0 3) desk (7 ∷ []) turned_2.took records
unfolding reply_of desk plan write_reply first plan_ok counts_ok limits_ok column_of all record_length lengths_ok in_range standing_rules round_rules open_rules heard_count every num num_from part good_reply
    good_frame suits shaped for_party one_of body_fits awaited ask_in awaits_in is_heard be be_onto accepted_write time_turn time_end kth_reply greatest_with or_more times_heard
met_2 = (record { is = refl }, record { is = refl })

bytes : (small (reply_of 0 3) ≡ true) × (small (reply_of 1 9) ≡ true)
unfolding small reply_of be be_onto
bytes = (refl, refl)

pub calls : Calls (WriteTurn plan) start desk (call_1 ∷ call_2 ∷ [])
calls = ((small_octets (reply_of 0 3) bytes.0, met_1.0), ((small_octets (reply_of 1 9) bytes.1, met_2.0), tt))

pub turned_calls : Calls (WriteTurn plan) start desk (turned_1 ∷ turned_2 ∷ [])
turned_calls = ((small_octets (reply_of 1 9) bytes.1, met_1.1), ((small_octets (reply_of 0 3) bytes.0, met_2.1), tt))

-- each is acceptable where the round opens, and they are of two nodes
acceptable : (is_refused (write_reply plan start (reply_of 0 3) desk (7 ∷ [])).said ≡ false) × (is_refused (write_reply plan start (reply_of 1 9) desk (7 ∷ [])).said ≡ false)
acceptable = (ap (λ (o : Leaves). is_refused o.said) (sym met_1.0.is), ap (λ (o : Leaves). is_refused o.said) (sym met_1.1.is))

nodes : (frame_node (reply_of 0 3) ≡ 0) × (frame_node (reply_of 1 9) ≡ 1)
unfolding reply_of be be_onto num num_from part
nodes = (refl, refl)

same : SameReplies (reply_of 0 3 ∷ reply_of 1 9 ∷ []) (reply_of 1 9 ∷ reply_of 0 3 ∷ [])
same z = times_kept z (swap (reply_of 0 3) (reply_of 1 9))

-- the theorem at these calls
pub times_so : (last_leaves (leaves still_open start desk) (turned_1 ∷ turned_2 ∷ []) ≡ last_leaves (leaves still_open start desk) (call_1 ∷ call_2 ∷ []))
    × (answers_of (turned_1 ∷ turned_2 ∷ []) ≡ answers_of (call_1 ∷ call_2 ∷ []))
unfolding plan
times_so =
    any_order_times plan start desk (7 ∷ []) (call_1 ∷ call_2 ∷ []) (turned_1 ∷ turned_2 ∷ []) (record { writes = refl; asks = refl; marks = refl })
    calls (refl, (refl, tt)) turned_calls (refl, (refl, tt)) refl (acceptable.0, (acceptable.1, tt))
    (((λ e. omega (arith, nodes.0, nodes.1, e)), tt), (tt, tt)) same
