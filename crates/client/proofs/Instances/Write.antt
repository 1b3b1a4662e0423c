-- The hypotheses of the theorems on whole writes can be met by the write that the read of ReadInstance.antt reads: its plan, the byte 7. Nodes 0
-- and 1, whose books are fresh, give time 0; the write round opens with the N records of time 1; nodes 0 and 2 store theirs, and the write is
-- done.
--   calls kept_so      the four calls, each by its contract; the session is in its ranges
--   late_so            a late time reply, which comes in the write round, is not counted
-- Assumes nothing.
use Rattle.terms.specs.declared.Refusal.{Refusal}
use Rattle.std.specs.Prelude.{Ok, Result, Err}
use Prim.{tt}
use Prim.Native.Nat.{ℕ}
use mathlib.Core.Path.{◌≡◌, refl, sym, ◌∙◌}
use mathlib.Core.Bool.{true}
use mathlib.Core.List.{List, [], ◌∷◌}
use mathlib.Core.Logic.{inl}
use native.Mathlib.Omega.{arith}
use lib.ListN.{replicate}
use Rattle.octets.specs.Bytes.{part, num, num_from, be, be_onto}
use Rattle.terms.specs.Ladder.{first, all}
use Rattle.terms.specs.Stamp.{then, stamp_at, stamp_number}
use Rattle.terms.specs.Terms.{plan_ok, counts_ok, limits_ok, column_of, record_length}
use Rattle.terms.specs.declared.Refusal.TheVariants.{NotAwaited}
use Rattle.frame.specs.Frame.{frame, ask_of, shaped, body_fits, one_of, for_party, good_frame, good_reply, time_reply_kind, write_reply_kind, suits}
use Rattle.std.proofs.Common.{None}
use Rattle.rounds.specs.declared.Heard.TheVariants.{Record}
use Rattle.rounds.specs.Rounds.{heard_count, every}
use Rattle.session.specs.declared.Session.{Session}
use Rattle.standing.specs.declared.Operation.TheVariants.{Write}
use Rattle.session.specs.declared.Answer.{Answer}
use Rattle.session.specs.declared.Answer.TheVariants.{Open, Done}
use Rattle.session.specs.declared.opening.Opened.{Opened}
use Rattle.session.specs.Session.{ask_now, marked_of, storing_of, ended_of, refused, still_open}
use Rattle.session.specs.Opening.{fresh_of, open_with, OpenCall}
use Rattle.session.specs.Ranges.{standing_rules, open_rules, in_range}
use Rattle.standing.specs.Standing.{lengths_ok, ask_in, awaits_in, round_rules}
use Rattle.session.specs.Reply.{awaited, is_heard}
use Rattle.recover.specs.Records.{stamp_for, records_for}
use Rattle.clock.specs.Clock.{times_heard, or_more, greatest_with}
use Rattle.session.specs.Writer.{timed_of, kth_reply, leaves, time_end, time_turn, write_turn, accepted_write, write_reply, WriteReplyCall}
use Rattle.session.proofs.Kept.{Kept}
use Rattle.client.specs.Turns.{Turn, WriteTurn, EitherTurn, Calls}
use Rattle.client.specs.Asks.{NotCounted}
use Rattle.terms.proofs.Small.{small, small_octets}
use Rattle.client.proofs.Sessions.{every_session}
use Rattle.client.proofs.Asks.{late_write_reply}
use Rattle.client.proofs.Instances.Read.{plan, ask, hash, stamp_bytes, good, desk, desk_full, desk_long, written_so, stamped_so}

-- ---- the sessions
abbrev pub start : Session
start = fresh_of Write 1 None ask

abbrev pub once_timed : Session
once_timed = timed_of start 0 0

abbrev pub write_round : Session
write_round = storing_of (timed_of once_timed 1 0) (stamp_at stamp_bytes 0)

abbrev pub once_stored : Session
once_stored = marked_of write_round 0 Record

abbrev pub ended : Session
ended = ended_of (marked_of once_stored 2 Record)

-- ---- the calls, each with the item
unfoldable pub time_reply : ℕ → List ℕ
time_reply node = frame time_reply_kind node 5 (replicate 8 0)

unfoldable pub write_reply_of : ℕ → List ℕ
write_reply_of node = frame write_reply_kind node 6 stamp_bytes

abbrev pub turn : List ℕ → Result Answer Refusal → Session → List ℕ → Turn
turn f a s d = record { reply = f; item = 7 ∷ []; took = record { answer = a; session = s }; desk_left = d; item_left = 7 ∷ [] }

abbrev pub call_1 : Turn
call_1 = turn (time_reply 0) (Ok Open) once_timed desk

abbrev pub call_2 : Turn
call_2 = turn (time_reply 1) (Ok Open) write_round desk_full

abbrev pub call_3 : Turn
call_3 = turn (write_reply_of 0) (Ok Open) once_stored desk_full

abbrev pub call_4 : Turn
call_4 = turn (write_reply_of 2) (Ok (Done (stamp_at stamp_bytes 0) 0)) ended desk_full

abbrev pub opened : Opened
opened = record { answer = (Ok tt); session = start }

pub opened_so : OpenCall Write plan ask opened
unfolding open_with first plan_ok counts_ok limits_ok column_of all plan
opened_so = record { is = refl }

pub met_1 : WriteReplyCall plan start (time_reply 0) desk (7 ∷ []) call_1.took desk
unfolding time_reply desk plan write_reply first plan_ok counts_ok limits_ok column_of all record_length lengths_ok in_range standing_rules round_rules open_rules heard_count every num num_from part
    good_reply good_frame suits shaped for_party one_of body_fits awaited ask_in awaits_in is_heard be be_onto accepted_write time_turn
met_1 = record { is = refl }

filled : leaves still_open (storing_of (timed_of once_timed 1 0) (stamp_for plan 1 (7 ∷ []))) (records_for plan 1 (7 ∷ [])) ≡ write_reply plan once_timed (time_reply 1) desk (7 ∷ [])
unfolding time_reply desk plan write_reply first plan_ok counts_ok limits_ok column_of all record_length lengths_ok in_range standing_rules round_rules open_rules heard_count every num num_from part
    good_reply good_frame suits shaped for_party one_of body_fits awaited ask_in awaits_in is_heard be be_onto accepted_write time_turn time_end kth_reply greatest_with or_more times_heard
filled = refl

pub met_2 : WriteReplyCall plan once_timed (time_reply 1) desk (7 ∷ []) call_2.took desk_full
met_2 = record { is = (λ j. leaves still_open (storing_of (timed_of once_timed 1 0) (sym stamped_so j)) (sym written_so j)) ∙ filled }

pub met_3 : WriteReplyCall plan write_round (write_reply_of 0) desk_full (7 ∷ []) call_3.took desk_full
unfolding write_reply_of stamp_bytes hash good desk_full plan write_reply first plan_ok counts_ok limits_ok column_of all record_length lengths_ok in_range standing_rules round_rules open_rules heard_count every
    num num_from part good_reply good_frame suits shaped for_party one_of body_fits awaited ask_in awaits_in is_heard be be_onto accepted_write write_turn stamp_at stamp_number then
met_3 = record { is = refl }

pub met_4 : WriteReplyCall plan once_stored (write_reply_of 2) desk_full (7 ∷ []) call_4.took desk_full
unfolding write_reply_of stamp_bytes hash good desk_full plan write_reply first plan_ok counts_ok limits_ok column_of all record_length lengths_ok in_range standing_rules round_rules open_rules heard_count every
    num num_from part good_reply good_frame suits shaped for_party one_of body_fits awaited ask_in awaits_in is_heard be be_onto accepted_write write_turn stamp_at stamp_number then
met_4 = record { is = refl }

time_small : (small (time_reply 0) ≡ true) × (small (time_reply 1) ≡ true)
unfolding small time_reply be be_onto
time_small = (refl, refl)

write_small : (small (write_reply_of 0) ≡ true) × (small (write_reply_of 2) ≡ true)
unfolding small write_reply_of stamp_bytes be be_onto
write_small = (refl, refl)

pub calls : Calls (WriteTurn plan) start desk (call_1 ∷ call_2 ∷ call_3 ∷ call_4 ∷ [])
calls = (
  (small_octets (time_reply 0) time_small.0, met_1),
  (
    (small_octets (time_reply 1) time_small.1, met_2),
    ((small_octets (write_reply_of 0) write_small.0, met_3), ((small_octets (write_reply_of 2) write_small.1, met_4), tt)),
  ),
)

replies_so : Calls (EitherTurn plan) start desk (call_1 ∷ call_2 ∷ call_3 ∷ call_4 ∷ [])
replies_so = (inl calls.0, (inl calls.1.0, (inl calls.1.1.0, (inl calls.1.1.1.0, tt))))

pub kept_so : Kept plan ended desk_full
kept_so = every_session Write plan ask opened opened_so refl desk desk_long (call_1 ∷ call_2 ∷ call_3 ∷ call_4 ∷ []) replies_so

-- ---- node 2 answers the time round late, when the write round has heard node 0: refused 10
pub late_met : WriteReplyCall plan once_stored (time_reply 2) desk_full (7 ∷ []) (record { answer = Err NotAwaited; session = once_stored }) desk_full
unfolding time_reply stamp_bytes hash good desk_full plan write_reply first plan_ok counts_ok limits_ok column_of all record_length lengths_ok in_range standing_rules round_rules open_rules heard_count every
    num num_from part good_reply good_frame suits shaped for_party one_of body_fits awaited ask_in awaits_in be be_onto stamp_at
late_met = record { is = refl }

asked_first : ask_of (time_reply 2) ≡ ask_now start
unfolding time_reply be be_onto num num_from part ask_in
asked_first = refl

pub late_so : NotCounted (refused 10)
late_so =
    (late_write_reply plan start desk (call_1 ∷ call_2 ∷ call_3 ∷ []) (replies_so.0, (replies_so.1.0, (replies_so.1.1.0, tt)))
    (λ a b. let z : ◌≡◌ {A = ℕ} 0 1 = cc in omega arith) (time_reply 2) asked_first desk_full (7 ∷ []) (record { answer = Err NotAwaited; session = once_stored }) desk_full
    late_met).0
