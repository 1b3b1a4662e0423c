-- The hypotheses of HostRuns can be met. Every run of calls below is a host's (hosted_reads, hosted_writes): so are the runs of
-- client/proofs/Instances, a read of two rounds that ends with a repair (host_counted_so) and a whole write (host_write_so). A read in bytes, with a
-- call that is lent a wrong ending and a frame that is refused: host_run, host_read_so, host_kept_so, host_owed_so. A write that has just been opened:
-- host_time_so. One that has come to its write round: host_near_so. Assumes nothing.
use Prim.{tt}
use Prim.Native.Nat.{ℕ, ◌*◌, ◌≤◌}
use mathlib.Core.Path.{◌≡◌, refl, sym, ap, ◌∙◌, subst}
use mathlib.Core.Bool.{Bool, true, false, cond, not}
use mathlib.Core.List.{List, [], ◌∷◌, ◌++◌}
use mathlib.Core.Logic.{inl, inr}
use borrow.Author.Tests.{eq-eqb}
use lib.ListN.{length, replicate}
use Rattle.octets.specs.Bytes.{part, num, num_from, be, be_onto, over, alike, Octets}
use Rattle.terms.specs.Stamp.{stamp_at, stamp_number, then}
use Rattle.terms.specs.Ladder.{first, all}
use Rattle.terms.specs.Terms.{plan_ok, opening_ok, counts_ok, limits_ok, column_of, record_length}
use Rattle.terms.specs.declared.Plan.{Plan}
use Rattle.terms.proofs.Ladders.{is_passed}
use Rattle.terms.proofs.Small.{small, small_octets}
use Rattle.frame.specs.Frame.{read_reply_kind, read_latest_kind, time_request_kind, frame, shaped, body_fits, for_party, one_of, suits, good_frame, good_reply}
use Rattle.rounds.specs.Rounds.{heard_count, every, slots_fit, slot_fits, lead_of, step_of, ahead_of, close_with}
use Rattle.standing.specs.declared.Operation.TheVariants.{Write, Read}
use Rattle.standing.specs.declared.Stage.TheVariants.{Storing}
use Rattle.session.specs.declared.Session.{Session}
use Rattle.standing.specs.Standing.{ask_in, awaits_in, round_rules, lengths_ok, room_ok, read_request}
use Rattle.session.specs.Session.{ask_now, said_of, is_refused}
use Rattle.session.specs.Ranges.{standing_rules, open_rules, in_range}
use Rattle.session.specs.Reply.{awaited, is_heard, bears}
use Rattle.session.specs.Opening.{open_with}
use Rattle.session.specs.Owed.{owed_ladder, request_of, owed_to}
use Rattle.session.specs.Reader.{outcome, act_for, settled, heard, accepted, read_reply}
use Rattle.session.specs.Writer.{Leaves}
use Rattle.client.specs.Turns.{Turn, ReadTurn, WriteTurn, Calls, closed_rounds}
use Rattle.client.proofs.Instances.Read as reads
use Rattle.client.proofs.Instances.Write as writes
use Rattle.session.proofs.Kept.{Kept}
use Rattle.report.specs.Triple.{Message}
use Rattle.report.specs.Figure3.{validate, in_time, has, with_it, receives, do_read, read, response_set}
use Rattle.report.specs.Ours.{family}
use Rattle.report.specs.Sent.{Commands, WriteCommands, in_response_set, in_write_set, Owes}
use Rattle.report.specs.Run.{Polled, unpolled, message_of, polls, polled_over, EachTells, AllFull, Apart, AllApart}
use Rattle.report.specs.WriteRun.{none_of, untimed, timed_over, EachWrites}
use Rattle.report.specs.Figure2.{clocks}
use Rattle.rounds.specs.Numbers.{number_of}
use Rattle.report.specs.NewTime.{NearHonest}
use Rattle.client.specs.Sessions.{last_session, last_desk}
use Rattle.packing.specs.PlanBytes.{member_of, clients_of, plan_bytes, plan_shaped, plan_at, plan_of}
use Rattle.packing.specs.SessionBytes.{session_length, bound_bytes, times_bytes, mark_bytes, round_bytes, ask_bytes, heard_bytes, session_bytes, operation_of, stage_of, heard_of, bound_shaped, bound_of, times_at, marks_shaped, marks_of, session_shaped, round_at, session_at, session_of}
use Rattle.packing.proofs.Inverse.{plan_back, session_back}
use Rattle.packing.proofs.Laws.{length_session}
use Rattle.answers.specs.Answers.{both_fit, lent_ladder, answer_number, ending_bytes, ending_after, answer_of}
use Rattle.pasis.specs.Client.{session_after, with_item, open_bytes, OpenServes, owed_bytes, OwedServes, read_bytes, ReadServes}
use Rattle.pasis.proofs.Laws.{Lent, Handed, read_served, write_served}
use Rattle.pasis.proofs.Carried.{Lasts, Carried, opened_lasts, read_carried, write_carried}
use Rattle.demands.specs.HostRuns.{HostTurn, HostReads, HostWrites, HostCalls, host_session, below, HostOwes}
use Rattle.demands.proofs.HostRuns.{host_read_as_the_report, host_write_as_the_report, host_counted_rounds, host_every_session, host_read_requests_as_the_report, host_write_requests_as_the_report, host_near_honest}

-- ---- every run of calls is a host's
-- each call with an ending of 42 zeros
abbrev host_of : Turn → HostTurn
host_of t =
    record {
      reply = t.reply;
      item = t.item;
      ending = replicate 42 0;
      number = answer_number (said_of t.took.answer);
      session_left = session_bytes t.took.session;
      desk_left = t.desk_left;
      item_left = t.item_left;
      ending_left = ending_after (said_of t.took.answer) (replicate 42 0);
    }

unfoldable pub hosts_of : List Turn → List HostTurn
hosts_of [] = []
hosts_of (t ∷ ts) = host_of t ∷ hosts_of ts

module _ (p : Plan) (ok : plan_ok p ≡ true) (s : Session) (d : List ℕ) (w : Lasts s d) (t : Turn) where
  back : plan_of (plan_bytes p) ≡ p
  back = plan_back p ok

  lent : Lent (plan_bytes p) (both_fit (length (session_bytes s)) 42) 0
  unfolding both_fit
  lent =
      record {
        came = is_passed (lent_ladder (plan_of (plan_bytes p)) (both_fit (length (session_bytes s)) 42)) (λ (k : ℕ). k) 0
            (ap (λ (q : Plan). not (plan_ok q)) back ∙ ap not ok, (rw (eq-eqb (length (session_bytes s)) session_length (length_session s w.fits.times.nodes w.fits.marks)), tt));
      }

  -- the bytes that a call leaves, and what it keeps
  handed : (i₂ : List ℕ) → Carried s (outcome (said_of t.took.answer) t.took.session t.desk_left i₂)
      → Handed t.took (session_bytes s) (replicate 42 0) (host_of t).number (host_of t).session_left (host_of t).ending_left
  unfolding session_after
  handed i₂ c = record { number = refl; session = go (is_refused (said_of t.took.answer)) refl; ending = refl }
    where
      go : (b : Bool) → is_refused (said_of t.took.answer) ≡ b → session_bytes t.took.session ≡ cond b (session_bytes s) (session_bytes t.took.session)
      go true z = ap session_bytes (c.stays z)
      go false z = refl

  read_host : ReadTurn p s d t → HostReads (plan_bytes p) (session_bytes s) d (host_of t) × Lasts t.took.session t.desk_left
  read_host c =
      let k = subst (Carried s) (sym c.1.is) (read_carried p s t.reply d t.item c.0 w) in (
        (
          c.0,
          read_served (plan_bytes p) (session_bytes s) t.reply d t.item (replicate 42 0) 0 lent p s t.took (host_of t).number (host_of t).session_left t.desk_left
              (host_of t).ending_left refl (sym back) (sym (session_back s w.fits)) (handed t.item_left k) t.item_left c.1,
        ),
        k.lasts,
      )

  write_host : WriteTurn p s d t → HostWrites (plan_bytes p) (session_bytes s) d (host_of t) × Lasts t.took.session t.desk_left
  write_host c =
      let k = subst (λ (l : Leaves). Carried s (with_item l t.item)) (sym c.1.is) (write_carried p s t.item t.reply d c.0 w) in (
        (
          c.0,
          write_served (plan_bytes p) (session_bytes s) t.reply d t.item (replicate 42 0) 0 lent p s t.took (host_of t).number (host_of t).session_left t.desk_left
              (host_of t).ending_left refl (sym back) (sym (session_back s w.fits)) (handed t.item k) c.1,
        ),
        k.lasts,
      )

module _ (p : Plan) (ok : plan_ok p ≡ true) where
  pub hosted_reads : (s : Session) (d : List ℕ) (ts : List Turn) → Lasts s d → Calls (ReadTurn p) s d ts → HostCalls (HostReads (plan_bytes p)) (session_bytes s) d (hosts_of ts)
  unfolding hosts_of
  hosted_reads s d [] w c = tt
  hosted_reads s d (t ∷ ts) w c =
      let q = read_host p ok s d w t c.0 in
      (q.0, hosted_reads t.took.session t.desk_left ts q.1 c.1)

  pub hosted_writes : (s : Session) (d : List ℕ) (ts : List Turn) → Lasts s d → Calls (WriteTurn p) s d ts
      → HostCalls (HostWrites (plan_bytes p)) (session_bytes s) d (hosts_of ts)
  unfolding hosts_of
  hosted_writes s d [] w c = tt
  hosted_writes s d (t ∷ ts) w c =
      let q = write_host p ok s d w t c.0 in
      (q.0, hosted_writes t.took.session t.desk_left ts q.1 c.1)

-- ---- the runs of client/proofs/Instances, as a host makes them
-- N3 t1 b0 Q2 m1 F1, repairable, Byzantine clients, W2
unfoldable pub x : List ℕ
x = 3 ∷ 1 ∷ 0 ∷ 2 ∷ 1 ∷ 0 ∷ 1 ∷ 0 ∷ 1 ∷ 0 ∷ 2 ∷ []

plan_so : plan_bytes reads.plan ≡ x
unfolding x plan_bytes reads.plan be be_onto
plan_so = refl

read_opens : OpenServes Read x 5 (replicate session_length 0) 0 (session_bytes reads.start)
unfolding x open_bytes open_with first plan_ok counts_ok limits_ok column_of all plan_of plan_shaped plan_at member_of clients_of num num_from part
read_opens = record { is = refl }

write_opens : OpenServes Write x 5 (replicate session_length 0) 0 (session_bytes writes.start)
unfolding x open_bytes open_with first plan_ok counts_ok limits_ok column_of all plan_of plan_shaped plan_at member_of clients_of num num_from part
write_opens = record { is = refl }

desk_small : small reads.desk ≡ true
unfolding small reads.desk
desk_small = refl

desk_octets : Octets reads.desk
desk_octets = small_octets reads.desk desk_small

abbrev read_calls : List Turn
read_calls = reads.call_1 ∷ reads.call_2 ∷ reads.call_3 ∷ reads.call_4 ∷ reads.call_5 ∷ reads.call_6 ∷ []

abbrev write_calls : List Turn
write_calls = writes.call_1 ∷ writes.call_2 ∷ writes.call_3 ∷ writes.call_4 ∷ []

room : opening_ok reads.plan 5 ≡ true
unfolding reads.plan
room = refl

read_run : HostCalls (HostReads x) (session_bytes reads.start) reads.desk (hosts_of read_calls)
read_run =
    subst (λ (y : List ℕ). HostCalls (HostReads y) (session_bytes reads.start) reads.desk (hosts_of read_calls)) plan_so
    (hosted_reads reads.plan reads.plan_is_ok reads.start reads.desk read_calls (opened_lasts Read reads.plan 5 reads.desk room (λ z. desk_octets)) reads.calls)

write_run : HostCalls (HostWrites x) (session_bytes writes.start) reads.desk (hosts_of write_calls)
write_run =
    subst (λ (y : List ℕ). HostCalls (HostWrites y) (session_bytes writes.start) reads.desk (hosts_of write_calls)) plan_so
    (hosted_writes reads.plan reads.plan_is_ok writes.start reads.desk write_calls (opened_lasts Write reads.plan 5 reads.desk room (λ z. desk_octets)) writes.calls)

-- the theorems at these runs: two rounds are reported and two were closed; the write is Figure 2's
pub host_counted_so : (2 ≡ closed_rounds (plan_of x) 0 (session_of (session_bytes reads.start)) (below (hosts_of read_calls))) × (2 ≤ (plan_of x).w)
unfolding below hosts_of answer_of ending_after ending_bytes num num_from part be be_onto
host_counted_so =
    host_counted_rounds x 5 (replicate session_length 0) (session_bytes reads.start) reads.desk (hosts_of read_calls) read_opens desk_octets read_run _ _ refl 2 refl

pub host_write_so : EachWrites (plan_of x) (session_of (session_bytes writes.start)) reads.desk untimed (below (hosts_of write_calls))
host_write_so =
    host_write_as_the_report x 5 (replicate session_length 0) (session_bytes writes.start) reads.desk (hosts_of write_calls) write_opens write_run

-- of its first two calls: the time in the session that the host holds then is at most one above an honest reply
abbrev timed_calls : List Turn
timed_calls = writes.call_1 ∷ writes.call_2 ∷ []

timed_run : HostCalls (HostWrites x) (session_bytes writes.start) reads.desk (hosts_of timed_calls)
unfolding hosts_of
timed_run = (write_run.0, (write_run.1.0, tt))

storing_so : (session_of (host_session (session_bytes writes.start) (hosts_of timed_calls))).round.stage ≡ Storing
unfolding hosts_of session_bytes ask_bytes round_bytes bound_bytes heard_bytes times_bytes mark_bytes session_of session_shaped session_at times_at round_at operation_of stage_of heard_of bound_shaped bound_of marks_shaped marks_of
    all num num_from part be be_onto stamp_number then
storing_so = refl

pub host_near_so : (lies : ℕ → Bool) → number_of lies (plan_of x).n ≤ (plan_of x).b
    → NearHonest lies (clocks (timed_over (plan_of x) (session_of (session_bytes writes.start)) reads.desk untimed (below (hosts_of timed_calls))).times)
    (session_of (host_session (session_bytes writes.start) (hosts_of timed_calls))).stamp.time.0
host_near_so =
    host_near_honest x 5 (replicate session_length 0) (session_bytes writes.start) reads.desk (hosts_of timed_calls) write_opens timed_run storing_so

-- ---- a read of real bytes, at N1 t0 b0 Q1 m1 F1 W1: a call with 41 bytes for its ending is answered 2; one with a frame that bears another ask number
-- 10; node 0 has nothing: 102, never written, in one round
unfoldable pub y : List ℕ
y = 1 ∷ 0 ∷ 0 ∷ 1 ∷ 1 ∷ 0 ∷ 1 ∷ 0 ∷ 1 ∷ 0 ∷ 1 ∷ []

unfoldable pub session_1 : List ℕ
session_1 = 1 ∷ 0 ∷ 0 ∷ 1 ∷ (replicate 48 0 ++ (5 ∷ replicate 184 0))

unfoldable pub session_2 : List ℕ
session_2 = 1 ∷ 2 ∷ 0 ∷ 1 ∷ (replicate 48 0 ++ (5 ∷ (replicate 168 0 ++ (1 ∷ replicate 15 0))))

unfoldable pub desk : List ℕ
desk = replicate 73 0

-- a read reply of node 0 without a record, to an ask number
unfoldable pub nothing_held : ℕ → List ℕ
nothing_held a = frame read_reply_kind 0 a []

abbrev turn : ℕ → List ℕ → ℕ → List ℕ → List ℕ → HostTurn
turn a e k s e₂ =
    record { reply = nothing_held a; item = 0 ∷ []; ending = e; number = k; session_left = s; desk_left = desk; item_left = 0 ∷ []; ending_left = e₂ }

abbrev pub host_calls : List HostTurn
host_calls =
    turn 5 (replicate 41 0) 2 session_1 (replicate 41 0) ∷ turn 9 (replicate 42 0) 10 session_1 (replicate 42 0)
    ∷ turn 5 (replicate 42 0) 102 session_2 (replicate 41 0 ++ (1 ∷ [])) ∷ []

module _ where
  opens_so : OpenServes Read y 5 (replicate session_length 0) 0 session_1
  unfolding y session_1 open_bytes open_with first plan_ok counts_ok limits_ok column_of all plan_of plan_shaped plan_at member_of clients_of num num_from part session_bytes ask_bytes round_bytes bound_bytes heard_bytes times_bytes mark_bytes be be_onto stamp_number then
  opens_so = record { is = refl }

  small_5 : small (nothing_held 5) ≡ true
  unfolding nothing_held small be be_onto
  small_5 = refl

  small_9 : small (nothing_held 9) ≡ true
  unfolding nothing_held small be be_onto
  small_9 = refl

  zeros : small desk ≡ true
  unfolding desk small
  zeros = refl

  desk_long : length desk ≡ (plan_of y).n * record_length (plan_of y)
  unfolding y desk plan_of plan_shaped plan_at member_of clients_of all num num_from part record_length
  desk_long = refl

  unlent_so : ReadServes y session_1 (nothing_held 5) desk (0 ∷ []) (replicate 41 0) 2 session_1 desk (0 ∷ []) (replicate 41 0)
  unfolding y session_1 read_bytes both_fit first plan_ok counts_ok limits_ok column_of all plan_of plan_shaped plan_at member_of clients_of num num_from part
  unlent_so = record { is = refl }

  refused_so : ReadServes y session_1 (nothing_held 9) desk (0 ∷ []) (replicate 42 0) 10 session_1 desk (0 ∷ []) (replicate 42 0)
  unfolding y session_1 nothing_held desk read_bytes both_fit first plan_ok counts_ok limits_ok column_of all plan_of plan_shaped plan_at member_of clients_of num num_from part session_of session_shaped session_at times_at round_at bound_shaped bound_of marks_shaped marks_of operation_of stage_of heard_of stamp_at read_reply record_length lengths_ok in_range round_rules standing_rules open_rules every heard_count slots_fit slot_fits good_reply good_frame suits shaped for_party one_of body_fits awaited ask_in awaits_in is_heard be be_onto session_after ending_after
  refused_so = record { is = refl }

  never_so : ReadServes y session_1 (nothing_held 5) desk (0 ∷ []) (replicate 42 0) 102 session_2 desk (0 ∷ []) (replicate 41 0 ++ (1 ∷ []))
  unfolding y session_1 session_2 nothing_held desk read_bytes both_fit first plan_ok counts_ok limits_ok column_of all plan_of plan_shaped plan_at member_of clients_of num num_from part session_of session_shaped session_at times_at round_at bound_shaped bound_of marks_shaped marks_of operation_of stage_of heard_of stamp_at read_reply record_length lengths_ok in_range round_rules standing_rules open_rules every heard_count slots_fit slot_fits good_reply good_frame suits shaped for_party one_of body_fits awaited ask_in awaits_in is_heard be be_onto session_after ending_after bears accepted heard settled close_with lead_of step_of ahead_of act_for ending_bytes session_bytes ask_bytes round_bytes bound_bytes heard_bytes times_bytes mark_bytes stamp_number then
  never_so = record { is = refl }

pub host_run : HostCalls (HostReads y) session_1 desk host_calls
host_run = (
  (small_octets (nothing_held 5) small_5, unlent_so),
  ((small_octets (nothing_held 9) small_9, refused_so), ((small_octets (nothing_held 5) small_5, never_so), tt)),
)

-- one round is closed, by one message, which DO_READ takes
abbrev message : Message
message = message_of (plan_of y) (nothing_held 5)

gathered : response_set (family (plan_of y)) [] (message ∷ []) ≡ message ∷ []
unfolding y nothing_held plan_of plan_shaped plan_at member_of clients_of all read do_read receives validate in_time has with_it bears record_length num num_from part be be_onto alike
gathered = refl

one_round : (polled_over (plan_of y) (session_of session_1) desk unpolled (below host_calls)).rounds ≡ (message ∷ []) ∷ []
unfolding below y session_1 session_2 nothing_held desk polls none_of plan_ok counts_ok limits_ok column_of all plan_of plan_shaped plan_at member_of clients_of num num_from part session_of session_shaped session_at times_at round_at bound_shaped bound_of marks_shaped marks_of operation_of stage_of heard_of stamp_at record_length lengths_ok in_range round_rules standing_rules open_rules every heard_count slots_fit slot_fits good_reply good_frame suits shaped for_party one_of body_fits awaited ask_in awaits_in is_heard be be_onto bears answer_of read do_read receives validate in_time has with_it alike
one_round = refl

apart : Apart (message ∷ [])
apart a b (inl u) (inl v) t e = ap (λ (m : Message). m.Response.CC) (u ∙ sym v)
apart a b (inl u) (inr v) t e = absurd v
apart a b (inr u) v t e = absurd u

-- the theorem at this run: READ returns the first triple, in one round
pub host_read_so : EachTells (plan_of y) (session_of session_1) desk unpolled (below host_calls)
    × AllFull (plan_of y) (polled_over (plan_of y) (session_of session_1) desk unpolled (below host_calls)).rounds
host_read_so =
    host_read_as_the_report y 5 (replicate session_length 0) session_1 desk host_calls opens_so desk_long (small_octets desk zeros) host_run
    (subst (AllApart (plan_of y)) (sym one_round) (subst Apart (sym gathered) apart, tt))

pub host_kept_so : Kept (plan_of y) (session_of session_2) desk
host_kept_so =
    host_every_session y 5 (replicate session_length 0) session_1 desk host_calls Read opens_so desk_long (small_octets desk zeros)
    (inr host_run.0, (inr host_run.1.0, (inr host_run.1.1.0, tt)))

-- before the last call, the request owed to node 0 is READ_LATEST
abbrev two_calls : List HostTurn
two_calls = turn 5 (replicate 41 0) 2 session_1 (replicate 41 0) ∷ turn 9 (replicate 42 0) 10 session_1 (replicate 42 0) ∷ []

owed_so : OwedServes y session_1 0 desk (replicate 88 0) 0 (over (frame read_latest_kind 0 5 []) (replicate 88 0))
unfolding y session_1 desk owed_bytes owed_to room_ok request_of read_request first plan_ok counts_ok limits_ok column_of all plan_of plan_shaped plan_at member_of clients_of num num_from part session_of session_shaped session_at times_at round_at bound_shaped bound_of marks_shaped marks_of operation_of stage_of heard_of stamp_at record_length in_range round_rules standing_rules open_rules every heard_count slots_fit slot_fits ask_in is_heard
owed_so = record { is = refl }

no_round : (polled_over (plan_of y) (session_of session_1) desk unpolled (below two_calls)).rounds ≡ []
unfolding below y session_1 nothing_held desk polls none_of plan_ok counts_ok limits_ok column_of all plan_of plan_shaped plan_at member_of clients_of num num_from part session_of session_shaped session_at times_at round_at bound_shaped bound_of marks_shaped marks_of operation_of stage_of heard_of stamp_at record_length lengths_ok in_range round_rules standing_rules open_rules every heard_count slots_fit slot_fits good_reply good_frame suits shaped for_party one_of body_fits awaited ask_in awaits_in is_heard be be_onto bears
no_round = refl

abbrev at : Session
at = last_session (session_of session_1) (below two_calls)

abbrev polled : Polled
polled = polled_over (plan_of y) (session_of session_1) desk unpolled (below two_calls)

pub host_owed_so : HostOwes (Owes (Commands (plan_of y) (read (family (plan_of y)) polled.rounds) 0 (ask_now at))
    (owed_ladder (plan_of y) at 0 (last_desk desk (below two_calls)) 88) (in_response_set (plan_of y) at.round.stage polled 0))
    0 (replicate 88 0) (over (frame read_latest_kind 0 5 []) (replicate 88 0))
host_owed_so =
    host_read_requests_as_the_report y 5 (replicate session_length 0) session_1 desk two_calls opens_so desk_long (small_octets desk zeros)
    (host_run.0, (host_run.1.0, tt)) (subst (AllApart (plan_of y)) (sym no_round) tt) 0 (replicate 88 0) 0 (over (frame read_latest_kind 0 5 []) (replicate 88 0)) owed_so

-- ---- a write at the same plan, before any reply: the request owed to node 0 is TIME
unfoldable pub session_w : List ℕ
session_w = 0 ∷ 0 ∷ 0 ∷ 1 ∷ (replicate 48 0 ++ (5 ∷ replicate 184 0))

module _ where
  write_opens_so : OpenServes Write y 5 (replicate session_length 0) 0 session_w
  unfolding y session_w open_bytes open_with first plan_ok counts_ok limits_ok column_of all plan_of plan_shaped plan_at member_of clients_of num num_from part session_bytes ask_bytes round_bytes bound_bytes heard_bytes times_bytes mark_bytes be be_onto stamp_number then
  write_opens_so = record { is = refl }

  time_owed_so : OwedServes y session_w 0 desk (replicate 88 0) 0 (over (frame time_request_kind 0 5 []) (replicate 88 0))
  unfolding y session_w desk owed_bytes owed_to room_ok request_of first plan_ok counts_ok limits_ok column_of all plan_of plan_shaped plan_at member_of clients_of num num_from part session_of session_shaped session_at times_at round_at bound_shaped bound_of marks_shaped marks_of operation_of stage_of heard_of stamp_at record_length in_range round_rules standing_rules open_rules every heard_count slots_fit slot_fits ask_in is_heard
  time_owed_so = record { is = refl }

pub host_time_so : HostOwes (Owes (WriteCommands (plan_of y) (session_of session_w).round.stage untimed 0 (ask_now (session_of session_w)))
    (owed_ladder (plan_of y) (session_of session_w) 0 desk 88) (in_write_set (session_of session_w).round.stage untimed 0))
    0 (replicate 88 0) (over (frame time_request_kind 0 5 []) (replicate 88 0))
unfolding below
host_time_so =
    host_write_requests_as_the_report y 5 (replicate session_length 0) session_w desk [] write_opens_so tt 0 (replicate 88 0) 0
    (over (frame time_request_kind 0 5 []) (replicate 88 0)) time_owed_so
