-- The theorems on the new time at runs of calls. Document 02, Q-2: "Replies 2^64-1, 9, 9, 4 with b = 1 now give 10."
--   ten_so near_so     a write on five nodes, b 1, of which node 0 lies and tells 2^64-1: it stores at 10, at most one above an honest reply
--   spent_so           node 1 tells it too, and is taken for honest: the clock is spent, by an honest reply
-- That a node tells the time of what it executed, and the next write is above it: passed_so of Instances.antt.
-- Assumes nothing.
use Rattle.terms.specs.declared.Refusal.{Refusal}
use Rattle.std.specs.Prelude.{Ok, Result}
use Prim.{tt}
use Prim.Native.Nat.{ℕ, ◌+◌, ◌≤◌}
use mathlib.Core.Path.{◌≡◌, refl}
use mathlib.Core.Bool.{Bool, true}
use mathlib.Core.List.{List, [], ◌∷◌}
use native.Mathlib.Omega.{arith}
use lib.Dec.{eqb, lit<}
use lib.ListN.{replicate}
use Rattle.octets.specs.Bytes.{part, num, num_from, be, be_onto}
use Rattle.terms.specs.Ladder.{first, all}
use Rattle.terms.specs.Stamp.{top, stamp_at}
use Rattle.terms.specs.Terms.{plan_ok, counts_ok, limits_ok, column_of, record_length}
use Rattle.terms.specs.declared.Ask.{Ask}
use Rattle.terms.specs.declared.Plan.{Plan}
use Rattle.terms.specs.declared.Member.TheVariants.{Repairable}
use Rattle.terms.specs.declared.Clients.TheVariants.{Byzantine}
use Rattle.terms.proofs.Small.{small, small_octets}
use Rattle.frame.specs.Frame.{frame, shaped, body_fits, one_of, for_party, good_frame, good_reply, time_reply_kind, suits}
use Rattle.record.proofs.Desks.{time_made}
use Rattle.std.proofs.Common.{None}
use Rattle.rounds.specs.Rounds.{heard_count, every}
use Rattle.clock.specs.Clock.{times_heard, or_more, greatest_with}
use Rattle.standing.specs.declared.Operation.TheVariants.{Write}
use Rattle.standing.specs.Standing.{lengths_ok, ask_in, awaits_in, round_rules}
use Rattle.session.specs.declared.Session.{Session}
use Rattle.session.specs.declared.Answer.{Answer}
use Rattle.session.specs.declared.Answer.TheVariants.{Open, ClockSpent}
use Rattle.session.specs.declared.opening.Opened.{Opened}
use Rattle.session.specs.Session.{storing_of, ended_of}
use Rattle.session.specs.Opening.{fresh_of, open_with, OpenCall}
use Rattle.session.specs.Ranges.{standing_rules, open_rules, in_range}
use Rattle.session.specs.Reply.{awaited, is_heard}
use Rattle.recover.specs.Records.{cross_for, stamp_for, records_for}
use Rattle.session.specs.Writer.{timed_of, kth_reply, time_end, time_turn, accepted_write, write_reply, WriteReplyCall}
use Rattle.client.specs.Turns.{Turn}
use Rattle.rounds.specs.Numbers.{number_of}
use Rattle.report.specs.NewTime.{ToWrite, new_time_of, time_replies, ToSpent, spent_replies, NearHonest}
use Rattle.report.proofs.NewTime.{near_an_honest_reply, spent_by_an_honest_reply}

abbrev plan : Plan
plan = record { n = 5; t = 1; b = 1; q = 3; m = 1; f = 1; member = Repairable; clients = Byzantine; w = 1 }

abbrev ask : Ask
ask = record { 0 = 5 }

abbrev item : List ℕ
item = 7 ∷ []

pub desk : List ℕ
desk = replicate 1005 0

unfoldable time_reply : ℕ → ℕ → List ℕ
time_reply node time = frame time_reply_kind node 5 (be 8 time)

abbrev opened : Opened
opened = record { answer = (Ok tt); session = fresh_of Write 1 None ask }

opened_so : OpenCall Write plan ask opened
unfolding open_with first plan_ok counts_ok limits_ok column_of all
opened_so = record { is = refl }

abbrev turn : List ℕ → Result Answer Refusal → Session → List ℕ → Turn
turn f a s d = record { reply = f; item = item; took = record { answer = a; session = s }; desk_left = d; item_left = item }

-- nodes 0 to 3 tell these times
abbrev told_1 : Session
told_1 = timed_of opened.session 0 top

abbrev told_2 : ℕ → Session
told_2 x = timed_of told_1 1 x

abbrev told_3 : ℕ → Session
told_3 x = timed_of (told_2 x) 2 9

abbrev told_4 : ℕ → Session
told_4 x = timed_of (told_3 x) 3 4

abbrev stored : Session
stored = storing_of (told_4 9) (stamp_for plan 10 item)

-- the first three replies leave the round open, whatever node 1 tells of these two
met_1 : WriteReplyCall plan opened.session (time_reply 0 top) desk item (record { answer = Ok Open; session = told_1 }) desk
unfolding time_reply desk write_reply first plan_ok counts_ok limits_ok column_of all record_length lengths_ok in_range standing_rules round_rules open_rules heard_count every num num_from part
    good_reply good_frame suits shaped for_party one_of body_fits awaited ask_in awaits_in is_heard be be_onto accepted_write time_turn
met_1 = record { is = refl }

met_2 : WriteReplyCall plan told_1 (time_reply 1 9) desk item (record { answer = Ok Open; session = told_2 9 }) desk
unfolding time_reply desk write_reply first plan_ok counts_ok limits_ok column_of all record_length lengths_ok in_range standing_rules round_rules open_rules heard_count every num num_from part
    good_reply good_frame suits shaped for_party one_of body_fits awaited ask_in awaits_in is_heard be be_onto accepted_write time_turn
met_2 = record { is = refl }

met_3 : WriteReplyCall plan (told_2 9) (time_reply 2 9) desk item (record { answer = Ok Open; session = told_3 9 }) desk
unfolding time_reply desk write_reply first plan_ok counts_ok limits_ok column_of all record_length lengths_ok in_range standing_rules round_rules open_rules heard_count every num num_from part
    good_reply good_frame suits shaped for_party one_of body_fits awaited ask_in awaits_in is_heard be be_onto accepted_write time_turn
met_3 = record { is = refl }

met_4 : WriteReplyCall plan (told_3 9) (time_reply 3 4) desk item (record { answer = Ok Open; session = stored }) (records_for plan 10 item)
unfolding time_reply desk write_reply first plan_ok counts_ok limits_ok column_of all record_length lengths_ok in_range standing_rules round_rules open_rules heard_count every num num_from part
    good_reply good_frame suits shaped for_party one_of body_fits awaited ask_in awaits_in is_heard be be_onto accepted_write time_turn time_end kth_reply greatest_with or_more times_heard
met_4 = record { is = refl }

small_1 : small (time_reply 0 top) ≡ true
unfolding small time_reply be be_onto
small_1 = refl

small_2 : small (time_reply 1 9) ≡ true
unfolding small time_reply be be_onto
small_2 = refl

small_3 : small (time_reply 2 9) ≡ true
unfolding small time_reply be be_onto
small_3 = refl

small_4 : small (time_reply 3 4) ≡ true
unfolding small time_reply be be_onto
small_4 = refl

pub to_write : ToWrite plan
to_write =
    record {
      ask = ask;
      opened = opened;
      opens = opened_so;
      accepted = refl;
      desk = desk;
      turns = turn (time_reply 0 top) (Ok Open) told_1 desk ∷ turn (time_reply 1 9) (Ok Open) (told_2 9) desk ∷ turn (time_reply 2 9) (Ok Open) (told_3 9) desk ∷ turn (time_reply 3 4) (Ok Open) stored (records_for plan 10 item) ∷ [];
      calls = ((small_octets _ small_1, met_1), ((small_octets _ small_2, met_2), ((small_octets _ small_3, met_3), ((small_octets _ small_4, met_4), tt))));
      stores = refl;
    }

-- "now give 10"
pub ten_so : new_time_of to_write ≡ 10
unfolding to_write stamp_for stamp_at
ten_so = time_made 10 (cross_for plan item) (lit< tt)

abbrev lies : ℕ → Bool
lies k = eqb k 0

one_lies : number_of lies 5 ≤ 1
unfolding number_of
one_lies = omega arith

pub near_so : NearHonest lies (time_replies to_write) (new_time_of to_write)
near_so = near_an_honest_reply plan to_write lies one_lies

-- ---- node 1 tells it too: b + 1 of the replies are 2^64-1, and the clock is spent
spent_2 : WriteReplyCall plan told_1 (time_reply 1 top) desk item (record { answer = Ok Open; session = told_2 top }) desk
unfolding time_reply desk write_reply first plan_ok counts_ok limits_ok column_of all record_length lengths_ok in_range standing_rules round_rules open_rules heard_count every num num_from part
    good_reply good_frame suits shaped for_party one_of body_fits awaited ask_in awaits_in is_heard be be_onto accepted_write time_turn
spent_2 = record { is = refl }

spent_3 : WriteReplyCall plan (told_2 top) (time_reply 2 9) desk item (record { answer = Ok Open; session = told_3 top }) desk
unfolding time_reply desk write_reply first plan_ok counts_ok limits_ok column_of all record_length lengths_ok in_range standing_rules round_rules open_rules heard_count every num num_from part
    good_reply good_frame suits shaped for_party one_of body_fits awaited ask_in awaits_in is_heard be be_onto accepted_write time_turn
spent_3 = record { is = refl }

spent_4 : WriteReplyCall plan (told_3 top) (time_reply 3 4) desk item (record { answer = (Ok ClockSpent); session = ended_of (told_4 top) }) desk
unfolding time_reply desk write_reply first plan_ok counts_ok limits_ok column_of all record_length lengths_ok in_range standing_rules round_rules open_rules heard_count every num num_from part
    good_reply good_frame suits shaped for_party one_of body_fits awaited ask_in awaits_in is_heard be be_onto accepted_write time_turn time_end kth_reply greatest_with or_more times_heard
spent_4 = record { is = refl }

spent_small : small (time_reply 1 top) ≡ true
unfolding small time_reply be be_onto
spent_small = refl

pub to_spent : ToSpent plan
to_spent =
    record {
      ask = ask;
      opened = opened;
      opens = opened_so;
      accepted = refl;
      desk = desk;
      first = turn (time_reply 0 top) (Ok Open) told_1 desk;
      rest = turn (time_reply 1 top) (Ok Open) (told_2 top) desk ∷ turn (time_reply 2 9) (Ok Open) (told_3 top) desk ∷ turn (time_reply 3 4) (Ok ClockSpent) (ended_of (told_4 top)) desk ∷ [];
      calls = ((small_octets _ small_1, met_1), ((small_octets _ spent_small, spent_2), ((small_octets _ small_3, spent_3), ((small_octets _ small_4, spent_4), tt))));
      says = refl;
    }

pub spent_so : NearHonest lies (spent_replies to_spent) (top + 1)
spent_so = spent_by_an_honest_reply plan to_spent lies one_lies
