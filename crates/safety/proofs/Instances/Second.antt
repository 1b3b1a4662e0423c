-- The second read, opening ask number 21: nodes 0, 1, 2 and 3 give the record of 7, a set of 4 is COMPLETE, and the read is done in one round, with the byte 7.
--   calls second       the four calls, each by its contract
--   second_answers second_leaves   its answers, one after the other, and the item that it leaves
--   second_numbers second_asks second_asks_later second_before   who wrote the replies, whose the requests are, and that the save and the first read are others
-- Assumes nothing.
use Rattle.terms.specs.declared.Refusal.{Refusal}
use Rattle.std.specs.Prelude.{Ok, Result}
use Prim.{tt}
use Prim.Native.Nat.{ℕ, ◌<◌}
use mathlib.Core.Path.{◌≡◌, refl, sym, ap, ◌∙◌, subst}
use mathlib.Core.Bool.{Bool, true, cond, not}
use mathlib.Core.List.{List, [], ◌∷◌, ◌++◌}
use mathlib.Core.Logic.{inl}
use native.Mathlib.Omega.{arith}
use lib.Dec.{lit<}
use lib.ListN.{replicate}
use Rattle.octets.specs.Bytes.{Octets, part, put, num, num_from, be, be_onto, alike}
use Rattle.terms.specs.Ladder as ladder
use Rattle.terms.specs.Ladder.{all}
use Rattle.terms.specs.Stamp.{then, stamp_at, stamp_number}
use Rattle.terms.specs.Terms.{plan_ok, counts_ok, limits_ok, column_of, record_length, class_of, decided}
use Rattle.terms.specs.declared.Verdict.TheVariants.{Complete}
use Rattle.terms.proofs.Small.{small, small_octets}
use Rattle.field.specs.Field.{xtime, mul_n, mul, square, sum_pow, inv, div}
use Rattle.fragments.specs.Fragments.{among, laid, tabulate, ratio, weight_of, blend, value, regenerated}
use Rattle.frame.specs.Frame.{frame, time_request_kind, write_request_kind, read_latest_kind, read_previous_kind, shaped, body_fits, one_of, for_party, good_frame, good_reply, read_reply_kind, suits}
use Rattle.record.specs.Record.{fragment_hash, prefix_of, time_zero}
use Rattle.record.specs.Desk.{row, cross_made}
use Rattle.std.proofs.Common.{None, Some}
use Rattle.rounds.specs.declared.Heard.TheVariants.{Record}
use Rattle.rounds.specs.Rounds.{heard_count, every, slot_stamp, ahead_of, step_of, lead_of, joins_of, set_of, Closed, close_with, under_of, slot_fits, slots_fit}
use Rattle.recover.specs.Recover.{validates, sound, decoded}
use Rattle.standing.specs.declared.Operation.TheVariants.{Read}
use Rattle.standing.specs.Standing.{lengths_ok, room_ok, ask_in, awaits_in, round_rules, read_request}
use Rattle.session.specs.declared.Session.{Session}
use Rattle.session.specs.declared.Answer.TheVariants.{Open, Done}
use Rattle.session.specs.declared.opening.Opened.{Opened}
use Rattle.session.specs.Session.{marked_of, ended_of, still_open, done}
use Rattle.session.specs.Opening.{fresh_of, open_with, OpenCall}
use Rattle.session.specs.Ranges.{standing_rules, open_rules, in_range}
use Rattle.session.specs.Reply.{awaited, is_heard, bears}
use Rattle.session.specs.Reader.{outcome, failing, act_on, act_for, settled, heard, accepted, ReadReplyCall}
use Rattle.session.specs.Owed.{request_of}
use Rattle.store.specs.History.{Call, EachCall, Wrote}
use Rattle.client.specs.Turns.{Turn, ReadTurn, Calls}
use Rattle.client.specs.Repair.{EachTurn}
use Rattle.safety.specs.Run.{Reading, Owes, life_of}
use Rattle.safety.specs.Safety.{OwnNumbers, OwnAsks, Before}
use Rattle.safety.proofs.Instances.Data.{plan, by_node, hash, cross, verifier, stamp_bytes, sheet, stamp_seven, lie_stamp, hash_so, sheet_passes}
use Rattle.safety.proofs.Instances.Nodes.{time_request, write_request, latest_request, previous_request, sheet_reply, held}
use Rattle.safety.proofs.Instances.Lives.{saves, firsts, seconds, latest_call, after_save, after_first, by_honest}
use Rattle.safety.proofs.Instances.Asks.{Asked, Own, own_ask, other_ask, not_owed, owes_at, wrote_so, from_honest}
use Rattle.safety.proofs.Instances.Save.{desk, desk_long}
use Rattle.safety.proofs.Instances.Read.{turn, taken, saids}

-- ---- the sessions
abbrev pub start : Session
start = fresh_of Read 1 None (record { 0 = 21 })

abbrev pub heard_1 : Session
heard_1 = marked_of start 0 Record

abbrev pub heard_2 : Session
heard_2 = marked_of heard_1 1 Record

abbrev pub heard_3 : Session
heard_3 = marked_of heard_2 2 Record

abbrev pub ended : Session
ended = ended_of (marked_of heard_3 3 Record)

abbrev pub opened : Opened
opened = record { answer = (Ok tt); session = start }

pub opened_so : OpenCall Read plan (record { 0 = 21 }) opened
unfolding open_with ladder.first plan_ok counts_ok limits_ok column_of all
opened_so = record { is = refl }

-- ---- the desk after each record
abbrev pub desk_1 : List ℕ
desk_1 = sheet ++ replicate 804 0

abbrev pub desk_2 : List ℕ
desk_2 = sheet ++ (sheet ++ replicate 603 0)

abbrev pub desk_3 : List ℕ
desk_3 = sheet ++ (sheet ++ (sheet ++ replicate 402 0))

abbrev pub desk_4 : List ℕ
desk_4 = sheet ++ (sheet ++ (sheet ++ (sheet ++ replicate 201 0)))

-- ---- the calls
abbrev pub call_1 : Turn
call_1 = turn (sheet_reply 0 21) (Ok Open) heard_1 desk_1 (0 ∷ [])

abbrev pub call_2 : Turn
call_2 = turn (sheet_reply 1 21) (Ok Open) heard_2 desk_2 (0 ∷ [])

abbrev pub call_3 : Turn
call_3 = turn (sheet_reply 2 21) (Ok Open) heard_3 desk_3 (0 ∷ [])

abbrev pub call_4 : Turn
call_4 = turn (sheet_reply 3 21) (Ok (Done stamp_seven 1)) ended desk_4 (7 ∷ [])

met_1 : ReadReplyCall plan start (sheet_reply 0 21) desk (0 ∷ []) call_1.took desk_1 (0 ∷ [])
unfolding desk sheet stamp_bytes cross verifier hash ladder.first plan_ok counts_ok limits_ok column_of all record_length lengths_ok in_range standing_rules round_rules open_rules
    heard_count every slots_fit slot_fits slot_stamp under_of num num_from part good_reply good_frame suits shaped for_party one_of body_fits awaited ask_in awaits_in is_heard bears be
    be_onto accepted heard settled time_zero put stamp_at stamp_number then
met_1 =
    taken start (sheet_reply 0 21) desk call_1.took desk_1 (0 ∷ []) (refl, (refl, (refl, (refl, (refl, (refl, (refl, (refl, (ap not (sheet_passes 0 (omega arith)), (refl, tt)))))))))) refl

met_2 : ReadReplyCall plan heard_1 (sheet_reply 1 21) desk_1 (0 ∷ []) call_2.took desk_2 (0 ∷ [])
unfolding desk sheet stamp_bytes cross verifier hash ladder.first plan_ok counts_ok limits_ok column_of all record_length lengths_ok in_range standing_rules round_rules open_rules
    heard_count every slots_fit slot_fits slot_stamp under_of num num_from part good_reply good_frame suits shaped for_party one_of body_fits awaited ask_in awaits_in is_heard bears be
    be_onto accepted heard settled time_zero put stamp_at stamp_number then
met_2 =
    taken heard_1 (sheet_reply 1 21) desk_1 call_2.took desk_2 (0 ∷ []) (refl, (refl, (refl, (refl, (refl, (refl, (refl, (refl, (ap not (sheet_passes 1 (omega arith)), (refl, tt)))))))))) refl

met_3 : ReadReplyCall plan heard_2 (sheet_reply 2 21) desk_2 (0 ∷ []) call_3.took desk_3 (0 ∷ [])
unfolding desk sheet stamp_bytes cross verifier hash ladder.first plan_ok counts_ok limits_ok column_of all record_length lengths_ok in_range standing_rules round_rules open_rules
    heard_count every slots_fit slot_fits slot_stamp under_of num num_from part good_reply good_frame suits shaped for_party one_of body_fits awaited ask_in awaits_in is_heard bears be
    be_onto accepted heard settled time_zero put stamp_at stamp_number then
met_3 =
    taken heard_2 (sheet_reply 2 21) desk_2 call_3.took desk_3 (0 ∷ []) (refl, (refl, (refl, (refl, (refl, (refl, (refl, (refl, (ap not (sheet_passes 2 (omega arith)), (refl, tt)))))))))) refl

-- it closes the round: all four bear the candidate, and their set validates
abbrev closed_4 : Closed
closed_4 = record { lead = Some 0; stamp = stamp_seven; nodes = 0 ∷ 1 ∷ 2 ∷ 3 ∷ []; verdict = Complete }

sound_4 : sound plan closed_4 0 desk_4 ≡ true
unfolding sound validates cross_made row fragment_hash prefix_of record_length regenerated among tabulate value blend weight_of ratio xtime mul_n mul square sum_pow inv div alike desk
    sheet stamp_bytes cross verifier hash part
sound_4 = λ j. alike (row (λ (k : ℕ). hash_so j) 5) (part desk_4 40 160)

close_4 : accepted plan heard_3 (sheet_reply 3 21) desk_3 (0 ∷ []) ≡ cond (sound plan closed_4 0 desk_4) (outcome (done stamp_seven 1) ended desk_4 (7 ∷ [])) (failing plan (marked_of heard_3 3 Record) stamp_seven desk_4 (0 ∷ []))
unfolding desk sheet stamp_bytes cross verifier hash ladder.first plan_ok counts_ok limits_ok column_of all record_length lengths_ok in_range standing_rules round_rules open_rules
    heard_count every slots_fit slot_fits slot_stamp under_of num num_from part good_reply good_frame suits shaped for_party one_of body_fits awaited ask_in awaits_in is_heard bears be
    be_onto accepted heard settled time_zero put stamp_at stamp_number then alike act_for act_on close_with lead_of step_of ahead_of set_of joins_of decided class_of decoded laid
    regenerated among tabulate value
close_4 = refl

met_4 : ReadReplyCall plan heard_3 (sheet_reply 3 21) desk_3 (0 ∷ []) call_4.took desk_4 (7 ∷ [])
unfolding desk sheet stamp_bytes cross verifier hash ladder.first plan_ok counts_ok limits_ok column_of all record_length lengths_ok in_range standing_rules round_rules open_rules
    heard_count every slots_fit slot_fits slot_stamp under_of num num_from part good_reply good_frame suits shaped for_party one_of body_fits awaited ask_in awaits_in is_heard bears be
    be_onto accepted heard settled time_zero put stamp_at stamp_number then
met_4 =
    taken heard_3 (sheet_reply 3 21) desk_3 call_4.took desk_4 (7 ∷ []) (refl, (refl, (refl, (refl, (refl, (refl, (refl, (refl, (ap not (sheet_passes 3 (omega arith)), (refl, tt))))))))))
    (close_4 ∙ ap (λ (x : Bool). cond x (outcome (done stamp_seven 1) ended desk_4 (7 ∷ [])) (failing plan (marked_of heard_3 3 Record) stamp_seven desk_4 (0 ∷ []))) sound_4)

replies_bytes : Octets (sheet_reply 0 21) × Octets (sheet_reply 1 21) × Octets (sheet_reply 2 21) × Octets (sheet_reply 3 21)
unfolding small desk sheet stamp_bytes cross verifier hash be be_onto
replies_bytes = (small_octets (sheet_reply 0 21) refl, small_octets (sheet_reply 1 21) refl, small_octets (sheet_reply 2 21) refl, small_octets (sheet_reply 3 21) refl)

abbrev pub turns : List Turn
turns = call_1 ∷ call_2 ∷ call_3 ∷ call_4 ∷ []

pub calls : Calls (ReadTurn plan) start desk turns
calls = ((replies_bytes.0, met_1), ((replies_bytes.1, met_2), ((replies_bytes.2, met_3), ((replies_bytes.3, met_4), tt))))

abbrev pub second : Reading plan
second = record { ask = record { 0 = 21 }; opened = opened; opens = opened_so; accepted = refl; desk = desk; turns = turns; calls = calls }

pub second_answers : saids turns ≡ still_open ∷ still_open ∷ still_open ∷ done stamp_seven 1 ∷ []
second_answers = refl

pub second_leaves : call_4.item_left ≡ 7 ∷ []
second_leaves = refl

-- ---- who wrote the replies: the last call of each node
last_wrote : (before : List Call) (i : ℕ) → Wrote (sheet_reply i 21) (before ++ (latest_call i 21 ∷ []))
unfolding be be_onto sheet stamp_bytes cross verifier hash
last_wrote before i = wrote_so before [] (latest_request i 21) (sheet_reply i 21) (held i) 216 refl

numbers_in : (part : ℕ → List Call) → part 0 ≡ (saves 0 ++ firsts 0) ++ seconds 0 → part 1 ≡ (saves 1 ++ firsts 1) ++ seconds 1 → part 2 ≡ (saves 2 ++ firsts 2) ++ seconds 2 → part 3 ≡ (saves 3 ++ firsts 3) ++ seconds 3 → EachTurn (Own part) turns
numbers_in part is_0 is_1 is_2 is_3 = (
  λ x. from_honest part read_reply_kind 21 sheet 0 (omega arith) (subst (Wrote _) (sym is_0) (last_wrote (saves 0 ++ firsts 0) 0)),
  (
    λ x. from_honest part read_reply_kind 21 sheet 1 (omega arith) (subst (Wrote _) (sym is_1) (last_wrote (saves 1 ++ firsts 1) 1)),
    (
      λ x. from_honest part read_reply_kind 21 sheet 2 (omega arith) (subst (Wrote _) (sym is_2) (last_wrote (saves 2 ++ firsts 2) 2)),
      (
        λ x. from_honest part read_reply_kind 21 sheet 3 (omega arith) (subst (Wrote _) (sym is_3) (last_wrote (saves 3 ++ firsts 3) 3)),
        tt,
      ),
    ),
  ),
)

pub second_numbers : OwnNumbers after_first second (life_of after_first)
second_numbers = numbers_in (life_of after_first) refl refl refl refl

-- ---- what it asks of each node
owes_latest : (i : ℕ) → i < 5 → Owes second (latest_request i 21)
unfolding desk read_request request_of ladder.first plan_ok counts_ok limits_ok column_of all record_length room_ok in_range standing_rules round_rules open_rules heard_count every slots_fit
    slot_fits is_heard ask_in
owes_latest =
    by_node (λ (i : ℕ). Owes second (latest_request i 21))
    (owes_at second [] turns refl 0 (refl, (refl, (refl, (refl, (refl, (refl, tt)))))) (latest_request 0 21) refl)
    (owes_at second [] turns refl 1 (refl, (refl, (refl, (refl, (refl, (refl, tt)))))) (latest_request 1 21) refl)
    (owes_at second [] turns refl 2 (refl, (refl, (refl, (refl, (refl, (refl, tt)))))) (latest_request 2 21) refl)
    (owes_at second [] turns refl 3 (refl, (refl, (refl, (refl, (refl, (refl, tt)))))) (latest_request 3 21) refl)
    (owes_at second [] turns refl 4 (refl, (refl, (refl, (refl, (refl, (refl, tt)))))) (latest_request 4 21) refl)

-- ---- requests of other ask numbers are not its own
asked_1 : (i : ℕ) → Asked second (time_request i)
asked_1 i = other_ask second desk_long time_request_kind i 1 [] (lit< tt) (inl (omega arith))

asked_2 : (i : ℕ) → Asked second (write_request i 2)
asked_2 i = other_ask second desk_long write_request_kind i 2 sheet (lit< tt) (inl (omega arith))

asked_11 : (i : ℕ) → Asked second (latest_request i 11)
asked_11 i = other_ask second desk_long read_latest_kind i 11 [] (lit< tt) (inl (omega arith))

asked_12 : (i : ℕ) → Asked second (previous_request i)
asked_12 i = other_ask second desk_long read_previous_kind i 12 lie_stamp (lit< tt) (inl (omega arith))

asked_13 : (i : ℕ) → Asked second (write_request i 13)
asked_13 i = other_ask second desk_long write_request_kind i 13 sheet (lit< tt) (inl (omega arith))

pub second_asks : OwnAsks after_save second
second_asks =
    by_honest (λ (i : ℕ). EachCall (λ (c : Call). Asked second c.request) (life_of after_save i))
    (asked_1 0, (asked_2 0, (asked_11 0, (asked_12 0, (asked_13 0, (own_ask second (latest_request 0 21) (owes_latest 0 (omega arith)), tt))))))
    (asked_1 1, (asked_2 1, (asked_11 1, (asked_12 1, (asked_13 1, (own_ask second (latest_request 1 21) (owes_latest 1 (omega arith)), tt))))))
    (asked_1 2, (asked_2 2, (own_ask second (latest_request 2 21) (owes_latest 2 (omega arith)), tt)))
    (asked_11 3, (asked_12 3, (asked_13 3, (own_ask second (latest_request 3 21) (owes_latest 3 (omega arith)), tt))))

pub second_asks_later : OwnAsks after_first second
second_asks_later =
    by_honest (λ (i : ℕ). EachCall (λ (c : Call). Asked second c.request) (life_of after_first i))
    (second_asks 0 (omega arith) refl) (second_asks 1 (omega arith) refl) (second_asks 2 (omega arith) refl) (second_asks 3 (omega arith) refl)

-- ---- it asked nothing before the first read was over
unowed : (kind i ask : ℕ) (body : List ℕ) → ask < 21 → (n m : ℕ) → ◌≡◌ {A = Result ℕ Refusal} (Ok n) (Ok m) → Owes second (frame kind i ask body) → ⊥
unowed kind i ask body l n m e = not_owed second desk_long kind i ask body (omega arith) (inl l)

pub second_before : Before after_first second
second_before =
    by_honest (λ (i : ℕ). EachCall (λ (c : Call). (n : ℕ) → c.answer ≡ Ok n → Owes second c.request → ⊥) (after_first.early i))
    (unowed time_request_kind 0 1 [] (omega arith) 23, (unowed write_request_kind 0 2 sheet (omega arith) 55, (unowed read_latest_kind 0 11 [] (omega arith) 216, (unowed read_previous_kind 0 12 lie_stamp (omega arith) 216, (unowed write_request_kind 0 13 sheet (omega arith) 55, tt)))))
    (unowed time_request_kind 1 1 [] (omega arith) 23, (unowed write_request_kind 1 2 sheet (omega arith) 55, (unowed read_latest_kind 1 11 [] (omega arith) 216, (unowed read_previous_kind 1 12 lie_stamp (omega arith) 216, (unowed write_request_kind 1 13 sheet (omega arith) 55, tt)))))
    (unowed time_request_kind 2 1 [] (omega arith) 23, (unowed write_request_kind 2 2 sheet (omega arith) 55, tt))
    (unowed read_latest_kind 3 11 [] (omega arith) 15, (unowed read_previous_kind 3 12 lie_stamp (omega arith) 15, (unowed write_request_kind 3 13 sheet (omega arith) 55, tt)))
