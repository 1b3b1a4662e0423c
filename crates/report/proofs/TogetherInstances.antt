-- The hypotheses of the theorems on client and node together can be met. The write of client's Instances/Write.antt (N3 t1 b0 Q2 m1 F1) owes node 2 its
-- record, node 2's fresh book takes it, and the reply ends the write; between them node 0 was heard. So of the repair of Instances/Read.antt.
--   write_exchanged read_exchanged   the request and the reply of a write, and of a repair
--   write_owes_so      the request is what WRITE sends
-- Assumes nothing.
use Rattle.std.specs.Prelude.{Ok, Err, Result}
use Prim.{tt}
use mathlib.Core.Path.{◌≡◌, refl, sym, subst}
use mathlib.Core.Bool.{true}
use mathlib.Core.List.{List, [], ◌∷◌}
use Prim.Native.Nat.{ℕ, ◌+◌}
use lib.ListN.{replicate, take}
use Rattle.octets.specs.Bytes.{part, over, num, num_from, be, be_onto, alike}
use Rattle.sha256.specs.Sha256.{sha256, after, compress_of, added_of, rounds_of, round_of, T1, T2, schedule_of, words, padding, big_endian, K}
use Rattle.terms.specs.Ladder.{first, all}
use Rattle.terms.specs.Stamp.{stamp_at}
use Rattle.terms.specs.Terms.{plan_ok, counts_ok, limits_ok, column_of, record_length}
use Rattle.terms.specs.declared.Refusal.{Refusal}
use Rattle.terms.proofs.Small.{small, small_octets}
use Rattle.frame.specs.Frame.{write_request_kind, frame, good_request, shaped, body_fits, for_party, one_of, suits, good_frame}
use Rattle.record.specs.Record.{fragment_hash, hashes_ok, time_zero, prefix_of}
use Rattle.rounds.specs.Rounds.{heard_count, every}
use Rattle.book.specs.Records.{timed, rising, some}
use Rattle.book.specs.Book.{book_head, records_from, header, joined, laid_as, laid_out, headed, filled, good_book}
use Rattle.node.specs.Fresh.{FreshCall, freshened}
use Rattle.node.specs.Node.{NodeCall, ServedOutcome, served_outcome, served, answered, sends, reply_to, replied, book_reply_ok, time_fails, hash_fails, other_held, no_room}
use Rattle.standing.specs.Standing.{ask_in, room_ok, round_rules}
use Rattle.standing.specs.declared.Operation.TheVariants.{Write, Read}
use Rattle.session.specs.Session.{ask_now}
use Rattle.session.specs.Ranges.{standing_rules, open_rules, in_range}
use Rattle.session.specs.Reply.{is_heard}
use Rattle.standing.specs.declared.Stage.TheVariants.{Storing}
use Rattle.session.specs.Owed.{owed_ladder, written, request_of, owed_to, OwedCall}
use Rattle.session.specs.Writer.{WriteReplyCall}
use Rattle.session.specs.Reader.{ReadReplyCall}
use Rattle.store.specs.History.{OfCalls}
use Rattle.store.proofs.Passed.{fresh_passes}
use Rattle.client.specs.Turns.{ReadTurn, WriteTurn}
use Rattle.client.proofs.Instances.Read.{plan, ask, hash, poor, stamp_bytes, good, desk, desk_poor, desk_good, desk_full, desk_long}
use Rattle.client.proofs.Instances.Read as reads
use Rattle.client.proofs.Instances.Done.{repaired_unlike}
use Rattle.client.proofs.Instances.Write as writes
use Rattle.report.specs.Together.{OwedBy, RepairFits, StillAsks, NoneOf}
use Rattle.report.specs.Sent.{WriteCommands, in_write_set, Owes}
use Rattle.report.specs.WriteRun.{untimed, timed_over}
use Rattle.report.proofs.Sent.{write_owes}
use Rattle.recover.specs.Records.{stamp_for}
use Rattle.report.proofs.Sendable.{written_fits}
use Rattle.report.proofs.StillAsks.{write_still_asks, read_still_asks}
use Rattle.report.proofs.Together.{write_request_taken, write_reply_taken, read_request_taken, read_reply_taken}

-- ---- node 2's fresh book, with room for one record
pub book : List ℕ
book = over (laid_out plan 2 []) (replicate (book_head 1 + 137) 0)

made_so : FreshCall plan 2 (replicate (book_head 1 + 137) 0) (Ok tt) book
unfolding book freshened first plan_ok counts_ok limits_ok column_of all plan
made_so = record { is = refl }

pub of_calls : OfCalls plan 2 book
of_calls = record { lent = replicate (book_head 1 + 137) 0; fresh = book; makes = made_so; calls = []; history = tt; is = refl }

desk_small : small desk ≡ true
unfolding small desk
desk_small = refl

-- ---- a write request to it, of an ask number
pub request : ℕ → List ℕ
request n = frame write_request_kind 2 n good

pub taken : ℕ → ServedOutcome
taken n = served plan (request n) book (replicate 152 0)

-- ---- the write
owed_write : OwedCall plan writes.write_round 2 desk_full (replicate 152 0) (Ok 152) (request 6)
unfolding request stamp_bytes hash good desk_full plan owed_to first plan_ok counts_ok limits_ok column_of all record_length room_ok in_range standing_rules round_rules open_rules heard_count every is_heard
    request_of ask_in over num num_from part be be_onto stamp_at
owed_write = record { is = refl }

whole : take 152 (request 6) ≡ request 6
unfolding request stamp_bytes hash good be be_onto
whole = refl

pub owed_by_write : OwedBy Write (WriteTurn plan) plan 2 (request 6)
owed_by_write =
    record {
      ask = ask;
      opened = writes.opened;
      opens = writes.opened_so;
      accepted = refl;
      desk = desk;
      long = desk_long;
      bytes = small_octets desk desk_small;
      turns = writes.call_1 ∷ writes.call_2 ∷ [];
      calls = ((writes.calls).0, ((writes.calls).1.0, tt));
      buffer = replicate 152 0;
      size = 152;
      left = request 6;
      owed = owed_write;
      is = sym whole;
    }

taken_so : (taken 6).answer ≡ replied 55
unfolding taken request book stamp_bytes hash good plan served first plan_ok counts_ok limits_ok column_of all record_length book_reply_ok good_book headed filled rising timed records_from good_request
    good_frame suits shaped for_party one_of body_fits time_fails hash_fails other_held no_room some fragment_hash prefix_of hashes_ok time_zero answered sends reply_to over laid_as header joined num num_from
    part be be_onto alike sha256 after compress_of added_of rounds_of round_of T1 T2 schedule_of words padding big_endian K
taken_so = refl

pub node_met : NodeCall plan (request 6) book (replicate 152 0) (Ok 55) (taken 6).book (taken 6).reply
unfolding taken
node_met = record { is = λ j. served_outcome (sym taken_so j) (taken 6).book (taken 6).reply }

-- what it wrote is the reply that the write hears
reply_so : take 55 (taken 6).reply ≡ writes.write_reply_of 2
unfolding taken request book stamp_bytes hash good plan served first plan_ok counts_ok limits_ok column_of all record_length book_reply_ok good_book headed filled rising timed records_from good_request
    good_frame suits shaped for_party one_of body_fits time_fails hash_fails other_held no_room some fragment_hash prefix_of hashes_ok time_zero answered sends reply_to over laid_as header joined num num_from
    part be be_onto alike sha256 after compress_of added_of rounds_of round_of T1 T2 schedule_of words padding big_endian K writes.write_reply_of
reply_so = refl

-- node 0 was heard in between
still_so : StillAsks writes.write_round writes.once_stored
still_so = write_still_asks plan writes.write_round desk_full writes.call_3 (writes.calls).1.1.0 refl refl

heard_so : WriteReplyCall plan writes.once_stored (take 55 (taken 6).reply) desk_full (7 ∷ []) (writes.call_4).took desk_full
heard_so =
    subst (λ (f : List ℕ). WriteReplyCall plan writes.once_stored f desk_full (7 ∷ []) (writes.call_4).took desk_full) (sym reply_so) writes.met_4

-- the theorems at them
pub write_exchanged : ((r : Refusal) → ◌≡◌ {A = Result ℕ Refusal} (Ok 55) (Err r) → NoneOf (4 ∷ 5 ∷ 6 ∷ []) r)
    × ((r : Refusal) → (writes.call_4).took.answer ≡ Err r → NoneOf (4 ∷ 5 ∷ 6 ∷ 10 ∷ 12 ∷ []) r)
unfolding owed_by_write
write_exchanged =
    let x = fresh_passes plan 2 book of_calls in (
      write_request_taken plan 2 (request 6) owed_by_write book (replicate 152 0) x.0 x.1 (Ok 55) (taken 6).book (taken 6).reply node_met,
      write_reply_taken plan 2 (request 6) owed_by_write book (replicate 152 0) of_calls 55 (taken 6).book (taken 6).reply node_met writes.once_stored still_so desk_full (7 ∷ [])
          (writes.call_4).took desk_full heard_so,
    )

-- ---- the read: its repair round owes node 2 the same record, with the next ask number
owed_repair : OwedCall plan reads.repair_round 2 desk_full (replicate 152 0) (Ok 152) (request 7)
unfolding request stamp_bytes hash good desk_good desk_full poor desk_poor plan owed_to first plan_ok counts_ok limits_ok column_of all record_length room_ok in_range standing_rules round_rules open_rules heard_count
    every is_heard request_of ask_in over num num_from part be be_onto stamp_at
owed_repair = record { is = refl }

whole_repair : take 152 (request 7) ≡ request 7
unfolding request stamp_bytes hash good be be_onto
whole_repair = refl

pub owed_by_read : OwedBy Read (ReadTurn plan) plan 2 (request 7)
owed_by_read =
    record {
      ask = ask;
      opened = reads.opened;
      opens = reads.opened_so;
      accepted = refl;
      desk = desk;
      long = desk_long;
      bytes = small_octets desk desk_small;
      turns = reads.call_1 ∷ reads.call_2 ∷ reads.call_3 ∷ reads.call_4 ∷ [];
      calls = ((reads.calls).0, ((reads.calls).1.0, ((reads.calls).1.1.0, ((reads.calls).1.1.1.0, tt))));
      buffer = replicate 152 0;
      size = 152;
      left = request 7;
      owed = owed_repair;
      is = sym whole_repair;
    }

repair_taken : (taken 7).answer ≡ replied 55
unfolding taken request book stamp_bytes hash good plan served first plan_ok counts_ok limits_ok column_of all record_length book_reply_ok good_book headed filled rising timed records_from good_request
    good_frame suits shaped for_party one_of body_fits time_fails hash_fails other_held no_room some fragment_hash prefix_of hashes_ok time_zero answered sends reply_to over laid_as header joined num num_from
    part be be_onto alike sha256 after compress_of added_of rounds_of round_of T1 T2 schedule_of words padding big_endian K
repair_taken = refl

repair_met : NodeCall plan (request 7) book (replicate 152 0) (Ok 55) (taken 7).book (taken 7).reply
unfolding taken
repair_met = record { is = λ j. served_outcome (sym repair_taken j) (taken 7).book (taken 7).reply }

repair_reply : take 55 (taken 7).reply ≡ reads.reply_6
unfolding taken request book stamp_bytes hash good plan served first plan_ok counts_ok limits_ok column_of all record_length book_reply_ok good_book headed filled rising timed records_from good_request
    good_frame suits shaped for_party one_of body_fits time_fails hash_fails other_held no_room some fragment_hash prefix_of hashes_ok time_zero answered sends reply_to over laid_as header joined num num_from
    part be be_onto alike sha256 after compress_of added_of rounds_of round_of T1 T2 schedule_of words padding big_endian K reads.reply_6
repair_reply = refl

-- node 1 was heard in between; the repair is of the timestamp of a write
repair_still : StillAsks reads.repair_round reads.once_stored
repair_still = read_still_asks plan reads.repair_round desk_full reads.call_5 (reads.calls).1.1.1.1.0 refl refl

repair_stamp : stamp_at desk_good 0 ≡ stamp_for plan 1 (7 ∷ [])
unfolding desk_good good stamp_bytes hash stamp_at num num_from part
repair_stamp = sym reads.stamped_so

pub repair_fits : RepairFits plan reads.repair_round desk_full
unfolding plan
repair_fits =
    written_fits plan ask reads.opened desk (reads.call_1 ∷ reads.call_2 ∷ reads.call_3 ∷ reads.call_4 ∷ []) reads.opened_so refl
    ((reads.calls).0, ((reads.calls).1.0, ((reads.calls).1.1.0, ((reads.calls).1.1.1.0, tt)))) 1 (7 ∷ []) (small_octets (7 ∷ []) reads.seven_small) refl repair_stamp
    (repaired_unlike.0, (repaired_unlike.1.0, (repaired_unlike.1.1.0, (repaired_unlike.1.1.1.0, tt))))

pub read_exchanged : ((r : Refusal) → ◌≡◌ {A = Result ℕ Refusal} (Ok 55) (Err r) → NoneOf (4 ∷ 5 ∷ 6 ∷ []) r)
    × ((r : Refusal) → (reads.call_6).took.answer ≡ Err r → NoneOf (4 ∷ 5 ∷ 6 ∷ 10 ∷ 12 ∷ []) r)
unfolding owed_by_read
read_exchanged =
    let x = fresh_passes plan 2 book of_calls in (
      read_request_taken plan 2 (request 7) owed_by_read repair_fits book (replicate 152 0) x.0 x.1 (Ok 55) (taken 7).book (taken 7).reply repair_met,
      read_reply_taken plan 2 (request 7) owed_by_read repair_fits book (replicate 152 0) of_calls 55 (taken 7).book (taken 7).reply repair_met reads.once_stored repair_still desk_full (0 ∷ [])
          (reads.call_6).took desk_full (7 ∷ [])
          (subst (λ (f : List ℕ). ReadReplyCall plan reads.once_stored f desk_full (0 ∷ []) (reads.call_6).took desk_full (7 ∷ [])) (sym repair_reply) (reads.calls).1.1.1.1.1.0.1),
    )

-- what is owed is what WRITE sends to node 2, and node 2 is not in the response set
pub write_owes_so : Owes (WriteCommands plan Storing (timed_over plan writes.start desk untimed (writes.call_1 ∷ writes.call_2 ∷ [])) 2 (ask_now writes.write_round))
    (owed_ladder plan writes.write_round 2 desk_full 152) (in_write_set Storing (timed_over plan writes.start desk untimed (writes.call_1 ∷ writes.call_2 ∷ [])) 2) (written 152)
    (replicate 152 0) (request 6)
write_owes_so =
    write_owes plan ask writes.opened desk (writes.call_1 ∷ writes.call_2 ∷ []) writes.opened_so refl ((writes.calls).0, ((writes.calls).1.0, tt)) 2 (replicate 152 0)
    (Ok 152) (request 6) owed_write
