-- The hypotheses of the theorems on refusals can be met, each by a call in a history: the plan and the read and write of client's Instances/Read.antt and
-- Instances/Write.antt (N3 t1 b0 Q2 m1 F1), node 2's fresh book. Each call is made once, and once for a host, on bytes.
--   node_refuses fresh_refuses opening_refuses owed_refuses write_refuses read_refuses   6, 4, 13, 11, 10 and 10 are given
--   host_node_refuses host_fresh_refuses host_open_refuses host_owed_refuses host_write_refuses host_read_refuses   the same on bytes, and the numbers
--   invalid_so         the node's request, a record whose cross checksum is not that of its fragments, is one that VALIDATE turns away
-- Assumes nothing.
use Rattle.terms.specs.declared.Refusal.{Refusal}
use Rattle.std.specs.Prelude.{Result, Err}
use Prim.Native.Nat.{ℕ, ◌+◌}
use mathlib.Core.Path.{◌≡◌, refl, sym, ap, ◌∙◌}
use mathlib.Core.Bool.{true, false}
use mathlib.Core.List.{List, [], ◌∷◌, ◌++◌}
use native.Mathlib.Omega.{arith}
use lib.ListN.{length, replicate}
use Rattle.octets.specs.Bytes.{part, over, num, num_from, be, be_onto, alike}
use Rattle.sha256.specs.Sha256.{sha256, after, compress_of, added_of, rounds_of, round_of, T1, T2, schedule_of, words, padding, big_endian, K}
use Rattle.terms.specs.Ladder.{first, all, Given}
use Rattle.terms.specs.Stamp.{stamp_at, stamp_number, then, top}
use Rattle.terms.specs.Terms.{plan_ok, counts_ok, limits_ok, column_of, record_length}
use Rattle.terms.specs.declared.Ask.{Ask}
use Rattle.terms.specs.declared.Plan.{Plan}
use Rattle.terms.specs.declared.Refusal.TheVariants.{HashFails, WrongFrame, AskTooHigh, AlreadyHeard}
use Rattle.terms.proofs.Small.{small, small_octets}
use Rattle.frame.specs.Frame.{write_request_kind, kind_of, body_of, frame, good_request, shaped, body_fits, for_party, one_of, suits, good_frame}
use Rattle.record.specs.Record.{fragment_hash, hashes_ok, time_zero, prefix_of}
use Rattle.std.proofs.Common.{None}
use Rattle.rounds.specs.Rounds.{heard_count, every, slots_fit, slot_fits, slot_stamp, under_of}
use Rattle.book.specs.Records.{timed, rising}
use Rattle.book.specs.Book.{book_head, node_of, records_from, header, joined, laid_as, laid_out, headed, filled, good_book}
use Rattle.node.specs.Fresh.{FreshCall, FreshOutcome, freshened, fresh_ladder}
use Rattle.node.specs.Node.{NodeCall, ServedOutcome, served, node_ladder, book_reply_ok, time_fails, hash_fails}
use Rattle.standing.specs.declared.Operation.TheVariants.{Read}
use Rattle.standing.specs.Standing.{room_ok, round_rules}
use Rattle.session.specs.declared.opening.Opened.{Opened}
use Rattle.session.specs.Opening.{Opens, OpenCall, open_with, opening_ladder, no_session}
use Rattle.session.specs.Ranges.{standing_rules, open_rules, in_range}
use Rattle.session.specs.Reply.{is_heard}
use Rattle.session.specs.Owed.{OwedCall, owed_to, owed_ladder}
use Rattle.session.specs.Writer.{Leaves, write_reply}
use Rattle.session.specs.Reader.{Outcome, read_reply}
use Rattle.client.specs.Endings.{read_ladder, write_ladder}
use Rattle.client.proofs.Instances.Read as reads
use Rattle.client.proofs.Instances.Read.{plan, hash, poor, stamp_bytes, good, desk_poor, desk_good, desk_full}
use Rattle.client.proofs.Instances.Write as writes
use Rattle.packing.specs.PlanBytes.{member_of, clients_of, plan_shaped, plan_at, plan_of}
use Rattle.packing.specs.SessionBytes.{session_length, bound_bytes, times_bytes, mark_bytes, round_bytes, ask_bytes, heard_bytes, session_bytes, operation_of, stage_of, heard_of, bound_shaped, bound_of, times_at, marks_shaped, marks_of, session_shaped, round_at, session_at, session_of}
use Rattle.answers.specs.Answers.{lent_ladder, both_fit, ending_after, made_number, served_number}
use Rattle.pasis.specs.Store.{FreshBook, NodeServes}
use Rattle.pasis.specs.Client.{session_fits, session_after, opened_bytes, opened_as, open_bytes, OpenServes, asked, asked_as, owed_bytes, OwedServes, took_bytes, took_as, read_bytes, with_item, write_bytes, WriteServes, ReadServes}
use Rattle.report.specs.Figure1.{validate}
use Rattle.report.specs.Ours.{family, triple_of, history, verifier_in}
use Rattle.demands.proofs.Demand2.{invalid_as_the_report}
use Rattle.demands.proofs.Refusals.{node_exactly, fresh_exactly, opening_exactly, owed_exactly, write_exactly, read_exactly, host_node_exactly, host_node_numbers, host_fresh_exactly, host_fresh_numbers, host_open_exactly, host_open_numbers, host_owed_exactly, host_owed_numbers, host_write_exactly, host_write_numbers, host_read_exactly, host_read_numbers}

-- ---- the node: a record that passes its hash check at node 0 alone, sent to node 2, whose book is fresh
pub book : List ℕ
book = over (laid_out plan 2 []) (replicate (book_head 1 + 137) 0)

pub request : List ℕ
request = frame write_request_kind 2 6 poor

pub node_met : NodeCall plan request book (replicate 152 0) (Err HashFails) book (replicate 152 0)
unfolding request book hash poor plan served first plan_ok counts_ok limits_ok column_of all record_length book_reply_ok good_book headed filled rising timed records_from good_request good_frame suits shaped
    for_party one_of body_fits time_fails hash_fails fragment_hash prefix_of hashes_ok time_zero over laid_as header joined num num_from part be be_onto alike sha256 after compress_of added_of rounds_of round_of
    T1 T2 schedule_of words padding big_endian K
node_met = record { is = refl }

pub node_refuses : Given (node_ladder plan request book (replicate 152 0)) 6
node_refuses = (node_exactly plan request book (replicate 152 0) (Err HashFails) book (replicate 152 0) node_met 6 (omega arith)).0 refl

-- VALIDATE turns it away
module _ where
  good_so : good_request plan (node_of book) request ≡ true
  unfolding request book hash poor plan good_request good_frame suits shaped for_party one_of body_fits record_length over laid_as header joined all num num_from part be be_onto
  good_so = refl

  kind_so : kind_of request ≡ write_request_kind
  unfolding request poor hash num num_from part be be_onto
  kind_so = refl

  turned_so : validate (family plan) (node_of book) (triple_of plan (body_of request)) ≡ false
  unfolding validate request book hash poor plan record_length verifier_in over laid_as header joined num num_from part be be_onto alike sha256 after compress_of added_of rounds_of round_of T1 T2 schedule_of
      words padding big_endian K
  turned_so = refl

  small_so : (small request ≡ true) × (small book ≡ true)
  unfolding small request book hash poor plan over laid_as header joined record_length be be_onto
  small_so = (refl, refl)

-- whatever a call answers to it, it leaves the versions, and the reply buffer
pub invalid_so : (a : Result ℕ Refusal) (b₂ y₂ : List ℕ) → NodeCall plan request book (replicate 152 0) a b₂ y₂ → (history plan b₂ ≡ history plan book) × (y₂ ≡ replicate 152 0)
invalid_so =
    invalid_as_the_report plan request book (replicate 152 0) (small_octets request small_so.0) (small_octets book small_so.1) good_so kind_so turned_so

-- ---- a fresh book for node 3 of 3
pub fresh_met : FreshCall plan 3 (replicate (book_head 1 + 137) 0) (Err WrongFrame) (replicate (book_head 1 + 137) 0)
unfolding plan freshened first plan_ok counts_ok limits_ok column_of all
fresh_met = record { is = refl }

pub fresh_refuses : Given (fresh_ladder plan 3 (replicate (book_head 1 + 137) 0)) 4
fresh_refuses = (fresh_exactly plan 3 (replicate (book_head 1 + 137) 0) (Err WrongFrame) (replicate (book_head 1 + 137) 0) fresh_met 4 (omega arith)).0 refl

-- ---- an opening with the last ask number
pub late_ask : Ask
late_ask = record { 0 = top }

pub not_opened : Opened
not_opened = record { answer = Err AskTooHigh; session = no_session Read }

pub opening_met : OpenCall Read plan late_ask not_opened
unfolding late_ask not_opened plan open_with first plan_ok counts_ok limits_ok column_of all
opening_met = record { is = refl }

pub opening_refuses : Given (opening_ladder plan late_ask.0) 13
unfolding not_opened
opening_refuses = (opening_exactly Read plan late_ask not_opened opening_met 13 (omega arith)).0 refl

-- ---- a request owed to a node that is heard: node 0, in the second round of the read
pub owed_met : OwedCall plan reads.second_heard 0 desk_good (replicate 152 0) (Err AlreadyHeard) (replicate 152 0)
unfolding hash stamp_bytes good desk_good poor desk_poor plan owed_to first plan_ok counts_ok limits_ok column_of all record_length room_ok in_range standing_rules round_rules open_rules heard_count every slots_fit
    slot_fits slot_stamp under_of is_heard num num_from part stamp_at stamp_number then
owed_met = record { is = refl }

pub owed_refuses : Given (owed_ladder plan reads.second_heard 0 desk_good 152) 11
owed_refuses = (owed_exactly plan reads.second_heard 0 desk_good (replicate 152 0) (Err AlreadyHeard) (replicate 152 0) owed_met 11 (omega arith)).0 refl

-- ---- late replies: in the write round a time reply, in round 2 a reply to round 1
pub write_refuses : Given (write_ladder plan writes.once_stored (writes.time_reply 2) desk_full 1) 10
write_refuses = (write_exactly plan writes.once_stored (writes.time_reply 2) desk_full (7 ∷ []) _ desk_full writes.late_met 10 (omega arith)).0 refl

pub read_refuses : Given (read_ladder plan reads.second_heard reads.late desk_good 1) 10
read_refuses = (read_exactly plan reads.second_heard reads.late desk_good (0 ∷ []) _ desk_good (0 ∷ []) reads.late_met 10 (omega arith)).0 refl

-- ---- for a host: the plan's 11 bytes, and the sessions' 237
pub plan_bytes : List ℕ
plan_bytes = 3 ∷ 1 ∷ 0 ∷ 2 ∷ 1 ∷ 0 ∷ 1 ∷ 0 ∷ 1 ∷ 0 ∷ 2 ∷ []

plan_so : plan_of plan_bytes ≡ plan
unfolding plan_bytes plan plan_of plan_shaped plan_at member_of clients_of all num num_from part
plan_so = refl

pub reading_bytes : List ℕ
reading_bytes = session_bytes reads.second_heard

reading_so : session_of reading_bytes ≡ reads.second_heard
unfolding reading_bytes session_bytes ask_bytes round_bytes bound_bytes heard_bytes times_bytes mark_bytes session_of session_shaped session_at times_at round_at operation_of stage_of heard_of bound_shaped bound_of marks_shaped marks_of
    all hash poor desk_poor stamp_at stamp_number then num num_from part be be_onto
reading_so = refl

pub writing_bytes : List ℕ
writing_bytes = session_bytes writes.once_stored

writing_so : session_of writing_bytes ≡ writes.once_stored
unfolding writing_bytes session_bytes ask_bytes round_bytes bound_bytes heard_bytes times_bytes mark_bytes session_of session_shaped session_at times_at round_at operation_of stage_of heard_of bound_shaped bound_of marks_shaped marks_of
    all stamp_bytes stamp_at stamp_number then num num_from part be be_onto
writing_so = refl

-- the node's two calls
pub host_node_met : NodeServes plan_bytes request book (replicate 152 0) 6 book (replicate 152 0)
host_node_met =
    let e = node_met.is ∙ ap (λ (p : Plan). served p request book (replicate 152 0)) (sym plan_so) in
    record {
      number = ap (λ (o : ServedOutcome). served_number o.answer) e;
      book = ap (λ (o : ServedOutcome). o.book) e;
      reply = ap (λ (o : ServedOutcome). o.reply) e;
    }

pub host_node_refuses : Given (node_ladder (plan_of plan_bytes) request book (replicate 152 0)) 6 × (one_of 6 (0 ∷ 1 ∷ 2 ∷ 3 ∷ 4 ∷ 5 ∷ 6 ∷ 7 ∷ 8 ∷ []) ≡ true)
host_node_refuses = (
  (host_node_exactly plan_bytes request book (replicate 152 0) 6 book (replicate 152 0) host_node_met 6 (omega arith) (omega arith)).0 refl,
  host_node_numbers plan_bytes request book (replicate 152 0) 6 book (replicate 152 0) host_node_met,
)

pub host_fresh_met : FreshBook plan_bytes 3 (replicate (book_head 1 + 137) 0) 4 (replicate (book_head 1 + 137) 0)
host_fresh_met =
    let e = fresh_met.is ∙ ap (λ (p : Plan). freshened p 3 (replicate (book_head 1 + 137) 0)) (sym plan_so) in
    record { number = ap (λ (o : FreshOutcome). made_number o.answer) e; book = ap (λ (o : FreshOutcome). o.book) e }

pub host_fresh_refuses : Given (fresh_ladder (plan_of plan_bytes) 3 (replicate (book_head 1 + 137) 0)) 4 × (one_of 4 (0 ∷ 1 ∷ 2 ∷ 4 ∷ []) ≡ true)
host_fresh_refuses = (
  (host_fresh_exactly plan_bytes 3 (replicate (book_head 1 + 137) 0) 4 (replicate (book_head 1 + 137) 0) host_fresh_met 4 (omega arith) (omega arith)).0 refl,
  host_fresh_numbers plan_bytes 3 (replicate (book_head 1 + 137) 0) 4 (replicate (book_head 1 + 137) 0) host_fresh_met,
)

-- the client's: where plan and lengths are right, the call's own order decides
lent_so : {A : Type 0} (refuse : ℕ → A) (pass : A) → first (lent_ladder plan true) refuse pass ≡ pass
unfolding first
lent_so refuse pass = rw reads.plan_is_ok

module _ where
  reading_long : length reading_bytes ≡ session_length
  unfolding reading_bytes session_bytes ask_bytes round_bytes bound_bytes heard_bytes times_bytes mark_bytes be be_onto
  reading_long = refl

  writing_long : length writing_bytes ≡ session_length
  unfolding writing_bytes session_bytes ask_bytes round_bytes bound_bytes heard_bytes times_bytes mark_bytes be be_onto
  writing_long = refl

pub host_open_met : OpenServes Read plan_bytes top (replicate session_length 0) 13 (replicate session_length 0)
unfolding open_bytes late_ask not_opened
host_open_met =
    let e : opened_as (open_with Read None plan late_ask) (replicate session_length 0) ≡ opened_bytes 13 (replicate session_length 0) =
    ap (λ (o : Opens). opened_as o (replicate session_length 0)) (sym opening_met.is) in
    record {
      is = sym (ap (λ (p : Plan). first (lent_ladder p true) (λ (k : ℕ). opened_bytes k (replicate session_length 0)) (opened_as (open_with Read None p late_ask) (replicate session_length 0))) plan_so
          ∙ lent_so _ _ ∙ e);
    }

pub host_open_refuses : Given (lent_ladder (plan_of plan_bytes) true ++ opening_ladder (plan_of plan_bytes) top) 13 × (one_of 13 (0 ∷ 1 ∷ 2 ∷ 13 ∷ []) ≡ true)
host_open_refuses = (
  (host_open_exactly Read plan_bytes top (replicate session_length 0) 13 (replicate session_length 0) host_open_met 13 (omega arith) (omega arith)).0 refl,
  host_open_numbers Read plan_bytes top (replicate session_length 0) 13 (replicate session_length 0) host_open_met,
)

pub host_owed_met : OwedServes plan_bytes reading_bytes 0 desk_good (replicate 152 0) 11 (replicate 152 0)
unfolding owed_bytes
host_owed_met = record {
  is = sym ((λ i.
      first (lent_ladder (plan_so i) (session_fits (reading_long i))) (λ (k : ℕ). asked k (replicate 152 0))
      (asked_as (owed_to (plan_so i) (reading_so i) 0 desk_good (replicate 152 0))))
      ∙ lent_so _ _ ∙ ap asked_as (sym owed_met.is));
}

pub host_owed_refuses : Given (lent_ladder (plan_of plan_bytes) (session_fits (length reading_bytes)) ++ owed_ladder (plan_of plan_bytes) (session_of reading_bytes) 0 desk_good 152) 11
    × (one_of 11 (0 ∷ 1 ∷ 2 ∷ 4 ∷ 9 ∷ 11 ∷ 14 ∷ []) ≡ true)
host_owed_refuses = (
  (host_owed_exactly plan_bytes reading_bytes 0 desk_good (replicate 152 0) 11 (replicate 152 0) host_owed_met 11 (omega arith) (omega arith)).0 refl,
  host_owed_numbers plan_bytes reading_bytes 0 desk_good (replicate 152 0) 11 (replicate 152 0) host_owed_met,
)

abbrev ending : List ℕ
ending = replicate 42 0

pub host_write_met : WriteServes plan_bytes writing_bytes (writes.time_reply 2) desk_full (7 ∷ []) ending 10 writing_bytes desk_full ending
unfolding write_bytes both_fit session_after ending_after
host_write_met = record {
  is = sym ((λ i.
      first (lent_ladder (plan_so i) (both_fit (writing_long i) 42)) (λ (k : ℕ). took_bytes k writing_bytes desk_full (7 ∷ []) ending)
      (took_as (with_item (write_reply (plan_so i) (writing_so i) (writes.time_reply 2) desk_full (7 ∷ [])) (7 ∷ [])) writing_bytes ending))
      ∙ lent_so _ _ ∙ ap (λ (o : Leaves). took_as (with_item o (7 ∷ [])) writing_bytes ending) (sym (writes.late_met).is));
}

pub host_write_refuses : Given (lent_ladder (plan_of plan_bytes) (both_fit (length writing_bytes) 42) ++ write_ladder (plan_of plan_bytes) (session_of writing_bytes) (writes.time_reply 2) desk_full 1) 10
    × (one_of 10 (0 ∷ 1 ∷ 2 ∷ 4 ∷ 9 ∷ 10 ∷ 11 ∷ 14 ∷ 101 ∷ 105 ∷ []) ≡ true)
host_write_refuses = (
  (host_write_exactly plan_bytes writing_bytes (writes.time_reply 2) desk_full (7 ∷ []) ending 10 writing_bytes desk_full ending host_write_met 10 (omega arith) (omega arith)).0 refl,
  host_write_numbers plan_bytes writing_bytes (writes.time_reply 2) desk_full (7 ∷ []) ending 10 writing_bytes desk_full ending host_write_met,
)

pub host_read_met : ReadServes plan_bytes reading_bytes reads.late desk_good (0 ∷ []) ending 10 reading_bytes desk_good (0 ∷ []) ending
unfolding read_bytes both_fit session_after ending_after
host_read_met = record {
  is = sym ((λ i.
      first (lent_ladder (plan_so i) (both_fit (reading_long i) 42)) (λ (k : ℕ). took_bytes k reading_bytes desk_good (0 ∷ []) ending)
      (took_as (read_reply (plan_so i) (reading_so i) reads.late desk_good (0 ∷ [])) reading_bytes ending))
      ∙ lent_so _ _ ∙ ap (λ (o : Outcome). took_as o reading_bytes ending) (sym (reads.late_met).is));
}

pub host_read_refuses : Given (lent_ladder (plan_of plan_bytes) (both_fit (length reading_bytes) 42) ++ read_ladder (plan_of plan_bytes) (session_of reading_bytes) reads.late desk_good 1) 10
    × (one_of 10 (0 ∷ 1 ∷ 2 ∷ 4 ∷ 5 ∷ 6 ∷ 9 ∷ 10 ∷ 11 ∷ 12 ∷ 14 ∷ 101 ∷ 102 ∷ 103 ∷ 104 ∷ []) ≡ true)
host_read_refuses = (
  (host_read_exactly plan_bytes reading_bytes reads.late desk_good (0 ∷ []) ending 10 reading_bytes desk_good (0 ∷ []) ending host_read_met 10 (omega arith) (omega arith)).0 refl,
  host_read_numbers plan_bytes reading_bytes reads.late desk_good (0 ∷ []) ending 10 reading_bytes desk_good (0 ∷ []) ending host_read_met,
)
