-- What honest nodes answer, call by call, each from its contract: on a fresh book, and on one that holds the record of 7.
--   time_request ..    the frames of the run, by node and ask number
--   book held          the two books of a node: fresh, and with the record of 7
--   spoke Answers      a call that replied; its contract
--   time_met write_met repair_met none_met nothing_met   on a fresh book
--   latest_met later_met previous_met again_met          on one that holds the record
--   made_so book_bytes held_bytes   the fresh book is what the making of one leaves; both are bytes
-- Assumes nothing.
use Rattle.std.specs.Prelude.{Ok}
use Prim.{tt}
use Prim.Native.Nat.{ℕ, ◌<◌}
use mathlib.Core.Path.{◌≡◌, refl, sym, ap, ◌∙◌}
use mathlib.Core.Bool.{not}
use mathlib.Core.List.{List, [], ◌∷◌, ◌++◌}
use native.Mathlib.Omega.{arith}
use lib.ListN.{replicate}
use Rattle.octets.specs.Bytes.{Octets, part, over, num, num_from, be, be_onto, alike}
use Rattle.terms.specs.Ladder.{first, all, None}
use Rattle.terms.specs.Terms.{plan_ok, counts_ok, limits_ok, column_of, record_length}
use Rattle.terms.proofs.Ladders.{is_passed}
use Rattle.terms.proofs.Small.{small, small_octets}
use Rattle.frame.specs.Frame.{time_request_kind, time_reply_kind, write_request_kind, write_reply_kind, read_latest_kind, read_previous_kind, read_reply_kind, header_in, body_of, frame, good_request, shaped, body_fits, for_party, one_of, suits, good_frame}
use Rattle.record.specs.Record.{time_zero}
use Rattle.book.specs.Records.{timed, rising, above, some, those, last_of, insert_record}
use Rattle.book.specs.Book.{records_from, header, joined, laid_as, headed, filled, good_book}
use Rattle.node.specs.Fresh.{FreshCall, freshened}
use Rattle.node.specs.Node.{NodeCall, node_ladder, served_outcome, refused, served, answered, sends, reply_to, replied, book_after, book_reply_ok, time_fails, hash_fails, other_held, no_room}
use Rattle.store.specs.History.{Call}
use Rattle.safety.proofs.Instances.Data.{plan, by_node, hash, cross, verifier, stamp_bytes, sheet, lie_verifier, lie_stamp, sheet_passes}

-- ---- frames
abbrev pub time_request : ℕ → List ℕ
time_request i = frame time_request_kind i 1 []

abbrev pub write_request : ℕ → ℕ → List ℕ
write_request i ask = frame write_request_kind i ask sheet

abbrev pub latest_request : ℕ → ℕ → List ℕ
latest_request i ask = frame read_latest_kind i ask []

abbrev pub previous_request : ℕ → List ℕ
previous_request i = frame read_previous_kind i 12 lie_stamp

abbrev pub time_reply : ℕ → ℕ → List ℕ
time_reply i t = frame time_reply_kind i 1 (be 8 t)

abbrev pub write_reply_of : ℕ → ℕ → List ℕ
write_reply_of i ask = frame write_reply_kind i ask stamp_bytes

abbrev pub sheet_reply : ℕ → ℕ → List ℕ
sheet_reply i ask = frame read_reply_kind i ask sheet

abbrev pub first_reply : ℕ → ℕ → List ℕ
first_reply i ask = frame read_reply_kind i ask []

-- ---- books with room for two records
unfoldable pub book : ℕ → List ℕ
book i = 0 ∷ 0 ∷ 0 ∷ 7 ∷ 1 ∷ 5 ∷ i ∷ 0 ∷ 1 ∷ 0 ∷ 0 ∷ replicate 402 0

unfoldable pub held : ℕ → List ℕ
held i = 0 ∷ 0 ∷ 0 ∷ 208 ∷ 1 ∷ 5 ∷ i ∷ 0 ∷ 1 ∷ 0 ∷ 1 ∷ (sheet ++ replicate 201 0)

abbrev pub buffer : List ℕ
buffer = replicate 216 0

-- a call replied with frame g, of n bytes, and left book b
abbrev pub spoke : (f g b : List ℕ) (n : ℕ) → Call
spoke f g b n = record { plan = plan; request = f; reply = buffer; answer = Ok n; book_left = b; reply_left = over g buffer }

-- the same on a book
abbrev pub Answers : (f b g b₂ : List ℕ) (n : ℕ) → Type 0
Answers f b g b₂ n = NodeCall plan f b buffer (Ok n) b₂ (over g buffer)

-- ---- no refusal applies, and this is the answer
unlocked : (f b g b₂ : List ℕ) (n : ℕ) → None (node_ladder plan f b buffer) → answered plan (header_in f) (body_of f) b buffer ≡ served_outcome (replied n) b₂ (over g buffer)
    → Answers f b g b₂ n
unfolding served
unlocked f b g b₂ n none e =
    record {
      is = sym (is_passed (node_ladder plan f b buffer) (λ (k : ℕ). served_outcome (refused k) b buffer) (answered plan (header_in f) (body_of f) b buffer) none ∙ e);
    }

-- ---- on a fresh book
pub time_met : (i : ℕ) → i < 5 → Answers (time_request i) (book i) (time_reply i 0) (book i) 23
unfolding book served first plan_ok counts_ok limits_ok column_of all record_length book_reply_ok good_book headed filled rising above timed records_from good_request good_frame suits
    shaped for_party one_of body_fits time_fails hash_fails other_held no_room some answered sends reply_to book_after insert_record last_of those over laid_as header joined num num_from
    part be be_onto
time_met = by_node (λ (i : ℕ). Answers (time_request i) (book i) (time_reply i 0) (book i) 23) (record { is = refl }) (record { is = refl }) (record { is = refl }) (record { is = refl }) (record { is = refl })

pub write_met : (i : ℕ) → i < 5 → Answers (write_request i 2) (book i) (write_reply_of i 2) (held i) 55
unfolding book held sheet stamp_bytes cross verifier hash time_zero alike first plan_ok counts_ok limits_ok column_of all record_length book_reply_ok good_book headed filled rising
    above timed records_from good_request good_frame suits shaped for_party one_of body_fits time_fails hash_fails other_held no_room some answered sends reply_to book_after insert_record
    last_of those over laid_as header joined num num_from part be be_onto
write_met =
    by_node (λ (i : ℕ). Answers (write_request i 2) (book i) (write_reply_of i 2) (held i) 55)
    (unlocked (write_request 0 2) (book 0) (write_reply_of 0 2) (held 0) 55 (refl, (refl, (refl, (refl, (refl, (ap not (sheet_passes 0 (omega arith)), (refl, (refl, tt)))))))) refl)
    (unlocked (write_request 1 2) (book 1) (write_reply_of 1 2) (held 1) 55 (refl, (refl, (refl, (refl, (refl, (ap not (sheet_passes 1 (omega arith)), (refl, (refl, tt)))))))) refl)
    (unlocked (write_request 2 2) (book 2) (write_reply_of 2 2) (held 2) 55 (refl, (refl, (refl, (refl, (refl, (ap not (sheet_passes 2 (omega arith)), (refl, (refl, tt)))))))) refl)
    (unlocked (write_request 3 2) (book 3) (write_reply_of 3 2) (held 3) 55 (refl, (refl, (refl, (refl, (refl, (ap not (sheet_passes 3 (omega arith)), (refl, (refl, tt)))))))) refl)
    (unlocked (write_request 4 2) (book 4) (write_reply_of 4 2) (held 4) 55 (refl, (refl, (refl, (refl, (refl, (ap not (sheet_passes 4 (omega arith)), (refl, (refl, tt)))))))) refl)

-- the repair at node 3, which had not heard of the record
pub repair_met : Answers (write_request 3 13) (book 3) (write_reply_of 3 13) (held 3) 55
unfolding book held sheet stamp_bytes cross verifier hash time_zero alike first plan_ok counts_ok limits_ok column_of all record_length book_reply_ok good_book headed filled rising
    above timed records_from good_request good_frame suits shaped for_party one_of body_fits time_fails hash_fails other_held no_room some answered sends reply_to book_after insert_record
    last_of those over laid_as header joined num num_from part be be_onto
repair_met = unlocked (write_request 3 13) (book 3) (write_reply_of 3 13) (held 3) 55 (refl, (refl, (refl, (refl, (refl, (ap not (sheet_passes 3 (omega arith)), (refl, (refl, tt)))))))) refl

pub none_met : Answers (latest_request 3 11) (book 3) (first_reply 3 11) (book 3) 15
unfolding book served first plan_ok counts_ok limits_ok column_of all record_length book_reply_ok good_book headed filled rising above timed records_from good_request good_frame suits
    shaped for_party one_of body_fits time_fails hash_fails other_held no_room some answered sends reply_to book_after insert_record last_of those over laid_as header joined num num_from
    part be be_onto
none_met = record { is = refl }

pub nothing_met : Answers (previous_request 3) (book 3) (first_reply 3 12) (book 3) 15
unfolding book lie_stamp lie_verifier time_zero served first plan_ok counts_ok limits_ok column_of all record_length book_reply_ok good_book headed filled rising above timed records_from
    good_request good_frame suits shaped for_party one_of body_fits time_fails hash_fails other_held no_room some answered sends reply_to book_after insert_record last_of those over laid_as
    header joined num num_from part be be_onto
nothing_met = record { is = refl }

-- ---- on one that holds the record
pub latest_met : (i : ℕ) → i < 5 → Answers (latest_request i 11) (held i) (sheet_reply i 11) (held i) 216
unfolding book held sheet stamp_bytes cross verifier hash time_zero alike served first plan_ok counts_ok limits_ok column_of all record_length book_reply_ok good_book headed filled
    rising above timed records_from good_request good_frame suits shaped for_party one_of body_fits time_fails hash_fails other_held no_room some answered sends reply_to book_after
    insert_record last_of those over laid_as header joined num num_from part be be_onto
latest_met = by_node (λ (i : ℕ). Answers (latest_request i 11) (held i) (sheet_reply i 11) (held i) 216) (record { is = refl }) (record { is = refl }) (record { is = refl }) (record { is = refl }) (record { is = refl })

pub later_met : (i : ℕ) → i < 5 → Answers (latest_request i 21) (held i) (sheet_reply i 21) (held i) 216
unfolding book held sheet stamp_bytes cross verifier hash time_zero alike served first plan_ok counts_ok limits_ok column_of all record_length book_reply_ok good_book headed filled
    rising above timed records_from good_request good_frame suits shaped for_party one_of body_fits time_fails hash_fails other_held no_room some answered sends reply_to book_after
    insert_record last_of those over laid_as header joined num num_from part be be_onto
later_met = by_node (λ (i : ℕ). Answers (latest_request i 21) (held i) (sheet_reply i 21) (held i) 216) (record { is = refl }) (record { is = refl }) (record { is = refl }) (record { is = refl }) (record { is = refl })

pub previous_met : (i : ℕ) → i < 5 → Answers (previous_request i) (held i) (sheet_reply i 12) (held i) 216
unfolding book held sheet stamp_bytes cross verifier hash time_zero alike lie_stamp lie_verifier served first plan_ok counts_ok limits_ok column_of all record_length book_reply_ok
    good_book headed filled rising above timed records_from good_request good_frame suits shaped for_party one_of body_fits time_fails hash_fails other_held no_room some answered sends
    reply_to book_after insert_record last_of those over laid_as header joined num num_from part be be_onto
previous_met = by_node (λ (i : ℕ). Answers (previous_request i) (held i) (sheet_reply i 12) (held i) 216) (record { is = refl }) (record { is = refl }) (record { is = refl }) (record { is = refl }) (record { is = refl })

-- a repeat is acknowledged, and the book stays
pub again_met : (i : ℕ) → i < 5 → Answers (write_request i 13) (held i) (write_reply_of i 13) (held i) 55
unfolding book held sheet stamp_bytes cross verifier hash time_zero alike first plan_ok counts_ok limits_ok column_of all record_length book_reply_ok good_book headed filled rising
    above timed records_from good_request good_frame suits shaped for_party one_of body_fits time_fails hash_fails other_held no_room some answered sends reply_to book_after insert_record
    last_of those over laid_as header joined num num_from part be be_onto
again_met =
    by_node (λ (i : ℕ). Answers (write_request i 13) (held i) (write_reply_of i 13) (held i) 55)
    (unlocked (write_request 0 13) (held 0) (write_reply_of 0 13) (held 0) 55 (refl, (refl, (refl, (refl, (refl, (ap not (sheet_passes 0 (omega arith)), (refl, (refl, tt)))))))) refl)
    (unlocked (write_request 1 13) (held 1) (write_reply_of 1 13) (held 1) 55 (refl, (refl, (refl, (refl, (refl, (ap not (sheet_passes 1 (omega arith)), (refl, (refl, tt)))))))) refl)
    (unlocked (write_request 2 13) (held 2) (write_reply_of 2 13) (held 2) 55 (refl, (refl, (refl, (refl, (refl, (ap not (sheet_passes 2 (omega arith)), (refl, (refl, tt)))))))) refl)
    (unlocked (write_request 3 13) (held 3) (write_reply_of 3 13) (held 3) 55 (refl, (refl, (refl, (refl, (refl, (ap not (sheet_passes 3 (omega arith)), (refl, (refl, tt)))))))) refl)
    (unlocked (write_request 4 13) (held 4) (write_reply_of 4 13) (held 4) 55 (refl, (refl, (refl, (refl, (refl, (ap not (sheet_passes 4 (omega arith)), (refl, (refl, tt)))))))) refl)

-- ---- a fresh book is what the making of one leaves
pub made_so : (i : ℕ) → i < 5 → FreshCall plan i (replicate 413 0) (Ok tt) (book i)
unfolding book freshened first plan_ok counts_ok limits_ok column_of all record_length over laid_as header joined be be_onto
made_so =
    by_node (λ (i : ℕ). FreshCall plan i (replicate 413 0) (Ok tt) (book i)) (record { is = refl }) (record { is = refl }) (record { is = refl }) (record { is = refl }) (record { is = refl })

-- ---- both are bytes
pub book_bytes : (i : ℕ) → i < 5 → Octets (book i)
unfolding book small
book_bytes =
    by_node (λ (i : ℕ). Octets (book i)) (small_octets (book 0) refl) (small_octets (book 1) refl) (small_octets (book 2) refl) (small_octets (book 3) refl) (small_octets (book 4) refl)

pub held_bytes : (i : ℕ) → i < 5 → Octets (held i)
unfolding held sheet stamp_bytes cross verifier hash small
held_bytes =
    by_node (λ (i : ℕ). Octets (held i)) (small_octets (held 0) refl) (small_octets (held 1) refl) (small_octets (held 2) refl) (small_octets (held 3) refl) (small_octets (held 4) refl)
