-- The hypotheses of the theorems on read rounds can be met. Two nodes, replication, one byte (N2 t0 b0 Q1 m1 F1, R = 105), a read that has
-- just opened, a desk of zeros; node 0 answers with the first triple, node 1 with its record of a save at time 3: the two replies in both
-- orders. Assumes nothing.
use Rattle.std.specs.Prelude.{Ok}
use Prim.{tt}
use mathlib.Core.Path.{◌≡◌, refl, ap, ◌∙◌}
use mathlib.Core.Bool.{Bool, true, false, not}
use mathlib.Core.List.{List, [], ◌∷◌, ◌++◌, append_assoc}
use Prim.Native.Nat.{ℕ, ◌-◌, ◌*◌, ◌≤◌, ◌<◌}
use native.Mathlib.Omega.{arith}
use borrow.Author.Tests.{eq-eqb, ne_eqb}
use lib.ListN.{length, replicate, length-replicate, get_or-replicate}
use lib.Dec.{eqb}
use Rattle.octets.specs.Bytes.{part, num, num_from, be, be_onto}
use Rattle.octets.proofs.Laws.{length_be, length_part, part_middle, slot_room}
use Rattle.octets.proofs.Meaning.{num_be}
use Rattle.sha256.specs.Sha256.{sha256}
use Rattle.terms.specs.Ladder.{first, all, ◌and◌}
use Rattle.terms.specs.Stamp.{stamp, time}
use Rattle.terms.specs.Terms.{plan_ok, counts_ok, limits_ok, column_of, record_length}
use Rattle.terms.specs.declared.Plan.{Plan}
use Rattle.terms.specs.declared.Ask.{Ask}
use Rattle.terms.specs.declared.Member.TheVariants.{Repairable}
use Rattle.terms.specs.declared.Clients.TheVariants.{Byzantine}
use Rattle.terms.proofs.Picks.{neither}
use Rattle.fragments.specs.Fragments.{fragment}
use Rattle.frame.specs.Frame.{kind_of, frame_node, ask_of, body_of, frame, good_reply, body_fits, for_party, one_of, header_of, read_reply_kind}
use Rattle.frame.specs.declared.Party.TheVariants.{Client}
use Rattle.frame.proofs.Frames.{reply_back}
use Rattle.frame.proofs.Built as built
use Rattle.record.specs.Record.{hashes_ok, time_zero}
use Rattle.record.specs.Desk.{slot_of}
use Rattle.std.proofs.Common.{None}
use Rattle.rounds.specs.declared.Heard.{Heard}
use Rattle.rounds.specs.Rounds.{bit_of, unheard, under_of}
use Rattle.session.specs.declared.Session.{Session}
use Rattle.standing.specs.declared.Operation.TheVariants.{Read}
use Rattle.session.specs.declared.opening.Opened.{Opened}
use Rattle.session.specs.Opening.{fresh_of, open_with, OpenCall}
use Rattle.standing.specs.Standing.{lengths_ok, ask_in, awaits_in}
use Rattle.session.specs.Reply.{awaited, is_heard, bears}
use Rattle.recover.specs.Records.{cross_for, records_for}
use Rattle.session.proofs.Made.{in_range_facts}
use Rattle.session.proofs.Openings.{accepted_in_range}
use Rattle.recover.proofs.Records.{length_records, record_is, record_passes}
use Rattle.client.specs.Round.{round_at, ending, said_in_turn, RoundOpens, Accepted, Acceptable, SameReplies}
use Rattle.client.proofs.Round.Swaps.{swap, times_kept}
use Rattle.client.proofs.Round.Reply.{Ready, acceptable}
use Rattle.client.proofs.Round.AnyOrder as theorems

pub plan : Plan
plan = record { n = 2; t = 0; b = 0; q = 1; m = 1; f = 1; member = Repairable; clients = Byzantine; w = 1 }

accepted_plan : plan_ok plan ≡ true
unfolding plan plan_ok counts_ok limits_ok column_of all
accepted_plan = refl

r_is : record_length plan ≡ 105
unfolding plan record_length
r_is = refl

-- ---- the session that the opening call hands out, a desk and an item
pub ask : Ask
ask = record { 0 = 5 }

pub session : Session
session = fresh_of Read 1 None ask

pub opening : Opened
opening = record { session = session; answer = (Ok tt) }

pub opened_so : OpenCall Read plan ask opening
unfolding opening session ask open_with first plan
opened_so = record { is = rw accepted_plan }

pub desk : List ℕ
desk = replicate 210 0

pub item : List ℕ
item = 0 ∷ []

pub opens : RoundOpens session
unfolding session
opens = record { round = refl; marks = refl }

ready : Ready plan session desk item
unfolding session opening desk item lengths_ok plan
ready =
    let k = in_range_facts plan session desk (accepted_in_range Read plan ask opening opened_so refl desk) refl in
    record { plan = accepted_plan; lengths = rw (length-replicate {A = ℕ} 210 0, r_is); round = refl; standing = k.0; slots = k.1 }

-- ---- a reply of a node: the first triple, or a record
pub reply : ℕ → List ℕ → List ℕ
reply node body = frame read_reply_kind node 5 body

module _ (node : ℕ) (body : List ℕ) (low : node < 2) (fits : body_fits plan 7 (length body) ≡ true) (short : length body ≤ 105) where
  node_is : frame_node (reply node body) ≡ node
  unfolding reply
  node_is = built.node_frame (header_of read_reply_kind node 5) body (omega arith)

  body_is : body_of (reply node body) ≡ body
  unfolding reply
  body_is = built.body_frame (header_of read_reply_kind node 5) body

  good : good_reply plan (reply node body) ≡ true
  unfolding reply for_party one_of plan
  good =
      reply_back plan (reply node body)
      (record { frame_is = built.built_good (header_of read_reply_kind node 5) body Client plan refl (omega arith) (omega arith) refl fits; node_low = rw node_is low })

  awaits : awaited session (reply node body) ≡ true
  unfolding reply session ask awaited ask_in awaits_in
  awaits =
      rw (
        eq-eqb (ask_of (reply node body)) 5 (built.ask_frame (header_of read_reply_kind node 5) body (omega arith)),
        eq-eqb (kind_of (reply node body)) read_reply_kind (built.kind_frame (header_of read_reply_kind node 5) body (omega arith)),
      )

  below : (t : Bool) → (t and not (under_of session.round.bound (stamp (body_of (reply node body))))) ≡ false
  unfolding under_of session
  below true = refl
  below false = refl

  is_fresh : is_heard session (frame_node (reply node body)) ≡ false
  unfolding is_heard session
  is_fresh = ap (λ (m : Heard). eqb (bit_of m) 1) (get_or-replicate 16 (frame_node (reply node body)) unheard unheard (omega (arith, node_is)))

  -- it is accepted where it bears no record, and where it bears one of a time that is not 0 and whose hashes hold
  accepted_so : (t : Bool) → bears plan (reply node body) ≡ t → (t and time_zero body) ≡ false → (t and not (hashes_ok plan node body)) ≡ false
      → Acceptable plan session desk item (reply node body)
  accepted_so t e z h =
      acceptable plan session (reply node body) desk item (record {
        ready = ready;
        fits = record { good = good; await = awaits; timed = rw (e, body_is) z; hashed = rw (e, body_is, node_is) h; under = below (bears plan (reply node body)) };
        fresh = is_fresh;
      })

-- ---- node 0 has nothing, node 1 a record of time 3
pub saved : List ℕ
saved = 7 ∷ []

pub record_one : List ℕ
record_one = slot_of plan (records_for plan 3 saved) 1

length_saved : length saved ≡ plan.m * plan.f
unfolding saved plan
length_saved = refl

length_one : length record_one ≡ 105
unfolding record_one plan
length_one =
    let l = length_records plan 3 saved length_saved in
    length_part (records_for plan 3 saved) (1 * record_length plan) (record_length plan)
    (slot_room 1 2 (record_length plan) (length (records_for plan 3 saved)) (omega arith) (omega arith)) ∙ r_is

timed_one : time_zero record_one ≡ false
unfolding time_zero record_one plan
timed_one =
    let c : List ℕ = cross_for plan saved in
    let x : List ℕ = fragment plan.m plan.f saved 1 in
    let e : slot_of plan (records_for plan 3 saved) 1 ≡ [] ++ (be 8 3 ++ (sha256 c ++ (c ++ x))) =
    record_is plan 3 saved length_saved 1 (omega arith) ∙ append_assoc (be 8 3) (sha256 c) (c ++ x) in
    let t : time (slot_of plan (records_for plan 3 saved) 1) ≡ 3 =
    ap num (part_middle (slot_of plan (records_for plan 3 saved) 1) [] (be 8 3) (sha256 c ++ (c ++ x)) 0 8 e refl (length_be 8 3)) ∙ num_be 8 3 (omega arith) in
    ne_eqb (time (slot_of plan (records_for plan 3 saved) 1)) 0 (λ z. omega (arith, t))

hashed_one : hashes_ok plan 1 record_one ≡ true
unfolding record_one plan
hashed_one = record_passes plan 3 saved length_saved 1 (omega arith)

fits_none : body_fits plan 7 (length {A = ℕ} []) ≡ true
unfolding body_fits plan record_length
fits_none = refl

fits_one : body_fits plan 7 (length record_one) ≡ true
unfolding body_fits plan record_length
fits_one = rw length_one

first_none : Acceptable plan session desk item (reply 0 [])
unfolding bears num num_from part reply be be_onto record_length plan
first_none = accepted_so 0 [] (omega arith) fits_none (omega arith) false refl refl refl

then_one : Acceptable plan session desk item (reply 1 record_one)
then_one =
    accepted_so 1 record_one (omega arith) fits_one (omega (arith, length_one)) (bears plan (reply 1 record_one)) refl
    (rw timed_one (neither (bears plan (reply 1 record_one)))) (rw hashed_one (neither (bears plan (reply 1 record_one))))

-- ---- the two replies, in both orders
pub replies : List (List ℕ)
replies = reply 0 [] ∷ reply 1 record_one ∷ []

pub turned : List (List ℕ)
turned = reply 1 record_one ∷ reply 0 [] ∷ []

pub same_replies : SameReplies replies turned
unfolding replies turned
same_replies z = times_kept z (swap (reply 0 []) (reply 1 record_one))

enough : length replies ≡ plan.n - plan.t
unfolding replies plan
enough = refl

pub accepted : Accepted (said_in_turn plan (round_at session desk item) replies)
unfolding replies
accepted =
    theorems.in_turn plan session desk item opens replies (omega (arith, enough)) (first_none, (then_one, tt))
    ((apart, tt), (tt, tt))
  where
    apart : frame_node (reply 1 record_one) ≡ frame_node (reply 0 []) → ⊥
    apart e =
        let a = node_is 0 [] (omega arith) fits_none (omega arith) in
        let b = node_is 1 record_one (omega arith) fits_one (omega (arith, length_one)) in
        omega (arith, e, a, b)

-- the third demand holds of them, and the round closes
pub same_ending : ending plan (round_at session desk item) turned ≡ ending plan (round_at session desk item) replies
same_ending = theorems.any_order_read plan session desk item opens replies turned (omega (arith, enough)) accepted same_replies

pub closed_so : theorems.Closes plan session desk item opens replies
closed_so = theorems.closes plan session desk item opens replies accepted_plan enough accepted
