-- ONE CLOSED READ ROUND DECIDES AS FIGURE 3 (round_decides): candidate, classification, validation, repair, abort, next round, cut at W.
-- Assumes nothing.
use Prim.Native.Nat.{ℕ, ◌+◌, ◌*◌, ◌≤◌, ◌<◌}
use mathlib.Core.Path.{◌≡◌, refl, sym, ap, ap₂, ◌∙◌, subst}
use mathlib.Core.Bool.{Bool, true, false, cond}
use mathlib.Core.List.{List, [], ◌∷◌}
use native.Mathlib.Nat.{add-zero}
use native.Mathlib.Omega.{arith}
use borrow.Author.Tests.{le-leb, lt-leb, leb-true, leb-false, ne_eqb}
use lib.Dec.{leb}
use lib.ListN.{length, get_or, take}
use Rattle.octets.specs.Bytes.{part, num, alike, Octets}
use Rattle.octets.proofs.Laws.{part_part, slot_room, length_part, part_first, part_last}
use Rattle.sha256.specs.Sha256.{sha256}
use Rattle.terms.specs.Stamp.{stamp, time, stamp_at, stamp_number, zero_stamp, then}
use Rattle.terms.specs.Terms.{plan_ok, record_length, complete_at, incomplete_at, class_of, verdict_of, unsure, decided, slots_of, thresholds_of}
use Rattle.terms.specs.declared.Plan.{Plan}
use Rattle.terms.specs.declared.Member.{Member}
use Rattle.terms.specs.declared.Member.TheVariants.{Repairable, NonRepair}
use Rattle.terms.specs.declared.Clients.{Clients}
use Rattle.terms.specs.declared.Clients.TheVariants.{Crash, Byzantine}
use Rattle.terms.specs.declared.Class.{Class}
use Rattle.terms.specs.declared.Class.TheVariants as class
use Rattle.terms.specs.declared.Verdict.{Verdict}
use Rattle.terms.specs.declared.Verdict.TheVariants as verdict
use Rattle.terms.proofs.Facts.{facts, is_complete, is_incomplete, is_unclassifiable, decided_is}
use Rattle.terms.proofs.Stamps.{stamp_at_number}
use Rattle.terms.proofs.Picks.{either}
use Rattle.fragments.specs.Fragments.{All, regenerated, Sources}
use Rattle.fragments.proofs.Lists.{all_take, all_at}
use Rattle.fragments.proofs.Laws.{length_regenerated}
use Rattle.record.specs.Record.{cross_of, fragment_of, fragment_hash, prefix_of}
use Rattle.record.specs.Desk.{slot_of, fragment_in, cross_made, row}
use Rattle.terms.proofs.Places.{record_length_lem}
use Rattle.record.proofs.Records.{cross_at}
use Rattle.rounds.specs.declared.Heard.TheVariants.{Record}
use Rattle.std.proofs.Common.{Option, None, Some}
use Rattle.rounds.specs.Rounds.{heard_count, mark_of, rest_unheard, slot_stamp, lead_of, set_of, Closed, close_with}
use Rattle.rounds.proofs.Laws.{lead_room}
use Rattle.rounds.proofs.Closes.{candidate, no_candidate, members_are}
use Rattle.recover.specs.Recover.{validates, record_from, refilled, trusted, sound, decoded, repaired as refill}
use Rattle.recover.proofs.Filled.{length_filled, filled_record}
use Rattle.session.specs.declared.Session.{Session}
use Rattle.standing.specs.Standing.{replies}
use Rattle.session.specs.Session.{ended_of, storing_of, still_open, done, never_written}
use Rattle.session.specs.Reader.{Outcome, outcome, failing, act_on, act_for, acted, closed}
use Rattle.session.proofs.Closings.{Led, led, Lowest, lowest_are, heads_alike}
use Rattle.report.specs.Triple.{Triple, Message, null, each, strung}
use Rattle.report.specs.Figure2.{make_cross_checksum, do_write}
use Rattle.report.specs.Figure3.{read_previous, Decision, returned, repaired, abort, reading, ts_candidate, candidate_set, cc_of, of_first_triple, validate_candidate_set, repairs, choose, loop}
use Rattle.report.specs.Ours.{family, lies, is_repairable as repairable, generated, generated_by, decoded_from, bearing, responses, triple_of}
use Rattle.report.specs.Decides.{Repairs, Reads, Decides, OneCross}
use Rattle.report.proofs.Lists.{take_each, length_each, strung_row, strung_same, listed_same}
use Rattle.report.proofs.Triples.{stamp_low}
use Rattle.report.proofs.Sets.{size_is, slot_stamp_lem, max_is, all_first, heads_first, in_responses, candidate_set_is}
use Rattle.report.proofs.Erasure.{generated_is, laid_is, request, requests_decode}

abbrev message : ℕ → Triple → Message
message k x = record { S = k; Response = x }

-- what a decision comes to, by the candidate set and the candidate's timestamp
loop_is : (p : Plan) (R cs : List Message) (T : ℕ) → ts_candidate R ≡ T → candidate_set R ≡ cs → loop (family p) R ≡ choose (family p) cs T
unfolding loop
loop_is p R cs T e g = λ i. choose (family p) (g i) (e i)

-- a read round of s that is closed: N-t replies or more, of records of times 1 or more, where one timestamp is one cross checksum
pub record Full (p : Plan) (s : Session) (d i : List ℕ) : Type 0 where
  pub plan : plan_ok p ≡ true
  pub desk : length d ≡ p.n * record_length p
  pub octets : Octets d
  pub item : length i ≡ p.m * p.f
  pub enough : replies p ≤ heard_count s.marks
  pub rest : rest_unheard s.marks p.n ≡ true
  pub times : (k : ℕ) → k < p.n → mark_of s.marks k ≡ Record → 1 ≤ time (slot_of p d k)
  pub cross : OneCross (responses p s.marks d p.n)

module _ (p : Plan) (s : Session) (d i : List ℕ) (u : Full p s d i) where
  abbrev set : List Message
  set = responses p s.marks d p.n

  abbrev close : Option ℕ → Closed
  close l = close_with s.marks d (slots_of p) p.member (thresholds_of p) l

  -- ---- the first triple
  module _ (e : lead_of s.marks d (slots_of p) p.n ≡ None) where
    zero_is : ts_candidate set ≡ 0
    unfolding ts_candidate
    zero_is = max_is p s.marks d p.n ∙ rw e

    all_are : candidate_set set ≡ set
    unfolding candidate_set
    all_are = rw zero_is (all_first p s.marks d p.n (no_candidate s.marks d (slots_of p) p.n e))

    big : complete_at p ≤ length set
    big =
        let f = facts p u.plan in
        omega (arith, size_is p s.marks d u.rest, u.enough)

    first_so : of_first_triple set ≡ true
    first_so =
        let f = facts p u.plan in
        let a = all_first p s.marks d p.n (no_candidate s.marks d (slots_of p) p.n e) in
        subst (λ (l : List Message). of_first_triple l ≡ true) a
        (heads_first p s.marks d set (omega (arith, ap length a, big)))

    valid_so : validate_candidate_set (family p) set ≡ true
    unfolding validate_candidate_set
    valid_so = rw first_so (either (λ (b : Bool). b ≡ true) (lies p.clients) refl refl)

    first_decides : loop (family p) set ≡ returned 0 null
    unfolding decoded_from
    first_decides = loop_is p set set 0 zero_is all_are ∙ rw (le-leb (complete_at p) (length set) big, valid_so, first_so)

    first_round : Decides p s d i (acted p s (close None) d i) (loop (family p) set)
    unfolding close_with act_for stamp_number then
    first_round =
        subst (Decides p s d i (outcome (never_written s.round.number) (ended_of s) d i)) (sym first_decides)
        (record { stamp = zero_stamp; number = refl; never = λ z. (refl, refl); value = λ z. absurd (omega arith) })

  -- ---- a record of node a
  module _ (a : ℕ) (e : lead_of s.marks d (slots_of p) p.n ≡ Some a) where
    abbrev h : ℕ
    h = (slots_of p).head

    abbrev r : ℕ
    r = record_length p

    abbrev Z : List ℕ
    Z = set_of s.marks d (slots_of p) a p.n

    abbrev qs : List ℕ
    qs = take p.m Z

    abbrev T : ℕ
    T = slot_stamp d (slots_of p) a

    abbrev cs : List Message
    cs = each (bearing p d) Z

    ha : a < p.n
    ha = lead_room s.marks d (slots_of p) p.n a (lead_of s.marks d (slots_of p) p.n) refl e

    low : 1 ≤ T
    low = subst (λ (x : ℕ). 1 ≤ x) (slot_stamp_lem p s.marks d a) (stamp_low (slot_of p d a) (u.times a ha (candidate s.marks d (slots_of p) p.n a e).marked))

    stamp_cand : ts_candidate set ≡ T
    unfolding ts_candidate
    stamp_cand = max_is p s.marks d p.n ∙ rw e

    set_cand : candidate_set set ≡ cs
    unfolding candidate_set
    set_cand =
        candidate_set_is p s.marks d u.desk u.octets a (ts_candidate set) ha stamp_cand (omega (arith, stamp_cand, low))
        (λ k hk m z. u.cross (bearing p d k) (bearing p d a) (in_responses p s.marks d p.n k hk m)
        (in_responses p s.marks d p.n a ha (candidate s.marks d (slots_of p) p.n a e).marked)
        (slot_stamp_lem p s.marks d k ∙ z ∙ sym (slot_stamp_lem p s.marks d a)))
        p.n (omega arith)

    -- ---- what the set is known to be
    led_so : Led p s d a
    led_so = led p s d a (unfold close_with in ap (λ (l : Option ℕ). (close l).lead) e)

    heads : All (λ (q : ℕ). part d (q * r) h ≡ part d (a * r) h) Z
    heads = subst (λ (l : List ℕ). All (λ (q : ℕ). part d (q * r) h ≡ part d (a * r) h) l) led_so.nodes_are (heads_alike p s d a led_so)

    below : All (λ (q : ℕ). q < p.n) qs
    below = all_take (λ (q : ℕ). q < p.n) p.m Z (members_are s.marks d (slots_of p) a p.n).below

    src : Sources d (slots_of p) qs
    src k l =
        let b : get_or qs k 0 < p.n = all_at (λ (q : ℕ). q < p.n) qs below k l in
        omega (arith, slot_room (get_or qs k 0) p.n r (length d) b (omega (arith, u.desk)), record_length_lem p)

    generated_so : (k : ℕ) → generated p cs k ≡ regenerated d (slots_of p) qs k
    generated_so k = ap (λ (l : List Message). generated_by p.f l k) (take_each p.m (bearing p d) Z) ∙ generated_is p d qs k

    -- the cross checksum and the timestamp by the head of a slot
    head_cross : (x : List ℕ) (at : ℕ) → part (part x at h) 40 (32 * p.n) ≡ part x (at + 40) (32 * p.n)
    head_cross x at = part_part x at h 40 (32 * p.n) (omega arith)

    head_stamp : (x : List ℕ) (at : ℕ) → part (part x at h) 0 40 ≡ part x at 40
    head_stamp x at = part_part x at h 0 40 (omega arith) ∙ ap (λ (k : ℕ). part x k 40) (add-zero at)

    cross_a : cross_of p (slot_of p d a) ≡ part (part d (a * r) h) 40 (32 * p.n)
    cross_a = cross_at p d (a * r) ∙ sym (head_cross d (a * r))

    cross_so : (l : List ℕ) → 1 ≤ length l → All (λ (q : ℕ). part d (q * r) h ≡ part d (a * r) h) l → cc_of (each (bearing p d) l) ≡ cross_of p (slot_of p d a)
    unfolding cc_of each
    cross_so [] k al = absurd (omega arith)
    cross_so (q ∷ l) k al = cross_at p d (q * r) ∙ sym (head_cross d (q * r)) ∙ ap (λ (x : List ℕ). part x 40 (32 * p.n)) al.0 ∙ sym cross_a

    not_first : (l : List ℕ) → All (λ (q : ℕ). part d (q * r) h ≡ part d (a * r) h) l → of_first_triple (each (bearing p d) l) ≡ false
    unfolding of_first_triple each slot_stamp
    not_first [] al = refl
    not_first (q ∷ l) al =
        let z : stamp (slot_of p d q) ≡ T =
        slot_stamp_lem p s.marks d q ∙ ap num (sym (head_stamp d (q * r)) ∙ ap (λ (x : List ℕ). part x 0 40) al.0 ∙ head_stamp d (a * r)) in
        ne_eqb (stamp (slot_of p d q)) 0 (λ w. omega (arith, z, w, low))

    -- ---- validation
    valid_is : 1 ≤ length Z → validate_candidate_set (family p) cs ≡ sound p (close (Some a)) a d
    unfolding validate_candidate_set sound validates make_cross_checksum cross_made fragment_hash prefix_of close_with
    valid_is k = rw (not_first Z heads) (go p.clients)
      where
        made : strung (λ (j : ℕ). sha256 (generated p cs j)) p.n ≡ row (λ (j : ℕ). sha256 (regenerated d (slots_of p) qs j)) p.n
        made =
            strung_same (λ (j : ℕ). sha256 (generated p cs j)) (λ (j : ℕ). sha256 (regenerated d (slots_of p) qs j)) p.n (λ j hj. ap sha256 (generated_so j))
            ∙ strung_row (λ (j : ℕ). sha256 (regenerated d (slots_of p) qs j)) p.n

        go : (c : Clients) → cond (lies c) (alike (strung (λ (j : ℕ). sha256 (generated p cs j)) p.n) (cc_of cs)) true
            ≡ trusted c (alike (row (λ (j : ℕ). sha256 (regenerated d (slots_of p) qs j)) p.n) (part d (a * r + 40) (32 * p.n)))
        go Crash = refl
        go Byzantine = ap₂ alike made (cross_so Z k heads ∙ cross_at p d (a * r))

    -- ---- decoding
    decode_is : decoded_from p cs ≡ decoded p (close (Some a)) d i
    unfolding decoded_from decoded close_with
    decode_is =
        rw (not_first Z heads)
        (strung_same (generated p cs) (regenerated d (slots_of p) qs) p.m (λ k hk. generated_so k)
        ∙ sym (laid_is d (slots_of p) qs (λ k. length_regenerated d (slots_of p) qs k src) p.m i u.item))

    number_is : stamp_number (stamp_at d (a * r)) ≡ T
    unfolding slot_stamp
    number_is =
        stamp_at_number d (a * r) (omega (arith, slot_room a p.n r (length d) ha (omega (arith, u.desk)), record_length_lem p))

    -- ---- repair
    abbrev filled : List ℕ
    filled = refilled d (slots_of p) qs a p.n

    abbrev rec : ℕ → List ℕ
    rec k = record_from d (slots_of p) qs a k

    source_heads : All (λ (q : ℕ). part d (q * r) h ≡ part d (a * r) h) qs
    source_heads = all_take (λ (q : ℕ). part d (q * r) h ≡ part d (a * r) h) p.m Z heads

    some : p.m ≤ length Z → 1 ≤ length Z
    some z = omega (arith, (facts p u.plan).some_needed, z)

    -- the m lowest, where there are as many
    lowest_so : p.m ≤ length Z → Lowest p s d a qs
    lowest_so z =
        subst (λ (l : List ℕ). Lowest p s d a (take p.m l)) led_so.nodes_are
        (lowest_are p s d a led_so u.plan (omega (arith, ap length led_so.nodes_are, z)))

    long_head : length (part d (a * r) h) ≡ h
    long_head = length_part d (a * r) h (omega (arith, slot_room a p.n r (length d) ha (omega (arith, u.desk)), record_length_lem p))

    rec_head : (k : ℕ) → part (rec k) 0 h ≡ part d (a * r) h
    rec_head k = part_first (part d (a * r) h) (regenerated d (slots_of p) qs k) h long_head

    rec_rest : (k : ℕ) → part (rec k) h p.f ≡ regenerated d (slots_of p) qs k
    rec_rest k = part_last (part d (a * r) h) (regenerated d (slots_of p) qs k) h p.f long_head (length_regenerated d (slots_of p) qs k src)

    -- slot k is the request to node k
    sends_one : p.m ≤ length Z → (k : ℕ) → k < p.n → bearing p filled k ≡ request (generated p cs) T (cc_of cs) k
    unfolding slot_stamp
    sends_one z k hk =
        ap (λ (x : List ℕ). message k (triple_of p x))
        (filled_record d (slots_of p) qs a p.n (record_length_lem p) (omega (arith, u.desk)) below (lowest_so z).leader source_heads k hk)
        ∙ (λ j. message k (record { ts = stamped j; D = body j; CC = crossed j }))
      where
        stamped : stamp (rec k) ≡ T
        stamped = ap num (sym (head_stamp (rec k) 0) ∙ ap (λ (x : List ℕ). part x 0 40) (rec_head k) ∙ head_stamp d (a * r))

        body : fragment_of p (rec k) ≡ generated p cs k
        body = rec_rest k ∙ sym (generated_so k)

        crossed : cross_of p (rec k) ≡ cc_of cs
        crossed = sym (head_cross (rec k) 0) ∙ ap (λ (x : List ℕ). part x 40 (32 * p.n)) (rec_head k) ∙ sym cross_a ∙ sym (cross_so Z (some z) heads)

    repair_is : p.m ≤ length Z → Repairs p s i (outcome still_open (storing_of s (stamp_at d (a * r))) filled i)
        (repairs (family p) cs T) T (decoded_from p (repairs (family p) cs T))
    unfolding do_write
    repair_is z =
        let f = facts p u.plan in
        record {
          stamp = stamp_at d (a * r);
          desk = filled;
          is = refl;
          number = number_is;
          sends = listed_same (bearing p filled) (request (generated p cs) T (cc_of cs)) p.n (sends_one z);
          holds =
              strung_same (fragment_in p filled) (generated p cs) p.m (λ k hk. ap (λ (x : Message). x.Response.D) (sends_one z k (omega arith)))
              ∙ sym (requests_decode (generated p cs) T (cc_of cs) p low f.needed_nodes);
          size = length_filled d (slots_of p) qs a p.n (record_length_lem p) (omega (arith, u.desk)) below (lowest_so z).leader ∙ u.desk;
        }

    -- ---- the next round, or the cut
    fails : Reads p s d i (failing p s (stamp_at d (a * r)) d i) T
    unfolding failing
    fails =
        record {
          stamp = stamp_at d (a * r);
          number = number_is;
          next = λ l. rw (lt-leb p.w s.round.number l);
          cut = λ l. rw (le-leb p.w s.round.number l);
        }

    -- ---- the decision, by the class of the set
    abbrev act : Verdict → Outcome
    act v = act_on v p s (close (Some a)) a d i

    abbrev Goal : Verdict → Decision → Type 0
    Goal v x = Decides p s d i (act v) x

    abbrev valid : Bool
    valid = validate_candidate_set (family p) cs

    whole : 1 ≤ length Z → Goal verdict.Complete (cond valid (returned T (decoded_from p cs)) (reading (read_previous T)))
    unfolding act_on close_with
    whole z = go (sound p (close (Some a)) a d) (valid_is z)
      where
        go : (t : Bool) → valid ≡ t → Decides p s d i
            (cond t (outcome (done (stamp_at d (a * r)) s.round.number) (ended_of s) d (decoded p (close (Some a)) d i)) (failing p s (stamp_at d (a * r)) d i))
            (cond valid (returned T (decoded_from p cs)) (reading (read_previous T)))
        go true v =
            rw v (record {
              stamp = stamp_at d (a * r);
              number = number_is;
              never = λ w. absurd (omega (arith, w, low));
              value = λ w. λ j. outcome (done (stamp_at d (a * r)) s.round.number) (ended_of s) d (sym decode_is j);
            })
        go false v = rw v fails

    half : p.m ≤ length Z → Goal verdict.Repair
        (cond valid (repaired (repairs (family p) cs T) T (decoded_from p (repairs (family p) cs T))) (reading (read_previous T)))
    unfolding act_on close_with refill
    half z = go (sound p (close (Some a)) a d) (valid_is (some z))
      where
        go : (t : Bool) → valid ≡ t → Decides p s d i
            (cond t (outcome still_open (storing_of s (stamp_at d (a * r))) filled i) (failing p s (stamp_at d (a * r)) d i))
            (cond valid (repaired (repairs (family p) cs T) T (decoded_from p (repairs (family p) cs T))) (reading (read_previous T)))
        go true v = rw v (repair_is z)
        go false v = rw v fails

    abbrev size : ℕ
    size = length Z

    abbrev chosen : Decision
    chosen = choose (family p) cs T

    verdict_is : (x : Class) → x ≡ class_of (complete_at p) (incomplete_at p) size → verdict_of p.member x ≡ decided p.member (complete_at p) (incomplete_at p) size
    verdict_is x c = decided_is p.member p.member (complete_at p) (incomplete_at p) size x x c refl refl

    unsure_goal : (m : Member) → (m ≡ Repairable → p.m ≤ size) → Goal (unsure m)
        (cond (repairable m) (cond valid (repaired (repairs (family p) cs T) T (decoded_from p (repairs (family p) cs T))) (reading (read_previous T))) abort)
    unfolding act_on
    unsure_goal Repairable z = half (z refl)
    unsure_goal NonRepair z = refl

    by_size : Goal (decided p.member (complete_at p) (incomplete_at p) size) chosen
    by_size = rw (length_each (bearing p d) Z) (go (leb (complete_at p) size) refl (leb (incomplete_at p) size) refl)
      where
        go : (t : Bool) → leb (complete_at p) size ≡ t → (v : Bool) → leb (incomplete_at p) size ≡ v
            → Goal (decided p.member (complete_at p) (incomplete_at p) size)
            (cond t (cond valid (returned T (decoded_from p cs)) (reading (read_previous T)))
            (cond v (cond (repairable p.member) (cond valid (repaired (repairs (family p) cs T) T (decoded_from p (repairs (family p) cs T))) (reading (read_previous T))) abort)
            (reading (read_previous T))))
        go true c v b =
            let f = facts p u.plan in
            let l = leb-true (complete_at p) size c in
            subst (λ (x : Verdict). Goal x (cond valid (returned T (decoded_from p cs)) (reading (read_previous T))))
            (verdict_is class.Complete (is_complete (complete_at p) (incomplete_at p) size l)) (whole (omega arith))
        go false c true b =
            let f = facts p u.plan in
            let l = leb-true (incomplete_at p) size b in
            subst (λ (x : Verdict). Goal x (cond (repairable p.member) (cond valid (repaired (repairs (family p) cs T) T (decoded_from p (repairs (family p) cs T))) (reading (read_previous T))) abort))
            (verdict_is class.Unclassifiable (is_unclassifiable (complete_at p) (incomplete_at p) size (leb-false (complete_at p) size c) l)) (unsure_goal p.member (λ q. omega (arith, f.low_decodes q, l)))
        go false c false b =
            subst (λ (x : Verdict). Goal x (reading (read_previous T)))
            (verdict_is class.Incomplete (is_incomplete (complete_at p) (incomplete_at p) size (leb-false (complete_at p) size c) (leb-false (incomplete_at p) size b)))
            (unfold act_on close_with in fails)

    led_round : Decides p s d i (acted p s (close (Some a)) d i) (loop (family p) set)
    unfolding close_with act_for
    led_round = subst (Decides p s d i (act (decided p.member (complete_at p) (incomplete_at p) size))) (sym (loop_is p set cs T stamp_cand set_cand)) by_size

  -- WHAT A CLOSED READ ROUND COMES TO IS WHAT FIGURE 3 DECIDES OF ITS RESPONSE SET
  pub round_decides : Decides p s d i (acted p s (closed p s d) d i) (loop (family p) set)
  round_decides = go (lead_of s.marks d (slots_of p) p.n) refl
    where
      go : (l : Option ℕ) → lead_of s.marks d (slots_of p) p.n ≡ l → Decides p s d i (acted p s (close l) d i) (loop (family p) set)
      go None e = first_round e
      go (Some a) e = led_round a e
