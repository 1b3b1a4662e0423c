-- What our writer puts in the desk, our reader decodes. Document 01, "Fragments": "Any m fragments give the item." "The client": the reply
-- that ends the time round fills the desk with all N records, and slot k goes to node k; a read decodes from the m lowest-numbered of its
-- set, after a repair round from the desk's first m slots. records_for (session/specs/Writer.antt) is the writer's desk; decoded and
-- collected (session/specs/Reader.antt) are the reader's item, written over the whole of a buffer `out` of m·F bytes.
--   slots_come_back        any desk that holds, in the slots of any m nodes, the records written for them
--   block_comes_back       the writer's desk itself, from any m of its N slots
--   collected_comes_back   so from its first m slots
--   read_comes_back repair_comes_back   a call that says done, in a read round and in a repair round, leaves the item that was written
--   pair_comes_back        a computed case
-- Assumes nothing.
use Prim.{tt}
use Prim.Native.Nat.{ℕ, ◌+◌, ◌*◌, ◌<◌}
use mathlib.Core.Path.{◌≡◌, refl, sym, ap, ◌∙◌}
use mathlib.Core.Bool.{true, false}
use mathlib.Core.List.{List, [], ◌∷◌, ◌++◌, append_assoc, append-nil}
use mathlib.Core.Logic.{inl, inr}
use native.Mathlib.Omega.{arith}
use lib.ListN.{length, length-append}
use Rattle.octets.specs.Bytes.{part, Octets}
use Rattle.octets.proofs.Laws.{length_part, length_be, part_middle, slot_fits}
use Rattle.sha256.proofs.Laws.{sha256_length}
use Rattle.terms.specs.Ladder.{all}
use Rattle.terms.specs.Terms.{plan_ok, counts_ok, limits_ok, column_of, record_length, complete_at, incomplete_at, slots_of, fragment_at, runs_of, thresholds_of}
use Rattle.terms.specs.declared.Plan.{Plan}
use Rattle.terms.specs.declared.Timestamp.{Timestamp}
use Rattle.terms.specs.declared.Member.TheVariants.{Repairable}
use Rattle.terms.specs.declared.Clients.TheVariants.{Byzantine}
use Rattle.terms.proofs.Plans.{plan_is}
use Rattle.terms.proofs.Facts.{facts}
use Rattle.terms.proofs.Rungs.{clash}
use Rattle.fragments.specs.Fragments.{All, Distinct, from, fragment, laid}
use Rattle.fragments.proofs.Interp.{all_map, all_map2}
use Rattle.fragments.proofs.Laws.{length_from}
use Rattle.fragments.proofs.Theorems.{all_from, distinct_from, any_item}
use Rattle.record.specs.Record.{cross_of, fragment_of}
use Rattle.record.specs.Desk.{slot_of, fragment_in, stamp_made}
use Rattle.terms.proofs.Places.{record_length_lem}
use Rattle.record.proofs.Desks.{length_cross, fragment_in_lem}
use Rattle.std.proofs.Common.{Option}
use Rattle.rounds.specs.Rounds.{close_with}
use Rattle.session.specs.declared.Session.{Session}
use Rattle.session.specs.declared.Took.{Took}
use Rattle.standing.specs.Standing.{is_storing}
use Rattle.session.specs.Session.{done, said_of}
use Rattle.recover.specs.Recover.{lowest, decoded, collected}
use Rattle.session.specs.Reader.{Outcome, closed, ReadReplyCall}
use Rattle.recover.specs.Records.{cross_for, records_for}
use Rattle.recover.proofs.Records.{length_records, record_is}
use Rattle.session.proofs.Closings.{lowest_are, led, sized_whole}
use Rattle.client.specs.Endings.{after_reply, desk_after, size, WhenDone, DoneByRead, DoneByRepair}
use Rattle.terms.proofs.Small.{small, small_octets}
use Rattle.client.proofs.Reading as reading
use Rattle.client.proofs.Endings.{read_done}

-- an item of m·F bytes, written at time t under an accepted plan, and a buffer of m·F bytes to read it into
module _ (p : Plan) (t : ℕ) (i : List ℕ) (ok : plan_ok p ≡ true) (bytes : Octets i) (whole : length i ≡ p.m * p.f)
    (out : List ℕ) (room : length out ≡ p.m * p.f) where
  -- slot k of the writer's desk holds fragment k
  pub written_in : (k : ℕ) → k < p.n → fragment_in p (records_for p t i) k ≡ fragment p.m p.f i k
  written_in k h =
      let s = stamp_made t (cross_for p i) in
      let c = cross_for p i in
      let x = fragment p.m p.f i k in
      let e : slot_of p (records_for p t i) k ≡ s ++ (c ++ x) = record_is p t i whole k h in
      let ls : length s ≡ 40 = simp (length-append, length_be, sha256_length) in
      let lc : length c ≡ 32 * p.n = unfold cross_for in length_cross p (fragment p.m p.f i) p.n in
      let lr : length (slot_of p (records_for p t i) k) ≡ record_length p =
      length_part (records_for p t i) (k * record_length p) (record_length p) (omega (arith, slot_fits k p.n (record_length p) h, length_records p t i whole)) in
      let all : length (s ++ (c ++ x)) ≡ length s + (length c + length x) = simp length-append in
      let lx : length x ≡ p.f = omega (arith, record_length_lem p, ap length e) in
      part_middle (slot_of p (records_for p t i) k) (s ++ c) x [] (slots_of p).head p.f
      (e ∙ sym (append_assoc s c x) ∙ ap (λ (l : List ℕ). (s ++ c) ++ l) (sym (append-nil x))) (length-append s c ∙ (omega arith)) lx

  -- and the cross checksum
  pub written_cross : (k : ℕ) → k < p.n → cross_of p (slot_of p (records_for p t i) k) ≡ cross_for p i
  written_cross k h =
      part_middle (slot_of p (records_for p t i) k) (stamp_made t (cross_for p i)) (cross_for p i) (fragment p.m p.f i k) 40 (32 * p.n)
      (record_is p t i whole k h) (simp (length-append, length_be, sha256_length)) (unfold cross_for in length_cross p (fragment p.m p.f i) p.n)

  -- A DESK THAT HOLDS, in the slots of any m different nodes below N, the records that were written for these nodes GIVES THE ITEM, whatever
  -- its other slots hold
  pub slots_come_back : (d nodes : List ℕ) → Distinct nodes → All (λ (z : ℕ). z < p.n) nodes → length nodes ≡ p.m
      → All (λ (z : ℕ). slot_of p d z ≡ slot_of p (records_for p t i) z) nodes
      → laid d (slots_of p) nodes (runs_of p.m p.f) p.m out ≡ i
  slots_come_back d nodes apart below few held =
      let q = plan_is p ok in
      let g = facts p ok in
      any_item p.m (slots_of p) i (omega arith) bytes whole d nodes apart (all_map (λ z h. omega arith) nodes below) few
      (all_map2 place nodes below held) out room
    where
      place : (z : ℕ) → z < p.n → slot_of p d z ≡ slot_of p (records_for p t i) z
          → part d (fragment_at (slots_of p) z) p.f ≡ fragment p.m p.f i z
      place z h e = fragment_in_lem p d z ∙ ap (fragment_of p) e ∙ written_in z h

  -- THE WRITER'S DESK GIVES THE ITEM, from any m of its N slots
  pub block_comes_back : (nodes : List ℕ) → Distinct nodes → All (λ (z : ℕ). z < p.n) nodes → length nodes ≡ p.m
      → laid (records_for p t i) (slots_of p) nodes (runs_of p.m p.f) p.m out ≡ i
  block_comes_back nodes apart below few =
      slots_come_back (records_for p t i) nodes apart below few (all_map (λ z h. refl) nodes below)

  -- so from its first m slots, as after a repair round
  pub collected_comes_back : collected p (records_for p t i) out ≡ i
  unfolding collected
  collected_comes_back =
      let g = facts p ok in
      block_comes_back (from 0 p.m) (distinct_from 0 p.m) (all_from 0 p.m (λ k l u. omega arith)) (length_from 0 p.m)

  -- ---- a reply call that says done
  module _ (s : Session) (f d : List ℕ) (took : Took) (d₂ i₂ : List ℕ) (call : ReadReplyCall p s f d out took d₂ i₂) (stamp : Timestamp) (n : ℕ)
      (says : said_of took.answer ≡ done stamp n) where
    -- the session and the desk with this reply, and the close of the round
    abbrev u : Session
    u = after_reply p s f

    abbrev e : List ℕ
    e = desk_after p f d

    abbrev set : List ℕ
    set = lowest p (closed p u e)

    by_read : DoneByRead p s f d (length out) stamp n → All (λ (z : ℕ). slot_of p e z ≡ slot_of p (records_for p t i) z) set → i₂ ≡ i
    unfolding close_with decoded
    by_read w held =
        let a = w.node in
        let v = reading.whole_is p.member (complete_at p) (incomplete_at p) (size p s f d a) w.full in
        let k = led p u e a (ap (λ (x : Option ℕ). (close_with u.marks e (slots_of p) p.member (thresholds_of p) x).lead) w.candidate) in
        let l = lowest_are p u e a k ok (sized_whole p u e a k ok (k.verdict_is ∙ v)) in
        ap (λ (o : Outcome). o.item)
        (call.is ∙ reading.closes_read p s f d out w.closes.accepted w.closes.asks w.closes.enough ∙ reading.is_done p s f d out a w.candidate v w.validated)
        ∙ slots_come_back e set l.distinct l.below l.few held

    by_repair : DoneByRepair p s f d (length out) stamp n → i₂ ≡ collected p d out
    by_repair w = ap (λ (o : Outcome). o.item) (call.is ∙ reading.ends_repair p s f d out w.accepted w.stores w.enough)

    -- A READ THAT IS DONE IN A READ ROUND LEAVES THE ITEM THAT WAS WRITTEN, where the m lowest-numbered of its set gave the records that were
    -- written for them
    pub read_comes_back : is_storing s.round.stage ≡ false → All (λ (z : ℕ). slot_of p e z ≡ slot_of p (records_for p t i) z) set → i₂ ≡ i
    read_comes_back asks held = go ((read_done p s f d out took d₂ i₂ call stamp n).0 says)
      where
        go : WhenDone p s f d (length out) stamp n → i₂ ≡ i
        go (inl w) = by_read w held
        go (inr w) = absurd (clash (sym w.stores ∙ asks))

    -- SO DOES ONE THAT IS DONE BY A REPAIR, where the desk's first m slots hold such records (those that the set's m lowest give: repair_opens)
    pub repair_comes_back : is_storing s.round.stage ≡ true → All (λ (z : ℕ). slot_of p d z ≡ slot_of p (records_for p t i) z) (from 0 p.m) → i₂ ≡ i
    repair_comes_back stores held = go ((read_done p s f d out took d₂ i₂ call stamp n).0 says)
      where
        go : WhenDone p s f d (length out) stamp n → i₂ ≡ i
        go (inl w) = absurd (clash (sym stores ∙ w.closes.asks))
        go (inr w) =
            let g = facts p ok in
            by_repair w
            ∙ (unfold collected in slots_come_back d (from 0 p.m) (distinct_from 0 p.m) (all_from 0 p.m (λ k l h. omega arith)) (length_from 0 p.m) held)

-- ---- the hypotheses can be met: with document 01's first plan and F1, the item 00 80 written at time 1 comes back from nodes 4 and 2, whose
-- fragments are 36 and 1b
pub plan : Plan
plan = record { n = 5; t = 1; b = 1; q = 3; m = 2; f = 1; member = Repairable; clients = Byzantine; w = 1 }

pub pair : List ℕ
pair = 0 ∷ 128 ∷ []

accepted_plan : plan_ok plan ≡ true
unfolding plan plan_ok counts_ok limits_ok column_of all
accepted_plan = refl

pair_small : small pair ≡ true
unfolding pair small
pair_small = refl

pub pair_comes_back : laid (records_for plan 1 pair) (slots_of plan) (4 ∷ 2 ∷ []) (runs_of 2 1) 2 (0 ∷ 0 ∷ []) ≡ pair
unfolding plan pair
pair_comes_back =
    block_comes_back plan 1 pair accepted_plan (small_octets pair pair_small) refl (0 ∷ 0 ∷ []) refl (4 ∷ 2 ∷ []) (((λ z. omega arith), tt), (tt, tt))
    (omega arith, (omega arith, tt)) refl
