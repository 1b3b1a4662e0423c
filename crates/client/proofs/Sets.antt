-- The set that a read round closed on, whose slots are of a kind P: its m lowest are so, and of one timestamp, which is that of the close.
-- Assumes nothing.
--   lowest_so lowest_slots lowest_stamps   the m lowest: how they lie, what their slots are, their timestamps
--   lead_slot lead_long lead_stamp lead_number   the slot of the lead
--   member set_counts  the slot of each node of the set; how many they are
use Prim.Native.Nat.{ℕ, ◌+◌, ◌*◌, ◌≤◌, ◌<◌}
use mathlib.Core.Path.{◌≡◌, refl, sym, ap, ◌∙◌}
use mathlib.Core.Bool.{true}
use mathlib.Core.List.{List}
use native.Mathlib.Omega.{arith}
use lib.ListN.{length}
use Rattle.octets.specs.Bytes.{part, num}
use Rattle.octets.proofs.Laws.{part_part, slot_room}
use Rattle.octets.proofs.Meaning.{alike_is}
use Rattle.terms.specs.Stamp.{stamp, stamp_at, stamp_number}
use Rattle.terms.specs.Terms.{record_length, slots_of}
use Rattle.terms.specs.declared.Plan.{Plan}
use Rattle.terms.proofs.Places.{record_length_lem}
use Rattle.terms.proofs.Stamps.{stamp_at_number}
use Rattle.fragments.specs.Fragments.{All}
use Rattle.fragments.proofs.Interp.{all_map, all_map2}
use Rattle.fragments.proofs.Lists.{all_take}
use Rattle.record.specs.Record.{stamp_of}
use Rattle.record.specs.Desk.{slot_of}
use Rattle.record.proofs.Records.{stamp_at_lem}
use Rattle.rounds.specs.declared.Heard.{Heard}
use Rattle.rounds.specs.declared.Heard.TheVariants.{Unheard, First, Record}
use Rattle.rounds.specs.Rounds.{mark_of, joins_of, set_of}
use Rattle.rounds.specs.Numbers.{number_of}
use Rattle.rounds.proofs.Closes.{candidate, members_are}
use Rattle.rounds.proofs.Numbers.{set_number}
use Rattle.recover.specs.Recover.{lowest}
use Rattle.session.specs.declared.Session.{Session}
use Rattle.session.specs.Reader.{closed}
use Rattle.session.proofs.Closings.{Led, led, lead_low, Lowest, lowest_are}
use Rattle.client.proofs.Slots.{long_slot}
use Rattle.client.proofs.Held.{Closing}

module _ (P : ℕ → List ℕ → Type 0) (p : Plan) (u : Session) (e : List ℕ) (a : ℕ) (c : Closing P p u e a) where
  leading : Led p u e a
  leading = led p u e a c.leads

  pub lowest_so : Lowest p u e a (lowest p (closed p u e))
  lowest_so = lowest_are p u e a leading c.plan c.size

  -- its nodes are marked record, with the head of the lead's slot
  joined : (z : ℕ) (m : Heard) → joins_of e (slots_of p) a z m ≡ true → (m ≡ Record) × (part e (z * record_length p) (slots_of p).head ≡ part e (a * record_length p) (slots_of p).head)
  unfolding joins_of
  joined z Record j = (refl, alike_is _ _ j)
  joined z First j = let y : ◌≡◌ {A = ℕ} 0 1 = cc in absurd (omega arith)
  joined z Unheard j = let y : ◌≡◌ {A = ℕ} 0 1 = cc in absurd (omega arith)

  marked : All (λ (z : ℕ). mark_of u.marks z ≡ Record) (closed p u e).nodes
  marked =
      rw leading.nodes_are
      (all_map (λ z j. (joined z (mark_of u.marks z) j).0) (set_of u.marks e (slots_of p) a p.n) (members_are u.marks e (slots_of p) a p.n).joined)

  pub lowest_slots : All (λ (z : ℕ). P z (slot_of p e z)) (lowest p (closed p u e))
  lowest_slots =
      all_map2 (λ z l m. c.slots z l m) (lowest p (closed p u e)) lowest_so.below
      (all_take (λ (z : ℕ). mark_of u.marks z ≡ Record) p.m (closed p u e).nodes marked)

  pub lead_slot : P a (slot_of p e a)
  lead_slot = c.slots a (lead_low p u e a leading) (candidate u.marks e (slots_of p) p.n a leading.leads).marked

  lead_fits : a * record_length p + record_length p ≤ length e
  lead_fits = slot_room a p.n (record_length p) (length e) (lead_low p u e a leading) (omega (arith, c.long))

  pub lead_long : length (slot_of p e a) ≡ record_length p
  lead_long = long_slot p e a c.long (lead_low p u e a leading)

  -- the timestamp of the close is that of the lead's slot, and of each of the m lowest
  pub lead_stamp : (closed p u e).stamp ≡ stamp_at e (a * record_length p)
  lead_stamp = leading.stamp_is

  pub lead_number : stamp_number (closed p u e).stamp ≡ stamp (slot_of p e a)
  lead_number =
      ap stamp_number lead_stamp ∙ stamp_at_number e (a * record_length p) (omega (arith, lead_fits, record_length_lem p)) ∙ sym (stamp_at_lem p e (a * record_length p))

  pub lowest_stamps : All (λ (z : ℕ). stamp_of (slot_of p e z) ≡ stamp_of (slot_of p e a)) (lowest p (closed p u e))
  lowest_stamps = all_map (λ z h. start z ∙ ap (λ (l : List ℕ). part l 0 40) h ∙ sym (start a)) (lowest p (closed p u e)) lowest_so.heads
    where
      start : (z : ℕ) → stamp_of (slot_of p e z) ≡ part (part e (z * record_length p) (slots_of p).head) 0 40
      start z =
          part_part e (z * record_length p) (record_length p) 0 40 (omega (arith, record_length_lem p))
          ∙ sym (part_part e (z * record_length p) (slots_of p).head 0 40 (omega arith))

  -- each node of the set, and how many they are
  pub member : (k : ℕ) → k < p.n → joins_of e (slots_of p) a k (mark_of u.marks k) ≡ true → P k (slot_of p e k) × (stamp (slot_of p e k) ≡ stamp_number (closed p u e).stamp)
  member k l h =
      let j = joined k (mark_of u.marks k) h in
      (c.slots k l j.0, stamp_at_lem p e (k * record_length p) ∙ ap num (first_40 k ∙ ap (λ (x : List ℕ). part x 0 40) j.1 ∙ sym (first_40 a)) ∙ sym (stamp_at_lem p e (a * record_length p)) ∙ sym lead_number)
    where
      first_40 : (z : ℕ) → part e (z * record_length p) 40 ≡ part (part e (z * record_length p) (slots_of p).head) 0 40
      first_40 z =
          let v : z * record_length p ≡ z * record_length p + 0 = omega arith in
          ap (λ (x : ℕ). part e x 40) v ∙ sym (part_part e (z * record_length p) (slots_of p).head 0 40 (omega arith))

  pub set_counts : length (closed p u e).nodes ≡ number_of (λ (k : ℕ). joins_of e (slots_of p) a k (mark_of u.marks k)) p.n
  set_counts = ap length leading.nodes_are ∙ set_number u.marks e (slots_of p) a p.n
