-- A record that bears the timestamp of a write, and whose hashes hold, is the record that was written, where its cross checksum and its
-- fragment share no hash with another string that was written: so a read that is done with that timestamp leaves that item. Document 01,
-- "Fragments": a timestamp is a time, then the hash of the cross checksum; the cross checksum is the hashes of the fragments.
--   record_written     the record is the one that was written
--   Fair set_written   records that pass and do not clash; a set of them of the write's timestamp is of the records that were written
--   done_comes_back    a read, from its opening, that ends done with the write's timestamp leaves the item that was written
-- Assumes nothing.
use Prim.{tt}
use Prim.Native.Nat.{ℕ, ◌+◌, ◌*◌, ◌≤◌, ◌<◌}
use mathlib.Core.Path.{◌≡◌, refl, sym, ap, ◌∙◌}
use mathlib.Core.Bool.{true}
use mathlib.Core.List.{List, [], ◌∷◌, ◌++◌, append-nil}
use native.Mathlib.Omega.{arith}
use lib.ListN.{length}
use Rattle.octets.specs.Bytes.{part, be, alike, Octets}
use Rattle.octets.proofs.Laws.{length_be, part_part, part_all, part_middle}
use Rattle.octets.proofs.Meaning.{part_add, alike_is, octets_drop}
use Rattle.sha256.specs.Sha256.{sha256}
use Rattle.sha256.proofs.Laws.{sha256_length}
use Rattle.terms.specs.Stamp.{stamp, stamp_number}
use Rattle.terms.specs.Terms.{record_length, slots_of}
use Rattle.terms.specs.declared.Plan.{Plan}
use Rattle.terms.specs.declared.Timestamp.{Timestamp}
use Rattle.terms.proofs.Rungs.{both}
use Rattle.fragments.specs.Fragments.{All, fragment}
use Rattle.fragments.proofs.Interp.{all_map, all_map2}
use Rattle.record.specs.Record.{stamp_of, verifier_of, cross_of, fragment_of, entry_of, fragment_hash, hashes_ok}
use Rattle.record.specs.Desk.{slot_of, stamp_made}
use Rattle.terms.proofs.Places.{record_length_lem}
use Rattle.frame.specs.Frame.{head_bytes, version_of}
use Rattle.record.proofs.Desks.{entry_of_lem}
use Rattle.session.specs.declared.Session.{Session}
use Rattle.recover.specs.Recover.{lowest, decoded}
use Rattle.session.specs.Reader.{closed}
use Rattle.recover.specs.Records.{cross_for, stamp_for, records_for}
use Rattle.recover.proofs.Records.{record_is}
use Rattle.client.specs.Turns.{Turn, ReadTurn, Calls}
use Rattle.client.specs.Sessions.{last_item}
use Rattle.client.specs.SameStamp.{Unlike, NoClash}
use Rattle.client.specs.Held.{ReadDone}
use Rattle.client.proofs.Bytes.{made_stamp, stamp_for_lem}
use Rattle.client.proofs.Slots.{long_slot, EachBrings}
use Rattle.client.proofs.Held.{Closing, Found, run_finds}
use Rattle.client.proofs.Sets.{lowest_so, lowest_slots, lead_slot, lead_long, lead_number, lowest_stamps}
use Rattle.client.proofs.ComesBack.{slots_come_back}

verifier_made : (p : Plan) (t : ℕ) (i rec : List ℕ) → stamp_of rec ≡ stamp_made t (cross_for p i) → verifier_of rec ≡ sha256 (cross_for p i)
verifier_made p t i rec stamped =
    sym (part_part rec 0 40 8 32 (omega arith)) ∙ ap (λ (l : List ℕ). part l 8 32) stamped
    ∙ part_middle (stamp_made t (cross_for p i)) (be 8 t) (sha256 (cross_for p i)) [] 8 32 (ap (λ (l : List ℕ). be 8 t ++ l) (sym (append-nil (sha256 (cross_for p i)))))
    (length_be 8 t) (sha256_length (cross_for p i))

module _ (p : Plan) (t : ℕ) (i : List ℕ) (whole : length i ≡ p.m * p.f) (z : ℕ) (low : z < p.n) (rec : List ℕ) (long : length rec ≡ record_length p)
    (stamped : stamp_of rec ≡ stamp_made t (cross_for p i)) (hashed : hashes_ok p z rec ≡ true) (unlike : Unlike p i z rec) where
  checks : (alike (sha256 (cross_of p rec)) (verifier_of rec) ≡ true) × (alike (fragment_hash p z (fragment_of p rec)) (entry_of z (cross_of p rec)) ≡ true)
  unfolding hashes_ok
  checks = both (alike (sha256 (cross_of p rec)) (verifier_of rec)) _ hashed

  cross_is : cross_of p rec ≡ cross_for p i
  cross_is = unlike.cross (alike_is (sha256 (cross_of p rec)) (verifier_of rec) checks.0 ∙ verifier_made p t i rec stamped)

  fragment_is : fragment_of p rec ≡ fragment p.m p.f i z
  unfolding cross_for
  fragment_is =
      unlike.fragments
      (alike_is (fragment_hash p z (fragment_of p rec)) (entry_of z (cross_of p rec)) checks.1 ∙ ap (entry_of z) cross_is
      ∙ entry_of_lem p (fragment p.m p.f i) z p.n low)

  parts_are : rec ≡ stamp_of rec ++ (cross_of p rec ++ fragment_of p rec)
  parts_are =
      sym (part_all rec) ∙ ap (λ (n : ℕ). part rec 0 n) (long ∙ record_length_lem p ∙ sum) ∙ part_add rec 0 40 (32 * p.n + p.f)
      ∙ ap (λ (l : List ℕ). stamp_of rec ++ l) (part_add rec 40 (32 * p.n) p.f)
    where
      sum : (slots_of p).head + p.f ≡ 40 + (32 * p.n + p.f)
      sum = omega arith

  -- THE RECORD IS THE ONE THAT WAS WRITTEN FOR NODE z
  pub record_written : rec ≡ slot_of p (records_for p t i) z
  record_written =
      parts_are ∙ (λ j. stamped j ++ (cross_is j ++ fragment_is j)) ∙ sym (record_is p t i whole z low)

-- what slot z of a desk holds: the record bears the write's timestamp, refusal 6 does not apply to it, no clash
record Bears (p : Plan) (t : ℕ) (i d : List ℕ) (z : ℕ) : Type 0 where
  low : z < p.n
  stamped : stamp_of (slot_of p d z) ≡ stamp_made t (cross_for p i)
  hashed : hashes_ok p z (slot_of p d z) ≡ true
  unlike : Unlike p i z (slot_of p d z)

-- slots that bear the write's timestamp, whose hashes hold, hold the records that were written
slots_written : (p : Plan) (t : ℕ) (i : List ℕ) → length i ≡ p.m * p.f → (d nodes : List ℕ) → length d ≡ p.n * record_length p → All (Bears p t i d) nodes
    → All (λ (z : ℕ). slot_of p d z ≡ slot_of p (records_for p t i) z) nodes
slots_written p t i whole d nodes long held =
    all_map (λ z b. record_written p t i whole z b.low (slot_of p d z) (long_slot p d z long b.low) b.stamped b.hashed b.unlike) nodes held

-- ---- a read that ends done with the timestamp of a write
module _ (p : Plan) (t : ℕ) (i : List ℕ) (bytes : Octets i) (whole : length i ≡ p.m * p.f) where
  -- a record whose hashes hold and, under the write's timestamp, do not clash with those of what was written
  pub record Fair (k : ℕ) (rec : List ℕ) : Type 0 where
    pub hashes : hashes_ok p k rec ≡ true
    pub octets : Octets rec
    pub unlike : stamp_of rec ≡ stamp_made t (cross_for p i) → Unlike p i k rec

  pub all_fair : (s : Session) (d : List ℕ) (cs : List Turn) → Calls (ReadTurn p) s d cs → NoClash p t i cs → EachBrings Fair p cs
  all_fair s d [] h n = tt
  all_fair s d (c ∷ cs) h n = (
    λ k b l q. record { hashes = q.hashes; octets = octets_drop (head_bytes (version_of c.reply)) c.reply h.0.0; unlike = n.0 b },
    all_fair c.took.session c.desk_left cs h.1 n.1,
  )

  -- one of the write's timestamp, as a number, has the cross checksum that was written
  pub fair_cross : (k : ℕ) (rec : List ℕ) → Fair k rec → stamp rec ≡ stamp_number (stamp_for p t i) → 40 ≤ length rec → cross_of p rec ≡ cross_for p i
  unfolding hashes_ok
  fair_cross k rec f e l =
      let s = made_stamp t (cross_for p i) rec f.octets l (e ∙ stamp_for_lem p t i) in
      let h = alike_is (sha256 (cross_of p rec)) (verifier_of rec) (both (alike (sha256 (cross_of p rec)) (verifier_of rec)) _ f.hashes).0 in
      (f.unlike s).cross (h ∙ verifier_made p t i rec s)

  -- a set of the write's timestamp is of the records that were written
  pub set_written : (u : Session) (d : List ℕ) (a : ℕ) → Closing Fair p u d a → stamp_number (closed p u d).stamp ≡ stamp_number (stamp_for p t i)
      → All (λ (z : ℕ). slot_of p d z ≡ slot_of p (records_for p t i) z) (lowest p (closed p u d))
  set_written u d a c e =
      let qs = lowest p (closed p u d) in
      let lead : stamp_of (slot_of p d a) ≡ stamp_made t (cross_for p i) =
      made_stamp t (cross_for p i) (slot_of p d a) (lead_slot Fair p u d a c).octets (omega (arith, lead_long Fair p u d a c, record_length_lem p))
      (sym (lead_number Fair p u d a c) ∙ e ∙ stamp_for_lem p t i) in
      let stamps : All (λ (z : ℕ). stamp_of (slot_of p d z) ≡ stamp_made t (cross_for p i)) qs = all_map (λ z h. h ∙ lead) qs (lowest_stamps Fair p u d a c) in
      let slots : All (λ (z : ℕ). (z < p.n) × Fair z (slot_of p d z)) qs =
      all_map2 (λ z h k. (h, k)) qs (lowest_so Fair p u d a c).below (lowest_slots Fair p u d a c) in
      let held : All (Bears p t i d) qs =
      all_map2 (λ z h k. record { low = h.0; stamped = k; hashed = h.1.hashes; unlike = h.1.unlike k }) qs slots stamps in
      slots_written p t i whole d qs c.long held

  -- an item that was decoded from a set of the write's timestamp, as a number, is the one that was written
  pub found_written : (stamp : Timestamp) (item : List ℕ) → stamp_number stamp ≡ stamp_number (stamp_for p t i) → Found Fair p stamp item → item ≡ i
  unfolding decoded
  found_written stamp item e w =
      let c = w.closing in
      let d = w.desk in
      let l = lowest_so Fair p w.session d w.node c in
      w.is
      ∙ slots_come_back p t i c.plan bytes whole w.lent w.room d (lowest p (closed p w.session d)) l.distinct l.below l.few
      (set_written w.session d w.node c (ap stamp_number (sym w.stamped) ∙ e))

  -- A READ THAT ENDS DONE WITH THE TIMESTAMP OF A WRITE LEAVES THE ITEM THAT WAS WRITTEN, whether its set was complete or was repaired
  pub done_comes_back : (out : List ℕ) (r : ReadDone p (stamp_for p t i) out) → NoClash p t i (r.first ∷ r.rest) → out ≡ i
  done_comes_back out r n =
      sym r.left
      ∙ found_written (stamp_for p t i) (last_item r.first r.rest) refl
      (run_finds Fair p r.ask r.opened r.opens r.accepted r.desk r.first r.rest r.calls
      (all_fair r.opened.session r.desk (r.first ∷ r.rest) r.calls n) (stamp_for p t i) r.rounds r.says)
