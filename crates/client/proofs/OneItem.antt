-- Two reads that end done with one timestamp leave one item: Lemma 1 of the report. Under Byzantine clients a read validates: it regenerates all N
-- fragments from m of them, and compares their hashes with the cross checksum, whose hash is in the timestamp. So the timestamp is that of the item,
-- whichever m were chosen, and two items of one timestamp are one where their strings do not clash.
--   set_item           the item that a set decodes to: its bytes, its fragments are those that the set regenerates
--   done_of_item       under Byzantine clients the timestamp of a read that ends done is the one that a writer of its item makes
--   items_one          two items whose cross checksums share a hash are one, where their strings do not clash
--   done_one_item      under Byzantine clients, two reads that end done with one timestamp leave one item
--   written_one_item   under either client model, so do two that end done with the timestamp of a write
-- Assumes nothing.
use Prim.{tt}
use Prim.Native.Nat.{ℕ, zero, suc, ◌+◌, ◌*◌, ◌≤◌, ◌<◌}
use mathlib.Core.Path.{◌≡◌, refl, sym, ap, ap₂, ◌∙◌, subst}
use mathlib.Core.Bool.{Bool, true, false}
use mathlib.Core.List.{List, [], ◌∷◌, ◌++◌}
use native.Mathlib.Nat.{add-zero, zero-add, zero-mul, suc-mul}
use native.Mathlib.Omega.{arith}
use borrow.Author.Tests.{leb-true, leb-false}
use lib.Dec.{leb, lit<}
use lib.ListN.{length, length-append, get_or, get_or-eq_default}
use Rattle.octets.specs.Bytes.{part, put, over, num, be, alike, Octets}
use Rattle.octets.proofs.Laws.{part_part}
use Rattle.octets.proofs.Meaning.{octets_all, octets_append, octets_part, octets_drop, alike_is, part_add, be_part, over_more, over_whole, get_d_part}
use Rattle.sha256.specs.Sha256.{sha256}
use Rattle.terms.specs.Stamp.{stamp_at, stamp_number}
use Rattle.terms.specs.Terms.{plan_ok, record_length, slots_of, runs_of}
use Rattle.terms.specs.declared.Plan.{Plan}
use Rattle.terms.specs.declared.Slots.{Slots}
use Rattle.terms.specs.declared.Timestamp.{Timestamp}
use Rattle.terms.specs.declared.Clients.{Clients}
use Rattle.terms.specs.declared.Clients.TheVariants.{Byzantine}
use Rattle.terms.proofs.Facts.{facts}
use Rattle.terms.proofs.Places.{record_length_lem}
use Rattle.terms.proofs.Plans.{plan_is}
use Rattle.terms.proofs.Rungs.{both}
use Rattle.fragments.specs.Fragments.{Column, eval, fragment, laid, regenerated}
use Rattle.fragments.proofs.Interp.{all_map, eval_lt, newton}
use Rattle.fragments.proofs.Interp as interp
use Rattle.fragments.proofs.Lists.{to_tabulate}
use Rattle.fragments.proofs.Theorems.{fragment_evaluates, length_fragment, octets_bytes}
use Rattle.frame.specs.Frame.{head_bytes, version_of}
use Rattle.record.specs.Record.{verifier_of, cross_of, entry_of, hashes_ok}
use Rattle.record.specs.Desk.{slot_of, fragment_in, row, desk_of, stamp_made}
use Rattle.record.proofs.Desks.{part_row, cross_same, desk_same, entry_of_lem}
use Rattle.record.proofs.Records.{cross_at, start_of}
use Rattle.recover.specs.Recover.{validates, lowest, trusted, sound, decoded, collected}
use Rattle.recover.specs.Records.{cross_for, stamp_for, records_for}
use Rattle.session.specs.declared.Session.{Session}
use Rattle.session.specs.Reader.{closed}
use Rattle.client.specs.Turns.{Turn, ReadTurn, Calls}
use Rattle.client.specs.Sessions.{last_item}
use Rattle.client.specs.Repair.{Through}
use Rattle.client.specs.Held.{ReadDone}
use Rattle.client.specs.SameStamp.{NoClash, ItemsUnlike}
use Rattle.client.proofs.Bytes.{stamp_for_lem, same_verifier}
use Rattle.client.proofs.Slots.{EachBrings}
use Rattle.client.proofs.Held.{Closing, Found, run_finds}
use Rattle.client.proofs.Sets.{lowest_so, lowest_slots, lead_slot, lead_long, lead_stamp}
use Rattle.client.proofs.Repair.{through_slots, regenerated_value, long_regenerated}
use Rattle.client.proofs.ComesBack.{collected_comes_back}
use Rattle.client.proofs.SameStamp.{done_comes_back}

-- ---- blocks one after the other
length_blocks : (block : ℕ → List ℕ) (r n : ℕ) → ((k : ℕ) → length (block k) ≡ r) → length (row block n) ≡ n * r
unfolding row
length_blocks block r zero h = sym (zero-mul r)
length_blocks block r (suc n) h = length-append (row block n) (block n) ∙ omega (arith, length_blocks block r n h, h n, suc-mul n r)

octets_blocks : (block : ℕ → List ℕ) (n : ℕ) → ((k : ℕ) → k < n → Octets (block k)) → Octets (row block n)
unfolding row
octets_blocks block zero h = octets_all [] tt
octets_blocks block (suc n) h = octets_append (row block n) (block n) (octets_blocks block n (λ k l. h k (omega arith))) (h n (omega arith))

-- an item laid from fragments is these, one after the other
laid_row : (src : List ℕ) (s : Slots) (qs : List ℕ) (m : ℕ) (out : List ℕ) → ((k : ℕ) → length (regenerated src s qs k) ≡ s.fragment) → (n : ℕ)
    → laid src s qs (runs_of m s.fragment) n out ≡ over (row (regenerated src s qs) n) out
unfolding laid row over
laid_row src s qs m out h zero = refl
laid_row src s qs m out h (suc n) =
    let z : length (row (regenerated src s qs) n) ≡ 0 + n * s.fragment = omega (arith, length_blocks (regenerated src s qs) s.fragment n h) in
    ap (λ (l : List ℕ). put l (0 + n * s.fragment) (regenerated src s qs n)) (laid_row src s qs m out h n)
    ∙ over_more out (row (regenerated src s qs) n) (regenerated src s qs n) (0 + n * s.fragment) z

-- a timestamp cut out of a desk
stamp_part : (e : List ℕ) (at : ℕ) → stamp_at (part e at 40) 0 ≡ stamp_at e at
unfolding stamp_at
stamp_part e at =
    λ j. record {
      time = record { 0 = num ((part_part e at 40 0 8 (omega arith) ∙ ap (λ (x : ℕ). part e x 8) (add-zero at)) j) };
      verifier = record { 0 = num (word 8 (omega arith) j); 1 = num (word 16 (omega arith) j); 2 = num (word 24 (omega arith) j); 3 = num (word 32 (omega arith) j) };
    }
  where
    word : (k : ℕ) → k + 8 ≤ 40 → part (part e at 40) (0 + k) 8 ≡ part e (at + k) 8
    word k h = ap (λ (x : ℕ). part (part e at 40) x 8) (zero-add k) ∙ part_part e at 40 k 8 h

-- ---- the item that a set decodes to
-- a record whose hashes hold, of bytes
pub record Sure (p : Plan) (k : ℕ) (rec : List ℕ) : Type 0 where
  pub hashes : hashes_ok p k rec ≡ true
  pub octets : Octets rec

module _ (p : Plan) (u : Session) (e : List ℕ) (a : ℕ) (c : Closing (Sure p) p u e a) where
  abbrev qs : List ℕ
  qs = lowest p (closed p u e)

  -- fragment k as the set regenerates it
  abbrev piece : ℕ → List ℕ
  piece k = regenerated e (slots_of p) (lowest p (closed p u e)) k

  abbrev whole : List ℕ
  whole = row piece p.m

  long_piece : (k : ℕ) → length (piece k) ≡ p.f
  long_piece = long_regenerated p u e a c.plan c.long c.leads c.size

  pub long_item : length whole ≡ p.m * p.f
  long_item = length_blocks piece p.f p.m long_piece

  pub decoded_item : (out : List ℕ) → length out ≡ p.m * p.f → decoded p (closed p u e) e out ≡ whole
  unfolding decoded
  decoded_item out room = laid_row e (slots_of p) qs p.m out long_piece p.m ∙ over_whole whole out (room ∙ sym long_item)

  points : interp.Bytes qs
  points = let n16 = (plan_is p c.plan).n_high in all_map (λ q l. omega (arith, n16)) qs (lowest_so (Sure p) p u e a c).below

  -- the polynomial of byte position i
  abbrev poly : ℕ → List ℕ
  poly i = newton qs (λ (q : ℕ). get_or (fragment_in p e q) i 0)

  module _ (i : ℕ) (low : i < p.f) where
    through : Through p qs e i (poly i)
    through =
        through_slots p qs e (lowest_so (Sure p) p u e a c).few (lowest_so (Sure p) p u e a c).distinct points i low
        (all_map (λ q s. octets_part (slot_of p e q) (slots_of p).head p.f s.octets) qs (lowest_slots (Sure p) p u e a c))

    piece_at : (k : ℕ) → k < 256 → get_or (piece k) i 0 ≡ eval (poly i) k
    piece_at = regenerated_value p qs e (lowest_so (Sure p) p u e a c).few (lowest_so (Sure p) p u e a c).distinct points i low (poly i) through

    column : Column p.m p.f whole i (poly i)
    column =
        record {
          degree = through.degree;
          octets = through.octets;
          passes = λ q h.
              let g = facts p c.plan in
              let n16 = (plan_is p c.plan).n_high in
              sym (piece_at q (omega arith)) ∙ ap (λ (l : List ℕ). get_or l i 0) (sym (part_row piece p.f q p.m (λ j l. long_piece j) h)) ∙ get_d_part whole (q * p.f) p.f i low;
        }

  octets_piece : (k : ℕ) → k < 256 → Octets (piece k)
  octets_piece k h i = go (leb p.f i) refl
    where
      go : (b : Bool) → leb p.f i ≡ b → get_or (piece k) i 0 < 256
      go true q = rw (get_or-eq_default (piece k) 0 {n = i} (omega (arith, leb-true p.f i q, long_piece k))) (lit< tt)
      go false q =
          let l = leb-false p.f i q in
          rw (piece_at i l k h) (eval_lt (poly i) k (octets_bytes (poly i) (through i l).octets))

  pub octets_item : Octets whole
  octets_item =
      octets_blocks piece p.m (λ k l. let g = facts p c.plan in let n16 = (plan_is p c.plan).n_high in octets_piece k (omega arith))

  -- its fragments are those that the set regenerates
  pub set_item : (k : ℕ) → k < 256 → fragment p.m p.f whole k ≡ piece k
  set_item k h =
      let g = facts p c.plan in
      let n16 = (plan_is p c.plan).n_high in
      to_tabulate (fragment p.m p.f whole k) p.f (λ i. eval (poly i) k) (length_fragment p.m p.f whole long_item k)
      (λ i l. fragment_evaluates p.m p.f whole (omega arith) octets_item long_item i (poly i) (column i l) l k h)
      ∙ sym (to_tabulate (piece k) p.f (λ i. eval (poly i) k) (long_piece k) (λ i l. piece_at i l k h))

  -- under Byzantine clients, where it validates, its cross checksum is that of the set, and so its timestamp is
  module _ (byzantine : p.clients ≡ Byzantine) (valid : sound p (closed p u e) a e ≡ true) where
    validated : validates p e qs a ≡ true
    unfolding sound
    validated = sym (ap (λ (x : Clients). trusted x (validates p e qs a)) byzantine) ∙ valid

    cross_so : cross_for p whole ≡ cross_of p (slot_of p e a)
    unfolding cross_for validates
    cross_so =
        cross_same (fragment p.m p.f whole) piece p.n (λ k l. let n16 = (plan_is p c.plan).n_high in set_item k (omega arith)) p
        ∙ alike_is _ _ validated ∙ sym (cross_at p e (a * record_length p))

    -- the time in the lead's slot
    abbrev at : ℕ
    at = (stamp_at e (a * record_length p)).time.0

    stamp_so : stamp_made at (cross_for p whole) ≡ part e (a * record_length p) 40
    unfolding stamp_at hashes_ok
    stamp_so =
        let rec = slot_of p e a in
        let s = lead_slot (Sure p) p u e a c in
        let l = lead_long (Sure p) p u e a c in
        let time : be 8 (num (part e (a * record_length p) 8)) ≡ part rec 0 8 =
        ap (λ (x : List ℕ). be 8 (num x)) (sym (start_of p e (a * record_length p) 8 (omega (arith, record_length_lem p))))
        ∙ be_part rec 0 8 (omega (arith, l, record_length_lem p)) s.octets in
        let verifier : sha256 (cross_for p whole) ≡ part rec (0 + 8) 32 =
        ap sha256 cross_so ∙ alike_is (sha256 (cross_of p rec)) (verifier_of rec) (both (alike (sha256 (cross_of p rec)) (verifier_of rec)) _ s.hashes).0 in
        ap₂ ◌++◌ time verifier ∙ sym (part_add rec 0 8 32) ∙ start_of p e (a * record_length p) 40 (omega (arith, record_length_lem p))

    pub stamp_of_item : stamp_for p (closed p u e).stamp.time.0 whole ≡ (closed p u e).stamp
    unfolding stamp_for
    stamp_of_item =
        let l = lead_stamp (Sure p) p u e a c in
        ap (λ (t : Timestamp). stamp_at (stamp_made t.time.0 (cross_for p whole)) 0) l ∙ ap (λ (x : List ℕ). stamp_at x 0) stamp_so
        ∙ stamp_part e (a * record_length p) ∙ sym l

-- ---- a read that ends done
module _ (p : Plan) where
  all_sure : (s : Session) (d : List ℕ) (cs : List Turn) → Calls (ReadTurn p) s d cs → EachBrings (Sure p) p cs
  all_sure s d [] h = tt
  all_sure s d (c ∷ cs) h = (
    λ k b l q. record { hashes = q.hashes; octets = octets_drop (head_bytes (version_of c.reply)) c.reply h.0.0 },
    all_sure c.took.session c.desk_left cs h.1,
  )

  done_found : (t : Timestamp) (item : List ℕ) (r : ReadDone p t item) → Found (Sure p) p t (last_item r.first r.rest)
  done_found t item r =
      run_finds (Sure p) p r.ask r.opened r.opens r.accepted r.desk r.first r.rest r.calls
      (all_sure r.opened.session r.desk (r.first ∷ r.rest) r.calls) t r.rounds r.says

  -- what is known of its item
  pub record Known (t : Timestamp) (item : List ℕ) : Type 0 where
    pub plan : plan_ok p ≡ true
    pub octets : Octets item
    pub long : length item ≡ p.m * p.f
    pub stamped : p.clients ≡ Byzantine → stamp_for p t.time.0 item ≡ t

  pub known_item : (t : Timestamp) (item : List ℕ) → ReadDone p t item → Known t item
  known_item t item r =
      let w = done_found t item r in
      let c = w.closing in
      let same : item ≡ row (regenerated w.desk (slots_of p) (lowest p (closed p w.session w.desk))) p.m =
      sym r.left ∙ w.is ∙ decoded_item p w.session w.desk w.node c w.lent w.room in
      subst (Known t) (sym same)
      (record {
        plan = c.plan;
        octets = octets_item p w.session w.desk w.node c;
        long = long_item p w.session w.desk w.node c;
        stamped = λ z.
            subst (λ (x : Timestamp). stamp_for p x.time.0 (row (regenerated w.desk (slots_of p) (lowest p (closed p w.session w.desk))) p.m) ≡ x) (sym w.stamped)
            (stamp_of_item p w.session w.desk w.node c z w.validates);
      })

  -- UNDER BYZANTINE CLIENTS THE TIMESTAMP OF A READ THAT ENDS DONE IS THAT OF ITS ITEM, whoever wrote it: the one that a writer of the item makes at
  -- its time
  pub done_of_item : p.clients ≡ Byzantine → (t : Timestamp) (item : List ℕ) → ReadDone p t item → stamp_for p t.time.0 item ≡ t
  done_of_item byzantine t item r = (known_item t item r).stamped byzantine

-- ---- two items of one timestamp
module _ (p : Plan) (i j : List ℕ) (ok : plan_ok p ≡ true) (oi : Octets i) (oj : Octets j) (li : length i ≡ p.m * p.f) (lj : length j ≡ p.m * p.f)
    (unlike : ItemsUnlike p i j) (verifier : sha256 (cross_for p i) ≡ sha256 (cross_for p j)) where
  cross_one : cross_for p i ≡ cross_for p j
  cross_one = unlike.cross verifier

  fragment_one : (k : ℕ) → k < p.n → fragment p.m p.f i k ≡ fragment p.m p.f j k
  unfolding cross_for
  fragment_one k h =
      unlike.fragments k h
      (sym (entry_of_lem p (fragment p.m p.f i) k p.n h) ∙ ap (entry_of k) cross_one ∙ entry_of_lem p (fragment p.m p.f j) k p.n h)

  records_one : records_for p 0 i ≡ records_for p 0 j
  unfolding records_for
  records_one =
      ap (λ (c : List ℕ). desk_of (stamp_made 0 c) c (fragment p.m p.f i) p.n) cross_one
      ∙ desk_same (fragment p.m p.f i) (fragment p.m p.f j) p.n fragment_one (stamp_made 0 (cross_for p j)) (cross_for p j)

  -- TWO ITEMS WHOSE CROSS CHECKSUMS SHARE A HASH ARE ONE, where their strings do not clash
  pub items_one : i ≡ j
  items_one =
      sym (collected_comes_back p 0 i ok oi li i li) ∙ ap (λ (d : List ℕ). collected p d i) records_one ∙ collected_comes_back p 0 j ok oj lj i li

-- UNDER BYZANTINE CLIENTS TWO READS THAT END DONE WITH ONE TIMESTAMP LEAVE ONE ITEM, whichever nodes each heard, complete or repaired
pub done_one_item : (p : Plan) → p.clients ≡ Byzantine → (t : Timestamp) (i j : List ℕ) → ReadDone p t i → ReadDone p t j → ItemsUnlike p i j → i ≡ j
done_one_item p byzantine t i j r q unlike =
    let x = known_item p t i r in
    let y = known_item p t j q in
    items_one p i j x.plan x.octets y.octets x.long y.long unlike
    (same_verifier t.time.0 t.time.0 (cross_for p i) (cross_for p j)
    (sym (stamp_for_lem p t.time.0 i) ∙ ap stamp_number (x.stamped byzantine ∙ sym (y.stamped byzantine)) ∙ stamp_for_lem p t.time.0 j))

-- UNDER EITHER CLIENT MODEL, SO DO TWO THAT END DONE WITH THE TIMESTAMP OF A WRITE
pub written_one_item : (p : Plan) (time : ℕ) (item : List ℕ) → Octets item → length item ≡ p.m * p.f → (i j : List ℕ)
    (r : ReadDone p (stamp_for p time item) i) (q : ReadDone p (stamp_for p time item) j) → NoClash p time item (r.first ∷ r.rest) → NoClash p time item (q.first ∷ q.rest) → i ≡ j
written_one_item p time item bytes long i j r q n m = done_comes_back p time item bytes long i r n ∙ sym (done_comes_back p time item bytes long j q m)
