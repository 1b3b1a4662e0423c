-- The fill for repair. "After the fill for repair every slot k holds the set's timestamp and cross checksum and fragment
-- k of the polynomial through the m lowest, from the desk as it was".
--   through_there through_one   for each byte position there is a polynomial through the m lowest, and only one
--   repaired_record    slot k is the head of the lead's slot and fragment k regenerated from the m lowest, all from the desk as it was
--   repaired_holds     so it holds what the words say, for every k, a source's slot too
--   repaired_item      the item collected from its first m slots is the one decoded from the m lowest
-- RepairRound.antt has the calls. Assumes nothing.
use Prim.Native.Nat.{ℕ, zero, suc, ◌+◌, ◌*◌, ◌≤◌, ◌<◌}
use mathlib.Core.Path.{◌≡◌, refl, sym, ap, ap₂, ◌∙◌}
use mathlib.Core.Bool.{Bool, true, false, cond}
use mathlib.Core.List.{List}
use native.Mathlib.Omega.{arith}
use borrow.Author.Tests.{lt-ltb}
use lib.ListN.{length, get_or}
use Rattle.octets.specs.Bytes.{part, put, num, Octets}
use Rattle.octets.proofs.Laws.{length_part, part_part, slot_room, part_first, part_last}
use Rattle.octets.proofs.Meaning.{get_d_part, octets_part}
use Rattle.terms.specs.Terms.{plan_ok, record_length, slots_of, fragment_at, runs_of}
use Rattle.terms.specs.Stamp.{stamp_number}
use Rattle.terms.specs.declared.Plan.{Plan}
use Rattle.terms.proofs.Facts.{facts}
use Rattle.terms.proofs.Plans.{plan_is}
use Rattle.terms.proofs.Stamps.{stamp_at_number}
use Rattle.fragments.specs.Fragments.{All, Distinct, among, from, tabulate, eval, value, regenerated, Sources, laid}
use Rattle.fragments.proofs.Lists.{get_d_tabulate, all_at}
use Rattle.fragments.proofs.Interp.{all, all_map, Bytes, value_ext, only, newton, length_newton, bytes_newton, newton_at}
use Rattle.fragments.proofs.Laws.{among_all, among_from, itself, length_regenerated}
use Rattle.fragments.proofs.Theorems.{coefficients, octets_bytes, all_bytes}
use Rattle.record.specs.Desk.{slot_of, fragment_in}
use Rattle.terms.proofs.Places.{record_length_lem}
use Rattle.terms.specs.declared.Slots.{Slots}
use Rattle.record.proofs.Records.{start_of, stamp_at_lem}
use Rattle.record.proofs.Desks.{fragment_in_lem}
use Rattle.std.proofs.Common.{Some}
use Rattle.recover.specs.Recover.{record_from, lowest, decoded, collected, repaired}
use Rattle.recover.proofs.Filled.{filled_record}
use Rattle.session.specs.declared.Session.{Session}
use Rattle.session.specs.Reader.{closed}
use Rattle.session.proofs.Closings.{Led, led, lead_low, Lowest, lowest_are, heads_alike}
use Rattle.client.specs.Repair.{Through, Holds}

-- ---- the two parts of a record
part_start : (l : List ℕ) (h at n : ℕ) → at + n ≤ h → part l at n ≡ part (part l 0 h) at n
part_start l h at n u = let z : at ≡ 0 + at = omega arith in ap (λ (y : ℕ). part l y n) z ∙ sym (part_part l 0 h at n u)

-- ---- polynomials through the slots of some nodes
-- byte i of the fragment in slot q
fragment_byte : (p : Plan) (d : List ℕ) (q i : ℕ) → i < p.f → get_or (fragment_in p d q) i 0 ≡ get_or d (fragment_at (slots_of p) q + i) 0
unfolding record_length
fragment_byte p d q i h =
    let z : q * record_length p + ((slots_of p).head + i) ≡ fragment_at (slots_of p) q + i = omega arith in
    get_d_part (slot_of p d q) (slots_of p).head p.f i h ∙ get_d_part d (q * record_length p) (record_length p) ((slots_of p).head + i) (omega arith)
    ∙ ap (λ (n : ℕ). get_or d n 0) z

module _ (p : Plan) (qs d : List ℕ) (few : length qs ≡ p.m) (distinct : Distinct qs) (points : Bytes qs) (i : ℕ) (low : i < p.f) where
  abbrev held : ℕ → ℕ
  held q = get_or (fragment_in p d q) i 0

  -- where their fragments are bytes
  pub through_slots : All (λ (q : ℕ). Octets (fragment_in p d q)) qs → Through p qs d i (newton qs held)
  through_slots o =
      record {
        degree = omega (arith, length_newton qs held, few);
        octets = all_bytes (newton qs held) (bytes_newton qs held bytes);
        passes = newton_at qs held distinct points bytes;
      }
    where
      bytes : All (λ (q : ℕ). held q < 256) qs
      bytes = all_map (λ q h. h i) qs o

  pub through_there : Octets d → Through p qs d i (newton qs held)
  through_there o =
      through_slots (all (λ q. octets_part (slot_of p d q) (slots_of p).head p.f (octets_part d (q * record_length p) (record_length p) o)) qs)

  through_only : (cs : List ℕ) → Through p qs d i cs → (k : ℕ) → k < 256 → value qs held k ≡ eval cs k
  through_only cs t k h =
      value_ext qs held (eval cs) k (all_map (λ q e. sym e) qs t.passes)
      ∙ only qs cs k distinct points (octets_bytes cs t.octets) (omega (arith, t.degree, few)) h

  pub through_one : p.m ≤ 255 → (cs ds : List ℕ) → Through p qs d i cs → Through p qs d i ds → (k : ℕ) → get_or cs k 0 ≡ get_or ds k 0
  through_one m cs ds t u k =
      coefficients k cs ds t.octets u.octets (omega (arith, t.degree)) (omega (arith, u.degree))
      (λ x h. sym (through_only cs t x h) ∙ through_only ds u x h)

  -- byte i of a fragment regenerated from them is its value
  pub regenerated_value : (cs : List ℕ) → Through p qs d i cs → (k : ℕ) → k < 256
      → get_or (regenerated d (slots_of p) qs k) i 0 ≡ eval cs k
  unfolding regenerated
  regenerated_value cs t k h = go (among k qs) refl
    where
      r : ℕ
      r = record_length p

      go : (b : Bool) → among k qs ≡ b
          → get_or (cond b (part d (fragment_at (slots_of p) k) p.f) (tabulate p.f (λ j. value qs (λ q. get_or d (fragment_at (slots_of p) q + j) 0) k))) i 0 ≡ eval cs k
      go true e =
          get_d_part d (fragment_at (slots_of p) k) p.f i low ∙ sym (fragment_byte p d k i low)
          ∙ sym (among_all (λ (q : ℕ). eval cs q ≡ held q) k qs (all_at (λ (q : ℕ). eval cs q ≡ held q) qs t.passes) e)
      go false e =
          get_d_tabulate p.f (λ j. value qs (λ q. get_or d (fragment_at (slots_of p) q + j) 0) k) i low
          ∙ value_ext qs (λ q. get_or d (fragment_at (slots_of p) q + i) 0) held k (all (λ q. sym (fragment_byte p d q i low)) qs)
          ∙ through_only cs t k h

-- items laid from fragments that are alike are alike
laid_same : (src other : List ℕ) (slots : Slots) (qs zs : List ℕ) (to : Slots) (n : ℕ) (out : List ℕ)
    → ((k : ℕ) → k < n → regenerated src slots qs k ≡ regenerated other slots zs k) → laid src slots qs to n out ≡ laid other slots zs to n out
unfolding laid
laid_same src other slots qs zs to zero out e = refl
laid_same src other slots qs zs to (suc n) out e =
    ap₂ (λ (x y : List ℕ). put x (fragment_at to n) y) (laid_same src other slots qs zs to n out (λ k h. e k (omega arith))) (e n (omega arith))

-- ---- a round that closed: node a leads it, its set has m nodes
module _ (p : Plan) (s : Session) (d : List ℕ) (a : ℕ) (ok : plan_ok p ≡ true) (long : length d ≡ p.n * record_length p)
    (lead : (closed p s d).lead ≡ Some a) (size : p.m ≤ length (closed p s d).nodes) where
  abbrev qs : List ℕ
  qs = lowest p (closed p s d)

  -- the desk that is left
  abbrev full : List ℕ
  full = repaired p (closed p s d) a d

  is_led : Led p s d a
  is_led = led p s d a lead

  are_lowest : Lowest p s d a qs
  are_lowest = lowest_are p s d a is_led ok size

  abbrev fragment_of : ℕ → List ℕ
  fragment_of k = regenerated d (slots_of p) qs k

  -- SLOT k IS RECORD k OF THE DESK AS IT WAS: the head of the lead's slot, and fragment k regenerated from the m lowest
  pub repaired_record : (k : ℕ) → k < p.n
      → slot_of p (repaired p (closed p s d) a d) k ≡ record_from d (slots_of p) (lowest p (closed p s d)) a k
  unfolding repaired record_length
  repaired_record k h =
      filled_record d (slots_of p) qs a p.n (record_length_lem p) (omega arith) are_lowest.below are_lowest.leader are_lowest.heads k h

  long_head : length (part d (a * record_length p) (slots_of p).head) ≡ (slots_of p).head
  unfolding record_length
  long_head =
      let y = slot_room a p.n (record_length p) (length d) (lead_low p s d a is_led) (omega arith) in
      length_part d (a * record_length p) (slots_of p).head (omega (arith, y))

  pub long_regenerated : (k : ℕ) → length (regenerated d (slots_of p) (lowest p (closed p s d)) k) ≡ p.f
  unfolding record_length
  long_regenerated k = length_regenerated d (slots_of p) qs k within
    where
      within : Sources d (slots_of p) qs
      within j l =
          let y = slot_room (get_or qs j 0) p.n (record_length p) (length d) (all_at (λ (q : ℕ). q < p.n) qs are_lowest.below j l) (omega arith) in
          omega (arith, y)

  -- its head is that of every node of the set
  pub head_is : (k : ℕ) → k < p.n → (q at n : ℕ) → part d (q * record_length p) (slots_of p).head ≡ part d (a * record_length p) (slots_of p).head
      → at + n ≤ (slots_of p).head → part (slot_of p full k) at n ≡ part (slot_of p d q) at n
  head_is k h q at n w u =
      let x : List ℕ = part d (a * record_length p) (slots_of p).head in
      let new : part (slot_of p full k) 0 (slots_of p).head ≡ x =
      ap (λ (l : List ℕ). part l 0 (slots_of p).head) (repaired_record k h) ∙ part_first x (fragment_of k) (slots_of p).head long_head in
      let old : part (slot_of p d q) 0 (slots_of p).head ≡ x = start_of p d (q * record_length p) (slots_of p).head (omega (arith, record_length_lem p)) ∙ w in
      part_start (slot_of p full k) (slots_of p).head at n u ∙ ap (λ (l : List ℕ). part l at n) (new ∙ sym old) ∙ sym (part_start (slot_of p d q) (slots_of p).head at n u)

  -- its fragment is the one regenerated
  pub fragment_held : (k : ℕ) → k < p.n → fragment_in p full k ≡ fragment_of k
  fragment_held k h =
      ap (λ (l : List ℕ). part l (slots_of p).head p.f) (repaired_record k h)
      ∙ part_last (part d (a * record_length p) (slots_of p).head) (fragment_of k) (slots_of p).head p.f long_head (long_regenerated k)

  -- AFTER THE FILL EVERY SLOT k HOLDS the set's timestamp and cross checksum and fragment k of the polynomials through the m lowest, all from
  -- the desk as it was
  pub repaired_holds : Octets d → (k : ℕ) → k < p.n → Holds p (closed p s d) d (repaired p (closed p s d) a d) k
  repaired_holds o k h =
      record {
        number = ap num (head_is k h a 0 40 refl (omega arith)) ∙ stamp_at_lem p d (a * record_length p) ∙ sym (stamp_at_number d (a * record_length p) room)
            ∙ ap stamp_number (sym is_led.stamp_is);
        timestamp = all_map (λ q w. head_is k h q 0 40 w (omega arith)) (closed p s d).nodes (heads_alike p s d a is_led);
        checksum = all_map (λ q w. head_is k h q 40 (32 * p.n) w (omega arith)) (closed p s d).nodes (heads_alike p s d a is_led);
        fragment = λ i l.
            let t = through_there p qs d are_lowest.few are_lowest.distinct points i l o in
            record {
              polynomial = newton qs (λ (q : ℕ). get_or (fragment_in p d q) i 0);
              through = t;
              is = ap (λ (x : List ℕ). get_or x i 0) (fragment_held k h)
                  ∙ regenerated_value p qs d are_lowest.few are_lowest.distinct points i l (newton qs (λ (q : ℕ). get_or (fragment_in p d q) i 0)) t k small;
            };
      }
    where
      n16 : p.n ≤ 16
      n16 = (plan_is p ok).n_high

      points : Bytes qs
      points = all_map (λ q l. omega (arith, n16)) qs are_lowest.below

      small : k < 256
      small = omega (arith, n16)

      room : a * record_length p + 40 ≤ length d
      room =
          let y = slot_room a p.n (record_length p) (length d) (lead_low p s d a is_led) (omega arith) in
          omega (arith, y, record_length_lem p)

  -- THE ITEM: what is read from its first m slots is what the m lowest decode to
  pub repaired_item : (i : List ℕ) → collected p (repaired p (closed p s d) a d) i ≡ decoded p (closed p s d) d i
  unfolding collected decoded
  repaired_item i =
      laid_same full d (slots_of p) (from 0 p.m) qs (runs_of p.m p.f) p.m i
      (λ k h. own k h ∙ fragment_in_lem p full k ∙ fragment_held k (omega (arith, (facts p ok).needed_nodes)))
    where
      own : (k : ℕ) → k < p.m → regenerated full (slots_of p) (from 0 p.m) k ≡ part full (fragment_at (slots_of p) k) p.f
      own k h = sym (itself full (slots_of p) (from 0 p.m) k (sym (among_from k p.m ∙ lt-ltb k p.m h)))
