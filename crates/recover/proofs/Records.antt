-- The N records of an item: that they are what is made, how long they are, and that they pass the checks. Assumes nothing.
use mathlib.Core.Path.{◌≡◌, sym, ap, ◌∙◌}
use mathlib.Core.Bool.{true}
use mathlib.Core.List.{List, ◌++◌}
use Prim.Native.Nat.{ℕ, ◌*◌, ◌<◌}
use native.Mathlib.Omega.{arith}
use lib.ListN.{length, length-append}
use Rattle.octets.specs.Bytes.{part, put, be}
use Rattle.octets.proofs.Laws.{part_put_same, length_be}
use Rattle.sha256.proofs.Laws.{sha256_length}
use Rattle.terms.specs.Terms.{record_length, slots_of}
use Rattle.terms.specs.Stamp.{stamp_at, stamp_number}
use Rattle.terms.specs.declared.Plan.{Plan}
use Rattle.terms.specs.declared.Slots.{Slots}
use Rattle.terms.specs.declared.Timestamp.{Timestamp}
use Rattle.terms.proofs.Places.{record_length_lem}
use Rattle.fragments.specs.Fragments.{fragment, encoded}
use Rattle.fragments.proofs.Theorems.{encoded_at, length_fragment}
use Rattle.record.specs.Record.{hashes_ok}
use Rattle.record.specs.Desk.{slot_of, fragment_in, cross_made, desk_of, stamp_made}
use Rattle.record.proofs.Desks.{sources, fragment_in_lem, length_cross, cross_same, desk_same, length_desk, slot_is, made_ok}
use Rattle.recover.specs.Records.{cross_for, stamp_for, records_for}

-- ---- from its fragments in the slots
module _ (p : Plan) (slots : Slots) (es : slots ≡ slots_of p) (i d₀ d₁ c₀ c₁ : List ℕ) (li : length i ≡ p.m * p.f) (ld : length d₀ ≡ p.n * record_length p)
    (e : d₁ ≡ encoded p.m i slots slots.n d₀) (g : c₁ ≡ put c₀ 0 (cross_made p (fragment_in p d₁) p.n)) where
  held : (k : ℕ) → k < p.n → fragment_in p d₁ k ≡ fragment p.m p.f i k
  held k h =
      let z : d₁ ≡ encoded p.m i (slots_of p) p.n d₀ = e ∙ rw es in
      sym (fragment_in_lem p d₁ k)
      ∙ rw z (encoded_at p.m (slots_of p) i li (omega (arith, record_length_lem p)) p.n d₀ (sources p d₀ p.n ld) k h)

  pub cross_made_lem : part c₁ 0 (32 * p.n) ≡ cross_for p i
  unfolding cross_for
  cross_made_lem =
      ap (λ (l : List ℕ). part l 0 (32 * p.n)) g ∙ part_put_same c₀ 0 (cross_made p (fragment_in p d₁) p.n) (32 * p.n) (length_cross p (fragment_in p d₁) p.n) (omega arith)
      ∙ cross_same (fragment_in p d₁) (fragment p.m p.f i) p.n held p

  -- the timestamp made of that cross checksum, and the desk filled with both
  pub records_made : (time : ℕ) (t : Timestamp) (d₂ : List ℕ) → t ≡ stamp_at (stamp_made time (part c₁ 0 (32 * p.n))) 0
      → be 40 (stamp_number t) ≡ stamp_made time (part c₁ 0 (32 * p.n))
      → d₂ ≡ desk_of (be 40 (stamp_number t)) (part c₁ 0 (32 * p.n)) (fragment_in p d₁) p.n
      → (t ≡ stamp_for p time i) × (d₂ ≡ records_for p time i)
  unfolding stamp_for records_for
  records_made time t d₂ a b x = (
    a ∙ ap (λ (l : List ℕ). stamp_at (stamp_made time l) 0) cross_made_lem,
    x ∙ rw b (ap (λ (l : List ℕ). desk_of (stamp_made time l) l (fragment_in p d₁) p.n) cross_made_lem)
        ∙ desk_same (fragment_in p d₁) (fragment p.m p.f i) p.n held (stamp_made time (cross_for p i)) (cross_for p i),
  )

-- ---- what the records are
module _ (p : Plan) (t : ℕ) (i : List ℕ) (l : length i ≡ p.m * p.f) where
  length_stamp : length (stamp_made t (cross_for p i)) ≡ 40
  length_stamp = simp (length-append, length_be, sha256_length)

  -- N·R bytes together
  pub length_records : length (records_for p t i) ≡ p.n * record_length p
  unfolding records_for cross_for
  length_records =
      length_desk p _ _ (fragment p.m p.f i) length_stamp (length_cross p (fragment p.m p.f i) p.n) (λ k h. length_fragment p.m p.f i l k)

  -- slot k is the timestamp, the cross checksum and fragment k, and node k takes it: both hash checks hold
  pub record_is : (k : ℕ) → k < p.n → slot_of p (records_for p t i) k ≡ stamp_made t (cross_for p i) ++ (cross_for p i ++ fragment p.m p.f i k)
  unfolding records_for cross_for
  record_is k h =
      slot_is p _ _ (fragment p.m p.f i) k length_stamp (length_cross p (fragment p.m p.f i) p.n) (λ j y. length_fragment p.m p.f i l j) h

  pub record_passes : (k : ℕ) → k < p.n → hashes_ok p k (slot_of p (records_for p t i) k) ≡ true
  unfolding cross_for
  record_passes k h = ap (hashes_ok p k) (record_is k h) ∙ made_ok p t (fragment p.m p.f i) k h (length_fragment p.m p.f i l k)
