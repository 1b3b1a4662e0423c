-- A cross checksum compared with the one that a slot holds, some entries at a time. Assumes nothing.
use mathlib.Core.Path.{◌≡◌, refl, sym, ap, ap₂, ◌∙◌}
use mathlib.Core.Bool.{Bool, true, false, cond}
use mathlib.Core.List.{List, ◌++◌}
use Prim.Native.Nat.{ℕ, ◌+◌, ◌-◌, ◌*◌, ◌≤◌}
use native.Mathlib.Nat.{add-zero}
use native.Mathlib.Omega.{arith}
use lib.ListN.{length}
use Rattle.octets.specs.Bytes.{part, alike}
use Rattle.octets.proofs.Laws.{length_part}
use Rattle.octets.proofs.Meaning.{alike_append, part_add}
use Rattle.sha256.proofs.Laws.{sha256_length}
use Rattle.terms.specs.declared.Plan.{Plan}
use Rattle.terms.specs.declared.Slots.{Slots}
use Rattle.terms.specs.Terms.{plan_ok, slots_of}
use Rattle.terms.proofs.Places.{slots_are}
use Rattle.fragments.specs.Fragments.{regenerated}
use Rattle.record.specs.Record.{prefix_of, fragment_hash}
use Rattle.record.specs.Desk.{row, cross_made}
use Rattle.record.proofs.Desks.{length_row, row_add}
use Rattle.crosscheck.specs.Groups.{Hashable}

-- ---- entries of 32 bytes each, and what stands at a place
module _ (entry : ℕ → List ℕ) (d : List ℕ) (at : ℕ) where
  -- the first n stand there
  abbrev pub agrees : ℕ → Bool
  agrees n = alike (row entry n) (part d at (32 * n))

  -- n of them, from entry i on, stand in their places
  abbrev pub more : ℕ → ℕ → Bool
  more i n = alike (row (λ l. entry (i + l)) n) (part d (at + 32 * i) (32 * n))

  pub agrees_none : agrees 0 ≡ true
  agrees_none = unfold row part alike in refl

  -- one entry
  pub more_one : (i n : ℕ) → n ≡ 1 → alike (entry i) (part d (at + 32 * i) 32) ≡ more i n
  more_one i n e = unfold row in ap (λ (k : ℕ). alike (entry k) (part d (at + 32 * i) 32)) (sym (add-zero i)) ∙ ap (more i) (sym e)

  -- one entry, compared
  pub entry_is : (i : ℕ) (x : Bool) (e : List ℕ) → part e 0 32 ≡ entry i → x ≡ alike (part e 0 32) (part d (at + 32 * i) 32) → x ≡ more i 1
  entry_is i x e q z = z ∙ ap (λ (l : List ℕ). alike l (part d (at + 32 * i) 32)) q ∙ more_one i 1 refl

  module _ (wide : (k : ℕ) → length (entry k) ≡ 32) where
    agrees_on : (i n : ℕ) → at + 32 * (i + n) ≤ length d → agrees (i + n) ≡ cond (agrees i) (more i n) false
    agrees_on i n h =
        let e : 32 * (i + n) ≡ 32 * i + 32 * n = omega arith in
        let l : length (row entry i) ≡ i * 32 = length_row entry 32 i (λ j k. wide j) in
        let q : length (part d at (32 * i)) ≡ 32 * i = length_part d at (32 * i) (omega arith) in
        let z : length (row entry i) ≡ length (part d at (32 * i)) = omega arith in
        ap₂ alike (row_add entry i n) (ap (part d at) e ∙ part_add d at (32 * i) (32 * n)) ∙ alike_append (row entry i) (row (λ l. entry (i + l)) n) (part d at (32 * i)) (part d (at + 32 * i) (32 * n)) z

    pub agrees_more : (i n : ℕ) (x : Bool) → at + 32 * (i + n) ≤ length d → agrees i ≡ true → x ≡ more i n → x ≡ true → agrees (i + n) ≡ true
    agrees_more i n x h a e t = agrees_on i n h ∙ rw (a, ← e, t)

    pub agrees_not : (i n k : ℕ) (x : Bool) → i + n ≤ k → at + 32 * k ≤ length d → x ≡ more i n → x ≡ false → agrees i ≡ true → false ≡ agrees k
    agrees_not i n k x b h e t a =
        let z : i + n + (k - (i + n)) ≡ k = omega arith in
        let y : agrees (i + n) ≡ false = agrees_on i n (omega arith) ∙ rw (a, ← e, t) in
        sym (ap agrees (sym z) ∙ agrees_on (i + n) (k - (i + n)) (omega arith) ∙ rw y)

-- ---- those of the regenerated fragments
module _ (p : Plan) (d qs : List ℕ) (at : ℕ) where
  abbrev entry_at : ℕ → List ℕ
  entry_at k = fragment_hash p k (regenerated d (slots_of p) qs k)

  entry_wide : (k : ℕ) → length (entry_at k) ≡ 32
  entry_wide k = unfold fragment_hash in sha256_length (prefix_of p k ++ regenerated d (slots_of p) qs k)

  -- the first i entries agree
  abbrev pub Agreed : ℕ → Type 0
  Agreed i = agrees entry_at d at i ≡ true

  -- all of them
  abbrev all : Bool
  all = alike (cross_made p (regenerated d (slots_of p) qs) p.n) (part d at (32 * p.n))

  pub agreed_none : Agreed 0
  agreed_none = agrees_none entry_at d at

  -- n of them, from entry i on, of the fragments in some slots
  abbrev entries : Slots → ℕ → ℕ → List ℕ
  entries s i n = row (λ l. fragment_hash p (i + l) (regenerated d s qs (i + l))) n

  -- the next n of them were compared
  module _ (slots : Slots) (i n : ℕ) (x : Bool) (es : slots ≡ slots_of p) (h : i + n ≤ p.n) (l : at + 32 * p.n ≤ length d)
      (e : x ≡ alike (entries slots i n) (part d (at + 32 * i) (32 * n))) where
    more_is : x ≡ more entry_at d at i n
    more_is = e ∙ ap (λ (s : Slots). alike (entries s i n) (part d (at + 32 * i) (32 * n))) es

    pub agreed_more : x ≡ true → Agreed i → Agreed (i + n)
    agreed_more t k = agrees_more entry_at d at entry_wide i n x (omega arith) k more_is t

    pub agreed_not : x ≡ false → Agreed i → false ≡ all
    agreed_not t k = unfold cross_made in agrees_not entry_at d at entry_wide i n p.n x h l more_is t k

  pub agreed_all : (i : ℕ) → i ≡ p.n → Agreed i → true ≡ all
  agreed_all i e k = unfold cross_made in sym (rw e at k)

-- a plan's fragments, up to eight at a time
pub hashable : (p : Plan) (slots : Slots) (i n : ℕ) → plan_ok p ≡ true → slots ≡ slots_of p → i + n ≤ p.n → n ≤ 8
    → Hashable slots i n
hashable p slots i n k e h l =
    let q = slots_are p slots k e in
    record {
      some = omega (arith, q.fragment_is, q.f_low);
      short = omega (arith, q.fragment_is, q.f_high);
      low = omega (arith, q.head_is, q.n_high);
      few = l;
      below = omega (arith, q.n_high);
    }
