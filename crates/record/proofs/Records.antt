-- Laws of a record where it lies: its parts are parts of the slice. Assumes nothing.
use mathlib.Core.Path.{◌≡◌, sym, ap, ap₂, ◌∙◌}
use mathlib.Core.Bool.{Bool, true, false}
use mathlib.Core.List.{List}
use Prim.Native.Nat.{ℕ, ◌+◌, ◌-◌, ◌*◌, ◌≤◌, ◌<◌}
use native.Mathlib.Nat.{add-zero}
use native.Mathlib.Omega.{arith}
use lib.Dec.{eqb}
use lib.ListN.{take, drop}
use Rattle.octets.specs.Bytes.{part, num, alike}
use Rattle.octets.proofs.Laws.{part_part}
use Rattle.sha256.specs.Sha256.{sha256}
use Rattle.terms.specs.Terms.{record_length, slots_of}
use Rattle.terms.specs.Stamp.{stamp}
use Rattle.terms.specs.declared.Plan.{Plan}
use Rattle.terms.proofs.Places.{record_length_lem}
use Rattle.record.specs.Record.{verifier_of, cross_of, fragment_of, entry_of, fragment_hash, hashes_ok, time_zero}

-- a part that was lent
pub taken : (s : List ℕ) (at n k : ℕ) → n ≡ k → take n (drop at s) ≡ part s at k
unfolding part
taken s at n k e = rw e

-- ---- the record of a plan that lies at a place
module _ (p : Plan) (s : List ℕ) (at : ℕ) where
  pub verifier_at : verifier_of (part s at (record_length p)) ≡ part s (at + 8) 32
  verifier_at = part_part s at (record_length p) 8 32 (omega (arith, record_length_lem p))

  pub cross_at : cross_of p (part s at (record_length p)) ≡ part s (at + 40) (32 * p.n)
  cross_at = part_part s at (record_length p) 40 (32 * p.n) (omega (arith, record_length_lem p))

  pub fragment_at_lem : fragment_of p (part s at (record_length p)) ≡ part s (at + (slots_of p).head) p.f
  fragment_at_lem = part_part s at (record_length p) (slots_of p).head p.f (omega (arith, record_length_lem p))

  pub entry_at : (node : ℕ) → node < p.n → entry_of node (cross_of p (part s at (record_length p))) ≡ part s ((at + 40) + 32 * node) 32
  entry_at node h = ap (entry_of node) cross_at ∙ part_part s (at + 40) (32 * p.n) (32 * node) 32 (omega arith)

  pub start_of : (n : ℕ) → n ≤ record_length p → part (part s at (record_length p)) 0 n ≡ part s at n
  start_of n h = part_part s at (record_length p) 0 n (omega arith) ∙ ap (λ (k : ℕ). part s k n) (add-zero at)

  pub stamp_at_lem : stamp (part s at (record_length p)) ≡ num (part s at 40)
  stamp_at_lem = ap num (start_of 40 (omega (arith, record_length_lem p)))

  -- ---- the two checks, the first and then the second, by the numbers of the plan's slots
  module _ (head : ℕ) (eh : head ≡ (slots_of p).head) where
    first_check : alike (sha256 (part s (at + 40) (head - 40))) (part s (at + 8) 32)
        ≡ alike (sha256 (cross_of p (part s at (record_length p)))) (verifier_of (part s at (record_length p)))
    first_check =
        let z : head - 40 ≡ 32 * p.n = omega arith in
        rw (z, ← cross_at, ← verifier_at)

    pub hashes_no : (node : ℕ) (r : Bool) → r ≡ false → r ≡ alike (sha256 (part s (at + 40) (head - 40))) (part s (at + 8) 32)
        → false ≡ hashes_ok p node (part s at (record_length p))
    unfolding hashes_ok
    hashes_no node r e h = rw (sym first_check ∙ sym h ∙ e)

    pub hashes_last : (node : ℕ) (r q : Bool) (size : ℕ) → size ≡ record_length p → node < p.n → r ≡ true
        → r ≡ alike (sha256 (part s (at + 40) (head - 40))) (part s (at + 8) 32)
        → q ≡ alike (fragment_hash p node (take (at + size - (at + head)) (drop (at + head) s))) (part s ((at + 40) + 32 * node) 32)
        → q ≡ hashes_ok p node (part s at (record_length p))
    unfolding hashes_ok
    hashes_last node r q size es h e f g =
        let z : at + size - (at + head) ≡ p.f = omega (arith, record_length_lem p) in
        let t : take (at + size - (at + head)) (drop (at + head) s) ≡ fragment_of p (part s at (record_length p)) =
        taken s (at + head) (at + size - (at + head)) p.f z ∙ ap (λ (k : ℕ). part s (at + k) p.f) eh ∙ sym fragment_at_lem in
        rw (sym first_check ∙ sym f ∙ e) (g ∙ ap₂ (λ (x y : List ℕ). alike (fragment_hash p node x) y) t (sym (entry_at node h)))

-- ---- the time of bytes that start at a place
pub zero_at : (s : List ℕ) (at x : ℕ) → x ≡ num (part s at 8) → eqb x 0 ≡ time_zero (drop at s)
unfolding time_zero part
zero_at s at x e = rw e
