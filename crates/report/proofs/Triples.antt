-- A record as a triple: its bytes, the first triple, its timestamp's parts, its validation. Assumes nothing.
use Prim.Native.Nat.{ℕ, ◌+◌, ◌*◌, ◌^◌, ◌≤◌}
use mathlib.Core.Path.{◌≡◌, refl, ap, ◌∙◌}
use mathlib.Core.Bool.{Bool, true, false, cond, not}
use mathlib.Core.List.{List, []}
use native.Mathlib.Nat.{mul-le-mul_right, one-le-pow}
use native.Mathlib.Omega.{arith}
use lib.ListN.{length, take, drop}
use lib.Seq.{take-nil, drop-nil, take-take}
use Rattle.octets.specs.Bytes.{part, num, num_from, be, be_onto, alike, Octets}
use Rattle.octets.proofs.Laws.{length_part, part_part}
use Rattle.octets.proofs.Meaning.{num_append, part_add, be_part}
use Rattle.sha256.specs.Sha256.{sha256}
use Rattle.terms.specs.Ladder.{◌and◌, ◌or◌}
use Rattle.terms.specs.Stamp.{stamp, time}
use Rattle.terms.specs.declared.Plan.{Plan}
use Rattle.terms.specs.Terms.{slots_of}
use Rattle.frame.proofs.Frames.{body_is}
use Rattle.record.specs.Record.{cross_of, fragment_of, verifier_of, entry_of, fragment_hash, hashes_ok, prefix_of}
use Rattle.report.specs.Figure1.{initial, validate}
use Rattle.report.specs.Ours.{family, triple_of, time_in, verifier_in}

-- ---- the first triple is the record of no bytes
part_none : (at n : ℕ) → part [] at n ≡ []
unfolding part
part_none at n = ap (take n) (drop-nil at) ∙ take-nil n

pub stamp_none : stamp [] ≡ 0
unfolding num num_from
stamp_none = ap num (part_none 0 40)

pub none_is : (p : Plan) → triple_of p [] ≡ initial
none_is p = λ i. record { ts = stamp_none i; D = part_none (slots_of p).head p.f i; CC = part_none 40 (32 * p.n) i }

-- ---- a record's timestamp
-- a time of 1 or more makes a timestamp of 1 or more
pub stamp_low : (x : List ℕ) → 1 ≤ time x → 1 ≤ stamp x
stamp_low x h =
    let q : List ℕ = part x 8 32 in
    let e : stamp x ≡ time x * 256 ^ length q + num q = ap num (part_add x 0 8 32) ∙ num_append (part x 0 8) q in
    let k : 1 ≤ 256 ^ length q = one-le-pow (length q) 256 (omega arith) in
    let m : 1 * 256 ^ length q ≤ time x * 256 ^ length q = mul-le-mul_right (256 ^ length q) h in
    omega (arith, e, k, m)

module _ (x : List ℕ) (l : 40 ≤ length x) (o : Octets x) where
  pub bytes_back : be 40 (stamp x) ≡ part x 0 40
  bytes_back = be_part x 0 40 (omega arith) o

  pub time_in_lem : time_in (stamp x) ≡ time x
  unfolding time_in part
  time_in_lem = ap (λ (z : List ℕ). num (take 8 z)) bytes_back ∙ ap num (take-take 8 40 (drop 0 x) (omega arith))

  pub verifier_in_lem : verifier_in (stamp x) ≡ verifier_of x
  unfolding verifier_in
  verifier_in_lem =
      ap (drop 8) bytes_back ∙ body_is 8 (part x 0 40) 32 (length_part x 0 40 (omega arith)) ∙ part_part x 0 40 8 32 (omega arith)

pub time_none : time_in (stamp []) ≡ time []
unfolding time_in be be_onto num num_from part
time_none = refl

-- ---- VALIDATE is the two hash checks
pub validate_is : (p : Plan) (S : ℕ) (x : List ℕ) → 40 ≤ length x → Octets x → validate (family p) S (triple_of p x) ≡ hashes_ok p S x
unfolding validate hashes_ok fragment_hash prefix_of
validate_is p S x l o =
    ap (λ (v : List ℕ). cond (not (alike (sha256 (cross_of p x)) v) or not (alike (sha256 (fragment_of p x)) (entry_of S (cross_of p x)))) false true)
    (verifier_in_lem x l o)
    ∙ go (alike (sha256 (cross_of p x)) (verifier_of x)) (alike (sha256 (fragment_of p x)) (entry_of S (cross_of p x)))
  where
    go : (a b : Bool) → cond (not a or not b) false true ≡ (a and b)
    go true true = refl
    go true false = refl
    go false b = refl
