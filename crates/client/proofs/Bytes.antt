-- A timestamp that was made is known by its number. Assumes nothing.
--   one_stamp          records whose timestamps are one number have one timestamp
--   made_stamp         bytes with the number of a timestamp that was made are that timestamp
--   same_verifier same_time   two that are one number have one verifier, and one time
--   stamp_for_lem written_stamp   the number of a write's timestamp; the record for each node bears it
use Prim.Native.Nat.{ℕ, ◌*◌, ◌^◌, ◌≤◌, ◌<◌}
use mathlib.Core.Path.{◌≡◌, sym, ap, ◌∙◌}
use mathlib.Core.List.{List, [], append-nil}
use native.Mathlib.Omega.{arith}
use lib.ListN.{length, length-append}
use Rattle.octets.specs.Bytes.{part, num, be, Octets}
use Rattle.octets.proofs.Laws.{length_be, part_first, part_last}
use Rattle.octets.proofs.Meaning.{octets_be, octets_append, be_part, num_be}
use Rattle.sha256.specs.Sha256.{sha256}
use Rattle.sha256.proofs.Laws.{sha256_length, octets_sha256}
use Rattle.terms.specs.Stamp.{stamp, stamp_number}
use Rattle.terms.specs.declared.Plan.{Plan}
use Rattle.terms.proofs.Stamps.{stamp_at_number}
use Rattle.record.specs.Record.{stamp_of}
use Rattle.record.specs.Desk.{slot_of, stamp_made}
use Rattle.recover.specs.Records.{cross_for, stamp_for, records_for}
use Rattle.recover.proofs.Records.{record_is}

-- ---- one number, one timestamp
pub one_stamp : (x y : List ℕ) → Octets x → Octets y → 40 ≤ length x → 40 ≤ length y → stamp x ≡ stamp y → stamp_of x ≡ stamp_of y
one_stamp x y a b l m e = sym (be_part x 0 40 (omega arith) a) ∙ ap (be 40) e ∙ be_part y 0 40 (omega arith) b

module _ (time : ℕ) (cross : List ℕ) where
  abbrev made : List ℕ
  made = stamp_made time cross

  long_made : length made ≡ 40
  long_made = simp (length-append, length_be, sha256_length)

  whole : part made 0 40 ≡ made
  whole = ap (λ (x : List ℕ). part x 0 40) (sym (append-nil made)) ∙ part_first made [] 40 long_made

  octets_made : Octets made
  octets_made = octets_append (be 8 time) (sha256 cross) (octets_be 8 time) (octets_sha256 cross)

  pub made_stamp : (rec : List ℕ) → Octets rec → 40 ≤ length rec → stamp rec ≡ num (stamp_made time cross) → stamp_of rec ≡ stamp_made time cross
  made_stamp rec o l e =
      sym (be_part rec 0 40 (omega arith) o) ∙ ap (be 40) (e ∙ ap num (sym whole)) ∙ be_part made 0 40 (omega (arith, long_made)) octets_made ∙ whole

-- so two that are one number have one verifier, and one time
same_made : (s t : ℕ) (c e : List ℕ) → num (stamp_made s c) ≡ num (stamp_made t e) → stamp_made s c ≡ stamp_made t e
same_made s t c e n = sym (whole s c) ∙ made_stamp t e (stamp_made s c) (octets_made s c) (omega (arith, long_made s c)) (ap num (whole s c) ∙ n)

pub same_verifier : (s t : ℕ) (c e : List ℕ) → num (stamp_made s c) ≡ num (stamp_made t e) → sha256 c ≡ sha256 e
same_verifier s t c e n = sym (verifier s c) ∙ ap (λ (l : List ℕ). part l 8 32) (same_made s t c e n) ∙ verifier t e
  where
    verifier : (s : ℕ) (c : List ℕ) → part (stamp_made s c) 8 32 ≡ sha256 c
    verifier s c = part_last (be 8 s) (sha256 c) 8 32 (length_be 8 s) (sha256_length c)

pub same_time : (s t : ℕ) (c e : List ℕ) → s < 256 ^ 8 → t < 256 ^ 8 → num (stamp_made s c) ≡ num (stamp_made t e) → s ≡ t
same_time s t c e ls lt n =
    sym (num_be 8 s ls) ∙ ap num (sym (first s c) ∙ ap (λ (l : List ℕ). part l 0 8) (same_made s t c e n) ∙ first t e) ∙ num_be 8 t lt
  where
    first : (s : ℕ) (c : List ℕ) → part (stamp_made s c) 0 8 ≡ be 8 s
    first s c = part_first (be 8 s) (sha256 c) 8 (length_be 8 s)

pub stamp_for_lem : (p : Plan) (time : ℕ) (i : List ℕ) → stamp_number (stamp_for p time i) ≡ num (stamp_made time (cross_for p i))
unfolding stamp_for
stamp_for_lem p time i =
    stamp_at_number (stamp_made time (cross_for p i)) 0 (omega (arith, long_made time (cross_for p i))) ∙ ap num (whole time (cross_for p i))

-- the timestamp of the record that a writer makes for a node
pub written_stamp : (p : Plan) (time : ℕ) (i : List ℕ) → length i ≡ p.m * p.f → (k : ℕ) → k < p.n
    → stamp (slot_of p (records_for p time i) k) ≡ stamp_number (stamp_for p time i)
written_stamp p time i whole k h =
    ap (λ (x : List ℕ). stamp x) (record_is p time i whole k h)
    ∙ ap num (part_first (stamp_made time (cross_for p i)) _ 40 (long_made time (cross_for p i))) ∙ sym (stamp_for_lem p time i)
