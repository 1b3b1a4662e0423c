-- The members of a response set (member_is, none_heard); and that in one of records that passed their checks, with no two cross checksums with one
-- hash, one timestamp is one cross checksum (one_cross). Assumes nothing.
use Prim.Native.Nat.{ℕ, zero, suc, ◌*◌, ◌≤◌, ◌<◌}
use mathlib.Core.Path.{◌≡◌, refl, sym, ap, ◌∙◌}
use mathlib.Core.List.{List, []}
use mathlib.Core.Logic.{◌⊎◌, inl, inr}
use native.Mathlib.Omega.{arith}
use lib.ListN.{length}
use Rattle.octets.specs.Bytes.{alike, Octets}
use Rattle.octets.proofs.Laws.{length_part, slot_fits}
use Rattle.octets.proofs.Meaning.{alike_is, octets_part}
use Rattle.sha256.specs.Sha256.{sha256}
use Rattle.terms.proofs.Rungs.{both}
use Rattle.terms.specs.Stamp.{stamp}
use Rattle.terms.specs.Terms.{record_length}
use Rattle.terms.specs.declared.Plan.{Plan}
use Rattle.record.specs.Record.{cross_of, verifier_of, hashes_ok}
use Rattle.record.specs.Desk.{slot_of}
use Rattle.terms.proofs.Places.{record_length_lem}
use Rattle.rounds.specs.declared.Heard.{Heard}
use Rattle.rounds.specs.declared.Heard.TheVariants.{Unheard, First, Record}
use Rattle.rounds.specs.Rounds.{mark_of}
use Rattle.client.specs.Held.{EverySlot, Passed}
use Rattle.report.specs.Triple.{Message, In}
use Rattle.report.specs.Figure1.{initial}
use Rattle.report.specs.Ours.{verifier_in, bearing, response_of, responses}
use Rattle.report.specs.Decides.{OneCross}
use Rattle.report.specs.Run.{Apart}
use Rattle.report.proofs.Lists.{in_split}
use Rattle.report.proofs.Triples.{stamp_low, verifier_in_lem}

-- ---- the members of a response set
module _ (p : Plan) (ms : List Heard) (d : List ℕ) where
  -- either the first triple, or the slot of a node that is marked record
  pub data Member (x : Message) (n : ℕ) : Type 0 where
    of_first : x.Response ≡ initial → Member x n
    of_slot : (k : ℕ) → k < n → mark_of ms k ≡ Record → x ≡ bearing p d k → Member x n

  member_more : (x : Message) (n : ℕ) → Member x n → Member x (suc n)
  member_more x n (of_first e) = of_first e
  member_more x n (of_slot k h m e) = of_slot k (omega arith) m e

  member_one : (x : Message) (n : ℕ) (h : Heard) → mark_of ms n ≡ h → In x (response_of p d n h) → Member x (suc n)
  unfolding response_of
  member_one x n Unheard m q = absurd q
  member_one x n First m (inl e) = of_first (ap (λ (y : Message). y.Response) e)
  member_one x n First m (inr q) = absurd q
  member_one x n Record m (inl e) = of_slot n (omega arith) m e
  member_one x n Record m (inr q) = absurd q

  pub member_is : (x : Message) (n : ℕ) → In x (responses p ms d n) → Member x n
  unfolding responses
  member_is x zero h = absurd h
  member_is x (suc n) h = go (in_split x (responses p ms d n) (response_of p d n (mark_of ms n)) h) (member_is x n)
    where
      go : In x (responses p ms d n) ⊎ In x (response_of p d n (mark_of ms n)) → (In x (responses p ms d n) → Member x n) → Member x (suc n)
      go (inl q) ih = member_more x n (ih q)
      go (inr q) ih = member_one x n (mark_of ms n) refl q

  -- where no node is heard there is none
  pub none_heard : ((k : ℕ) → mark_of ms k ≡ Unheard) → (n : ℕ) → responses p ms d n ≡ []
  unfolding responses response_of
  none_heard h zero = refl
  none_heard h (suc n) = rw (none_heard h n, h n)

  module _ (ld : length d ≡ p.n * record_length p) (od : Octets d)
      (ok : EverySlot (Passed p) p ms d) where
    abbrev slot : ℕ → List ℕ
    slot k = slot_of p d k

    -- the hash of its cross checksum is the verifier of its timestamp
    hash_is : (k : ℕ) → k < p.n → mark_of ms k ≡ Record → sha256 (cross_of p (slot k)) ≡ verifier_in (stamp (slot k))
    unfolding hashes_ok
    hash_is k h m =
        let l : 40 ≤ length (slot k) = omega (arith, length_part d (k * record_length p) (record_length p) (omega (arith, slot_fits k p.n (record_length p) h, ld)), record_length_lem p) in
        alike_is _ _ (both (alike (sha256 (cross_of p (slot k))) (verifier_of (slot k))) _ (ok k h m).hashes).0
        ∙ sym (verifier_in_lem (slot k) l (octets_part d (k * record_length p) (record_length p) od))

    pub one_cross : Apart (responses p ms d p.n) → OneCross (responses p ms d p.n)
    one_cross apart x y hx hy e = go (member_is x p.n hx) (member_is y p.n hy)
      where
        low : (k : ℕ) → k < p.n → mark_of ms k ≡ Record → 1 ≤ stamp (slot k)
        low k h m = stamp_low (slot k) (ok k h m).timed

        go : Member x p.n → Member y p.n → x.Response.CC ≡ y.Response.CC
        go (of_first a) (of_first b) = ap (λ t. t.CC) (a ∙ sym b)
        go (of_first a) (of_slot k h m b) =
            absurd (let z : 0 ≡ stamp (slot k) = ap (λ t. t.ts) (sym a) ∙ e ∙ ap (λ t. t.Response.ts) b in omega (arith, z, low k h m))
        go (of_slot k h m a) (of_first b) =
            absurd (let z : stamp (slot k) ≡ 0 = ap (λ t. t.Response.ts) (sym a) ∙ e ∙ ap (λ t. t.ts) b in omega (arith, z, low k h m))
        go (of_slot k h m a) (of_slot j i w b) =
            apart x y hx hy e
            (ap (λ t. sha256 t.Response.CC) a ∙ hash_is k h m
            ∙ ap verifier_in (ap (λ t. t.Response.ts) (sym a) ∙ e ∙ ap (λ t. t.Response.ts) b)
            ∙ sym (hash_is j i w) ∙ ap (λ t. sha256 t.Response.CC) (sym b))
