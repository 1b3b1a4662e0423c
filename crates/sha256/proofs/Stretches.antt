-- A message taken in stretch by stretch: a stretch that is padded as the message's end gives blocks of the padded message. Assumes nothing.
use mathlib.Core.Path.{◌≡◌, ap, ap₂, sym, ◌∙◌}
use Prim.Native.Nat.{ℕ, suc, zero, ◌+◌, ◌-◌, ◌*◌, ◌/◌, ◌%◌, ◌≤◌, ◌<◌}
use mathlib.Core.List.{List}
use native.Mathlib.Nat.{add-zero}
use native.Mathlib.Omega.{arith}
use native.Mathlib.Decide.{dec_le}
use lib.ListN.{length, get_or, drop}
use lib.Seq.{get_or-drop}
use Rattle.octets.specs.Bytes.{part}
use Rattle.octets.proofs.Laws.{length_part}
use Rattle.octets.proofs.Meaning.{get_d_part}
use Rattle.sha256.specs.declared.State.{State}
use Rattle.sha256.specs.Sha256.{padding, ended, after, compress_of}
use Rattle.sha256.proofs.Laws.{words_same, ended_message, ended_past}

-- k blocks of other bytes, which are those that follow on b blocks
after_on : (h : State) (b : ℕ) (m c : List ℕ) (k : ℕ) → ((j : ℕ) → j < 64 * k → get_or c j 0 ≡ get_or m (64 * b + j) 0) → after (after h b m) k c ≡ after h (b + k) m
unfolding after
after_on h b m c zero f = ap (λ (x : ℕ). after h x m) (sym (add-zero b))
after_on h b m c (suc k) f =
    let e : suc (b + k) ≡ b + suc k = omega arith in
    ap₂ compress_of (after_on h b m c k (λ j l. f j (omega arith)))
    (words_same 16 (drop (64 * k) c) (drop (64 * (b + k)) m)
    (λ j l.
    let q : 64 * b + (64 * k + j) ≡ 64 * (b + k) + j = omega arith in
    get_or-drop (64 * k) c j 0 ∙ f (64 * k + j) (omega arith) ∙ ap (λ (x : ℕ). get_or m x 0) q ∙ sym (get_or-drop (64 * (b + k)) m j 0)))
    ∙ ap (λ (x : ℕ). after h x m) e

-- a byte of a stretch so padded; past the stretch's own bytes only where the message ends with it
ended_stretch : (m : List ℕ) (from n j : ℕ) → from + n ≤ length m → (n ≤ j → from + n ≡ length m) → get_or (ended from (part m from n)) j 0 ≡ get_or (ended 0 m) (from + j) 0
ended_stretch m from n j l e = split (dec_le n j)
  where
    long : length (part m from n) ≡ n
    long = length_part m from n l

    split : Dec (n ≤ j) → get_or (ended from (part m from n)) j 0 ≡ get_or (ended 0 m) (from + j) 0
    split (yes h) =
        let z : from + n ≡ length m = e h in
        let q : length (part m from n) ≡ n = long in
        let a : from + length (part m from n) ≡ 0 + length m = omega arith in
        let b : j - length (part m from n) ≡ from + j - length m = omega arith in
        ended_past from (part m from n) j (omega arith)
        ∙ ap₂ (λ (x y : ℕ). get_or (padding x) y 0) a b
        ∙ sym (ended_past 0 m (from + j) (omega arith))
    split (no h) =
        let q : length (part m from n) ≡ n = long in
        ended_message from (part m from n) j (omega arith) ∙ get_d_part m from n j (omega arith) ∙ sym (ended_message 0 m (from + j) (omega arith))

pub after_stretch : (h : State) (m : List ℕ) (from n k : ℕ) → from % 64 ≡ 0 → from + n ≤ length m → (n < 64 * k → from + n ≡ length m)
    → after (after h (from / 64) (ended 0 m)) k (ended from (part m from n)) ≡ after h (from / 64 + k) (ended 0 m)
after_stretch h m from n k z l e =
    after_on h (from / 64) (ended 0 m) (ended from (part m from n)) k
    (λ j u.
    let q : from + j ≡ 64 * (from / 64) + j = omega arith in
    ended_stretch m from n j l (λ v. e (omega arith)) ∙ ap (λ (x : ℕ). get_or (ended 0 m) x 0) q)
