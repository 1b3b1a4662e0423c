-- What every slot that is marked record holds, from one reply to the next. Assumes nothing.
--   mark_none no_mark slot_own slot_other long_slot   marks of which none is set; a slot that is put, and the others; its length
--   none_marked first_heard record_heard    where a round opens, after a first triple, after a record
--   accepted_passed    a record that is accepted passed 5 and 6
--   Brings EachBrings reply_heard   a reply that brings such a record, if any; after an accepted one
use Prim.Native.Nat.{ℕ, zero, suc, ◌+◌, ◌*◌, ◌≤◌, ◌<◌}
use mathlib.Core.Path.{◌≡◌, refl, sym, ap, ◌∙◌, subst}
use mathlib.Core.Bool.{Bool, true, false, cond}
use mathlib.Core.List.{List}
use native.Mathlib.Decide.{ℕ_discrete}
use native.Mathlib.Omega.{arith}
use borrow.Author.Tests.{eqb-false, not-false}
use lib.ListN.{length, set, replicate}
use Rattle.octets.specs.Bytes.{part, put}
use Rattle.octets.proofs.Laws.{length_part, part_put_same, slot_fits, slot_room}
use Rattle.terms.specs.Ladder.{None}
use Rattle.terms.specs.Stamp.{time}
use Rattle.terms.specs.Terms.{record_length}
use Rattle.terms.specs.declared.Plan.{Plan}
use Rattle.terms.proofs.Down.{clear}
use Rattle.frame.specs.Frame.{frame_node, body_of}
use Rattle.record.specs.Record.{hashes_ok, time_zero}
use Rattle.record.specs.Desk.{slot_of}
use Rattle.rounds.specs.declared.Heard.TheVariants.{Unheard, First, Record}
use Rattle.rounds.specs.declared.Heard.{Heard}
use Rattle.rounds.specs.Rounds.{mark_of, unheard, unheards}
use Rattle.rounds.proofs.Laws.{mark_own, mark_other}
use Rattle.recover.proofs.Filled.{slot_stays}
use Rattle.session.specs.declared.Session.{Session}
use Rattle.session.specs.Reply.{bears}
use Rattle.session.proofs.Slots.{long_body}
use Rattle.client.specs.Endings.{read_ladder, after_reply, desk_after}
use Rattle.client.specs.Held.{EverySlot, Passed}
use Rattle.client.specs.Turns.{Turn, Takes}
use Rattle.client.specs.Repair.{EachTurn}
use Rattle.client.proofs.Reading.{Taken, taken}

-- ---- marks of which none is set
pub mark_none : (n j : ℕ) → mark_of (replicate n unheard) j ≡ Unheard
mark_none zero j = refl
mark_none (suc n) zero = refl
mark_none (suc n) (suc j) = mark_none n j

pub no_mark : (n j : ℕ) → mark_of (replicate n unheard) j ≡ Record → ⊥
no_mark n j e = let u = mark_none n j in let z : ◌≡◌ {A = ℕ} 0 1 = cc in omega arith

-- ---- slots of r bytes
module _ (d x : List ℕ) (r n i : ℕ) (ld : length d ≡ n * r) (lx : length x ≡ r) (hi : i < n) where
  fits : i * r + r ≤ length d
  fits = omega (arith, slot_fits i n r hi, ld)

  pub slot_own : part (put d (i * r) x) (i * r) r ≡ x
  slot_own = part_put_same d (i * r) x r lx (omega (arith, fits))

  pub slot_other : (k : ℕ) → (k ≡ i → ⊥) → part (put d (i * r) x) (k * r) r ≡ part d (k * r) r
  slot_other k h =
      let z : k * r ≡ k * r + 0 = omega arith in
      ap (λ (y : ℕ). part (put d (i * r) x) y r) z ∙ slot_stays d x r i k lx fits h 0 r (omega arith) ∙ ap (λ (y : ℕ). part d y r) (sym z)

-- a slot of a desk has R bytes
pub long_slot : (p : Plan) (d : List ℕ) (k : ℕ) → length d ≡ p.n * record_length p → k < p.n → length (slot_of p d k) ≡ record_length p
long_slot p d k ld h = length_part d (k * record_length p) (record_length p) (slot_room k p.n (record_length p) (length d) h (omega arith))

-- ---- what holds of every slot that is marked record
module _ (P : ℕ → List ℕ → Type 0) (p : Plan) where
  -- where a round opens
  pub none_marked : (d : List ℕ) → EverySlot P p unheards d
  none_marked d k l m = absurd (no_mark 16 k m)

  module _ (ms : List Heard) (d : List ℕ) (every : EverySlot P p ms d) (i : ℕ) where
    -- after a first triple, which leaves its slot
    pub first_heard : EverySlot P p (set ms i First) d
    first_heard k l m = go (ℕ_discrete k i)
      where
        go : Dec (k ≡ i) → P k (slot_of p d k)
        go (yes q) =
            let e : mark_of (set ms i First) i ≡ Record = ap (mark_of (set ms i First)) (sym q) ∙ m in
            let z = mark_own ms i First e in
            let y : ◌≡◌ {A = ℕ} 0 1 = cc in absurd (omega arith)
        go (no q) = every k l (sym (mark_other ms i k First q) ∙ m)

    -- after a record, in its slot
    pub record_heard : (rec : List ℕ) → i < p.n → length d ≡ p.n * record_length p → length rec ≡ record_length p → P i rec
        → EverySlot P p (set ms i Record) (put d (i * record_length p) rec)
    record_heard rec low ld lr h k l m = go (ℕ_discrete k i)
      where
        go : Dec (k ≡ i) → P k (slot_of p (put d (i * record_length p) rec) k)
        go (yes q) =
            subst (λ (x : ℕ). P x (slot_of p (put d (i * record_length p) rec) x)) (sym q)
            (subst (P i) (sym (slot_own d rec (record_length p) p.n i ld lr low)) h)
        go (no q) =
            subst (P k) (sym (slot_other d rec (record_length p) p.n i ld lr low k q))
            (every k l (sym (mark_other ms i k Record q) ∙ m))

-- a reply whose record, where it bears one that passes, is of the kind P
abbrev pub Brings : (ℕ → List ℕ → Type 0) → Plan → List ℕ → Type 0
Brings P p f = bears p f ≡ true → frame_node f < p.n → Passed p (frame_node f) (body_of f) → P (frame_node f) (body_of f)

-- each reply of some calls that is accepted brings one
abbrev pub EachBrings : (ℕ → List ℕ → Type 0) → Plan → List Turn → Type 0
EachBrings P p cs = EachTurn (λ (c : Turn). Takes c → Brings P p c.reply) cs

-- a record that is accepted passed
pub accepted_passed : (p : Plan) (s : Session) (f d : List ℕ) (item : ℕ) → None (read_ladder p s f d item) → bears p f ≡ true → Passed p (frame_node f) (body_of f)
unfolding time_zero
accepted_passed p s f d item n b =
    record {
      timed = let z = eqb-false (time (body_of f)) 0 (rw b at (clear (read_ladder p s f d item) n 5)) in omega arith;
      hashes = not-false (hashes_ok p (frame_node f) (body_of f)) (rw b at (clear (read_ladder p s f d item) n 6));
    }

-- after an accepted reply of a read round
pub reply_heard : (P : ℕ → List ℕ → Type 0) (p : Plan) (s : Session) (f d : List ℕ) (item : ℕ) → None (read_ladder p s f d item) → EverySlot P p s.marks d → Brings P p f
    → EverySlot P p (after_reply p s f).marks (desk_after p f d)
reply_heard P p s f d item n before brings = go (bears p f) refl
  where
    t : Taken p s f d item
    t = taken p s f d item n

    go : (b : Bool) → bears p f ≡ b
        → EverySlot P p (set s.marks (frame_node f) (cond b Record First)) (cond b (put d (frame_node f * record_length p) (body_of f)) d)
    go true b =
        record_heard P p s.marks d before (frame_node f) (body_of f) t.node t.desk (long_body p f b) (brings b t.node (accepted_passed p s f d item n b))
    go false b = first_heard P p s.marks d before (frame_node f)
