-- The slots of a read round. Document 01, "Refusal numbers": "in a read round each slot marked 'record' must hold a time of 1 or more and a
-- timestamp below the bound, if there is one".
--   slots_each slots_all   they fit exactly where each fits
--   lead_time              the time of a node marked record is 1 or more
--   long_body long_after   the body of a reply that bears a record is a record; the desk with it in its slot is as long
--   slots_after            after a reply that 5 and 12 do not refuse they fit as before
-- Assumes nothing.
use Prim.Native.Nat.{ℕ, zero, suc, ◌+◌, ◌*◌, ◌≤◌, ◌<◌}
use mathlib.Core.Path.{◌≡◌, refl, sym, ap, ◌∙◌}
use mathlib.Core.Bool.{Bool, true, false, cond}
use mathlib.Core.List.{List, [], ◌∷◌}
use native.Mathlib.Decide.{ℕ_discrete}
use native.Mathlib.Omega.{arith}
use borrow.Author.Tests.{eqb-false, le-leb, leb-true}
use lib.Dec.{leb}
use lib.ListN.{length, set, length-drop}
use lib.Seq.{get_or-set_other}
use Rattle.octets.specs.Bytes.{part, put, num}
use Rattle.octets.proofs.Laws.{length_put, part_part, part_put_same, slot_room}
use Rattle.terms.specs.Terms.{record_length, slots_of, slot_at}
use Rattle.terms.specs.declared.Slots.{Slots}
use Rattle.terms.specs.Stamp.{time, stamp, stamp_at}
use Rattle.terms.specs.declared.Plan.{Plan}
use Rattle.terms.proofs.Rungs.{both}
use Rattle.frame.specs.Frame.{frame_node, body_of, version_of, head_bytes}
use Rattle.record.specs.Record.{time_zero}
use Rattle.std.proofs.Common.{Option}
use Rattle.terms.specs.declared.Timestamp.{Timestamp}
use Rattle.rounds.specs.declared.Heard.{Heard}
use Rattle.rounds.specs.declared.Heard.TheVariants.{Unheard, First, Record}
use Rattle.rounds.specs.Rounds.{unheard, mark_of, under_of, slot_stamp, slot_fits, slots_fit}
use Rattle.recover.proofs.Filled.{slot_stays}
use Rattle.session.specs.Reply.{bears}
use Rattle.standing.proofs.Rules.{record_long}
use Rattle.session.proofs.Readers.{bears_is}

-- they fit exactly where each fits
module _ (ms : List Heard) (d : List ℕ) (slots : Slots) (b : Option Timestamp) where
  pub slots_each : (n : ℕ) → slots_fit ms d slots b n ≡ true → (i : ℕ) → i < n → slot_fits d slots b i (mark_of ms i) ≡ true
  unfolding slots_fit
  slots_each zero e i h = absurd (omega arith)
  slots_each (suc n) e i h = go (ℕ_discrete i n) (λ l. slots_each n q.0 i l)
    where
      q : (slots_fit ms d slots b n ≡ true) × (slot_fits d slots b n (mark_of ms n) ≡ true)
      q = both (slots_fit ms d slots b n) (slot_fits d slots b n (mark_of ms n)) e

      go : Dec (i ≡ n) → (i < n → slot_fits d slots b i (mark_of ms i) ≡ true) → slot_fits d slots b i (mark_of ms i) ≡ true
      go (yes u) more = rw u q.1
      go (no u) more = more (omega arith)

  pub slots_all : (n : ℕ) → ((i : ℕ) → i < n → slot_fits d slots b i (mark_of ms i) ≡ true) → slots_fit ms d slots b n ≡ true
  unfolding slots_fit
  slots_all zero h = refl
  slots_all (suc n) h = rw (slots_all n (λ i l. h i (omega arith)), h n (omega arith))

-- a mark that was set, where there is one to set; the others
set_mark : (P : Heard → Type 0) (ms : List Heard) (k : ℕ) (m : Heard) → P m → P Unheard → P (mark_of (set ms k m) k)
set_mark P [] k m h u = u
set_mark P (x ∷ ms) zero m h u = h
set_mark P (x ∷ ms) (suc k) m h u = set_mark P ms k m h u

-- slots whose timestamps are as they were
same_fits : (d d₂ : List ℕ) (slots : Slots) (b : Option Timestamp) (i : ℕ) (m : Heard) → part d₂ (slot_at slots i) 8 ≡ part d (slot_at slots i) 8 → part d₂ (slot_at slots i) 40 ≡ part d (slot_at slots i) 40
    → slot_fits d₂ slots b i m ≡ slot_fits d slots b i m
unfolding slot_fits slot_stamp
same_fits d d₂ slots b i Record e f = rw (e, f)
same_fits d d₂ slots b i First e f = refl
same_fits d d₂ slots b i Unheard e f = refl

-- a node was heard: its slot fits, the others are as they were
slots_heard : (ms : List Heard) (d d₂ : List ℕ) (slots : Slots) (b : Option Timestamp) (k n : ℕ) (m : Heard) → slots_fit ms d slots b n ≡ true → slot_fits d₂ slots b k m ≡ true
    → ((i x : ℕ) → (i ≡ k → ⊥) → x ≤ 40 → part d₂ (slot_at slots i) x ≡ part d (slot_at slots i) x) → slots_fit (set ms k m) d₂ slots b n ≡ true
slots_heard ms d d₂ slots b k n m e f g = slots_all (set ms k m) d₂ slots b n (λ i h. go i h (ℕ_discrete i k))
  where
    none : slot_fits d₂ slots b k Unheard ≡ true
    none = unfold slot_fits in refl

    go : (i : ℕ) → i < n → Dec (i ≡ k) → slot_fits d₂ slots b i (mark_of (set ms k m) i) ≡ true
    go i h (yes u) = rw u (set_mark (λ (x : Heard). slot_fits d₂ slots b k x ≡ true) ms k m f none)
    go i h (no u) =
        let z : mark_of (set ms k m) i ≡ mark_of ms i = ap (λ (x : Heard). x) (get_or-set_other ms k i m unheard u) in
        rw z (same_fits d d₂ slots b i (mark_of ms i) (g i 8 u (omega arith)) (g i 40 u (omega arith)) ∙ slots_each ms d slots b n e i h)

-- a record that was put into its slot
put_start : (d x : List ℕ) (r k n : ℕ) → length x ≡ r → k * r ≤ length d → n ≤ r → part (put d (k * r) x) (k * r) n ≡ part x 0 n
put_start d x r k n l fits h =
    let z : k * r ≡ k * r + 0 = omega arith in
    ap (λ (y : ℕ). part (put d (k * r) x) y n) z ∙ sym (part_part (put d (k * r) x) (k * r) r 0 n (omega arith))
    ∙ ap (λ (y : List ℕ). part y 0 n) (part_put_same d (k * r) x r l fits)

record_fits : (d x : List ℕ) (slots : Slots) (b : Option Timestamp) (k : ℕ) → length x ≡ slots.size → slot_at slots k ≤ length d → 40 ≤ slots.size → time_zero x ≡ false → under_of b (stamp x) ≡ true
    → slot_fits (put d (slot_at slots k) x) slots b k Record ≡ true
unfolding slot_fits slot_stamp time_zero
record_fits d x slots b k l fits h t u =
    let z = eqb-false (time x) 0 t in
    rw (put_start d x slots.size k 8 l fits (omega arith), put_start d x slots.size k 40 l fits (omega arith), le-leb 1 (time x) (omega arith)) u

-- the time of a node marked record
pub lead_time : (ms : List Heard) (d : List ℕ) (slots : Slots) (b : Option Timestamp) (n a : ℕ) → slots_fit ms d slots b n ≡ true → a < n → mark_of ms a ≡ Record
    → 1 ≤ (stamp_at d (slot_at slots a)).time.0
unfolding slot_fits stamp_at
lead_time ms d slots b n a e h m = leb-true 1 _ (both (leb 1 (num (part d (slot_at slots a) 8))) _ (rw m at (slots_each ms d slots b n e a h))).0

-- ---- a reply that was heard
pub long_body : (p : Plan) (f : List ℕ) → bears p f ≡ true → length (body_of f) ≡ record_length p
long_body p f b = length-drop (head_bytes (version_of f)) f ∙ omega (arith, (bears_is p f (bears p f) refl b).1)

module _ (p : Plan) (f d : List ℕ) (low : frame_node f < p.n) (long : length d ≡ p.n * record_length p) where
  room : frame_node f * record_length p + record_length p ≤ length d
  room = slot_room (frame_node f) p.n (record_length p) (length d) low (omega arith)

  abbrev filled : List ℕ
  filled = put d (frame_node f * record_length p) (body_of f)

  pub long_after : bears p f ≡ true → length (put d (frame_node f * record_length p) (body_of f)) ≡ p.n * record_length p
  long_after b = length_put d (frame_node f * record_length p) (body_of f) (omega (arith, long_body p f b, room)) ∙ long

  -- the slots of the others start as they did
  others : bears p f ≡ true → (i x : ℕ) → (i ≡ frame_node f → ⊥) → x ≤ 40 → part filled (i * record_length p) x ≡ part d (i * record_length p) x
  others b i x ne h =
      let z : i * record_length p ≡ i * record_length p + 0 = omega arith in
      ap (λ (y : ℕ). part filled y x) z ∙ slot_stays d (body_of f) (record_length p) (frame_node f) i (long_body p f b) room ne 0 x (omega (arith, record_long p))
      ∙ ap (λ (y : ℕ). part d y x) (sym z)

  -- THE SLOTS FIT AS BEFORE: its own holds the record, or is marked first triple
  pub slots_after : (ms : List Heard) (bound : Option Timestamp) → (bears p f ≡ true → time_zero (body_of f) ≡ false)
      → (bears p f ≡ true → under_of bound (stamp (body_of f)) ≡ true) → slots_fit ms d (slots_of p) bound p.n ≡ true → (b : Bool) → bears p f ≡ b
      → slots_fit (set ms (frame_node f) (cond b Record First)) (cond b (put d (frame_node f * record_length p) (body_of f)) d) (slots_of p) bound p.n ≡ true
  slots_after ms bound timed under fit true b =
      slots_heard ms d filled (slots_of p) bound (frame_node f) p.n Record fit
      (record_fits d (body_of f) (slots_of p) bound (frame_node f) (long_body p f b) (omega (arith, room)) (record_long p) (timed b) (under b)) (others b)
  slots_after ms bound timed under fit false b =
      slots_heard ms d d (slots_of p) bound (frame_node f) p.n First fit (unfold slot_fits in refl) (λ i x ne h. refl)
