-- One law for each hard need of the functions. Assumes nothing.
use mathlib.Core.Path.{◌≡◌, refl, sym, ap, ap₂, ◌∙◌}
use mathlib.Core.Bool.{Bool, true, false, cond}
use mathlib.Core.List.{List, ◌++◌}
use Prim.Native.Nat.{ℕ, zero, suc, ◌+◌, ◌*◌, ◌≤◌, ◌<◌}
use native.Mathlib.Nat.{mul-le-mul_right, suc-mul}
use native.Mathlib.Numerals.{add-one}
use native.Mathlib.Decide.{ℕ_discrete}
use native.Mathlib.Omega.{arith}
use borrow.Author.Tests.{leb-true, leb-false}
use lib.Dec.{leb}
use lib.ListN.{length, take, replicate}
use lib.Seq.{length-take-le}
use Rattle.octets.specs.Bytes.{part, put, alike}
use Rattle.octets.proofs.Laws.{length_part, put_put, part_put_before, part_put_after, part_all}
use Rattle.octets.proofs.Meaning.{alike_append, part_add}
use Rattle.terms.specs.declared.Plan.{Plan}
use Rattle.terms.specs.declared.Slots.{Slots}
use Rattle.terms.specs.Terms.{slots_of, slot_at}
use Rattle.terms.proofs.Picks.{neither}
use Rattle.fragments.specs.Fragments.{among, regenerated, Sources}
use Rattle.fragments.proofs.Laws.{length_regenerated}
use Rattle.record.specs.Record.{fragment_hash}
use Rattle.record.specs.Desk.{row, cross_made}
use Rattle.record.proofs.Desks.{length_cross}
use Rattle.recover.specs.Recover.{validates, slot_filled, refilled}

-- ---- validation: entry by entry
-- the head of slot a, by the numbers of the plan's slots
pub head_room : (p : Plan) (slots : Slots) → slots ≡ slots_of p → (a l : ℕ) → slot_at (slots_of p) a + (slots_of p).head ≤ l → slot_at slots a + slots.head ≤ l
head_room p slots e a l h = rw e h

-- a fragment has the plan's length
pub refit : (p : Plan) (d qs : List ℕ) (slots : Slots) (k : ℕ) (g : List ℕ) → slots ≡ slots_of p → Sources d (slots_of p) qs → g ≡ regenerated d slots qs k
    → length g ≡ p.f
refit p d qs slots k g e h r = ap length r ∙ rw e (length_regenerated d (slots_of p) qs k h)

module _ (p : Plan) (g : ℕ → List ℕ) (d : List ℕ) (at : ℕ) where
  abbrev agrees : ℕ → Bool
  agrees n = alike (cross_made p g n) (part d at (32 * n))

  abbrev entry : ℕ → Bool
  entry i = alike (fragment_hash p i (g i)) (part d (at + 32 * i) 32)

  agrees_suc : (n : ℕ) → at + 32 * suc n ≤ length d → agrees (suc n) ≡ cond (agrees n) (entry n) false
  unfolding cross_made row
  agrees_suc n h =
      let m : 32 * suc n ≡ 32 * n + 32 = omega arith in
      rw (m, part_add d at (32 * n) 32)
      (alike_append (cross_made p g n) (fragment_hash p n (g n)) (part d at (32 * n)) (part d (at + 32 * n) 32) (length_cross p g n ∙ sym (length_part d at (32 * n) (omega arith))))

  agrees_not : (i n : ℕ) → i < n → at + 32 * n ≤ length d → entry i ≡ false → agrees n ≡ false
  agrees_not i zero h k e = absurd (omega arith)
  agrees_not i (suc n) h k e = agrees_suc n k ∙ go (ℕ_discrete i n) (λ l. agrees_not i n l (omega arith) e)
    where
      go : Dec (i ≡ n) → (i < n → agrees n ≡ false) → cond (agrees n) (entry n) false ≡ false
      go (yes q) more = let z : entry n ≡ false = rw q at e in rw z (neither (agrees n))
      go (no q) more = rw (more (omega arith))

module _ (p : Plan) (d qs : List ℕ) (a : ℕ) where
  abbrev start : ℕ
  start = slot_at (slots_of p) a + 40

  -- the first i entries agree
  abbrev pub Agreed : ℕ → Type 0
  Agreed i = agrees p (regenerated d (slots_of p) qs) d start i ≡ true

  pub agreed_none : Agreed 0
  agreed_none = unfold cross_made row part alike in refl

  module _ (i : ℕ) (x : Bool) (g : List ℕ) (slots : Slots) (es : slots ≡ slots_of p) (eg : g ≡ regenerated d slots qs i)
      (e : x ≡ alike (fragment_hash p i g) (part d ((slot_at slots a + 40) + 32 * i) 32)) where
    entry_is : x ≡ entry p (regenerated d (slots_of p) qs) d start i
    entry_is =
        e ∙ (λ j. alike (fragment_hash p i (eg j)) (part d ((slot_at (es j) a + 40) + 32 * i) 32))
        ∙ ap (λ (s : Slots). alike (fragment_hash p i (regenerated d s qs i)) (part d (start + 32 * i) 32)) es

    pub agreed_more : start + 32 * (i + 1) ≤ length d → Agreed i → x ≡ true → Agreed (i + 1)
    agreed_more l k t =
        let z : i + 1 ≡ suc i = omega arith in
        rw z (agrees_suc p (regenerated d (slots_of p) qs) d start i (omega arith) ∙ rw (k, ← entry_is, t))

    pub agreed_not : i < p.n → start + 32 * p.n ≤ length d → x ≡ false → false ≡ validates p d qs a
    agreed_not u l t = unfold validates in sym (agrees_not p (regenerated d (slots_of p) qs) d start i p.n u l (sym entry_is ∙ t))

  pub agreed_all : (i : ℕ) → i ≡ p.n → Agreed i → true ≡ validates p d qs a
  agreed_all i e k = unfold validates in sym (rw e at k)

-- ---- filling
-- what lies in slot a's head is not touched by a put into slot k's fragment
head_stays : (d g : List ℕ) (slots : Slots) (a k : ℕ) → slot_at slots k + slots.size ≤ length d → slot_at slots a + slots.size ≤ length d
    → slots.size ≡ slots.head + slots.fragment → length g ≡ slots.fragment
    → part (put d (slot_at slots k + slots.head) g) (slot_at slots a) slots.head ≡ part d (slot_at slots a) slots.head
head_stays d g slots a k b c sz lg = side (leb a k) refl
  where
    at : ℕ
    at = slot_at slots k + slots.head

    side : (t : Bool) → leb a k ≡ t → part (put d at g) (slot_at slots a) slots.head ≡ part d (slot_at slots a) slots.head
    side true e =
        let q : slot_at slots a ≤ slot_at slots k = mul-le-mul_right slots.size (leb-true a k e) in
        part_put_before d at g (slot_at slots a) slots.head (omega arith) (omega arith)
    side false e =
        let q : suc k * slots.size ≤ slot_at slots a = mul-le-mul_right slots.size (leb-false a k e) in
        let u : suc k * slots.size ≡ slot_at slots k + slots.size = suc-mul k slots.size in
        part_put_after d at g (slot_at slots a) slots.head (omega arith) (omega arith)

pub write_is : (d d1 d2 g : List ℕ) (slots : Slots) (a k : ℕ) → length g ≡ slots.fragment → slot_at slots k + slots.size ≤ length d
    → slot_at slots a + slots.size ≤ length d → slots.size ≡ slots.head + slots.fragment
    → d1 ≡ put d (slot_at slots k + slots.head) (part g 0 slots.fragment) → d2 ≡ put d1 (slot_at slots k) (part d1 (slot_at slots a) slots.head)
    → d2 ≡ put d (slot_at slots k) (part d (slot_at slots a) slots.head ++ g)
write_is d d1 d2 g slots a k lg b c sz e1 e2 =
    let at : ℕ = slot_at slots k in
    let pg : part g 0 slots.fragment ≡ g = rw (← lg) (part_all g) in
    let t : List ℕ = part d (slot_at slots a) slots.head in
    let lt : length t ≡ slots.head = length_part d (slot_at slots a) slots.head (omega arith) in
    let f1 : d1 ≡ put d (at + slots.head) g = e1 ∙ rw pg in
    let hd : part d1 (slot_at slots a) slots.head ≡ t = rw f1 (head_stays d g slots a k b c sz lg) in
    let pp : put (put d (at + length t) g) at t ≡ put d at (t ++ g) = put_put d at t g (omega arith) in
    e2 ∙ ap₂ (λ (x y : List ℕ). put x at y) (f1 ∙ ap (λ (n : ℕ). put d (at + n) g) (sym lt)) hd ∙ pp

pub filled_stays : (d : List ℕ) (slots : Slots) (qs : List ℕ) (a k : ℕ) (x : Bool) → x ≡ among k qs → x ≡ true → d ≡ slot_filled d slots qs a k
unfolding slot_filled
filled_stays d slots qs a k x e t = rw (← e, t)

pub filled_writes : (d y g : List ℕ) (slots : Slots) (qs : List ℕ) (a k : ℕ) (x : Bool) → x ≡ among k qs → x ≡ false → g ≡ regenerated d slots qs k
    → y ≡ put d (slot_at slots k) (part d (slot_at slots a) slots.head ++ g) → y ≡ slot_filled d slots qs a k
unfolding slot_filled
filled_writes d y g slots qs a k x e t r w = w ∙ rw (r, ← e, t)

pub refill_more : (d d₀ x : List ℕ) (slots : Slots) (qs : List ℕ) (a k : ℕ) → d ≡ refilled d₀ slots qs a k → x ≡ slot_filled d slots qs a k
    → x ≡ refilled d₀ slots qs a (k + 1)
unfolding refilled
refill_more d d₀ x slots qs a k e g = g ∙ rw (add-one, e)

-- the first f bytes of the room for one fragment
pub scratch_length : (f : ℕ) → f ≤ 1024 → length (take {A = ℕ} f (replicate 1024 0)) ≡ f
scratch_length f h = length-take-le f (replicate 1024 0) h
