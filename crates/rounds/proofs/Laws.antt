-- Laws of marks, slots and sets. Assumes nothing.
use mathlib.Core.Path.{◌≡◌, refl, sym, ap, ◌∙◌, subst}
use mathlib.Core.Bool.{Bool, true, false, cond, ◌&&◌}
use mathlib.Core.List.{List, [], ◌∷◌, ◌++◌}
use Prim.Native.Nat.{ℕ, zero, suc, ◌+◌, ◌-◌, ◌≤◌, ◌<◌}
use native.Mathlib.Numerals.{add-one}
use native.Mathlib.Omega.{arith}
use borrow.Author.Tests.{eqb-false, le-leb, lt-leb}
use lib.ListN.{drop, length, length-drop, get_or, take, length-set, set}
use lib.Seq.{take-suc, take_all, take-suc-set, length-take-le}
use Rattle.rounds.specs.declared.Heard.{Heard}
use Rattle.rounds.specs.declared.Heard.TheVariants.{Unheard, First, Record}
use Rattle.std.proofs.Common.{Option, None, Some}
use Rattle.rounds.specs.declared.Set.{Set}
use Rattle.rounds.specs.Rounds.{under_of, every, slot_fits, slots_fit, slot_stamp, heard_count, bit_of, mark_of, ahead_of, step_of, lead_of, LeadIn, joins_of, set_of, add_of, listed, Closed, close_with, close_of}
use Rattle.terms.specs.declared.Member.{Member}
use Rattle.terms.specs.declared.Verdict.{Verdict}
use Rattle.terms.specs.declared.Verdict.TheVariants.{Complete}
use Rattle.terms.specs.Stamp.{stamp_at, zero_stamp, stamp_number}
use Rattle.terms.specs.Terms.{decided, slot_at}
use lib.Dec.{ltb, eqb, leb}
use Rattle.octets.specs.Bytes.{part, num, alike}
use Rattle.std.specs.List.{list_all, range_with_len}
use Rattle.std.specs.Prelude.{map}
use Rattle.std.proofs.lemmas.List.Folds.{list_all-append, list_all-map}
use Rattle.std.proofs.lemmas.List.FromFn.{map-range_with_len_more}
use Rattle.terms.specs.declared.Slots.{Slots}
use Rattle.terms.specs.declared.Thresholds.{Thresholds}
use Rattle.terms.specs.declared.Timestamp.{Timestamp}

pub bit_small : (h : Heard) → bit_of h ≤ 1
bit_small Unheard = omega arith
bit_small First = omega arith
bit_small Record = omega arith

pub count_snoc : (l : List Heard) (m : Heard) → heard_count (l ++ (m ∷ [])) ≡ heard_count l + bit_of m
unfolding heard_count
count_snoc [] m = omega arith
count_snoc (x ∷ l) m = rw (count_snoc l m) (omega arith)

pub count_turn : (l : List Heard) (i n v : ℕ) (d : Heard) → i < length l → n ≡ heard_count (take i l) → v ≡ bit_of (get_or l i d) → n + v ≡ heard_count (take (i + 1) l)
count_turn l i n v d h e f = rw (add-one, take-suc l i d h, count_snoc, e, f)

pub count_all : (l : List Heard) (i n : ℕ) → length l ≤ i → n ≡ heard_count (take i l) → n ≡ heard_count l
count_all l i n h e = e ∙ ap heard_count (take_all i l h)

-- ---- the lead
pub lead_told : (l : Option ℕ) (b n : ℕ) → l ≡ Some b → LeadIn l n → b < n
unfolding LeadIn
lead_told l b n e h = subst (λ (x : Option ℕ). LeadIn x n) e h

ahead_in : (d : List ℕ) (slots : Slots) (l : Option ℕ) (i n : ℕ) → i < n → LeadIn l n → LeadIn (ahead_of d slots l i) n
unfolding ahead_of LeadIn
ahead_in d slots None i n h k = h
ahead_in d slots (Some b) i n h k = pick (ltb (slot_stamp d slots b) (slot_stamp d slots i))
  where
    pick : (t : Bool) → LeadIn (cond t (Some i) (Some b)) n
    pick true = h
    pick false = k

pub step_in : (d : List ℕ) (slots : Slots) (l : Option ℕ) (i : ℕ) (m : Heard) (n : ℕ) → i < n → LeadIn l n → LeadIn (step_of d slots l i m) n
unfolding step_of
step_in d slots l i Record n h k = ahead_in d slots l i n h k
step_in d slots l i First n h k = k
step_in d slots l i Unheard n h k = k

lead_more : (l : Option ℕ) (i n : ℕ) → i ≤ n → LeadIn l i → LeadIn l n
unfolding LeadIn
lead_more None i n h k = k
lead_more (Some b) i n h k = omega arith

pub lead_in : (ms : List Heard) (d : List ℕ) (slots : Slots) (n : ℕ) → LeadIn (lead_of ms d slots n) n
unfolding lead_of
lead_in ms d slots zero = unfold LeadIn in tt
lead_in ms d slots (suc n) = step_in d slots (lead_of ms d slots n) n (mark_of ms n) (suc n) (omega arith) (lead_more (lead_of ms d slots n) n (suc n) (omega arith) (lead_in ms d slots n))

-- a turn of the loop at a record, and at another mark
module _ (ms : List Heard) (d : List ℕ) (slots : Slots) (i : ℕ) (best : Option ℕ) (e : best ≡ lead_of ms d slots i) where
  pub lead_ahead : (x : Option ℕ) → mark_of ms i ≡ Record → x ≡ ahead_of d slots best i → x ≡ lead_of ms d slots (i + 1)
  lead_ahead x r f = unfold lead_of in unfold step_of in rw (add-one, r) (f ∙ rw e)

  pub lead_stays : (mark_of ms i ≡ Record → ⊥) → best ≡ lead_of ms d slots (i + 1)
  lead_stays n = unfold lead_of in rw add-one (e ∙ same (mark_of ms i) n)
    where
      same : (h : Heard) → (h ≡ Record → ⊥) → lead_of ms d slots i ≡ step_of d slots (lead_of ms d slots i) i h
      same Record k = absurd (k refl)
      same First k = unfold step_of in refl
      same Unheard k = unfold step_of in refl

pub ahead_first : (d : List ℕ) (slots : Slots) (i : ℕ) (l : Option ℕ) → l ≡ None → Some i ≡ ahead_of d slots l i
unfolding ahead_of
ahead_first d slots i l e = rw e

module _ (d : List ℕ) (slots : Slots) (i b : ℕ) (l : Option ℕ) (e : l ≡ Some b) (x : Bool) (f : x ≡ ltb (slot_stamp d slots b) (slot_stamp d slots i)) where
  pub ahead_yes : x ≡ true → Some i ≡ ahead_of d slots l i
  ahead_yes t = unfold ahead_of in rw (e, ← f, t)

  pub ahead_no : x ≡ false → Some b ≡ ahead_of d slots l i
  ahead_no t = unfold ahead_of in rw (e, ← f, t)

-- ---- the set
module _ (d : List ℕ) (slots : Slots) (a i : ℕ) (h : Heard) where
  pub joins_record : h ≡ Record → alike (part d (slot_at slots i) slots.head) (part d (slot_at slots a) slots.head) ≡ joins_of d slots a i h
  joins_record e = unfold joins_of in rw e

  pub joins_none : (h ≡ Record → ⊥) → false ≡ joins_of d slots a i h
  joins_none n = unfold joins_of in elim h as (λ (x : Heard). (x ≡ Record → ⊥) → false ≡ joins_of d slots a i x) [ Unheard ↦ (λ k. refl) | First ↦ (λ k. refl) | Record ↦ (λ k. absurd (k refl)) ] n

pub add_len : (s : Set) (i : ℕ) (on : Bool) → length (add_of s i on).nodes ≡ length s.nodes
unfolding add_of
add_len s i true = simp length-set
add_len s i false = refl

pub add_size : (s : Set) (i : ℕ) (on : Bool) → (add_of s i on).size ≤ s.size + 1
unfolding add_of
add_size s i true = omega arith
add_size s i false = omega arith

add_listed : (s : Set) (i : ℕ) (on : Bool) → s.size < length s.nodes → listed (add_of s i on) ≡ cond on (listed s ++ (i ∷ [])) (listed s)
unfolding add_of
add_listed s i true h = rw (add-one, take-suc-set s.nodes s.size i h)
add_listed s i false h = refl

pub members_turn : (ms : List Heard) (d : List ℕ) (slots : Slots) (a i : ℕ) (s x : Set) (on : Bool) → s.size < length s.nodes
    → listed s ≡ set_of ms d slots a i → on ≡ joins_of d slots a i (mark_of ms i) → x ≡ add_of s i on → listed x ≡ set_of ms d slots a (i + 1)
unfolding set_of
members_turn ms d slots a i s x on k e f g = ap listed g ∙ add_listed s i on k ∙ rw (add-one, e, f)

pub add_off : (s : Set) (i : ℕ) → s ≡ add_of s i false
unfolding add_of
add_off s i = refl

-- a turn of the loop: what it keeps of the set
pub turn_is : (ms : List Heard) (d : List ℕ) (slots : Slots) (a i : ℕ) (s x : Set) (on : Bool) → s.size ≤ i → length s.nodes ≡ 16 → i < 16
    → listed s ≡ set_of ms d slots a i → on ≡ joins_of d slots a i (mark_of ms i) → x ≡ add_of s i on
    → (x.size ≤ i + 1) × (length x.nodes ≡ 16) × (listed x ≡ set_of ms d slots a (i + 1))
turn_is ms d slots a i s x on few wide h e f g = (
  rw g (let z = add_size s i on in omega arith),
  rw g (add_len s i on ∙ wide),
  members_turn ms d slots a i s x on (omega arith) e f g,
)

pub lead_below : (ms : List Heard) (d : List ℕ) (slots : Slots) (i n : ℕ) → i ≤ n → LeadIn (lead_of ms d slots i) n
lead_below ms d slots i n h = lead_more (lead_of ms d slots i) i n h (lead_in ms d slots i)

pub lead_in_all : (ms : List Heard) (d : List ℕ) (slots : Slots) (i n : ℕ) (l : Option ℕ) → i ≤ n → l ≡ lead_of ms d slots i → LeadIn l n
lead_in_all ms d slots i n l h e = subst (λ (x : Option ℕ). LeadIn x n) (sym e) (lead_below ms d slots i n h)

pub size_is : (s : Set) (l : List ℕ) → length s.nodes ≡ 16 → s.size ≤ 16 → listed s ≡ l → s.size ≡ length l
size_is s l h k e = sym (length-take-le s.size s.nodes (omega arith)) ∙ ap length e

pub lead_room : (ms : List Heard) (d : List ℕ) (slots : Slots) (n a : ℕ) (l : Option ℕ) → l ≡ lead_of ms d slots n → l ≡ Some a → a < n
lead_room ms d slots n a l e f = lead_told (lead_of ms d slots n) a n (sym e ∙ f) (lead_in ms d slots n)

module _ (ms : List Heard) (d : List ℕ) (slots : Slots) (member : Member) (t : Thresholds) where
  pub close_none : (l : Option ℕ) (z : Timestamp) → l ≡ lead_of ms d slots slots.n → l ≡ None → z ≡ zero_stamp
      → ◌≡◌ {A = Closed} (record { lead = l; stamp = z; nodes = []; verdict = Complete }) (close_of ms d slots member t)
  unfolding close_with
  close_none l z e f g = rw (← e, f, g)

  pub close_some : (a : ℕ) (l : Option ℕ) (s : Set) (w : Verdict) (z : Timestamp) → l ≡ lead_of ms d slots slots.n → l ≡ Some a
      → slots.n ≤ 16 → length s.nodes ≡ 16 → s.size ≤ slots.n → listed s ≡ set_of ms d slots a slots.n
      → w ≡ decided member t.complete t.incomplete s.size → z ≡ stamp_at d (slot_at slots a)
      → ◌≡◌ {A = Closed} (record { lead = Some a; stamp = z; nodes = listed s; verdict = w }) (close_of ms d slots member t)
  unfolding close_with
  close_some a l s w z e f k m u g x y =
      let set : List ℕ = set_of ms d slots a slots.n in
      let q : s.size ≡ length set = size_is s set m (omega arith) g in
      (λ j. record { lead = Some a; stamp = y j; nodes = g j; verdict = (x ∙ ap (decided member t.complete t.incomplete) q) j })
      ∙ ap (close_with ms d slots member t) (sym f ∙ e)

-- ---- the ranges of marks and slots
every_is : (t : Heard → Bool) (ms : List Heard) → list_all t ms ≡ every t ms
unfolding every
every_is t [] = refl
every_is t (m ∷ ms) = elim (t m) as (λ (b : Bool). (b && list_all t ms) ≡ cond b (every t ms) false) [ true ↦ every_is t ms | false ↦ refl ]

-- what a chain found of all marks, and of those from n on
-- a slice of the array up to its end
pub up_to_end : (ms x : List Heard) (n : ℕ) → length ms ≡ 16 → x ≡ take (16 - n) (drop n ms) → x ≡ drop n ms
up_to_end ms x n h e = e ∙ take_all (16 - n) (drop n ms) (omega (arith, length-drop n ms))

pub every_all : (t : Heard → Bool) (ms : List Heard) (x : Bool) → x ≡ list_all t ms → x ≡ every t ms
every_all t ms x e = e ∙ every_is t ms

module _ (d : List ℕ) (slots : Slots) (b : Option Timestamp) (i : ℕ) (h : Heard) where
  module _ (e : h ≡ Record) (k : ℕ) (f : k ≡ num (part d (slot_at slots i) 8)) where
    pub fits_bound : 1 ≤ k → (u : Bool) → u ≡ under_of b (slot_stamp d slots i) → u ≡ slot_fits d slots b i h
    fits_bound l u g = unfold slot_fits in rw (e, ← f, le-leb 1 k l) g

    pub fits_zero : k < 1 → leb 1 k ≡ slot_fits d slots b i h
    fits_zero l = unfold slot_fits in rw (e, ← f, lt-leb 1 k l)

  pub fits_other : (h ≡ Record → ⊥) → true ≡ slot_fits d slots b i h
  fits_other n = unfold slot_fits in elim h as (λ (x : Heard). (x ≡ Record → ⊥) → true ≡ slot_fits d slots b i x) [ Unheard ↦ (λ k. refl) | First ↦ (λ k. refl) | Record ↦ (λ k. absurd (k refl)) ] n

-- each slot, as a chain tests them
both_hold : (x y : Bool) → (x && (y && true)) ≡ cond x y false
both_hold true true = refl
both_hold true false = refl
both_hold false y = refl

module _ (ms : List Heard) (d : List ℕ) (slots : Slots) (b : Option Timestamp) where
  abbrev pub slot_ok : ℕ → Bool
  slot_ok i = slot_fits d slots b i (mark_of ms i)

  pub all_fit : (n : ℕ) → list_all slot_ok (range_with_len 0 n) ≡ slots_fit ms d slots b n
  unfolding slots_fit
  all_fit zero = refl
  all_fit (suc n) =
      sym (list_all-map (λ (x : Bool). x) slot_ok (range_with_len 0 (suc n)))
      ∙ ap (list_all (λ (x : Bool). x)) (ap (λ (k : ℕ). map slot_ok (range_with_len 0 k)) (sym (add-one n)) ∙ map-range_with_len_more slot_ok 0 n n (omega arith))
      ∙ list_all-append (λ (x : Bool). x) (map slot_ok (range_with_len 0 n)) (slot_ok n ∷ [])
      ∙ both_hold (list_all (λ (x : Bool). x) (map slot_ok (range_with_len 0 n))) (slot_ok n)
      ∙ ap (λ (x : Bool). cond x (slot_ok n) false) (list_all-map (λ (x : Bool). x) slot_ok (range_with_len 0 n) ∙ all_fit n)

-- the bound, by the timestamp that lies at a place
pub under_free : (b : Option Timestamp) (x : ℕ) → b ≡ None → true ≡ under_of b x
unfolding under_of
under_free b x e = rw e

pub under_is : (b : Option Timestamp) (u t : Timestamp) (x : ℕ) (w : Bool) → b ≡ Some u → stamp_number t ≡ x → w ≡ ltb (stamp_number t) (stamp_number u) → w ≡ under_of b x
unfolding under_of
under_is b u t x w e f g = g ∙ rw (e, f)

-- ---- a mark that is set: its own, another
pub mark_own : (ms : List Heard) (i : ℕ) (m : Heard) → mark_of (set ms i m) i ≡ Record → m ≡ Record
mark_own [] i m e = absurd (let z : ◌≡◌ {A = ℕ} 0 1 = cc in omega arith)
mark_own (x ∷ ms) zero m e = e
mark_own (x ∷ ms) (suc i) m e = mark_own ms i m e

pub mark_other : (ms : List Heard) (i k : ℕ) (m : Heard) → (k ≡ i → ⊥) → mark_of (set ms i m) k ≡ mark_of ms k
mark_other [] i k m h = refl
mark_other (x ∷ ms) zero zero m h = absurd (h refl)
mark_other (x ∷ ms) zero (suc k) m h = refl
mark_other (x ∷ ms) (suc i) zero m h = refl
mark_other (x ∷ ms) (suc i) (suc k) m h = mark_other ms i k m (λ e. h (ap suc e))

pub mark_set : (ms : List Heard) (i : ℕ) (m : Heard) → i < length ms → mark_of (set ms i m) i ≡ m
mark_set [] i m h = absurd (omega arith)
mark_set (x ∷ ms) zero m h = refl
mark_set (x ∷ ms) (suc i) m h = mark_set ms i m (omega arith)

-- one more is heard
pub count_set : (ms : List Heard) (i : ℕ) (m : Heard) → i < length ms → mark_of ms i ≡ Unheard → bit_of m ≡ 1 → heard_count (set ms i m) ≡ suc (heard_count ms)
unfolding heard_count
count_set [] i m h u e = absurd (omega arith)
count_set (x ∷ ms) zero m h u e = let z : bit_of x ≡ 0 = ap bit_of u in omega (arith, z, e)
count_set (x ∷ ms) (suc i) m h u e = ap (λ (n : ℕ). bit_of x + n) (count_set ms i m (omega arith) u e) ∙ omega arith

-- what refusal 11 leaves
pub not_heard : (h : Heard) → eqb (bit_of h) 1 ≡ false → h ≡ Unheard
not_heard Unheard e = refl
not_heard First e = absurd (eqb-false 1 1 e refl)
not_heard Record e = absurd (eqb-false 1 1 e refl)
