-- What is true of every close: the candidate is the greatest timestamp heard and its node is marked record; the set is rising and holds
-- exactly the nodes below n that bear the candidate's timestamp and cross checksum, the candidate's node first; the verdict tells the set's
-- size. Assumes nothing.
use mathlib.Core.Path.{◌≡◌, refl, sym, ap, ◌∙◌, subst}
use mathlib.Core.Bool.{Bool, true, false, cond}
use mathlib.Core.List.{List, [], ◌∷◌, ◌++◌}
use Prim.Native.Nat.{ℕ, zero, suc, ◌+◌, ◌≤◌, ◌<◌}
use native.Mathlib.Decide.{ℕ_discrete}
use native.Mathlib.Omega.{arith}
use borrow.Author.Tests.{leb-true, leb-false, ltb-true, ltb-false, eq-eqb}
use lib.ListN.{length, length-append}
use lib.Dec.{ltb, leb, eqb}
use Rattle.octets.specs.Bytes.{part, num}
use Rattle.octets.proofs.Laws.{part_part}
use Rattle.octets.proofs.Meaning.{alike_refl, not_alike}
use Rattle.fragments.specs.Fragments.{All, Distinct, among}
use Rattle.fragments.proofs.Interp.{all_map}
use Rattle.terms.specs.declared.Member.{Member}
use Rattle.terms.specs.declared.Member.TheVariants.{Repairable, NonRepair}
use Rattle.terms.specs.declared.Verdict.TheVariants as verdict
use Rattle.terms.specs.declared.Class.{Class}
use Rattle.terms.specs.declared.Class.TheVariants as class
use Rattle.terms.proofs.Facts.{is_complete, is_incomplete, is_unclassifiable}
use Rattle.terms.specs.Terms.{class_of, verdict_of, unsure, decided, slot_at}
use Rattle.terms.specs.declared.Slots.{Slots}
use Rattle.rounds.specs.declared.Heard.{Heard}
use Rattle.rounds.specs.declared.Heard.TheVariants.{Unheard, First, Record}
use Rattle.std.proofs.Common.{Option, None, Some}
use Rattle.rounds.specs.Rounds.{slot_stamp, mark_of, ahead_of, step_of, lead_of, LeadIn, joins_of, set_of}
use Rattle.rounds.specs.Closes.{Best, Rising, Members}
use Rattle.rounds.proofs.Laws.{lead_in}

nonsense : {A : Type 0} → ◌≡◌ {A = ℕ} 0 1 → A
nonsense z = absurd (omega arith)

-- ---- the candidate
-- the first triple is the candidate only where no node is marked record; else it is the best
abbrev pub Leads : List Heard → List ℕ → Slots → ℕ → Option ℕ → Type 0
Leads ms d slots n None = (i : ℕ) → i < n → mark_of ms i ≡ Record → ⊥
Leads ms d slots n (Some a) = Best ms d slots n a

module _ (ms : List Heard) (d : List ℕ) (slots : Slots) (n : ℕ) where
  at_most : {P : ℕ → Type 0} → ((i : ℕ) → i < n → P i) → P n → (i : ℕ) → i < suc n → P i
  at_most {P} f p i h = go (ℕ_discrete i n)
    where
      go : Dec (i ≡ n) → P i
      go (yes e) = subst P (sym e) p
      go (no e) = f i (omega arith)

  -- a node that is no record changes nothing
  same : (l : Option ℕ) → (mark_of ms n ≡ Record → ⊥) → Leads ms d slots n l → Leads ms d slots (suc n) l
  same None off k = at_most {P = λ (i : ℕ). mark_of ms i ≡ Record → ⊥} k off
  same (Some a) off k =
      record {
        marked = k.marked;
        greatest = at_most {P = λ (i : ℕ). mark_of ms i ≡ Record → slot_stamp d slots i ≤ slot_stamp d slots a} k.greatest (λ e. absurd (off e));
        lowest = k.lowest;
      }

  taken : (l : Option ℕ) → mark_of ms n ≡ Record → LeadIn l n → Leads ms d slots n l → Leads ms d slots (suc n) (ahead_of d slots l n)
  taken None m b k =
      unfold ahead_of in
      record {
        marked = m;
        greatest = at_most {P = λ (i : ℕ). mark_of ms i ≡ Record → slot_stamp d slots i ≤ slot_stamp d slots n} (λ i h e. absurd (k i h e)) (λ e. omega arith);
        lowest = λ i h e. absurd (k i h e);
      }
  taken (Some a) m b k = unfold ahead_of in go (ltb (slot_stamp d slots a) (slot_stamp d slots n)) refl
    where
      go : (t : Bool) → ltb (slot_stamp d slots a) (slot_stamp d slots n) ≡ t → Leads ms d slots (suc n) (cond t (Some n) (Some a))
      go true e =
          let h = ltb-true (slot_stamp d slots a) (slot_stamp d slots n) e in
          record {
            marked = m;
            greatest = at_most {P = λ (i : ℕ). mark_of ms i ≡ Record → slot_stamp d slots i ≤ slot_stamp d slots n} (λ i l q. omega (arith, k.greatest i l q)) (λ q. omega arith);
            lowest = λ i l q. omega (arith, k.greatest i l q);
          }
      go false e =
          let h = ltb-false (slot_stamp d slots a) (slot_stamp d slots n) e in
          record {
            marked = k.marked;
            greatest = at_most {P = λ (i : ℕ). mark_of ms i ≡ Record → slot_stamp d slots i ≤ slot_stamp d slots a} k.greatest (λ q. h);
            lowest = k.lowest;
          }

  step_leads : (l : Option ℕ) (m : Heard) → mark_of ms n ≡ m → LeadIn l n → Leads ms d slots n l → Leads ms d slots (suc n) (step_of d slots l n m)
  step_leads l Record e b k = unfold step_of in taken l e b k
  step_leads l First e b k = unfold step_of in same l (λ q. nonsense (let z : ◌≡◌ {A = ℕ} 0 1 = cc in z)) k
  step_leads l Unheard e b k = unfold step_of in same l (λ q. nonsense (let z : ◌≡◌ {A = ℕ} 0 1 = cc in z)) k

pub leads : (ms : List Heard) (d : List ℕ) (slots : Slots) (n : ℕ) → Leads ms d slots n (lead_of ms d slots n)
unfolding lead_of
leads ms d slots zero = λ i h e. absurd (omega arith)
leads ms d slots (suc n) = step_leads ms d slots n (lead_of ms d slots n) (mark_of ms n) refl (lead_in ms d slots n) (leads ms d slots n)

-- THE CANDIDATE IS THE GREATEST TIMESTAMP HEARD, at its lowest-numbered node
pub candidate : (ms : List Heard) (d : List ℕ) (slots : Slots) (n a : ℕ) → lead_of ms d slots n ≡ Some a → Best ms d slots n a
candidate ms d slots n a e = subst (Leads ms d slots n) e (leads ms d slots n)

-- the first triple is the candidate only where no node is marked record
pub no_candidate : (ms : List Heard) (d : List ℕ) (slots : Slots) (n : ℕ) → lead_of ms d slots n ≡ None → (i : ℕ) → i < n → mark_of ms i ≡ Record → ⊥
no_candidate ms d slots n e = subst (Leads ms d slots n) e (leads ms d slots n)

-- ---- the set
-- a rising list has each number once
pub rising_distinct : (l : List ℕ) → Rising l → Distinct l
rising_distinct [] r = tt
rising_distinct (x ∷ l) r = (all_map (λ y h e. omega arith) l r.0, rising_distinct l r.1)

all_snoc : (P : ℕ → Type 0) (l : List ℕ) (i : ℕ) → All P l → P i → All P (l ++ (i ∷ []))
all_snoc P [] i b p = (p, tt)
all_snoc P (x ∷ l) i b p = (b.0, all_snoc P l i b.1 p)

-- a number put after those below it
rising_snoc : (l : List ℕ) (i : ℕ) → All (λ (y : ℕ). y < i) l → Rising l → Rising (l ++ (i ∷ []))
rising_snoc [] i b r = (tt, tt)
rising_snoc (x ∷ l) i b r = (all_snoc (λ (y : ℕ). x < y) l i r.0 b.0, rising_snoc l i b.1 r.1)

among_last : (i : ℕ) (l : List ℕ) → among i (l ++ (i ∷ [])) ≡ true
unfolding among
among_last i [] = rw (eq-eqb i i refl)
among_last i (x ∷ l) = go (eqb x i) (among_last i l)
  where
    go : (t : Bool) → among i (l ++ (i ∷ [])) ≡ true → cond t true (among i (l ++ (i ∷ []))) ≡ true
    go true more = refl
    go false more = more

among_more : (y i : ℕ) (l : List ℕ) → among y l ≡ true → among y (l ++ (i ∷ [])) ≡ true
unfolding among
among_more y i [] e = nonsense (let z : ◌≡◌ {A = ℕ} 0 1 = cc in z)
among_more y i (x ∷ l) e = go (eqb x y) e (among_more y i l)
  where
    go : (t : Bool) → cond t true (among y l) ≡ true → (among y l ≡ true → among y (l ++ (i ∷ [])) ≡ true) → cond t true (among y (l ++ (i ∷ []))) ≡ true
    go true k more = refl
    go false k more = more k

all_more : (l : List ℕ) (i : ℕ) → All (λ (y : ℕ). y < i) l → All (λ (y : ℕ). y < suc i) l
all_more [] i b = tt
all_more (x ∷ l) i b = (omega arith, all_more l i b.1)

-- THE SET IS RISING, BELOW n, and its nodes are exactly those that bear the candidate's timestamp and cross checksum
pub members_are : (ms : List Heard) (d : List ℕ) (slots : Slots) (a n : ℕ) → Members d slots a n ms (set_of ms d slots a n)
unfolding set_of
members_are ms d slots a zero = record { few = omega arith; below = tt; rises = tt; joined = tt; all = λ y l e. absurd (omega arith) }
members_are ms d slots a (suc n) = go (joins_of d slots a n (mark_of ms n)) refl (members_are ms d slots a n)
  where
    l : List ℕ
    l = set_of ms d slots a n

    go : (t : Bool) → joins_of d slots a n (mark_of ms n) ≡ t → Members d slots a n ms l → Members d slots a (suc n) ms (cond t (l ++ (n ∷ [])) l)
    go true e k =
        record {
          few = let z : length (l ++ (n ∷ [])) ≡ length l + 1 = length-append l (n ∷ []) in omega (arith, z, k.few);
          below = all_snoc (λ (y : ℕ). y < suc n) l n (all_more l n k.below) (omega arith);
          rises = rising_snoc l n k.below k.rises;
          joined = all_snoc (λ (y : ℕ). joins_of d slots a y (mark_of ms y) ≡ true) l n k.joined e;
          all = at_most ms d slots n {P = λ (y : ℕ). joins_of d slots a y (mark_of ms y) ≡ true → among y (l ++ (n ∷ [])) ≡ true}
              (λ y u j. among_more y n l (k.all y u j)) (λ j. among_last n l);
        }
    go false e k =
        record {
          few = omega (arith, k.few);
          below = all_more l n k.below;
          rises = k.rises;
          joined = k.joined;
          all = at_most ms d slots n {P = λ (y : ℕ). joins_of d slots a y (mark_of ms y) ≡ true → among y l ≡ true} k.all
              (λ j. nonsense (let z : ◌≡◌ {A = ℕ} 0 1 = cc in z));
        }

-- ---- the lead is the first of its set
-- a list that starts with a
pub record Headed (a : ℕ) (l : List ℕ) : Type 0 where
  pub rest : List ℕ
  pub is : l ≡ a ∷ rest

module _ (ms : List Heard) (d : List ℕ) (slots : Slots) (a n : ℕ) (wide : 40 ≤ slots.head) (best : Best ms d slots n a) where
  -- heads that are alike bear one timestamp
  stamp_part : (i : ℕ) → part (part d (slot_at slots i) slots.head) 0 40 ≡ part d (slot_at slots i) 40
  stamp_part i = let z : slot_at slots i + 0 ≡ slot_at slots i = omega arith in part_part d (slot_at slots i) slots.head 0 40 wide ∙ ap (λ (y : ℕ). part d y 40) z

  -- a node below the lead bears a lesser one, or none
  not_before : (i : ℕ) → i < a → joins_of d slots a i (mark_of ms i) ≡ false
  unfolding joins_of slot_stamp
  not_before i l = go (mark_of ms i) refl
    where
      go : (m : Heard) → mark_of ms i ≡ m → joins_of d slots a i m ≡ false
      go Record e =
          not_alike (part d (slot_at slots i) slots.head) (part d (slot_at slots a) slots.head)
          (λ q.
          let z : slot_stamp d slots i ≡ slot_stamp d slots a = ap num (sym (stamp_part i) ∙ ap (λ (x : List ℕ). part x 0 40) q ∙ stamp_part a) in
          omega (arith, z, best.lowest i l e))
      go First e = refl
      go Unheard e = refl

  none_before : (i : ℕ) → i ≤ a → set_of ms d slots a i ≡ []
  unfolding set_of
  none_before zero l = refl
  none_before (suc i) l = rw (not_before i (omega arith)) (none_before i (omega arith))

  joins_itself : joins_of d slots a a (mark_of ms a) ≡ true
  joins_itself = unfold joins_of in rw best.marked (alike_refl (part d (slot_at slots a) slots.head))

  pub set_headed : (i : ℕ) → a < i → Headed a (set_of ms d slots a i)
  unfolding set_of
  set_headed zero l = absurd (omega arith)
  set_headed (suc i) l = go (ℕ_discrete a i) (λ u. set_headed i u)
    where
      on : (t : Bool) → Headed a (set_of ms d slots a i) → Headed a (cond t (set_of ms d slots a i ++ (i ∷ [])) (set_of ms d slots a i))
      on true k = record { rest = k.rest ++ (i ∷ []); is = ap (λ (x : List ℕ). x ++ (i ∷ [])) k.is }
      on false k = k

      go : Dec (a ≡ i) → (a < i → Headed a (set_of ms d slots a i))
          → Headed a (cond (joins_of d slots a i (mark_of ms i)) (set_of ms d slots a i ++ (i ∷ [])) (set_of ms d slots a i))
      go (yes e) more = rw (← e, joins_itself, none_before a (omega arith)) (record { rest = []; is = refl })
      go (no e) more = on (joins_of d slots a i (mark_of ms i)) (more (omega arith))

-- ---- the verdict tells the size
module _ (member : Member) (high low size : ℕ) where
  of_class : (x : Class) → x ≡ class_of high low size → decided member high low size ≡ verdict_of member x
  of_class x e = unfold decided in ap (verdict_of member) (sym e)

  unlike : (k : Member) → (verdict.Complete ≡ unsure k → ⊥)
  unlike Repairable e = let z : ◌≡◌ {A = ℕ} 0 1 = cc in omega arith
  unlike NonRepair e = let z : ◌≡◌ {A = ℕ} 0 1 = cc in omega arith

  pub decided_complete : decided member high low size ≡ verdict.Complete → high ≤ size
  decided_complete e = go (leb high size) refl (leb low size) refl
    where
      go : (s : Bool) → leb high size ≡ s → (u : Bool) → leb low size ≡ u → high ≤ size
      go true f u g = leb-true high size f
      go false f true g =
          absurd (unlike member (sym e ∙ of_class class.Unclassifiable (is_unclassifiable high low size (leb-false high size f) (leb-true low size g))))
      go false f false g =
          let k = sym e ∙ of_class class.Incomplete (is_incomplete high low size (leb-false high size f) (leb-false low size g)) in
          let z : ◌≡◌ {A = ℕ} 0 1 = cc in
          absurd (omega arith)

  repairing : (k : Member) → unsure k ≡ verdict.Repair → k ≡ Repairable
  repairing Repairable e = refl
  repairing NonRepair e = let z : ◌≡◌ {A = ℕ} 0 1 = cc in absurd (omega arith)

  pub decided_repair : decided member high low size ≡ verdict.Repair → (low ≤ size) × (member ≡ Repairable)
  decided_repair e = go (leb high size) refl (leb low size) refl
    where
      go : (s : Bool) → leb high size ≡ s → (u : Bool) → leb low size ≡ u → (low ≤ size) × (member ≡ Repairable)
      go true f u g =
          let k = sym e ∙ of_class class.Complete (is_complete high low size (leb-true high size f)) in
          let z : ◌≡◌ {A = ℕ} 0 1 = cc in
          absurd (omega arith)
      go false f true g =
          (leb-true low size g, repairing member (sym (of_class class.Unclassifiable (is_unclassifiable high low size (leb-false high size f) (leb-true low size g))) ∙ e))
      go false f false g =
          let k = sym e ∙ of_class class.Incomplete (is_incomplete high low size (leb-false high size f) (leb-false low size g)) in
          let z : ◌≡◌ {A = ℕ} 0 1 = cc in
          absurd (omega arith)
