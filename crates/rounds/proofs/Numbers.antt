-- How many nodes a test holds of: two choices of nodes that are more than n together have nodes in common (number_both), and where one is more than
-- another it has a node that the other has not (number_left). The heard nodes of a round, and the nodes of a set, are so counted. Assumes nothing.
use Prim.Native.Nat.{ℕ, zero, suc, ◌+◌, ◌≤◌, ◌<◌}
use mathlib.Core.Path.{◌≡◌, refl, sym, ap, ◌∙◌}
use mathlib.Core.Bool.{Bool, true, false, cond, not}
use mathlib.Core.List.{List, [], ◌∷◌, ◌++◌}
use native.Mathlib.Omega.{arith}
use borrow.Author.Tests.{leb-true, leb-false, eqb-true, eqb-false, ne_eqb}
use lib.Dec.{leb, eqb}
use lib.ListN.{length, length-append, take, drop, take-append-drop}
use Rattle.terms.specs.Ladder.{◌and◌}
use Rattle.terms.specs.declared.Slots.{Slots}
use Rattle.terms.proofs.Rungs.{both, clash}
use Rattle.rounds.specs.declared.Heard.{Heard}
use Rattle.rounds.specs.declared.Heard.TheVariants.{Unheard, First, Record}
use Rattle.rounds.specs.Rounds.{bit_of, heard_count, heard_at, mark_of, unheard, every, is_unheard, rest_unheard, joins_of, set_of}
use Rattle.rounds.specs.Numbers.{number_of}
use Rattle.rounds.proofs.Laws.{count_turn}

-- ---- choices of nodes
abbrev pub one_if : Bool → ℕ
one_if t = cond t 1 0

pub number_same : (a b : ℕ → Bool) (n : ℕ) → ((k : ℕ) → k < n → a k ≡ b k) → number_of a n ≡ number_of b n
unfolding number_of
number_same a b zero e = refl
number_same a b (suc n) e = (λ i. one_if (e n (omega arith) i) + number_same a b n (λ k h. e k (omega arith)) i)

pub number_none : (n : ℕ) → number_of (λ (k : ℕ). false) n ≡ 0
unfolding number_of
number_none zero = refl
number_none (suc n) = omega (arith, number_none n)

-- of two tests some hold together
pub number_both : (a b : ℕ → Bool) (n : ℕ) → number_of a n + number_of b n ≤ n + number_of (λ (k : ℕ). a k and b k) n
unfolding number_of
number_both a b zero = omega arith
number_both a b (suc n) = go (a n) (b n) (number_both a b n)
  where
    go : (x y : Bool) → number_of a n + number_of b n ≤ n + number_of (λ (k : ℕ). a k and b k) n
        → (one_if x + number_of a n) + (one_if y + number_of b n) ≤ suc n + (one_if (x and y) + number_of (λ (k : ℕ). a k and b k) n)
    go true true h = omega arith
    go true false h = omega arith
    go false y h = most y
      where
        most : (z : Bool) → (0 + number_of a n) + (one_if z + number_of b n) ≤ suc n + (0 + number_of (λ (k : ℕ). a k and b k) n)
        most true = omega arith
        most false = omega arith

pub number_more : (a b : ℕ → Bool) (n : ℕ) → ((k : ℕ) → k < n → a k ≡ true → b k ≡ true) → number_of a n ≤ number_of b n
unfolding number_of
number_more a b zero h = omega arith
number_more a b (suc n) h = go (a n) refl (number_more a b n (λ k l. h k (omega arith)))
  where
    go : (x : Bool) → a n ≡ x → number_of a n ≤ number_of b n → one_if x + number_of a n ≤ one_if (b n) + number_of b n
    go true e k = rw (h n (omega arith) e) (omega arith)
    go false e k = omega arith

-- more of the one than of the other: one that is not of the other
pub record Left (a b : ℕ → Bool) (n : ℕ) : Type 0 where
  pub node : ℕ
  pub low : node < n
  pub is : a node ≡ true
  pub not_other : b node ≡ false

pub number_left : (a b : ℕ → Bool) (n : ℕ) → number_of b n < number_of a n → Left a b n
unfolding number_of
number_left a b zero h = absurd (omega arith)
number_left a b (suc n) h = go (a n) refl (b n) refl (number_left a b n) h
  where
    down : Left a b n → Left a b (suc n)
    down l = record { node = l.node; low = omega (arith, l.low); is = l.is; not_other = l.not_other }

    go : (x : Bool) → a n ≡ x → (y : Bool) → b n ≡ y → (number_of b n < number_of a n → Left a b n) → one_if y + number_of b n < one_if x + number_of a n → Left a b (suc n)
    go true e false f ih k = record { node = n; low = omega arith; is = e; not_other = f }
    go true e true f ih k = down (ih (omega arith))
    go false e y f ih k = down (ih (omega arith))

-- ---- a test that is changed at one node
module _ (g : ℕ → Bool) (j : ℕ) (b : Bool) where
  abbrev pub changed : ℕ → Bool
  changed k = cond (eqb j k) b (g k)

  number_above : (n : ℕ) → n ≤ j → number_of changed n ≡ number_of g n
  number_above n h = number_same changed g n (λ k l. rw (ne_eqb j k (λ z. omega arith)))

  pub number_one : g j ≡ false → (n : ℕ) → j < n → number_of changed n ≡ one_if b + number_of g n
  unfolding number_of
  number_one e zero h = absurd (omega arith)
  number_one e (suc n) h = go (eqb j n) refl (number_one e n)
    where
      go : (t : Bool) → eqb j n ≡ t → (j < n → number_of changed n ≡ one_if b + number_of g n)
          → one_if (cond t b (g n)) + number_of changed n ≡ one_if b + (one_if (g n) + number_of g n)
      go true q ih =
          let z : j ≡ n = eqb-true j n q in
          let f : g n ≡ false = ap g (sym z) ∙ e in
          rw f (omega (arith, number_above n (omega arith)))
      go false q ih = omega (arith, ih (let z = eqb-false j n q in lower z))
        where
          lower : (j ≡ n → ⊥) → j < n
          lower z = below (leb n j) refl z
            where
              below : (t : Bool) → leb n j ≡ t → (j ≡ n → ⊥) → j < n
              below true r y = absurd (y (let m = leb-true n j r in omega arith))
              below false r y = leb-false n j r

-- those of which a test holds, and those of which it does not
pub number_not : (a : ℕ → Bool) (n : ℕ) → number_of a n + number_of (λ (k : ℕ). not (a k)) n ≡ n
unfolding number_of
number_not a zero = refl
number_not a (suc n) = go (a n) (number_not a n)
  where
    go : (x : Bool) → number_of a n + number_of (λ (k : ℕ). not (a k)) n ≡ n → (one_if x + number_of a n) + (one_if (not x) + number_of (λ (k : ℕ). not (a k)) n) ≡ suc n
    go true h = omega arith
    go false h = omega arith

-- ---- the nodes that are heard
one_heard : (h : Heard) → one_if (eqb (bit_of h) 1) ≡ bit_of h
one_heard Unheard = refl
one_heard First = refl
one_heard Record = refl

heard_first : (ms : List Heard) (i : ℕ) → i ≤ length ms → number_of (heard_at ms) i ≡ heard_count (take i ms)
unfolding number_of heard_count
heard_first ms zero l = refl
heard_first ms (suc i) l =
    let c = count_turn ms i (number_of (heard_at ms) i) (one_if (heard_at ms i)) unheard (omega arith) (heard_first ms i (omega arith)) (one_heard (mark_of ms i)) in
    let z : i + 1 ≡ suc i = omega arith in
    let s : heard_count (take (i + 1) ms) ≡ heard_count (take (suc i) ms) = ap (λ (k : ℕ). heard_count (take k ms)) z in
    omega (arith, c, s)

count_append : (a b : List Heard) → heard_count (a ++ b) ≡ heard_count a + heard_count b
unfolding heard_count
count_append [] b = omega arith
count_append (m ∷ a) b = omega (arith, count_append a b)

count_unheard : (l : List Heard) → every is_unheard l ≡ true → heard_count l ≡ 0
unfolding heard_count every
count_unheard [] e = refl
count_unheard (m ∷ l) e =
    let q = both (is_unheard m) _ e in
    omega (arith, count_unheard l q.1, none m q.0)
  where
    none : (h : Heard) → is_unheard h ≡ true → bit_of h ≡ 0
    none Unheard e = refl
    none First e = absurd (clash (sym e))
    none Record e = absurd (clash (sym e))

pub heard_number : (ms : List Heard) (n : ℕ) → n ≤ length ms → rest_unheard ms n ≡ true → number_of (heard_at ms) n ≡ heard_count ms
heard_number ms n l e =
    let c : heard_count (take n ms ++ drop n ms) ≡ heard_count ms = ap heard_count (take-append-drop n ms) in
    omega (arith, c, count_append (take n ms) (drop n ms), count_unheard (drop n ms) e, heard_first ms n l)

-- ---- the nodes of a set
pub set_number : (ms : List Heard) (d : List ℕ) (slots : Slots) (a n : ℕ) → length (set_of ms d slots a n) ≡ number_of (λ (k : ℕ). joins_of d slots a k (mark_of ms k)) n
unfolding number_of set_of
set_number ms d slots a zero = refl
set_number ms d slots a (suc n) = go (joins_of d slots a n (mark_of ms n)) (set_number ms d slots a n)
  where
    go : (x : Bool) → length (set_of ms d slots a n) ≡ number_of (λ (k : ℕ). joins_of d slots a k (mark_of ms k)) n
        → length (cond x (set_of ms d slots a n ++ (n ∷ [])) (set_of ms d slots a n)) ≡ one_if x + number_of (λ (k : ℕ). joins_of d slots a k (mark_of ms k)) n
    go true h = omega (arith, length-append (set_of ms d slots a n) (n ∷ []), h)
    go false h = omega (arith, h)
