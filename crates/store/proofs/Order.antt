-- Rising lists of records: the same members, the same list. Assumes nothing.
use mathlib.Core.Path.{◌≡◌, refl, sym, ap, ◌∙◌, subst}
use mathlib.Core.Bool.{Bool, true, false, cond}
use mathlib.Core.List.{List, [], ◌∷◌}
use mathlib.Core.Logic.{◌⊎◌, inl, inr}
use Prim.Native.Nat.{ℕ, ◌≤◌, ◌<◌}
use native.Mathlib.Omega.{arith}
use borrow.Author.Tests.{ltb-true, ltb-false, eqb-false, lt-ltb, ne_eqb}
use lib.Dec.{ltb, eqb}
use Rattle.octets.specs.Bytes.{alike}
use Rattle.octets.proofs.Meaning.{alike_is, is_alike}
use Rattle.terms.proofs.Small.{strict}
use Rattle.terms.proofs.Rungs.{both, clash}
use Rattle.terms.specs.Stamp.{stamp}
use Rattle.book.specs.Records.{rising, above, some, holds, insert_record, kept}
use Rattle.book.proofs.Lists.{above_rising}
use Rattle.store.specs.Deliver.{Among, kept_all}

pub among_first : (x z : List ℕ) (xs : List (List ℕ)) → x ≡ z → Among z (x ∷ xs)
unfolding some
among_first x z xs e = rw (is_alike x z e)

pub among_later : (x z : List ℕ) (xs : List (List ℕ)) → Among z xs → Among z (x ∷ xs)
unfolding some
among_later x z xs h = go (alike x z)
  where
    go : (t : Bool) → cond t true (some (λ (y : List ℕ). alike y z) xs) ≡ true
    go true = refl
    go false = h

pub among_case : (x z : List ℕ) (xs : List (List ℕ)) → Among z (x ∷ xs) → (x ≡ z) ⊎ Among z xs
unfolding some
among_case x z xs h = go (alike x z) refl h
  where
    go : (t : Bool) → alike x z ≡ t → cond t true (some (λ (y : List ℕ). alike y z) xs) ≡ true → (x ≡ z) ⊎ Among z xs
    go true e k = inl (alike_is x z e)
    go false e k = inr k

pub among_none : (z : List ℕ) → Among z [] → ⊥
unfolding some
among_none z h = clash (sym h)

pub among_above : (low : ℕ) (z : List ℕ) (xs : List (List ℕ)) → above low xs ≡ true → Among z xs → low < stamp z
unfolding above
among_above low z [] a h = absurd (among_none z h)
among_above low z (x ∷ xs) a h = go (among_case x z xs h) (among_above (stamp x) z xs)
  where
    q : (ltb low (stamp x) ≡ true) × (above (stamp x) xs ≡ true)
    q = both (ltb low (stamp x)) _ a

    go : (x ≡ z) ⊎ Among z xs → (above (stamp x) xs ≡ true → Among z xs → stamp x < stamp z) → low < stamp z
    go (inl e) ih = let l : low < stamp x = ltb-true _ _ q.0 in subst (λ (y : List ℕ). low < stamp y) e l
    go (inr k) ih = let l : low < stamp x = ltb-true _ _ q.0 in let m = ih q.1 k in omega arith

-- in a rising list one timestamp is one record
pub rising_one : (rs : List (List ℕ)) → rising rs ≡ true → (z w : List ℕ) → Among z rs → Among w rs → stamp z ≡ stamp w → z ≡ w
unfolding rising
rising_one [] a z w hz hw e = absurd (among_none z hz)
rising_one (x ∷ rs) a z w hz hw e = go (among_case x z rs hz) (among_case x w rs hw) (λ k l. rising_one rs (above_rising (stamp x) rs a) z w k l e)
  where
    go : (x ≡ z) ⊎ Among z rs → (x ≡ w) ⊎ Among w rs → (Among z rs → Among w rs → z ≡ w) → z ≡ w
    go (inl p) (inl q) ih = sym p ∙ q
    go (inl p) (inr k) ih =
        absurd (let l = among_above (stamp x) w rs a k in let m : stamp x ≡ stamp z = ap (λ (y : List ℕ). stamp y) p in omega arith)
    go (inr k) (inl q) ih =
        absurd (let l = among_above (stamp x) z rs a k in let m : stamp x ≡ stamp w = ap (λ (y : List ℕ). stamp y) q in omega arith)
    go (inr k) (inr l) ih = ih k l

abbrev pub Same : List (List ℕ) → List (List ℕ) → Type 0
Same xs ys = (z : List ℕ) → (Among z xs → Among z ys) × (Among z ys → Among z xs)

-- two strictly rising lists with the same members are equal
pub rising_same : (xs ys : List (List ℕ)) → rising xs ≡ true → rising ys ≡ true → Same xs ys → xs ≡ ys
unfolding rising
rising_same [] [] a b s = refl
rising_same [] (y ∷ ys) a b s = absurd (among_none y ((s y).1 (among_first y y ys refl)))
rising_same (x ∷ xs) [] a b s = absurd (among_none x ((s x).0 (among_first x x xs refl)))
rising_same (x ∷ xs) (y ∷ ys) a b s =
    let e : y ≡ x = first_same (among_case y x ys ((s x).0 (among_first x x xs refl))) (among_case x y xs ((s y).1 (among_first y y ys refl))) in
    let t : xs ≡ ys = rising_same xs ys (above_rising (stamp x) xs a) (above_rising (stamp y) ys b)
    (λ z. (λ h. tail_1 e z h (among_case y z ys ((s z).0 (among_later x z xs h))), λ h. tail_2 e z h (among_case x z xs ((s z).1 (among_later y z ys h))))) in
    (λ i. sym e i ∷ t i)
  where
    first_same : (y ≡ x) ⊎ Among x ys → (x ≡ y) ⊎ Among y xs → y ≡ x
    first_same (inl e) q = e
    first_same (inr h) (inl e) = sym e
    first_same (inr h) (inr k) = absurd (let l = among_above (stamp y) x ys b h in let m = among_above (stamp x) y xs a k in omega arith)

    tail_1 : y ≡ x → (z : List ℕ) → Among z xs → (y ≡ z) ⊎ Among z ys → Among z ys
    tail_1 e z h (inr k) = k
    tail_1 e z h (inl k) =
        absurd (let l = among_above (stamp x) z xs a h in let m : stamp x ≡ stamp z = ap (λ (w : List ℕ). stamp w) (sym e ∙ k) in omega arith)

    tail_2 : y ≡ x → (z : List ℕ) → Among z ys → (x ≡ z) ⊎ Among z xs → Among z xs
    tail_2 e z h (inr k) = k
    tail_2 e z h (inl k) =
        absurd (let l = among_above (stamp y) z ys b h in let m : stamp y ≡ stamp z = ap (λ (w : List ℕ). stamp w) (e ∙ k) in omega arith)

-- ---- a record put in its place
-- no record of this timestamp
abbrev pub Free : List ℕ → List (List ℕ) → Type 0
Free rec rs = some (λ (x : List ℕ). eqb (stamp x) (stamp rec)) rs ≡ false

free_split : (rec x : List ℕ) (rs : List (List ℕ)) → Free rec (x ∷ rs) → (eqb (stamp x) (stamp rec) ≡ false) × Free rec rs
unfolding some
free_split rec x rs h = go (eqb (stamp x) (stamp rec)) refl h
  where
    go : (t : Bool) → eqb (stamp x) (stamp rec) ≡ t → cond t true (some (λ (y : List ℕ). eqb (stamp y) (stamp rec)) rs) ≡ false
        → (t ≡ false) × Free rec rs
    go true e k = absurd (clash k)
    go false e k = (refl, k)

pub above_insert : (low : ℕ) (rec : List ℕ) (rs : List (List ℕ)) → low < stamp rec → above low rs ≡ true → Free rec rs
    → above low (insert_record rec rs) ≡ true
unfolding above insert_record
above_insert low rec [] l a f = rw (lt-ltb low (stamp rec) l)
above_insert low rec (x ∷ rs) l a f = go (ltb (stamp x) (stamp rec)) refl (above_insert (stamp x) rec rs)
  where
    q : (ltb low (stamp x) ≡ true) × (above (stamp x) rs ≡ true)
    q = both (ltb low (stamp x)) _ a

    s : (eqb (stamp x) (stamp rec) ≡ false) × Free rec rs
    s = free_split rec x rs f

    go : (t : Bool) → ltb (stamp x) (stamp rec) ≡ t
        → (stamp x < stamp rec → above (stamp x) rs ≡ true → Free rec rs → above (stamp x) (insert_record rec rs) ≡ true)
        → above low (cond t (x ∷ insert_record rec rs) (rec ∷ x ∷ rs)) ≡ true
    go true e ih = rw q.0 (ih (ltb-true _ _ e) q.1 s.1)
    go false e ih =
        let u : stamp rec ≤ stamp x = ltb-false _ _ e in
        let v : stamp x ≡ stamp rec → ⊥ = eqb-false _ _ s.0 in
        let w : stamp rec < stamp x = strict (stamp rec) (stamp x) u (λ z. v (sym z)) in
        rw (lt-ltb low (stamp rec) l, lt-ltb (stamp rec) (stamp x) w) q.1

pub rising_insert : (rec : List ℕ) (rs : List (List ℕ)) → rising rs ≡ true → Free rec rs → rising (insert_record rec rs) ≡ true
unfolding rising insert_record above
rising_insert rec [] a f = refl
rising_insert rec (x ∷ rs) a f = go (ltb (stamp x) (stamp rec)) refl
  where
    s : (eqb (stamp x) (stamp rec) ≡ false) × Free rec rs
    s = free_split rec x rs f

    go : (t : Bool) → ltb (stamp x) (stamp rec) ≡ t → rising (cond t (x ∷ insert_record rec rs) (rec ∷ x ∷ rs)) ≡ true
    go true e = above_insert (stamp x) rec rs (ltb-true _ _ e) a s.1
    go false e =
        let u : stamp rec ≤ stamp x = ltb-false _ _ e in
        let v : stamp x ≡ stamp rec → ⊥ = eqb-false _ _ s.0 in
        let w : stamp rec < stamp x = strict (stamp rec) (stamp x) u (λ z. v (sym z)) in
        rw (lt-ltb (stamp rec) (stamp x) w) a

pub insert_has : (rec : List ℕ) (rs : List (List ℕ)) → Among rec (insert_record rec rs)
unfolding insert_record
insert_has rec [] = among_first rec rec [] refl
insert_has rec (x ∷ rs) = go (ltb (stamp x) (stamp rec)) (insert_has rec rs)
  where
    go : (t : Bool) → Among rec (insert_record rec rs) → Among rec (cond t (x ∷ insert_record rec rs) (rec ∷ x ∷ rs))
    go true ih = among_later x rec (insert_record rec rs) ih
    go false ih = among_first rec rec (x ∷ rs) refl

-- no record is lost
pub insert_keeps : (rec z : List ℕ) (rs : List (List ℕ)) → Among z rs → Among z (insert_record rec rs)
unfolding insert_record
insert_keeps rec z [] h = absurd (among_none z h)
insert_keeps rec z (x ∷ rs) h = go (ltb (stamp x) (stamp rec)) (among_case x z rs h) (insert_keeps rec z rs)
  where
    go : (t : Bool) → (x ≡ z) ⊎ Among z rs → (Among z rs → Among z (insert_record rec rs)) → Among z (cond t (x ∷ insert_record rec rs) (rec ∷ x ∷ rs))
    go true (inl e) ih = among_first x z (insert_record rec rs) e
    go true (inr k) ih = among_later x z (insert_record rec rs) (ih k)
    go false q ih = among_later rec z (x ∷ rs) h

pub insert_only : (rec z : List ℕ) (rs : List (List ℕ)) → Among z (insert_record rec rs) → (rec ≡ z) ⊎ Among z rs
unfolding insert_record
insert_only rec z [] h = among_case rec z [] h
insert_only rec z (x ∷ rs) h = go (ltb (stamp x) (stamp rec)) h (insert_only rec z rs)
  where
    more : (x ≡ z) ⊎ ((rec ≡ z) ⊎ Among z rs) → (rec ≡ z) ⊎ Among z (x ∷ rs)
    more (inl e) = inr (among_first x z rs e)
    more (inr (inl e)) = inl e
    more (inr (inr k)) = inr (among_later x z rs k)

    lift : (x ≡ z) ⊎ Among z (insert_record rec rs) → (Among z (insert_record rec rs) → (rec ≡ z) ⊎ Among z rs) → (x ≡ z) ⊎ ((rec ≡ z) ⊎ Among z rs)
    lift (inl e) ih = inl e
    lift (inr k) ih = inr (ih k)

    go : (t : Bool) → Among z (cond t (x ∷ insert_record rec rs) (rec ∷ x ∷ rs)) → (Among z (insert_record rec rs) → (rec ≡ z) ⊎ Among z rs)
        → (rec ≡ z) ⊎ Among z (x ∷ rs)
    go true k ih = more (lift (among_case x z (insert_record rec rs) k) ih)
    go false k ih = among_case rec z (x ∷ rs) k

-- ---- put once
-- among these, one timestamp is one record
abbrev pub Agree : (List ℕ → Type 0) → Type 0
Agree M = (z w : List ℕ) → M z → M w → stamp z ≡ stamp w → z ≡ w

abbrev pub Of : List (List ℕ) → List (List ℕ) → List ℕ → Type 0
Of rs xs z = Among z rs ⊎ Among z xs

free_of : (rec : List ℕ) (rs : List (List ℕ)) → ((z : List ℕ) → Among z rs → stamp z ≡ stamp rec → ⊥) → Free rec rs
unfolding some
free_of rec [] h = refl
free_of rec (x ∷ rs) h =
    rw (ne_eqb (stamp x) (stamp rec) (h x (among_first x x rs refl))) (free_of rec rs (λ z k. h z (among_later x z rs k)))

pub kept_held : (x : List ℕ) (rs : List (List ℕ)) → holds x rs ≡ true → kept x rs ≡ rs
unfolding kept
kept_held x rs e = rw e

pub kept_new : (x : List ℕ) (rs : List (List ℕ)) → holds x rs ≡ false → kept x rs ≡ insert_record x rs
unfolding kept
kept_new x rs e = rw e

pub kept_only : (x z : List ℕ) (rs : List (List ℕ)) → Among z (kept x rs) → (x ≡ z) ⊎ Among z rs
kept_only x z rs h = go (holds x rs) refl
  where
    go : (t : Bool) → holds x rs ≡ t → (x ≡ z) ⊎ Among z rs
    go true e = inr (subst (Among z) (kept_held x rs e) h)
    go false e = insert_only x z rs (subst (Among z) (kept_new x rs e) h)

pub record Kept (rs : List (List ℕ)) (x : List ℕ) : Type 0 where
  pub up : rising (kept x rs) ≡ true
  pub has : Among x (kept x rs)
  pub keeps : (z : List ℕ) → Among z rs → Among z (kept x rs)
  pub only : (z : List ℕ) → Among z (kept x rs) → (x ≡ z) ⊎ Among z rs

pub kept_is : (rs : List (List ℕ)) (x : List ℕ) → rising rs ≡ true → ((z : List ℕ) → Among z rs → stamp z ≡ stamp x → z ≡ x) → Kept rs x
kept_is rs x a g = go (holds x rs) refl
  where
    go : (t : Bool) → holds x rs ≡ t → Kept rs x
    go true e =
        let k : kept x rs ≡ rs = kept_held x rs e in
        record { up = rw k a; has = rw k e; keeps = λ z h. rw k h; only = λ z h. inr (subst (λ (l : List (List ℕ)). Among z l) k h) }
    go false e =
        let k : kept x rs ≡ insert_record x rs = kept_new x rs e in
        let f : Free x rs = free_of x rs (λ z h q. clash (sym (subst (λ (w : List ℕ). Among w rs) (g z h q) h) ∙ e)) in
        record { up = rw k (rising_insert x rs a f); has = rw k (insert_has x rs); keeps = λ z h. rw k (insert_keeps x z rs h); only = λ z h. insert_only x z rs (subst (λ (l : List (List ℕ)). Among z l) k h) }

pub record KeptAll (rs xs : List (List ℕ)) : Type 0 where
  pub up : rising (kept_all xs rs) ≡ true
  pub has : (z : List ℕ) → Of rs xs z → Among z (kept_all xs rs)
  pub only : (z : List ℕ) → Among z (kept_all xs rs) → Of rs xs z

pub kept_all_lem : (xs rs : List (List ℕ)) → rising rs ≡ true → Agree (Of rs xs) → KeptAll rs xs
unfolding kept_all
kept_all_lem [] rs a g = record { up = a; has = λ z h. none z h; only = λ z h. inl h }
  where
    none : (z : List ℕ) → Of rs [] z → Among z rs
    none z (inl h) = h
    none z (inr h) = absurd (among_none z h)
kept_all_lem (x ∷ xs) rs a g =
    let k : Kept rs x = kept_is rs x a (λ z h e. g z x (inl h) (inr (among_first x x xs refl)) e) in
    let r : KeptAll (kept x rs) xs = kept_all_lem xs (kept x rs) k.up (λ z w hz hw e. g z w (wide k z hz) (wide k w hw) e) in
    record { up = r.up; has = λ z h. r.has z (narrow k z h); only = λ z h. wide k z (r.only z h) }
  where
    join : (z : List ℕ) → (x ≡ z) ⊎ Among z rs → Of rs (x ∷ xs) z
    join z (inl e) = inr (among_first x z xs e)
    join z (inr h) = inl h

    wide : Kept rs x → (z : List ℕ) → Of (kept x rs) xs z → Of rs (x ∷ xs) z
    wide k z (inl h) = join z (k.only z h)
    wide k z (inr h) = inr (among_later x z xs h)

    split : Kept rs x → (z : List ℕ) → (x ≡ z) ⊎ Among z xs → Of (kept x rs) xs z
    split k z (inl e) = inl (subst (λ (w : List ℕ). Among w (kept x rs)) e k.has)
    split k z (inr h) = inr h

    narrow : Kept rs x → (z : List ℕ) → Of rs (x ∷ xs) z → Of (kept x rs) xs z
    narrow k z (inl h) = inl (k.keeps z h)
    narrow k z (inr h) = split k z (among_case x z xs h)

-- the order and the repeats do not matter
pub same_kept : (xs ys rs : List (List ℕ)) → rising rs ≡ true → Agree (Of rs xs) → Same xs ys → kept_all xs rs ≡ kept_all ys rs
same_kept xs ys rs a g s =
    let k : KeptAll rs xs = kept_all_lem xs rs a g in
    let m : KeptAll rs ys = kept_all_lem ys rs a (λ z w hz hw e. g z w (turn z hz) (turn w hw) e) in
    rising_same (kept_all xs rs) (kept_all ys rs) k.up m.up (λ z. (λ h. m.has z (back z (k.only z h)), λ h. k.has z (turn z (m.only z h))))
  where
    turn : (z : List ℕ) → Of rs ys z → Of rs xs z
    turn z (inl h) = inl h
    turn z (inr h) = inr ((s z).1 h)

    back : (z : List ℕ) → Of rs xs z → Of rs ys z
    back z (inl h) = inl h
    back z (inr h) = inr ((s z).0 h)
