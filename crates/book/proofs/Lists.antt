-- Lists of records: searches in a rising list, the fate of a record, and an insertion as a list. Assumes nothing.
use mathlib.Core.Path.{◌≡◌, refl, sym, ap, ◌∙◌}
use mathlib.Core.Bool.{Bool, true, false, cond, not}
use mathlib.Core.List.{List, [], ◌∷◌, ◌++◌}
use Prim.Native.Nat.{ℕ, zero, suc, ◌+◌, ◌≤◌, ◌<◌}
use native.Mathlib.Omega.{arith}
use borrow.Author.Tests.{ltb-true, ltb-false, eqb-true, eq-eqb, le-ltb}
use lib.ListN.{length, take, drop, get_or, length-append, length-take, length-drop}
use lib.Dec.{ltb, eqb}
use Rattle.octets.specs.Bytes.{alike}
use Rattle.octets.proofs.Meaning.{alike_is}
use Rattle.terms.specs.Stamp.{stamp}
use Rattle.terms.proofs.Rungs.{both, clash}
use Rattle.terms.proofs.Picks.{itself}
use Rattle.book.specs.declared.Fate.{Fate}
use Rattle.book.specs.declared.Fate.TheVariants.{Held, Other, Free}
use Rattle.book.specs.Records.{rising, above, below, those, some, last_of, holds, holds_other, insert_record, fate_of}
use Rattle.book.specs.Inside.{fate_by}

pub above_rising : (low : ℕ) (rs : List (List ℕ)) → above low rs ≡ true → rising rs ≡ true
unfolding above rising
above_rising low [] e = refl
above_rising low (x ∷ rs) e = (both (ltb low (stamp x)) _ e).1

pub below_le : (s : ℕ) (rs : List (List ℕ)) → below s rs ≤ length rs
unfolding below
below_le s [] = omega arith
below_le s (x ∷ rs) = go (ltb (stamp x) s) (below_le s rs)
  where
    go : (t : Bool) → below s rs ≤ length rs → cond t (suc (below s rs)) 0 ≤ suc (length rs)
    go true h = omega arith
    go false h = omega arith

-- ---- a test that only a record of the timestamp s meets
module _ (s : ℕ) (t : List ℕ → Bool) (only : (x : List ℕ) → t x ≡ true → stamp x ≡ s) where
  not_met : (x : List ℕ) → (stamp x ≡ s → ⊥) → t x ≡ false
  not_met x h = go (t x) refl
    where
      go : (u : Bool) → t x ≡ u → u ≡ false
      go true e = absurd (h (only x e))
      go false e = refl

  none_above : (low : ℕ) (rs : List (List ℕ)) → s ≤ low → above low rs ≡ true → some t rs ≡ false
  unfolding above some
  none_above low [] h e = refl
  none_above low (x ∷ rs) h e =
      let q = both (ltb low (stamp x)) _ e in
      let l : low < stamp x = ltb-true _ _ q.0 in
      rw (not_met x (λ g. omega arith)) (none_above (stamp x) rs (omega arith) q.1)

  -- it is met by the first record that is not below s, or by none
  pub some_in : (rs : List (List ℕ)) → rising rs ≡ true → below s rs < length rs → some t rs ≡ t (get_or rs (below s rs) [])
  unfolding rising some below
  some_in [] e h = absurd (omega arith)
  some_in (x ∷ rs) e h = go (ltb (stamp x) s) refl h (some_in rs (above_rising (stamp x) rs e)) (none_above (stamp x) rs)
    where
      go : (u : Bool) → ltb (stamp x) s ≡ u → cond u (suc (below s rs)) 0 < suc (length rs)
          → (below s rs < length rs → some t rs ≡ t (get_or rs (below s rs) []))
          → (s ≤ stamp x → above (stamp x) rs ≡ true → some t rs ≡ false)
          → cond (t x) true (some t rs) ≡ t (get_or (x ∷ rs) (cond u (suc (below s rs)) 0) [])
      go true f k ih nothing = let l : stamp x < s = ltb-true _ _ f in rw (not_met x (λ g. omega arith)) (ih (omega arith))
      go false f k ih nothing = rw (nothing (ltb-false _ _ f) e) (sym (itself (t x)))

  pub some_none : (rs : List (List ℕ)) → length rs ≤ below s rs → some t rs ≡ false
  unfolding some below
  some_none [] h = refl
  some_none (x ∷ rs) h = go (ltb (stamp x) s) refl h (some_none rs)
    where
      go : (u : Bool) → ltb (stamp x) s ≡ u → suc (length rs) ≤ cond u (suc (below s rs)) 0 → (length rs ≤ below s rs → some t rs ≡ false)
          → cond (t x) true (some t rs) ≡ false
      go true f k ih = let l : stamp x < s = ltb-true _ _ f in rw (not_met x (λ g. omega arith)) (ih (omega arith))
      go false f k ih = absurd (omega arith)

-- ---- the fate of a record, by what stands at its place
same_only : (rec x : List ℕ) → alike x rec ≡ true → stamp x ≡ stamp rec
same_only rec x e = ap (λ (l : List ℕ). stamp l) (alike_is x rec e)

other_only : (rec x : List ℕ) → cond (eqb (stamp x) (stamp rec)) (not (alike x rec)) false ≡ true → stamp x ≡ stamp rec
other_only rec x e = eqb-true _ _ (both (eqb (stamp x) (stamp rec)) _ e).0

abbrev is_other : List ℕ → List ℕ → Bool
is_other rec x = cond (eqb (stamp x) (stamp rec)) (not (alike x rec)) false

pub fate_in : (rec : List ℕ) (rs : List (List ℕ)) → rising rs ≡ true → below (stamp rec) rs < length rs
    → fate_of rec rs ≡ fate_by (get_or rs (below (stamp rec) rs) []) rec (below (stamp rec) rs)
unfolding fate_of fate_by
fate_in rec rs e h =
    let k : ℕ = below (stamp rec) rs in
    let x : List ℕ = get_or rs k [] in
    let a : holds rec rs ≡ alike x rec = some_in (stamp rec) (λ (z : List ℕ). alike z rec) (same_only rec) rs e h in
    let o : holds_other rec rs ≡ is_other rec x = some_in (stamp rec) (is_other rec) (other_only rec) rs e h in
    rw (a, o) (go (alike x rec) refl (eqb (stamp x) (stamp rec)) refl)
  where
    x : List ℕ
    x = get_or rs (below (stamp rec) rs) []

    go : (a : Bool) → alike x rec ≡ a → (q : Bool) → eqb (stamp x) (stamp rec) ≡ q
        → cond a Held (cond (cond q (not a) false) Other (Free (below (stamp rec) rs))) ≡ cond q (cond a Held Other) (Free (below (stamp rec) rs))
    go true f true g = refl
    go false f true g = refl
    go false f false g = refl
    go true f false g = absurd (clash (sym (eq-eqb (stamp x) (stamp rec) (same_only rec x f)) ∙ g))

pub fate_end : (rec : List ℕ) (rs : List (List ℕ)) → length rs ≤ below (stamp rec) rs → fate_of rec rs ≡ Free (below (stamp rec) rs)
unfolding fate_of
fate_end rec rs h =
    rw (some_none (stamp rec) (λ (z : List ℕ). alike z rec) (same_only rec) rs h, some_none (stamp rec) (is_other rec) (other_only rec) rs h)

-- what a fate says
pub record FreeIs (rec : List ℕ) (rs : List (List ℕ)) (k : ℕ) : Type 0 where
  pub held : holds rec rs ≡ false
  pub other : holds_other rec rs ≡ false
  pub place : k ≡ below (stamp rec) rs

pub held_alone : (rec : List ℕ) (rs : List (List ℕ)) → rising rs ≡ true → holds rec rs ≡ true → holds_other rec rs ≡ false
held_alone rec rs e h = go (ltb (below (stamp rec) rs) (length rs)) refl
  where
    x : List ℕ
    x = get_or rs (below (stamp rec) rs) []

    turn : (a q : Bool) → a ≡ true → cond q (not a) false ≡ false
    turn true true f = refl
    turn true false f = refl
    turn false q f = absurd (clash (sym f))

    go : (t : Bool) → ltb (below (stamp rec) rs) (length rs) ≡ t → holds_other rec rs ≡ false
    go true l =
        let u = ltb-true _ _ l in
        let a : holds rec rs ≡ alike x rec = some_in (stamp rec) (λ (z : List ℕ). alike z rec) (same_only rec) rs e u in
        some_in (stamp rec) (is_other rec) (other_only rec) rs e u ∙ turn (alike x rec) (eqb (stamp x) (stamp rec)) (sym a ∙ h)
    go false l = absurd (clash (sym h ∙ some_none (stamp rec) (λ (z : List ℕ). alike z rec) (same_only rec) rs (ltb-false _ _ l)))

module _ (rec : List ℕ) (rs : List (List ℕ)) where
  abbrev by : Bool → Bool → Fate
  by h o = cond h Held (cond o Other (Free (below (stamp rec) rs)))

  pub fate_held : Held ≡ fate_of rec rs → holds rec rs ≡ true
  unfolding fate_of
  fate_held e = go (holds rec rs) (holds_other rec rs) e
    where
      go : (h o : Bool) → Held ≡ by h o → h ≡ true
      go true o f = refl
      go false true f = absurd (let z : ◌≡◌ {A = ℕ} 0 1 = cc in omega arith)
      go false false f = absurd (let z : ◌≡◌ {A = ℕ} 0 1 = cc in omega arith)

  pub fate_other : Other ≡ fate_of rec rs → holds_other rec rs ≡ true
  unfolding fate_of
  fate_other e = go (holds rec rs) (holds_other rec rs) e
    where
      go : (h o : Bool) → Other ≡ by h o → o ≡ true
      go true o f = absurd (let z : ◌≡◌ {A = ℕ} 0 1 = cc in omega arith)
      go false true f = refl
      go false false f = absurd (let z : ◌≡◌ {A = ℕ} 0 1 = cc in omega arith)

  pub fate_free : (k : ℕ) → Free k ≡ fate_of rec rs → FreeIs rec rs k
  unfolding fate_of
  fate_free k e = go (holds rec rs) refl (holds_other rec rs) refl e
    where
      go : (h : Bool) → holds rec rs ≡ h → (o : Bool) → holds_other rec rs ≡ o → Free k ≡ by h o → FreeIs rec rs k
      go true a o b f = absurd (let z : ◌≡◌ {A = ℕ} 0 1 = cc in omega arith)
      go false a true b f = absurd (let z : ◌≡◌ {A = ℕ} 0 1 = cc in omega arith)
      go false a false b f = record { held = a; other = b; place = cc }

-- ---- those below s are the first ones
none_below : (s low : ℕ) (rs : List (List ℕ)) → s ≤ low → above low rs ≡ true → those (λ (x : List ℕ). ltb (stamp x) s) rs ≡ []
unfolding above those
none_below s low [] h e = refl
none_below s low (x ∷ rs) h e =
    let q = both (ltb low (stamp x)) _ e in
    let l : low < stamp x = ltb-true _ _ q.0 in
    rw (le-ltb (stamp x) s (omega arith)) (none_below s (stamp x) rs (omega arith) q.1)

pub those_below : (s : ℕ) (rs : List (List ℕ)) → rising rs ≡ true → those (λ (x : List ℕ). ltb (stamp x) s) rs ≡ take (below s rs) rs
unfolding rising those below
those_below s [] e = refl
those_below s (x ∷ rs) e = go (ltb (stamp x) s) refl (those_below s rs (above_rising (stamp x) rs e)) (none_below s (stamp x) rs)
  where
    go : (u : Bool) → ltb (stamp x) s ≡ u → those (λ (y : List ℕ). ltb (stamp y) s) rs ≡ take (below s rs) rs
        → (s ≤ stamp x → above (stamp x) rs ≡ true → those (λ (y : List ℕ). ltb (stamp y) s) rs ≡ [])
        → cond u (x ∷ those (λ (y : List ℕ). ltb (stamp y) s) rs) (those (λ (y : List ℕ). ltb (stamp y) s) rs) ≡ take (cond u (suc (below s rs)) 0) (x ∷ rs)
    go true f ih nothing = ap (λ (l : List (List ℕ)). x ∷ l) ih
    go false f ih nothing = nothing (ltb-false _ _ f) e

-- the last of the first j
pub last_take : (j : ℕ) (rs : List (List ℕ)) → j < length rs → last_of (take (suc j) rs) ≡ get_or rs j []
unfolding last_of
last_take j [] h = absurd (omega arith)
last_take zero (x ∷ rs) h = refl
last_take (suc j) (x ∷ []) h = absurd (omega arith)
last_take (suc j) (x ∷ y ∷ rs) h = last_take j (y ∷ rs) (omega arith)

pub last_none : (rs : List (List ℕ)) → last_of (take 0 rs) ≡ []
unfolding last_of
last_none rs = refl

-- ---- an insertion, as a list
pub insert_is : (rec : List ℕ) (rs : List (List ℕ)) → insert_record rec rs ≡ take (below (stamp rec) rs) rs ++ (rec ∷ drop (below (stamp rec) rs) rs)
unfolding insert_record below
insert_is rec [] = refl
insert_is rec (x ∷ rs) = go (ltb (stamp x) (stamp rec)) (insert_is rec rs)
  where
    go : (t : Bool) → insert_record rec rs ≡ take (below (stamp rec) rs) rs ++ (rec ∷ drop (below (stamp rec) rs) rs)
        → cond t (x ∷ insert_record rec rs) (rec ∷ x ∷ rs) ≡ take (cond t (suc (below (stamp rec) rs)) 0) (x ∷ rs) ++ (rec ∷ drop (cond t (suc (below (stamp rec) rs)) 0) (x ∷ rs))
    go true ih = ap (λ (l : List (List ℕ)). x ∷ l) ih
    go false ih = refl

pub length_insert : (rec : List ℕ) (rs : List (List ℕ)) → length (insert_record rec rs) ≡ length rs + 1
length_insert rec rs =
    let h = below_le (stamp rec) rs in
    ap length (insert_is rec rs) ∙ simp (length-append, length-take, length-drop) (omega arith)
