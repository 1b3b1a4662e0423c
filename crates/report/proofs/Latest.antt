-- What Figure 1 answers where the History is the first triple and rising records of times 1 or more: the greatest is the last (time_of,
-- latest_of), and below a bound it is the last below it (previous_of). Assumes nothing.
use Prim.Native.Nat.{ℕ, ◌≤◌, ◌<◌}
use mathlib.Core.Path.{◌≡◌, refl, sym, ap, ◌∙◌}
use mathlib.Core.Bool.{Bool, true, false, cond}
use mathlib.Core.List.{List, [], ◌∷◌}
use native.Mathlib.Omega.{arith}
use borrow.Author.Tests.{ltb-true, lt-ltb, leb-true, eq-eqb, ne_eqb}
use lib.Dec.{ltb, leb, eqb}
use Rattle.terms.proofs.Rungs.{both}
use Rattle.terms.specs.Stamp.{stamp, time}
use Rattle.terms.specs.declared.Plan.{Plan}
use Rattle.book.specs.Records as records
use Rattle.book.specs.Records.{rising, above, timed, last_of, last_below}
use Rattle.report.specs.Triple.{Triple, such_that, each, max}
use Rattle.report.specs.Figure1.{initial, stamps, receive_time_request, Latest, receive_read_latest, pre_history, receive_read_previous}
use Rattle.report.specs.Ours.{triple_of}
use Rattle.store.proofs.Order.{among_first}
use Rattle.store.proofs.Latest.{above_those}
use Rattle.store.proofs.Latest as latest
use Rattle.report.proofs.Lists.{larger_low, larger_high}
use Rattle.report.proofs.Triples.{stamp_none, none_is, stamp_low}

-- ---- a rising list: its last is its greatest
last_high : (x : List ℕ) (rs : List (List ℕ)) → above (stamp x) rs ≡ true → stamp x ≤ stamp (last_of (x ∷ rs))
last_high x rs a = (latest.last_high x (x ∷ rs) (unfold rising in a) (among_first x x rs refl)).0

module _ (p : Plan) where
  abbrev triples : List (List ℕ) → List Triple
  triples rs = each (triple_of p) rs

  max_last : (x : List ℕ) (rs : List (List ℕ)) → above (stamp x) rs ≡ true → max (stamps (triples (x ∷ rs))) ≡ stamp (last_of (x ∷ rs))
  unfolding each max above last_of
  max_last x [] a = larger_high 0 (stamp x) (omega arith)
  max_last x (y ∷ rs) a =
      let q = both (ltb (stamp x) (stamp y)) (above (stamp y) rs) a in
      let l : stamp x < stamp y = ltb-true _ _ q.0 in
      let h = last_high y rs q.1 in
      let e = max_last y rs q.1 in
      larger_low (max (stamps (triples (y ∷ rs)))) (stamp x) (omega arith) ∙ e

  only_last : (m : ℕ) (x : List ℕ) (rs : List (List ℕ)) → above (stamp x) rs ≡ true → m ≡ stamp (last_of (x ∷ rs))
      → such_that (λ (X : Triple). eqb X.ts m) (triples (x ∷ rs)) ≡ triple_of p (last_of (x ∷ rs)) ∷ []
  unfolding each such_that above last_of
  only_last m x [] a e = rw (eq-eqb (stamp x) m (sym e))
  only_last m x (y ∷ rs) a e =
      let q = both (ltb (stamp x) (stamp y)) (above (stamp y) rs) a in
      let l : stamp x < stamp y = ltb-true _ _ q.0 in
      let h = last_high y rs q.1 in
      rw (ne_eqb (stamp x) m (λ z. omega arith)) (only_last m y rs q.1 e)

  -- "Note, Latest is a singleton"
  latest_last : (x : List ℕ) (rs : List (List ℕ)) → above (stamp x) rs ≡ true → Latest (triples (x ∷ rs)) ≡ triple_of p (last_of (x ∷ rs)) ∷ []
  unfolding Latest
  latest_last x rs a = only_last (max (stamps (triples (x ∷ rs)))) x rs a (max_last x rs a)

  last_more : (rs : List (List ℕ)) → last_of ([] ∷ rs) ≡ last_of rs
  unfolding last_of
  last_more [] = refl
  last_more (x ∷ rs) = refl

  -- the History is the first triple, and the records as triples
  history_is : (rs : List (List ℕ)) → initial ∷ triples rs ≡ triples ([] ∷ rs)
  unfolding each
  history_is rs = ap (λ (X : Triple). X ∷ triples rs) (sym (none_is p))

  below_is : (s : ℕ) (rs : List (List ℕ)) → such_that (λ (X : Triple). ltb X.ts s) (triples rs) ≡ triples (records.those (λ (x : List ℕ). ltb (stamp x) s) rs)
  unfolding each such_that records.those
  below_is s [] = refl
  below_is s (x ∷ rs) = go (ltb (stamp x) s) (below_is s rs)
    where
      go : (b : Bool) → such_that (λ (X : Triple). ltb X.ts s) (triples rs) ≡ triples (records.those (λ (x : List ℕ). ltb (stamp x) s) rs)
          → cond b (triple_of p x ∷ such_that (λ (X : Triple). ltb X.ts s) (triples rs)) (such_that (λ (X : Triple). ltb X.ts s) (triples rs))
          ≡ triples (cond b (x ∷ records.those (λ (x : List ℕ). ltb (stamp x) s) rs) (records.those (λ (x : List ℕ). ltb (stamp x) s) rs))
      go true e = ap (λ (l : List Triple). triple_of p x ∷ l) e
      go false e = e

  -- ---- the answers, on rising records of times 1 or more
  module _ (rs : List (List ℕ)) (up : rising rs ≡ true) (ts : timed rs ≡ true) where
    above_none : above (stamp []) rs ≡ true
    unfolding above rising timed
    above_none = go rs up ts
      where
        go : (l : List (List ℕ)) → rising l ≡ true → timed l ≡ true → above (stamp []) l ≡ true
        go [] a b = refl
        go (x ∷ l) a b =
            let q = both (leb 1 (time x)) (timed l) b in
            let h : 1 ≤ stamp x = stamp_low x (leb-true _ _ q.0) in
            let z = stamp_none in
            rw (lt-ltb (stamp []) (stamp x) (omega arith)) a

    pub time_of : receive_time_request (initial ∷ triples rs) ≡ stamp (last_of rs)
    unfolding receive_time_request
    time_of = ap (λ (l : List Triple). max (stamps l)) (history_is rs) ∙ max_last [] rs above_none ∙ ap (λ (x : List ℕ). stamp x) (last_more rs)

    pub latest_of : receive_read_latest (initial ∷ triples rs) ≡ triple_of p (last_of rs) ∷ []
    unfolding receive_read_latest
    latest_of = ap Latest (history_is rs) ∙ latest_last [] rs above_none ∙ ap (λ (x : List ℕ). triple_of p x ∷ []) (last_more rs)

    abbrev under : ℕ → List (List ℕ)
    under s = records.those (λ (x : List ℕ). ltb (stamp x) s) rs

    with_first : (s : ℕ) → 1 ≤ s → records.those (λ (x : List ℕ). ltb (stamp x) s) ([] ∷ rs) ≡ [] ∷ under s
    unfolding records.those
    with_first s h = let z = stamp_none in rw (lt-ltb (stamp []) s (omega arith))

    pub previous_of : (s : ℕ) → 1 ≤ s → receive_read_previous (initial ∷ triples rs) s ≡ triple_of p (last_below s rs) ∷ []
    unfolding receive_read_previous pre_history
    previous_of s h =
        ap (λ (l : List Triple). Latest (such_that (λ (X : Triple). ltb X.ts s) l)) (history_is rs)
        ∙ ap Latest (below_is s ([] ∷ rs) ∙ ap (λ (l : List (List ℕ)). triples l) (with_first s h))
        ∙ latest_last [] (under s) (above_those (λ (x : List ℕ). ltb (stamp x) s) (stamp []) rs above_none)
        ∙ ap (λ (x : List ℕ). triple_of p x ∷ []) (last_more (under s))
