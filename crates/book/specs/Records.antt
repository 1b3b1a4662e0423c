-- Lists of records, a record being its bytes. Document 01, "Records, books, frames" and "The node".
--   timed, rising         all times 1 or more; strictly rising timestamps
--   last_of, last_below     the last record; the last one strictly below a bound; [] for none: the first triple
--   holds, holds_other     a record with the same bytes is held; one with its timestamp and other bytes
--   insert_record          a record put in its place; its place is the number of records below it
--   kept                  put in its place unless it is held
--   fate_of                what becomes of a record that is to be written
-- Assumes nothing.
use Rattle.std.specs.Prelude.{ℕ, suc, Bool, true, false, cond, not, List, [], ◌∷◌, ltb, leb, eqb}
use Rattle.octets.specs.Bytes.{alike}
use Rattle.terms.specs.Ladder.{◌and◌}
use Rattle.terms.specs.Stamp.{stamp, time}
use Rattle.book.specs.declared.Fate.{Fate}
use Rattle.book.specs.declared.Fate.TheVariants.{Held, Other, Free}

-- "all times 1 or more"
unfoldable pub timed : List (List ℕ) → Bool
timed [] = true
timed (x ∷ xs) = leb 1 (time x) and timed xs

-- "in strictly rising timestamp": the first above low, each above the one before it
unfoldable pub above : ℕ → List (List ℕ) → Bool
above low [] = true
above low (x ∷ xs) = ltb low (stamp x) and above (stamp x) xs

unfoldable pub rising : List (List ℕ) → Bool
rising [] = true
rising (x ∷ xs) = above (stamp x) xs

-- those of a list that meet a test; whether some does
unfoldable pub those : (List ℕ → Bool) → List (List ℕ) → List (List ℕ)
those t [] = []
those t (x ∷ xs) = cond (t x) (x ∷ those t xs) (those t xs)

unfoldable pub some : (List ℕ → Bool) → List (List ℕ) → Bool
some t [] = false
some t (x ∷ xs) = cond (t x) true (some t xs)

-- "the last record", [] where there is none
unfoldable pub last_of : List (List ℕ) → List ℕ
last_of [] = []
last_of (x ∷ []) = x
last_of (x ∷ y ∷ xs) = last_of (y ∷ xs)

-- "the last record strictly below the bound"
abbrev pub last_below : ℕ → List (List ℕ) → List ℕ
last_below s rs = last_of (those (λ (x : List ℕ). ltb (stamp x) s) rs)

-- "a record with this timestamp and the same bytes is held"
abbrev pub holds : List ℕ → List (List ℕ) → Bool
holds rec rs = some (λ (x : List ℕ). alike x rec) rs

-- "same timestamp held with other bytes"
abbrev pub holds_other : List ℕ → List (List ℕ) → Bool
holds_other rec rs = some (λ (x : List ℕ). eqb (stamp x) (stamp rec) and not (alike x rec)) rs

-- how many records at the start are below a timestamp
unfoldable pub below : ℕ → List (List ℕ) → ℕ
below s [] = 0
below s (x ∷ xs) = cond (ltb (stamp x) s) (suc (below s xs)) 0

-- "put it in its place": before the first record that is not below it
unfoldable pub insert_record : List ℕ → List (List ℕ) → List (List ℕ)
insert_record rec [] = rec ∷ []
insert_record rec (x ∷ xs) = cond (ltb (stamp x) (stamp rec)) (x ∷ insert_record rec xs) (rec ∷ x ∷ xs)

-- the records after a write that is not refused
unfoldable pub kept : List ℕ → List (List ℕ) → List (List ℕ)
kept rec rs = cond (holds rec rs) rs (insert_record rec rs)

-- held already; another with its timestamp is held; or free, with its place
unfoldable pub fate_of : List ℕ → List (List ℕ) → Fate
fate_of rec rs = cond (holds rec rs) Held (cond (holds_other rec rs) Other (Free (below (stamp rec) rs)))
